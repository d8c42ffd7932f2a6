-- Numbers that fit a primitive.
use Rattle.std.specs.Prelude.{◌≡◌, ℕ, ◌<◌, ℤ, Bool, true, false, Option, Some, None, map}
use Rattle.std.specs.List.{range_with_len}
use Rattle.awk_types.specs.declared.primitive.Primitive.{Primitive}
use Rattle.awk_lanes.specs.Column.{Column}
use Rattle.awk_lanes.specs.Made.{lane_of}
use Rattle.awk_lanes.specs.Making.{Making}
use Rattle.awk_lanes.specs.Numbers.{int_of, IsOf}
use Rattle.awk_lanes.specs.declared.kind.Num.{Num}
use Rattle.awk_layout.specs.Kinds.{kind_of}
use Rattle.awk_primitives.specs.Fits.{fits}

-- a number as code holds it, if it is one of the primitive
abbrev pub IsFitting : Primitive → ℤ → Option Num → Type 0
IsFitting p z None = fits p z ≡ false
IsFitting p z (Some x) = (fits p z ≡ true) × (int_of x ≡ z) × IsOf (kind_of p) x

abbrev pub AllFit : Primitive → (ℕ → ℤ) → ℕ → Type 0
AllFit p f n = (i : ℕ) → i < n → fits p (f i) ≡ true

-- the first n numbers as a lane, or none where one does not fit
abbrev pub AreFitting : Primitive → (ℕ → ℤ) → ℕ → Option Column → Type 0
AreFitting p f n None = (i : ℕ) × (i < n) × (fits p (f i) ≡ false)
AreFitting p f n (Some r) = AllFit p f n × (r ≡ lane_of (kind_of p) n f)

-- the first i of n numbers are made, and each is one of the primitive
pub record AreFirst (p : Primitive) (f : ℕ → ℤ) (n i : ℕ) (m : Making) : Type 0 where
  pub fits : AllFit p f i
  pub kind : m.kind ≡ kind_of p
  pub room : m.room ≡ n
  pub items : m.items ≡ map f (range_with_len 0 i)

-- the first i of n numbers are made, or one of them does not fit
abbrev pub ArePushed : Primitive → (ℕ → ℤ) → ℕ → ℕ → Making → Bool → Type 0
ArePushed p f n i m true = AreFirst p f n i m
ArePushed p f n i m false = (k : ℕ) × (k < i) × (fits p (f k) ≡ false)
