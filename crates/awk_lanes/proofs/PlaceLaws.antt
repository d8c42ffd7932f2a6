-- What is known of the numbers of a lane by its kind.
use Rattle.std.proofs.Common.{◌≡◌, ◌≢◌, ℕ, get_or, refl, arith, false, true, ◌<◌, ◌+◌, ◌-◌, ap, ◌≤◌}
use Rattle.std.specs.Prelude.{ℤ, pos, negsuc, zero, suc, ◌≤ℤ◌, Bool, if◌then◌else◌, ◌<ℤ◌, Some}
use Rattle.std.proofs.lemmas.Int.{ints}
use Rattle.awk_lanes.specs.declared.kind.Kind.{Kind}
use Rattle.awk_lanes.specs.declared.kind.Kind.TheVariants.{Bool as Truths, I16, I32, I64, I8, U16}
use Rattle.awk_lanes.specs.declared.kind.Kind.TheVariants.{U32, U64, U8}
use Rattle.awk_lanes.specs.Column.{Column}
use Rattle.awk_lanes.specs.Numbers.{element, nat_of, is_nonzero}
use Rattle.awk_lanes.specs.Places.{at, IsIndexKind, IsOptionKind, option_place, IsSpan}

-- ---- what a number is read as

-- the number of a kind other than truth values is read as it lies there
pub element-same : (k : Kind) (z : ℤ) → k ≢ Truths → element k z ≡ z
element-same Truths z h = absurd (h refl)
element-same _ z h = refl

pub element-index : (k : Kind) (z : ℤ) → IsIndexKind k → element k z ≡ z
element-index Truths z h = absurd h
element-index _ z h = refl

-- what is read is read as itself
pub element-element : (k : Kind) (z : ℤ) → element k (element k z) ≡ element k z
element-element Truths (pos zero) = refl
element-element Truths (pos (suc n)) = refl
element-element Truths (negsuc n) = refl
element-element _ z = refl

-- the numbers of a lane of indexes, by place
pub at-index : (c : Column) (i : ℕ) → IsIndexKind c.kind → at c i ≡ get_or c.items i (pos 0)
at-index c i h = element-index c.kind (get_or c.items i (pos 0)) h

pub element-at : (c : Column) (i : ℕ) → element c.kind (at c i) ≡ at c i
element-at c i = element-element c.kind (get_or c.items i (pos 0))

-- a number that is not negative is that of its place
pub pos-nat_of : (z : ℤ) → pos 0 ≤ℤ z → z ≡ pos (nat_of z)
pos-nat_of (pos n) h = refl
pos-nat_of (negsuc n) h = absurd (omega (arith, ints, h))

-- a truth value as a number is read as itself
pub is_nonzero-bit : (b : Bool) → is_nonzero (pos (if b then 1 else 0)) ≡ b
is_nonzero-bit true = refl
is_nonzero-bit false = refl

-- the index of an option is an index
pub option-index : (k : Kind) → IsOptionKind k → IsIndexKind k
option-index Truths h = h
option-index I8 h = h
option-index I16 h = h
option-index I32 h = tt
option-index I64 h = tt
option-index U8 h = h
option-index U16 h = h
option-index U32 h = absurd h
option-index U64 h = h

-- a place that an index names is one of its content
pub named-below : (z : ℤ) (n k : ℕ) → z <ℤ pos n → option_place z ≡ Some k → k < n
named-below (pos m) n k h e = let f : m ≡ k = cc in omega (arith, ints, f, h)
named-below (negsuc m) n k h e = cc

-- the places of a list are below the content's length
pub span-below : (n : ℕ) (a b : ℤ) (j : ℕ) → IsSpan n a b → nat_of a ≤ j
    → j < nat_of a + (nat_of b - nat_of a) → j < n
span-below n a b j s l h =
    let apart : a ≢ b = λ e. let f : nat_of a ≡ nat_of b = ap nat_of e in omega arith in
    let o = s apart in
    ordered a b o.0 o.1 o.2 l h
  where
    ordered : (a b : ℤ) → pos 0 ≤ℤ a → a ≤ℤ b → b ≤ℤ pos n → nat_of a ≤ j
        → j < nat_of a + (nat_of b - nat_of a) → j < n
    ordered (pos k) (pos m) p q r l h = omega (arith, ints)
    ordered (pos k) (negsuc m) p q r l h = absurd (omega (arith, ints))
    ordered (negsuc k) b p q r l h = absurd (omega (arith, ints))

-- and they are in any longer content
pub span-wider : (m n : ℕ) (a b : ℤ) → m ≤ n → IsSpan m a b → IsSpan n a b
span-wider m n a b l h = λ d. let k = h d in (k.0, k.1, omega (arith, ints, k.2, l))
