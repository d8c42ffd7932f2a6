-- Which items of operands are there, and the rows in which all are.
use Rattle.std.specs.Prelude.{◌≡◌, ℕ, ◌<◌, ◌≤ℤ◌, ◌^◌, Bool, true, false, List, [], ◌∷◌}
use Rattle.std.specs.Prelude.{ℤ, pos, Option, Some, None, if◌then◌else◌}
use Rattle.std.specs.List.{list_all}
use Rattle.awk_types.specs.Simple.{is_option, present}
use Rattle.awk_types.specs.Value.{Value}
use Rattle.awk_lanes.specs.Column.{Column}
use Rattle.awk_lanes.specs.declared.kind.Kind.TheVariants.{I64}
use Rattle.awk_lanes.specs.Places.{size_of, at, place_at, option_place_at, IsOptionKind}
use Rattle.awk_lanes.specs.Places.{IsOptionalIndex}
use Rattle.awk_layout.specs.Item.{at_option}
use Rattle.awk_layout.specs.Layout.{Layout}
use Rattle.awk_layout.specs.Typing.{array_type}
use Rattle.awk_layout.specs.Valid.{len}
use Rattle.awk_gather.specs.Arrays.{array_item}
use Rattle.awk_columns.specs.Columns.{is_present}
use Rattle.awk_pair_present.specs.declared.presence.Presence.{Presence}
use Rattle.awk_pair_present.specs.declared.presence.Presence.TheVariants.{All, Indexed}

abbrev pub is_some : Option ℕ → Bool
is_some (Some k) = true
is_some None = false

-- whether an item is there
abbrev pub is_there : ℕ → Presence → Bool
is_there i (All y) = true
is_there i (Indexed j y) = is_some (option_place_at j i)

-- whether all items of a row are there
abbrev pub are_there : List Presence → ℕ → Bool
are_there ps i = list_all (is_there i) ps

-- the n items of x by those that are there
pub record IsIndexed (n : ℕ) (x : Layout) (j : Column) (y : Layout) : Type 0 where
  pub typ : array_type y ≡ present (array_type x)
  pub bare : is_option (array_type y) ≡ false
  pub size : size_of j ≡ n
  pub index : IsOptionalIndex j (len y)
  pub items : (i : ℕ) → i < n → array_item x i ≡ at_option (option_place_at j i) (array_item y)
  pub there : (i : ℕ) → i < n → is_present (array_item x i) ≡ is_some (option_place_at j i)

pub record IsWhole (n : ℕ) (x y : Layout) : Type 0 where
  pub same : y ≡ x
  pub bare : is_option (array_type x) ≡ false
  pub size : len x ≡ n
  pub there : (i : ℕ) → i < n → is_present (array_item x i) ≡ true

abbrev pub IsPresence : ℕ → Layout → Presence → Type 0
IsPresence n x (All y) = IsWhole n x y
IsPresence n x (Indexed j y) = IsIndexed n x j y

abbrev pub ArePresences : ℕ → List Layout → List Presence → Type 0
ArePresences n [] [] = Unit {0}
ArePresences n (x ∷ xs) (p ∷ ps) = IsPresence n x p × ArePresences n xs ps
ArePresences n [] (p ∷ ps) = ⊥
ArePresences n (x ∷ xs) [] = ⊥

abbrev pub IsAsLong : ℕ → Presence → Type 0
IsAsLong n (All y) = len y ≡ n
IsAsLong n (Indexed j y) = (size_of j ≡ n) × IsOptionalIndex j (len y)

abbrev pub AreAsLong : ℕ → List Presence → Type 0
AreAsLong n [] = Unit {0}
AreAsLong n (p ∷ ps) = IsAsLong n p × AreAsLong n ps

-- ---- the rows that are kept

-- 1 where a row is kept, else 0
abbrev pub kept_length : List Presence → ℕ → ℕ
kept_length ps i = if are_there ps i then 1 else 0

-- that as the byte of a mask
abbrev pub kept_byte : List Presence → ℕ → ℤ
kept_byte ps i = pos (kept_length ps i)

-- an item, and the column that it lies in
abbrev pub presence_at : Presence → ℕ → Value
presence_at (All y) i = array_item y i
presence_at (Indexed j y) i = at_option (option_place_at j i) (array_item y)

abbrev pub presence_column : Presence → Layout
presence_column (All y) = y
presence_column (Indexed j y) = y

-- each place is one where the item is there
abbrev pub AreKeptOf : ℕ → Presence → Column → Type 0
AreKeptOf n p ks =
    (q : ℕ) → q < size_of ks → (place_at ks q < n) × (is_there (place_at ks q) p ≡ true)

abbrev pub AllKeptOf : ℕ → List Presence → Column → Type 0
AllKeptOf n [] ks = Unit {0}
AllKeptOf n (p ∷ ps) ks = AreKeptOf n p ks × AllKeptOf n ps ks

-- an index names an item at each of these places
pub record AreThereAt (j ks : Column) : Type 0 where
  pub index_kind : IsOptionKind j.kind
  pub place_kind : ks.kind ≡ I64
  pub positive : (q : ℕ) → q < size_of ks → pos 0 ≤ℤ at ks q
  pub places : (q : ℕ) → q < size_of ks → place_at ks q < size_of j
  pub there : (q : ℕ) → q < size_of ks → pos 0 ≤ℤ at j (place_at ks q)
  pub small : (q : ℕ) → q < size_of ks → place_at j (place_at ks q) < 2 ^ 63

-- z has the items at places
pub record IsTaken (p : Presence) (ks : Column) (z : Layout) : Type 0 where
  pub size : len z ≡ size_of ks
  pub typ : array_type z ≡ array_type (presence_column p)
  pub items : (q : ℕ) → q < size_of ks → array_item z q ≡ presence_at p (place_at ks q)

abbrev pub AreTaken : List Presence → Column → List Layout → Type 0
AreTaken [] ks [] = Unit {0}
AreTaken (p ∷ ps) ks (z ∷ zs) = IsTaken p ks z × AreTaken ps ks zs
AreTaken [] ks (z ∷ zs) = ⊥
AreTaken (p ∷ ps) ks [] = ⊥
