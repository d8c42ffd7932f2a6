-- What operands give to all rows of a level, as columns, and the rows below that these make.
use Rattle.std.specs.Prelude.{◌≡◌, ℕ, ◌+◌, ◌<◌, ◌≤◌, ◌==◌, Bool, true, false, not, ◌⊎◌, List, []}
use Rattle.std.specs.Prelude.{◌∷◌, map, pos, Option, Some, None}
use Rattle.std.specs.List.{list_any, list_all, flat_map, range_with_len}
use Rattle.awk_types.specs.DataType.{DataType}
use Rattle.awk_types.specs.ItemLimit.{item_limit}
use Rattle.awk_types.specs.Parts.{item_of}
use Rattle.awk_types.specs.Value.{Value, list}
use Rattle.awk_lanes.specs.Column.{Column}
use Rattle.awk_lanes.specs.Counted.{before, items_lane, offsets_by}
use Rattle.awk_lanes.specs.Places.{size_of, place_at}
use Rattle.awk_lanes.specs.declared.kind.Kind.TheVariants.{I64}
use Rattle.awk_layout.specs.Item.{run}
use Rattle.awk_layout.specs.Layout.{Layout, flat}
use Rattle.awk_layout.specs.Typing.{array_type}
use Rattle.awk_layout.specs.Valid.{len}
use Rattle.awk_gather.specs.Arrays.{array_item}
use Rattle.awk_columns.specs.ListClass.{Class}
use Rattle.awk_columns.specs.Lists.{Listed, length_of}
use Rattle.awk_pair_sides.specs.Levels.{Role, listed, role, role_class, unless, common_class}
use Rattle.awk_pair_sides.specs.Sides.{side, always, first_or_zero, all_same}
use Rattle.awk_pair_levels.specs.declared.below.Below.{Below}
use Rattle.awk_pair_levels.specs.declared.below.Below.TheVariants as below
use Rattle.awk_pair_levels.specs.declared.shares.Share.{Share}
use Rattle.awk_pair_levels.specs.declared.shares.Share.TheVariants.{Lists, Items}

-- l are the lists of n items of x; unknown, which has no items, counts as lists
pub record AreListsOf (n : ℕ) (x : Layout) (l : Listed) : Type 0 where
  pub size : size_of l.starts ≡ n
  pub typ : array_type l.content ≡ item_of (array_type x)
  pub items : (i : ℕ) → i < n → array_item x i
      ≡ list (run (array_item l.content) (place_at l.starts i) (length_of l i))

-- y has what stands at every place below each of n items of x
pub record AreItemsOf (n : ℕ) (r : Role) (x y : Layout) : Type 0 where
  pub size : len y ≡ n
  pub typ : array_type y ≡ item_of (array_type x)
  pub class : role_class r ≡ []
  pub items : (i : ℕ) → i < n → side r (array_item x i) ≡ always (array_item y i)

-- each of these lists has one item
abbrev pub HasOnes : Listed → Type 0
HasOnes l = (i : ℕ) → i < size_of l.starts → length_of l i ≡ 1

-- what an operand of a role gives
abbrev pub IsShare : ℕ → Role → Layout → Share → Type 0
IsShare n r x (Lists l) = (r ≡ listed l.class) × AreListsOf n x l
IsShare n r x (Items y) = AreItemsOf n r x y

-- the same of all operands
abbrev pub AreShares : ℕ → Bool → Bool → List Layout → List Share → Type 0
AreShares n keep s [] [] = Unit {0}
AreShares n keep s (x ∷ xs) (p ∷ ps) =
    IsShare n (role (unless keep s) (array_type x)) x p × AreShares n false s xs ps
AreShares n keep s [] (p ∷ ps) = ⊥
AreShares n keep s (x ∷ xs) [] = ⊥

abbrev pub IsAsLong : ℕ → Share → Type 0
IsAsLong n (Lists l) = size_of l.starts ≡ n
IsAsLong n (Items y) = len y ≡ n

abbrev pub AreAsLong : ℕ → List Share → Type 0
AreAsLong n [] = Unit {0}
AreAsLong n (p ∷ ps) = IsAsLong n p × AreAsLong n ps

-- ---- lengths

abbrev pub is_lists : Share → Bool
is_lists (Lists l) = true
is_lists (Items y) = false

abbrev pub class_list : Option Class → List Class
class_list None = []
class_list (Some c) = c ∷ []

abbrev pub share_class : Share → List Class
share_class (Lists l) = l.class ∷ []
share_class (Items y) = []

abbrev pub share_lengths : ℕ → Share → List ℕ
share_lengths i (Lists l) = length_of l i ∷ []
share_lengths i (Items y) = []

-- how long the lists of row i are
abbrev pub lengths_at : List Share → ℕ → List ℕ
lengths_at ps i = flat_map (share_lengths i) ps

abbrev pub length_at : List Share → ℕ → ℕ
length_at ps i = first_or_zero (lengths_at ps i)

-- whether lists of some of n rows differ in length
abbrev pub any_differ : List Share → ℕ → Bool
any_differ ps n = list_any (λ i. not (all_same (lengths_at ps i))) (range_with_len 0 n)

-- whether lists are as long as others
abbrev pub is_alike : (ℕ → ℕ) → ℕ → Share → Bool
is_alike m n (Lists l) = list_all (λ i. length_of l i == m i) (range_with_len 0 n)
is_alike m n (Items y) = true

abbrev pub IsEven : (ℕ → ℕ) → ℕ → Share → Type 0
IsEven m n (Lists l) = (i : ℕ) → i < n → length_of l i ≡ m i
IsEven m n (Items y) = Unit {0}

abbrev pub AreEven : (ℕ → ℕ) → ℕ → List Share → Type 0
AreEven m n [] = Unit {0}
AreEven m n (p ∷ ps) = IsEven m n p × AreEven m n ps

abbrev pub IsAmong : Listed → List Share → Type 0
IsAmong l [] = ⊥
IsAmong l (p ∷ ps) = (Lists l ≡ p) ⊎ IsAmong l ps

-- ---- the rows below

-- item k below row i
abbrev pub share_at : Share → ℕ → ℕ → Value
share_at (Lists l) i k = array_item l.content (place_at l.starts i + k)
share_at (Items y) i k = array_item y i

-- the column that they lie in
abbrev pub share_column : Share → Layout
share_column (Lists l) = l.content
share_column (Items y) = y

-- z has what a share gives to the rows below, one list after another
pub record IsNext (m : ℕ → ℕ) (n : ℕ) (p : Share) (z : Layout) : Type 0 where
  pub size : len z ≡ before m n
  pub typ : array_type z ≡ array_type (share_column p)
  pub items : (i k : ℕ) → i < n → k < m i → array_item z (before m i + k) ≡ share_at p i k

abbrev pub AreNext : (ℕ → ℕ) → ℕ → List Share → List Layout → Type 0
AreNext m n [] [] = Unit {0}
AreNext m n (p ∷ ps) (z ∷ zs) = IsNext m n p z × AreNext m n ps zs
AreNext m n [] (z ∷ zs) = ⊥
AreNext m n (p ∷ ps) [] = ⊥

-- ---- how the rows below are made

-- a column of numbers
abbrev pub is_flat : Layout → Bool
is_flat (flat c) = true
is_flat x = false

-- what is made without places: the items of lists, and numbers, which are repeated at once
abbrev pub is_plain : Share → Bool
is_plain (Lists l) = true
is_plain (Items y) = is_flat y

-- where something else is repeated: the place of each row, as often as it has items
abbrev pub IsRepeated : (ℕ → ℕ) → ℕ → Column → Share → Type 0
IsRepeated m n ks (Lists l) = Unit {0}
IsRepeated m n ks (Items y) = is_flat y ≡ false → ks ≡ items_lane I64 m (λ i k. pos i) n

abbrev pub AreRepeats : (ℕ → ℕ) → ℕ → Column → List Share → Type 0
AreRepeats m n ks [] = Unit {0}
AreRepeats m n ks (p ∷ ps) = IsRepeated m n ks p × AreRepeats m n ks ps

pub record AreSharedRows (n : ℕ) (ps : List Share) (c : Class) (o : Column) (m : ℕ)
    (zs : List Layout) : Type 0 where
  pub even : any_differ ps n ≡ false
  pub alike : AreEven (length_at ps) n ps
  pub few : m ≤ item_limit
  pub class : c ≡ common_class (flat_map share_class ps)
  pub offsets : o ≡ offsets_by (length_at ps) n
  pub count : m ≡ before (length_at ps) n
  pub next : AreNext (length_at ps) n ps zs

abbrev pub IsShared : ℕ → List Share → Below → Type 0
IsShared n ps below.Unequal = any_differ ps n ≡ true
IsShared n ps below.TooMany = (any_differ ps n ≡ false) × (item_limit < before (length_at ps) n)
IsShared n ps (below.Rows c o m zs) = AreSharedRows n ps c o m zs

-- ---- the rows below, by themselves

abbrev pub share_types : List Share → List DataType
share_types ps = map (λ p. array_type (share_column p)) ps

abbrev pub share_row : List Share → ℕ → ℕ → List Value
share_row ps i k = map (λ p. share_at p i k) ps

-- the rows below row i
abbrev pub share_rows : List Share → ℕ → List (List Value)
share_rows ps i = map (share_row ps i) (range_with_len 0 (length_at ps i))
