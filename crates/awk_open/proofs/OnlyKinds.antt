-- Which kinds an array of leaves, or of an option, is opened into.
use Rattle.std.specs.Prelude.{◌≡◌, Bool, true, false, Option, Some, None, List, map, refl}
use Rattle.std.proofs.Common.{ap, sym, ◌∙◌, true≢false}
use Rattle.awk_types.specs.DataType.{Name, DataType, DataTypes, types_from, row_type}
use Rattle.awk_types.specs.Predicates.{is_leaf}
use Rattle.awk_types.specs.Simple.{present, is_option}
use Rattle.awk_lanes.specs.Column.{Column}
use Rattle.awk_layout.specs.Layout.{Layout}
use Rattle.awk_layout.specs.Typing.{array_type}
use Rattle.awk_columns.specs.ListClass.{Class, list_type}
use Rattle.awk_columns.proofs.ListTypes.{list_no_option}
use Rattle.awk_open.specs.Opened.{IsKindOf}
use Rattle.awk_open.specs.declared.opening.Opened.{Opened}
use Rattle.awk_open.specs.declared.opening.Opened.TheVariants as kinds

-- a test that passes on a type and fails on what the type is
pub not_of : (P : DataType → Bool) (t u : DataType) → t ≡ u → P u ≡ false → P t ≡ true → ⊥
not_of P t u e n h = true≢false (sym h ∙ ap P e ∙ n)

list_no_leaf : (c : Class) (t : DataType) → is_leaf (list_type c t) ≡ false
list_no_leaf None t = refl
list_no_leaf (Some n) t = refl

row_no_leaf : (names : Option (List Name)) (ts : DataTypes) → is_leaf (row_type names ts) ≡ false
row_no_leaf None ts = refl
row_no_leaf (Some ns) ts = refl

-- leaves are numbers of a lane, or none
pub only_leaves : (t : DataType) (r : Opened) → IsKindOf t r → is_leaf t ≡ true
    → (r ≡ kinds.Empty → ⊥) → ((c : Column) → r ≡ kinds.Leaf c → ⊥) → ⊥
only_leaves t kinds.Empty k h e l = e refl
only_leaves t (kinds.Leaf c) k h e l = l c refl
only_leaves t (kinds.Items q) k h e l =
    not_of is_leaf t _ k (list_no_leaf q.class (array_type q.content)) h
only_leaves t (kinds.Row names ys) k h e l =
    not_of is_leaf t _ k (row_no_leaf names (types_from (map array_type ys))) h
only_leaves t (kinds.Option j y) k h e l = true≢false (sym h ∙ ap is_leaf k)
only_leaves t (kinds.Union g j ys) k h e l = true≢false (sym h ∙ ap is_leaf k)

row_no_option : (names : Option (List Name)) (ts : DataTypes)
    → is_option (row_type names ts) ≡ false
row_no_option None ts = refl
row_no_option (Some ns) ts = refl

-- an option is opened as one
pub only_option : (t : DataType) (r : Opened) → IsKindOf t r → is_option t ≡ true
    → ((j : Column) (y : Layout) → r ≡ kinds.Option j y → ⊥) → ⊥
only_option t kinds.Empty k h o = true≢false (sym h ∙ ap is_option k)
only_option t (kinds.Leaf c) k h o = true≢false (sym h ∙ ap is_option k)
only_option t (kinds.Items q) k h o =
    not_of is_option t _ k (list_no_option q.class (array_type q.content)) h
only_option t (kinds.Row names ys) k h o =
    not_of is_option t _ k (row_no_option names (types_from (map array_type ys))) h
only_option t (kinds.Option j y) k h o = o j y refl
only_option t (kinds.Union g j ys) k h o = true≢false (sym h ∙ ap is_option k)

list_no_leaves : (c : Class) (t : DataType) → is_leaf (present (list_type c t)) ≡ false
list_no_leaves None t = refl
list_no_leaves (Some n) t = refl

row_no_leaves : (names : Option (List Name)) (ts : DataTypes)
    → is_leaf (present (row_type names ts)) ≡ false
row_no_leaves None ts = refl
row_no_leaves (Some ns) ts = refl

-- leaves, of which some may be null
pub only_leaves_or_option : (t : DataType) (r : Opened) → IsKindOf t r
    → is_leaf (present t) ≡ true → (r ≡ kinds.Empty → ⊥) → ((c : Column) → r ≡ kinds.Leaf c → ⊥)
    → ((j : Column) (y : Layout) → r ≡ kinds.Option j y → ⊥) → ⊥
only_leaves_or_option t kinds.Empty k h e l o = e refl
only_leaves_or_option t (kinds.Leaf c) k h e l o = l c refl
only_leaves_or_option t (kinds.Items q) k h e l o =
    not_of (λ u. is_leaf (present u)) t _ k (list_no_leaves q.class (array_type q.content)) h
only_leaves_or_option t (kinds.Row names ys) k h e l o =
    not_of (λ u. is_leaf (present u)) t _ k
    (row_no_leaves names (types_from (map array_type ys))) h
only_leaves_or_option t (kinds.Option j y) k h e l o = o j y refl
only_leaves_or_option t (kinds.Union g j ys) k h e l o =
    true≢false (sym h ∙ ap (λ u. is_leaf (present u)) k)
