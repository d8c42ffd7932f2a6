-- Arrays of one value.
use Rattle.std.proofs.Common.{◌≡◌, ℕ, zero, suc, ◌+◌, ◌-◌, ◌<◌, ◌≤◌, List, [], ◌∷◌, map, refl, ap}
use Rattle.std.proofs.Common.{sym, ◌∙◌, arith, length, get_or, Some}
use Rattle.std.specs.Prelude.{pos}
use Rattle.std.specs.List.{range_with_len}
use Rattle.serde_json.specs.Data.{null}
use Rattle.awk_types.specs.DataType.{Name}
use Rattle.awk_types.specs.Value.{Value, value, list, row, values_from}
use Rattle.awk_types.specs.Value as values
use Rattle.awk_lanes.specs.Column.{Column}
use Rattle.awk_lanes.specs.declared.kind.Kind.TheVariants.{I64}
use Rattle.awk_layout.proofs.ArrayItems.{length-array_items, get_or-array_items}
use Rattle.awk_layout.specs.Item.{item, run}
use Rattle.awk_layout.specs.Layout.{Layout, layouts_from, offset_lists, rows}
use Rattle.awk_layout.specs.Typing.{array_items, layout_type}
use Rattle.awk_types.specs.Simple.{simple_value}
use Rattle.awk_layout.specs.Valid.{len}
use Rattle.awk_gather.specs.Arrays.{array_item}
use Rattle.awk_columns.proofs.ArrayLaws.{item-offset_lists}
use Rattle.awk_open.proofs.OpenedKinds.{item-rows}

-- ---- a list

abbrev ends : ℕ → Column
ends n = record { kind = I64; items = pos 0 ∷ pos n ∷ [] }

run_values : (f : ℕ → Value) (first n : ℕ)
    → run f first n ≡ values_from (map f (range_with_len first n))
run_values f first zero = refl
run_values f first (suc n) =
    let e : suc first ≡ first + 1 = omega arith in
    ap (value (f first))
    (run_values f (suc first) n ∙ ap (λ k. values_from (map f (range_with_len k n))) e)

twice : (f : Value → Value) (g : ℕ → Value) (is : List ℕ)
    → map (λ i. f (g i)) is ≡ map f (map g is)
twice f g [] = refl
twice f g (i ∷ is) = ap (λ vs. f (g i) ∷ vs) (twice f g is)

whole_run : (x : Layout) (n : ℕ) → n ≡ len x
    → run (array_item x) 0 n ≡ values_from (array_items x)
whole_run x n h =
    run_values (array_item x) 0 n
    ∙ ap values_from
    (twice (simple_value (layout_type x)) (item x) (range_with_len 0 n)
    ∙ ap (λ m. map (simple_value (layout_type x)) (map (item x) (range_with_len 0 m))) h)

pub one_list : (o : Column) (n : ℕ) (x : Layout) → o ≡ ends n → n ≡ len x
    → array_items (offset_lists o x) ≡ list (values_from (array_items x)) ∷ []
one_list o n x e h =
    let same : n - 0 ≡ n = omega arith in
    ap (λ z. array_items (offset_lists z x)) e
    ∙ ap (λ v. v ∷ [])
    (item-offset_lists (ends n) x 0
    ∙ ap (λ m. list (run (array_item x) 0 m)) same ∙ ap list (whole_run x n h))

-- ---- a row

pub one_row : (names : List Name) (ys : List Layout)
    → array_items (rows (Some names) 1 (layouts_from ys))
    ≡ row (values_from (map (λ y. array_item y 0) ys)) ∷ []
one_row names ys = ap (λ v. v ∷ []) (item-rows (Some names) 1 ys 0)

pub first_of : (x : Layout) (v : Value) → array_items x ≡ v ∷ [] → array_item x 0 ≡ v
first_of x v e =
    let one : 0 < len x = omega (arith, length-array_items x, ap length e) in
    sym (get_or-array_items x 0 one) ∙ ap (λ vs. get_or vs 0 values.null) e

pub one_long : (x : Layout) (v : Value) → array_items x ≡ v ∷ [] → 1 ≤ len x
one_long x v e = omega (arith, length-array_items x, ap length e)
