-- Kinds whose contents are in order as they lie.
use Rattle.std.proofs.Common.{◌≡◌, ℕ, suc, zero, ◌+◌, ◌<◌, List, [], ◌∷◌, map, length, get_or}
use Rattle.std.proofs.Common.{arith, refl, ap, sym, ◌∙◌}
use Rattle.std.specs.Prelude.{Option}
use Rattle.std.specs.List.{range_with_len}
use Rattle.std.proofs.lemmas.Simd.{map-map}
use Rattle.awk_types.specs.DataType.{Name}
use Rattle.awk_types.specs.Value.{null}
use Rattle.awk_types.proofs.Trees.{value_list-from}
use Rattle.awk_lanes.specs.Column.{Column}
use Rattle.awk_lanes.specs.Places.{at}
use Rattle.awk_layout.specs.Item.{leaf_value}
use Rattle.awk_layout.specs.Layout.{Layout, layouts_from}
use Rattle.awk_layout.specs.Valid.{len}
use Rattle.awk_layout.specs.Place.{nth}
use Rattle.awk_layout.specs.Typing.{array_items}
use Rattle.awk_gather.specs.Arrays.{array_item}
use Rattle.awk_columns.specs.Columns.{part_at, row_parts}
use Rattle.awk_open.specs.InOrder.{IsInOrder}
use Rattle.awk_columns.specs.Parts.{AreParts}
use Rattle.awk_columns.specs.Lists.{Listed}
use Rattle.awk_columns.specs.ListValues.{list_at}
use Rattle.awk_open.specs.Opened.{IsOpened, AreLong}
use Rattle.awk_open.specs.declared.opening.Opened.TheVariants.{Empty, Leaf, Items, Row}
use Rattle.awk_columns.proofs.ArrayLaws.{array_items-at}
use Rattle.awk_base.proofs.Ranges.{map-in}

get-part : (ys : List Layout) (i m : ℕ) → m < length ys
    → get_or (map (λ y. array_item y i) ys) m null ≡ array_item (nth (layouts_from ys) m) i
get-part [] i m l = absurd (omega arith)
get-part (y ∷ ys) i zero l = refl
get-part (y ∷ ys) i (suc m) l = get-part ys i m (omega arith)

parts_from : (x : Layout) (k : ℕ) (ys : List Layout) → AreLong (len x) ys
    → ((i m : ℕ) → i < len x → m < length ys → part_at (k + m) (array_item x i) ≡ array_item
    (nth (layouts_from ys) m) i) → AreParts k (array_items x) ys
parts_from x k [] h e = tt
parts_from x k (y ∷ ys) h e =
    let c : k ≡ k + zero = omega arith in (
      array_items-at y
          ∙ ap (λ n. map (array_item y) (range_with_len 0 n)) h.0
          ∙ map-in (array_item y) (λ i. part_at k (array_item x i)) 0 (len x)
          (λ i l. sym (ap (λ m. part_at m (array_item x i)) c ∙ e i 0 (omega arith)
          (omega arith)))
          ∙ sym (map-map (part_at k) (array_item x) (range_with_len 0 (len x)))
          ∙ ap (map (part_at k)) (sym (array_items-at x)),
      parts_from x (suc k) ys h.1 (λ i m l q. let d : suc k + m ≡ k + suc m = omega arith in ap
          (λ n. part_at n (array_item x i)) d ∙ e i (suc m) l (omega arith)),
    )

pub row_in_order : (x : Layout) (names : Option (List Name)) (ys : List Layout)
    → IsOpened x (Row names ys) → IsInOrder (array_items x) (Row names ys)
row_in_order x names ys h =
    parts_from x 0 ys h.lengths (λ i m l q.
    let d : 0 + m ≡ m = omega arith in
    ap (λ n. part_at n (array_item x i)) d
    ∙ ap (λ v. get_or (row_parts v) m null) (h.items i l)
    ∙ ap (λ vs. get_or vs m null) (value_list-from (map (λ y. array_item y i) ys))
    ∙ get-part ys i m q)

pub empty_in_order : (x : Layout) → IsOpened x Empty → IsInOrder (array_items x) Empty
empty_in_order x h =
    array_items-at x ∙ ap (λ n. map (array_item x) (range_with_len 0 n)) (sym h.size)

pub leaf_in_order : (x : Layout) (c : Column) → IsOpened x (Leaf c)
    → IsInOrder (array_items x) (Leaf c)
leaf_in_order x c h =
    array_items-at x
    ∙ map-in (array_item x) (λ i. leaf_value c.kind (at c i)) 0 (len x)
    (λ i l. h.items i (omega arith))
    ∙ ap (λ n. map (λ i. leaf_value c.kind (at c i)) (range_with_len 0 n)) (sym h.size)

pub lists_in_order : (x : Layout) (l : Listed) → IsOpened x (Items l)
    → IsInOrder (array_items x) (Items l)
lists_in_order x l h =
    let at_place = list_at l.starts l.stops l.content in
    array_items-at x
    ∙ map-in (array_item x) at_place 0 (len x) (λ i p. h.items i (omega arith))
    ∙ ap (λ n. map at_place (range_with_len 0 n)) (sym h.size)
