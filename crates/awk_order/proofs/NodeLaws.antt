-- Lanes in order as nodes.
use Rattle.std.specs.Prelude.{◌≡◌, ℕ, zero, suc, ◌+◌, ◌-◌, ◌<◌, ◌≤◌, ◌^◌, refl, true, Bool, List}
use Rattle.std.specs.Prelude.{[], ◌∷◌, ◌++◌, length, map, get_or, replicate, ℤ, pos, Option, Some}
use Rattle.std.specs.Prelude.{None}
use Rattle.std.specs.List.{range_with_len, AllByRecursion}
use Rattle.std.proofs.Common.{arith, ap, ap₂, sym, ◌∙◌, subst, append-nil}
use Rattle.std.proofs.lemmas.List.{length-map}
use Rattle.std.proofs.lemmas.List.FromFn.{fill_by_all}
use Rattle.std.proofs.lemmas.Simd.{map-map}
use Rattle.awk_base.proofs.Ranges.{map-same, map_from, part-range}
use Rattle.awk_base.proofs.Every.{all-part}
use Rattle.awk_types.specs.DataType.{unknown, leaf}
use Rattle.awk_types.specs.Has.{Has}
use Rattle.awk_types.specs.Parts.{option_number}
use Rattle.awk_types.specs.Predicates.{is_unknown}
use Rattle.awk_types.specs.Simple.{present}
use Rattle.awk_types.specs.Value.{Value, int, null, value_list}
use Rattle.awk_types.specs.declared.primitive.Primitive.TheVariants as primitive
use Rattle.awk_lanes.specs.Column.{Column}
use Rattle.awk_lanes.specs.Numbers.{element}
use Rattle.awk_lanes.specs.Places.{size_of, at, place_at}
use Rattle.awk_lanes.specs.declared.kind.Kind.{Kind}
use Rattle.awk_lanes.specs.declared.kind.Kind.TheVariants as kind
use Rattle.awk_layout.specs.Item.{leaf_value, run}
use Rattle.awk_layout.specs.Kinds.{kind_of, primitive_of, kind_of-primitive_of}
use Rattle.awk_layout.specs.Layout.{Layout, flat}
use Rattle.awk_layout.specs.Typing.{array_type, array_items}
use Rattle.awk_layout.specs.Valid.{len, IsValid}
use Rattle.awk_layout.proofs.Runs.{value_list-run}
use Rattle.awk_gather.specs.Arrays.{array_item}
use Rattle.awk_columns.proofs.ArrayLaws.{array_items-at}
use Rattle.awk_numbers.specs.Folds.{lane_numbers}
use Rattle.awk_parts.specs.Parts.{AreRising, part_at}
use Rattle.awk_present.specs.Numbers.{leaf_of}
use Rattle.awk_present.specs.Present.{list_at}
use Rattle.awk_sorting.specs.Cells.{cell_at, cells_of_part, AreCells, AreReady, OrdersLane}
use Rattle.awk_sorting.specs.Lanes.{SortsLane}
use Rattle.awk_sorting.specs.Nulls.{somes, nones}
use Rattle.awk_sorting.specs.Order.{order, sort_numbers}
use Rattle.awk_order.specs.Cells.{AreItemCells, AreNumbers}
use Rattle.awk_order.specs.Lists.{AreItems, AreMade}
use Rattle.awk_order.specs.Order.{items_in_order}
use Rattle.awk_order.specs.Sort.{place_items}
use Rattle.awk_order.proofs.ValueLaws.{value_of, all_numbers, no_numbers, in_order_values}

-- ---- parts of a lane

numbers_at_places : (c : Column) → lane_numbers c ≡ map (at c) (range_with_len 0 (size_of c))
numbers_at_places c =
    fill_by_all (at c) (lane_numbers c) (size_of c) (element c.kind (pos 0))
    (length-map c.items (element c.kind)) (λ k l. read c.items k)
  where
    read : (zs : List ℤ) (k : ℕ) → get_or (map (element c.kind) zs) k (element c.kind (pos 0))
        ≡ element c.kind (get_or zs k (pos 0))
    read [] k = refl
    read (z ∷ zs) zero = refl
    read (z ∷ zs) (suc k) = read zs k

pub part_by_place : (c o : Column) (i : ℕ) → place_at o i ≤ place_at o (i + 1)
    → place_at o (i + 1) ≤ size_of c
    → part_at (lane_numbers c) o i
    ≡ map (at c) (range_with_len (place_at o i) (place_at o (i + 1) - place_at o i))
part_by_place c o i p q =
    ap (λ zs. part_at zs o i) (numbers_at_places c)
    ∙ part-range (at c) (size_of c) (place_at o i) (place_at o (i + 1)) p q

somes_all : (zs : List ℤ) → somes (map (λ z. Some z) zs) ≡ zs
somes_all [] = refl
somes_all (z ∷ zs) = ap (λ ys. z ∷ ys) (somes_all zs)

nones_none : (zs : List ℤ) → nones (map (λ z. Some z) zs) ≡ 0
nones_none [] = refl
nones_none (z ∷ zs) = nones_none zs

somes_none : (n : ℕ) → somes (replicate n None) ≡ []
somes_none zero = refl
somes_none (suc n) = somes_none n

nones_all : (n : ℕ) → nones (replicate n None) ≡ n
nones_all zero = refl
nones_all (suc n) = ap suc (nones_all n)

-- ---- the lists of an array

module _ (z : Layout) (o : Column) (n : ℕ) (a : AreItems z o n) where
  abbrev start : ℕ → ℕ
  start i = place_at o i

  abbrev count : ℕ → ℕ
  count i = place_at o (i + 1) - place_at o i

  within : (i : ℕ) → i < n → place_at o (i + 1) ≤ len z
  within i l = a.rising.within (i + 1) (omega (arith, l))

  pub list_by_place : (i : ℕ) → i < n
      → list_at (array_items z) o i ≡ map (array_item z) (range_with_len (start i) (count i))
  list_by_place i l =
      ap (λ vs. list_at vs o i) (array_items-at z)
      ∙ part-range (array_item z) (len z) (place_at o i) (place_at o (i + 1)) (a.rising.ordered i l)
      (within i l)

  pub list_of_cells : (c : Column) (j : Option Column) (i : ℕ) → AreItemCells z c j → i < n
      → map option_number (list_at (array_items z) o i) ≡ cells_of_part c j o i
  list_of_cells c j i h l =
      ap (map option_number) (list_by_place i l)
      ∙ map-map option_number (array_item z) (range_with_len (start i) (count i))
      ∙ map-same (λ k. option_number (array_item z k)) (cell_at c j) (start i) (count i)
      (λ k p q. h.items k (omega (arith, q, within i l, a.rising.ordered i l)))
      ∙ map_from (cell_at c j) (start i) (count i)

  -- numbers of a lane as the items of a part
  lane_list : (r : Column) (i : ℕ) → size_of r ≡ len z → i < n
      → value_list (run (array_item (flat r)) (start i) (count i))
      ≡ map (leaf_value r.kind) (part_at (lane_numbers r) o i)
  lane_list r i e l =
      value_list-run (array_item (flat r)) (start i) (count i)
      ∙ sym (map-map (leaf_value r.kind) (at r) (range_with_len (start i) (count i)))
      ∙ ap (map (leaf_value r.kind))
      (sym (part_by_place r o i (a.rising.ordered i l) (omega (arith, e, within i l))))

  pub fits_flat : (m : ℕ) → m ≡ len z → m < 2 ^ 63
  fits_flat m e = omega (arith, e, a.few)

  -- ---- places

  pub cells_ready : (c : Column) (j : Option Column) → AreItemCells z c j → AreReady c j o n
  cells_ready c j h = record {
    cells = subst (AreCells c j) (sym a.last) h.cells;
    rising = subst (AreRising o n) (sym a.last) a.rising;
    first = a.first;
    few = omega (arith, a.last, a.few);
    fits = a.fits;
  }

  pub places_made : (up : Bool) (c : Column) (j : Option Column) (r : Column) → AreItemCells z c j
      → OrdersLane up c j o n r → AreMade (leaf primitive.I64) (place_items up) z o n (flat r)
  places_made up c j r h d =
      let whole : size_of r ≡ len z = d.size ∙ a.last in
      record {
        valid = fits_flat (size_of r) whole;
        size = whole;
        typ = ap (λ k. leaf (primitive_of k)) d.kind;
        lists = λ i l.
            lane_list r i whole l
            ∙ ap (λ k. map (leaf_value k) (part_at (lane_numbers r) o i)) d.kind
            ∙ ap (map (leaf_value kind.I64)) (d.parts i l)
            ∙ map-map (leaf_value kind.I64) pos (order up (cells_of_part c j o i))
            ∙ ap (λ os. map (λ (p : ℕ). int (pos p)) (order up os)) (sym (list_of_cells c j i h l));
      }

  -- ---- items none of which is null

  module _ (has : AllByRecursion (Has (array_type z)) (array_items z)) where
    list_has : (i : ℕ) → AllByRecursion (Has (array_type z)) (list_at (array_items z) o i)
    list_has i =
        all-part (Has (array_type z)) (array_items z) (place_at o i) (place_at o (i + 1)) has

    abbrev leaf_kind : Kind
    leaf_kind = kind_of (leaf_of (array_type z))

    pub list_in_order : (up : Bool) (i : ℕ)
        → items_in_order up (list_at (array_items z) o i)
        ≡ map (leaf_value leaf_kind)
        (sort_numbers up (somes (map option_number (list_at (array_items z) o i))))
        ++ replicate (nones (map option_number (list_at (array_items z) o i))) null
    list_in_order up i =
        in_order_values leaf_kind up (list_at (array_items z) o i)
        (all_numbers (array_type z) (list_at (array_items z) o i) a.leaves (list_has i))

    pub plain_made : (up : Bool) (c r : Column) → (array_type z ≡ unknown → ⊥) → AreNumbers z c
        → SortsLane up o n c r
        → AreMade (array_type z) (items_in_order up) z o n (flat r)
    plain_made up c r known h d = record {
      valid = fits_flat (size_of r) whole;
      size = whole;
      typ = ap (λ k. leaf (primitive_of k)) d.kind ∙ sym (h.typ known);
      lists = λ i l.
          lane_list r i whole l
          ∙ ap₂ (λ k zs. map (leaf_value k) zs) (d.kind ∙ sym same_kind) (d.parts i l)
          ∙ ap (λ zs. map (leaf_value leaf_kind) (sort_numbers up zs)) (sym (present i l))
          ∙ sym (append-nil (map (leaf_value leaf_kind)
          (sort_numbers up (somes (map option_number (list_at (array_items z) o i))))))
          ∙ ap (λ m. map (leaf_value leaf_kind)
          (sort_numbers up (somes (map option_number (list_at (array_items z) o i))))
          ++ replicate m null) (sym (no_nulls i l))
          ∙ sym (list_in_order up i);
    }
      where
        whole : size_of r ≡ len z
        whole = d.size ∙ sym h.cells.cells

        same_kind : leaf_kind ≡ c.kind
        same_kind = ap (λ t. kind_of (leaf_of t)) (h.typ known) ∙ kind_of-primitive_of c.kind

        cells : (i : ℕ) → i < n
            → map option_number (list_at (array_items z) o i)
            ≡ map (λ z. Some z) (part_at (lane_numbers c) o i)
        cells i l =
            list_of_cells c None i h.cells l
            ∙ sym (map_from (λ k. Some (at c k)) (start i) (count i))
            ∙ sym (map-map (λ z. Some z) (at c) (range_with_len (start i) (count i)))
            ∙ ap (map (λ z. Some z))
            (sym (part_by_place c o i (a.rising.ordered i l)
            (omega (arith, h.cells.cells, within i l))))

        present : (i : ℕ) → i < n
            → somes (map option_number (list_at (array_items z) o i))
            ≡ part_at (lane_numbers c) o i
        present i l = ap somes (cells i l) ∙ somes_all (part_at (lane_numbers c) o i)

        no_nulls : (i : ℕ) → i < n → nones (map option_number (list_at (array_items z) o i)) ≡ 0
        no_nulls i l = ap nones (cells i l) ∙ nones_none (part_at (lane_numbers c) o i)

    -- ---- items that are all null

    map_none : (k : Kind) (m : ℕ) → map (value_of k) (replicate m None) ≡ replicate m null
    map_none k zero = refl
    map_none k (suc m) = ap (λ vs. null ∷ vs) (map_none k m)

    stays : (up : Bool) → is_unknown (present (array_type z)) ≡ true → (i : ℕ)
        → list_at (array_items z) o i ≡ items_in_order up (list_at (array_items z) o i)
    stays up unknown_type i =
        let vs : List Value = list_at (array_items z) o i in
        let none = no_numbers (array_type z) vs unknown_type (list_has i) in
        all_numbers (array_type z) vs a.leaves (list_has i)
        ∙ ap (map (value_of leaf_kind)) none ∙ map_none leaf_kind (length vs)
        ∙ sym (list_in_order up i
        ∙ ap (λ os. map (leaf_value leaf_kind) (sort_numbers up (somes os))
        ++ replicate (nones os) null) none
        ∙ ap₂ (λ zs m. map (leaf_value leaf_kind) (sort_numbers up zs) ++ replicate m null)
        (somes_none (length vs)) (nones_all (length vs)))

    pub unknown_made : (up : Bool) → IsValid z → is_unknown (present (array_type z)) ≡ true
        → AreMade (array_type z) (items_in_order up) z o n z
    unknown_made up v u = record {
      valid = v;
      size = refl;
      typ = refl;
      lists = λ i l.
          value_list-run (array_item z) (start i) (count i) ∙ sym (list_by_place i l)
          ∙ stays up u i;
    }
