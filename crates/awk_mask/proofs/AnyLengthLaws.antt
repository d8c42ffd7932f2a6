-- Masks as they stand, with lists of any length by their type.
use Rattle.std.specs.Prelude.{◌≡◌, ℕ, ◌+◌, ◌-◌, ◌<◌, ◌≤◌, refl, false, ◌||◌, length, nat_lt}
use Rattle.std.specs.Prelude.{get_or, Option, Some, None, if◌then◌else◌}
use Rattle.std.proofs.Common.{arith, ap, ap₂, sym, ◌∙◌, subst}
use Rattle.std.proofs.lemmas.List.{ext_get_or}
use Rattle.awk_types.specs.DataType.{DataType, unknown, leaf, var, reg, rec, tup, opt, uni}
use Rattle.awk_types.specs.DataType.{depth, nodes}
use Rattle.awk_types.specs.Limit.{limit, width, depth_limit, size_limit}
use Rattle.awk_types.specs.Simple.{IsSimple, is_option, present}
use Rattle.awk_types.specs.Value.{null, list}
use Rattle.awk_lanes.specs.Column.{Column}
use Rattle.awk_lanes.specs.Places.{at, place_at, option_place_at, AreSpans}
use Rattle.awk_lanes.specs.Places.{IsOptionalIndex}
use Rattle.awk_layout.specs.Item.{at_option}
use Rattle.awk_layout.specs.Layout.{Layout, lists, optional}
use Rattle.awk_layout.specs.Typing.{array_type, array_items}
use Rattle.awk_layout.specs.Valid.{len}
use Rattle.awk_layout.proofs.ArrayItems.{length-array_items, get_or-array_items}
use Rattle.awk_layout.proofs.Runs.{run-same}
use Rattle.awk_gather.specs.Arrays.{array_item}
use Rattle.awk_gather.proofs.FollowedIndexes.{place_below}
use Rattle.awk_gather.proofs.OptionItems.{item-optional}
use Rattle.awk_columns.specs.ListClass.{Class, list_type}
use Rattle.awk_list_ends.proofs.SpanLaws.{start_there}
use Rattle.awk_open.specs.Opens.{OpensLists, OpensOption}
use Rattle.awk_open.proofs.OpenedKinds.{item-lists}
use Rattle.awk_mask_pairs.specs.MaskTypes.{unsized}

-- ---- types

depth-unsized : (t : DataType) → depth (unsized t) ≡ depth t
depth-unsized (var t) = omega (arith, depth-unsized t)
depth-unsized (reg n t) = omega (arith, depth-unsized t)
depth-unsized (opt t) = omega (arith, depth-unsized t)
depth-unsized unknown = refl
depth-unsized (leaf p) = refl
depth-unsized (rec ns ts) = refl
depth-unsized (tup ts) = refl
depth-unsized (uni ts) = refl

nodes-unsized : (t : DataType) → nodes (unsized t) ≡ nodes t
nodes-unsized (var t) = omega (arith, nodes-unsized t)
nodes-unsized (reg n t) = omega (arith, nodes-unsized t)
nodes-unsized (opt t) = omega (arith, nodes-unsized t)
nodes-unsized unknown = refl
nodes-unsized (leaf p) = refl
nodes-unsized (rec ns ts) = refl
nodes-unsized (tup ts) = refl
nodes-unsized (uni ts) = refl

width-unsized : (t : DataType) → width (unsized t) ≡ width t
width-unsized (var t) = width-unsized t
width-unsized (reg n t) = width-unsized t
width-unsized (opt t) = width-unsized t
width-unsized unknown = refl
width-unsized (leaf p) = refl
width-unsized (rec ns ts) = refl
width-unsized (tup ts) = refl
width-unsized (uni ts) = refl

pub limit-unsized : (t : DataType) → limit (unsized t) ≡ limit t
limit-unsized t =
    ap (λ d. if nat_lt 60 d then Some depth_limit
    else if nat_lt 65536 (nodes (unsized t)) || nat_lt 127 (width (unsized t)) then Some size_limit
    else None) (depth-unsized t)
    ∙ ap₂ (λ n w. if nat_lt 60 (depth t) then Some depth_limit
    else if nat_lt 65536 n || nat_lt 127 w then Some size_limit else None)
    (nodes-unsized t) (width-unsized t)

bare-unsized : (t : DataType) → is_option t ≡ false → present (unsized t) ≡ unsized t
bare-unsized (opt t) e = cc
bare-unsized (var t) e = refl
bare-unsized (reg n t) e = refl
bare-unsized unknown e = refl
bare-unsized (leaf p) e = refl
bare-unsized (rec ns ts) e = refl
bare-unsized (tup ts) e = refl
bare-unsized (uni ts) e = refl

list-unsized : (c : Class) (t : DataType) → unsized (list_type c t) ≡ var (unsized t)
list-unsized None t = refl
list-unsized (Some n) t = refl

pub depth-list : (c : Class) (t : DataType) → depth t < depth (list_type c t)
depth-list None t = omega arith
depth-list (Some n) t = omega arith

-- ---- arrays of the same items

same-len : (y r : Layout) → array_items r ≡ array_items y → len r ≡ len y
same-len y r e = sym (length-array_items r) ∙ ap length e ∙ length-array_items y

same-item : (y r : Layout) → array_items r ≡ array_items y → (i : ℕ) → i < len y
    → array_item r i ≡ array_item y i
same-item y r e i p =
    sym (get_or-array_items r i (omega (arith, p, same-len y r e)))
    ∙ ap (λ vs. get_or vs i null) e
    ∙ get_or-array_items y i p

items-same : (x y : Layout) → len x ≡ len y → ((i : ℕ) → i < len y → array_item x i
    ≡ array_item y i) → array_items x ≡ array_items y
items-same x y l h =
    ext_get_or null (array_items x) (array_items y)
    (length-array_items x ∙ l ∙ sym (length-array_items y))
    (λ i q.
    let p : i < len y = omega (arith, q, length-array_items x, l) in
    get_or-array_items x i (omega (arith, p, l)) ∙ h i p ∙ sym (get_or-array_items y i p))

-- ---- nulls over them

module _ (m y r : Layout) (j : Column) (o : OpensOption j y m) (s : IsSimple (array_type m))
    (typ : array_type r ≡ unsized (array_type y)) (items : array_items r ≡ array_items y) where
  pub nulls-index : IsOptionalIndex j (len r)
  nulls-index = subst (IsOptionalIndex j) (sym (same-len y r items)) o.index

  bare : is_option (array_type y) ≡ false
  bare = (subst IsSimple o.typ s).0

  pub nulls-type : array_type (optional j r) ≡ unsized (array_type m)
  nulls-type =
      ap (λ t. opt (present t)) typ
      ∙ ap (λ t. opt t) (bare-unsized (array_type y) bare)
      ∙ ap unsized (sym o.typ)

  nulls-item : (i : ℕ) → i < len m → array_item (optional j r) i ≡ array_item m i
  nulls-item i p =
      item-optional j r i ∙ by_place (option_place_at j i) refl ∙ sym (o.items i p)
    where
      by_place : (q : Option ℕ) → option_place_at j i ≡ q
          → at_option (option_place_at j i) (array_item r)
          ≡ at_option (option_place_at j i) (array_item y)
      by_place None e = ap (λ z. at_option z (array_item r)) e
          ∙ sym (ap (λ z. at_option z (array_item y)) e)
      by_place (Some k) e =
          ap (λ z. at_option z (array_item r)) e
          ∙ same-item y r items k (within k e)
          ∙ sym (ap (λ z. at_option z (array_item y)) e)
        where
          within : (k : ℕ) → option_place_at j i ≡ Some k → k < len y
          within k e = place_below _ k (len y) (sym e) (o.index.below i (omega (arith, p, o.size)))

  pub nulls-items : array_items (optional j r) ≡ array_items m
  nulls-items = items-same (optional j r) m o.size (λ i p. nulls-item i p)

-- ---- lists over them

module _ (m y r : Layout) (c : Class) (s t : Column) (o : OpensLists c s t y m)
    (typ : array_type r ≡ unsized (array_type y)) (items : array_items r ≡ array_items y) where
  pub lists-spans : AreSpans s t (len r)
  lists-spans = subst (AreSpans s t) (sym (same-len y r items)) o.lists.spans

  pub lists-type : array_type (lists s t r) ≡ unsized (array_type m)
  lists-type =
      ap (λ u. var u) typ ∙ sym (list-unsized c (array_type y)) ∙ ap unsized (sym o.typ)

  lists-item : (i : ℕ) → i < len m → array_item (lists s t r) i ≡ array_item m i
  lists-item i p =
      item-lists s t r i
      ∙ ap list (run-same (array_item r) (array_item y) (place_at s i)
      (place_at t i - place_at s i)
      (λ k l q. same-item y r items k (within k l q)))
      ∙ sym (o.items i p)
    where
      within : (k : ℕ) → place_at s i ≤ k
          → k < place_at s i + (place_at t i - place_at s i) → k < len y
      within k l q =
          omega (
            arith,
            q,
            (start_there (len y) (at s i) (at t i)
                (o.lists.spans.ordered i (omega (arith, p, o.size))) (omega (arith, l, q))).1,
          )

  pub lists-items : array_items (lists s t r) ≡ array_items m
  lists-items = items-same (lists s t r) m o.size (λ i p. lists-item i p)
