-- Ranges of the contents of a node, and of the node over them.
use Rattle.std.proofs.Common.{◌≡◌, ℕ, suc, zero, ◌≤◌, ◌<◌, ◌+◌, ◌-◌, ◌*◌, List, [], ◌∷◌, ◌++◌}
use Rattle.std.proofs.Common.{length, take, drop, arith, slice_get, slice_range, Option, Some}
use Rattle.std.proofs.Common.{add-one, refl, ap, sym, ◌∙◌, map, length-take, length-drop}
use Rattle.std.proofs.Common.{get_or-take, get_or-drop}
use Rattle.std.proofs.lemmas.List.{ext_get_or, take-map, drop-map}
use Rattle.std.proofs.lemmas.List.FromFn.{length-map-range_with_len, get_or-map-range_with_len}
use Rattle.std.proofs.lemmas.Nat.{row_fits}
use Rattle.awk_base.proofs.Numbers.{times-le}
use Rattle.awk_types.specs.DataType.{Name, type, row_type, reg}
use Rattle.awk_types.specs.Simple.{simple_value}
use Rattle.awk_types.specs.Value.{value, row, list, null}
use Rattle.awk_layout.specs.Layout.{Layout, layouts_from, count, weights, heights, rows, regular}
use Rattle.awk_layout.specs.Valid.{len, AllReach}
use Rattle.awk_layout.specs.Contents.{AllReach-get, weight-get, count-layouts_from}
use Rattle.awk_layout.specs.Laws.{AllReach-le}
use Rattle.awk_layout.specs.Item.{item, items, items_across, run}
use Rattle.awk_layout.specs.Typing.{layout_type, layout_types, array_items}
use Rattle.awk_range.specs.Range.{IsPart, AreParts}
use Rattle.awk_range.proofs.Weights.{weights-take_more, weights-take-le}

-- ---- contents one by one

AreParts-suc : (lo hi : ℕ) (xs : List Layout) (i : ℕ) (y : Layout) (rs : List Layout) (r : Layout)
    → slice_get xs i ≡ Some y → AreParts (take i xs) lo hi rs → IsPart y lo hi r
    → AreParts (take (suc i) xs) lo hi (rs ++ r ∷ [])
AreParts-suc lo hi [] i y rs r e h p = cc
AreParts-suc lo hi (x ∷ xs) zero y [] r e h p = let f : x ≡ y = cc in (rw f p, tt)
AreParts-suc lo hi (x ∷ xs) zero y (s ∷ rs) r e h p = elim h [ ]
AreParts-suc lo hi (x ∷ xs) (suc i) y [] r e h p = elim h [ ]
AreParts-suc lo hi (x ∷ xs) (suc i) y (s ∷ rs) r e h p =
    (h.0, AreParts-suc lo hi xs i y rs r e h.1 p)

pub AreParts-push : (lo hi : ℕ) (xs : List Layout) (i : ℕ) (y : Layout) (rs : List Layout)
    (r : Layout) → slice_get xs i ≡ Some y → AreParts (take i xs) lo hi rs → IsPart y lo hi r →
    AreParts (take (i + 1) xs) lo hi (rs ++ r ∷ [])
AreParts-push lo hi xs i y rs r e h p = rw add-one (AreParts-suc lo hi xs i y rs r e h p)

-- ---- a row

pub reach_of_parts : (lo hi : ℕ) (xs rs : List Layout) → AreParts xs lo hi rs
    → AllReach (hi - lo) (layouts_from rs)
reach_of_parts lo hi [] [] h = tt
reach_of_parts lo hi (x ∷ xs) (r ∷ rs) h = (omega (arith, h.0.size), reach_of_parts lo hi xs rs h.1)
reach_of_parts lo hi [] (r ∷ rs) h = elim h [ ]
reach_of_parts lo hi (x ∷ xs) [] h = elim h [ ]

pub count_of_parts : (lo hi : ℕ) (xs rs : List Layout) → AreParts xs lo hi rs
    → count (layouts_from rs) ≡ count (layouts_from xs)
count_of_parts lo hi [] [] h = refl
count_of_parts lo hi (x ∷ xs) (r ∷ rs) h = omega (arith, count_of_parts lo hi xs rs h.1)
count_of_parts lo hi [] (r ∷ rs) h = elim h [ ]
count_of_parts lo hi (x ∷ xs) [] h = elim h [ ]

items_across_parts : (lo hi : ℕ) (xs rs : List Layout) (j : ℕ) → AreParts xs lo hi rs → j < hi - lo
    → items_across (layouts_from rs) j ≡ items_across (layouts_from xs) (lo + j)
items_across_parts lo hi [] [] j h k = refl
items_across_parts lo hi (x ∷ xs) (r ∷ rs) j h k = λ i. value (h.0.items j k i)
    (items_across_parts lo hi xs rs j h.1 k i)
items_across_parts lo hi [] (r ∷ rs) j h k = elim h [ ]
items_across_parts lo hi (x ∷ xs) [] j h k = elim h [ ]

types_of_parts : (lo hi : ℕ) (xs rs : List Layout) → AreParts xs lo hi rs
    → layout_types (layouts_from rs) ≡ layout_types (layouts_from xs)
types_of_parts lo hi [] [] h = refl
types_of_parts lo hi (x ∷ xs) (r ∷ rs) h = λ i. type (h.0.typ i) (types_of_parts lo hi xs rs h.1 i)
types_of_parts lo hi [] (r ∷ rs) h = elim h [ ]
types_of_parts lo hi (x ∷ xs) [] h = elim h [ ]

weights_of_parts : (lo hi : ℕ) (xs rs : List Layout) → AreParts xs lo hi rs
    → weights (layouts_from rs) ≤ weights (layouts_from xs)
weights_of_parts lo hi [] [] h = omega arith
weights_of_parts lo hi (x ∷ xs) (r ∷ rs) h =
    omega (arith, h.0.weight_within, weights_of_parts lo hi xs rs h.1)
weights_of_parts lo hi [] (r ∷ rs) h = elim h [ ]
weights_of_parts lo hi (x ∷ xs) [] h = elim h [ ]

heights_of_parts : (lo hi : ℕ) (xs rs : List Layout) → AreParts xs lo hi rs
    → heights (layouts_from rs) ≤ heights (layouts_from xs)
heights_of_parts lo hi [] [] h = omega arith
heights_of_parts lo hi (x ∷ xs) (r ∷ rs) h =
    omega (arith, h.0.height_within, heights_of_parts lo hi xs rs h.1)
heights_of_parts lo hi [] (r ∷ rs) h = elim h [ ]
heights_of_parts lo hi (x ∷ xs) [] h = elim h [ ]

row_part : (names : Option (List Name)) (n lo hi : ℕ) (xs rs : List Layout) → AreParts xs lo hi rs
    → IsPart (rows names n (layouts_from xs)) lo hi (rows names (hi - lo) (layouts_from rs))
row_part names n lo hi xs rs h = record {
  size = refl;
  typ = ap (row_type names) (types_of_parts lo hi xs rs h);
  items = λ j k. ap row (items_across_parts lo hi xs rs j h k);
  weight_within = omega (arith, weights_of_parts lo hi xs rs h);
  height_within = omega (arith, heights_of_parts lo hi xs rs h);
}

pub row_part_of : (x r : Layout) (names others : Option (List Name)) (n lo hi : ℕ)
    (xs rs : List Layout) → rows names n (layouts_from xs) ≡ x → r ≡ rows others (hi - lo)
    (layouts_from rs) → others ≡ names → AreParts xs lo hi rs → IsPart x lo hi r
row_part_of x r names others n lo hi xs rs e f o h = rw (← e, f, o) (row_part names n lo hi xs rs h)

-- ---- regular lists

pub minus-times : (lo hi c : ℕ) → lo ≤ hi → (hi - lo) * c ≡ hi * c - lo * c
minus-times lo hi c h =
    let d : ℕ = hi - lo in
    let e : hi ≡ lo + d = omega arith in
    let f : hi * c ≡ (lo + d) * c = ap (λ m. m * c) e in
    let g : (lo + d) * c ≡ lo * c + d * c = omega arith in
    omega arith

-- k items from a place on, of a part and of the whole
run_part : (x r : Layout) (lo hi a k : ℕ) → IsPart x lo hi r → a + k ≤ hi - lo
    → run (item r) a k ≡ run (item x) (lo + a) k
run_part x r lo hi a zero p h = refl
run_part x r lo hi a (suc k) p h =
    let s : suc (lo + a) ≡ lo + suc a = omega arith in
    rw (p.items a (omega arith), s, run_part x r lo hi (suc a) k p (omega arith)) refl

pub regular_part : (x r y z : Layout) (size n lo hi : ℕ) → regular size n y ≡ x
    → z ≡ regular size (hi - lo) r → IsPart y (lo * size) (hi * size) r → lo ≤ hi → IsPart x lo hi z
regular_part x r y z size n lo hi e f p h = rw (← e, f) (record {
  size = refl;
  typ = ap (reg size) p.typ;
  items = λ j k.
      let m = minus-times lo hi size h in
      let w = row_fits j size (hi - lo) size k (omega arith) in
      let t : lo * size + j * size ≡ (lo + j) * size = omega arith in
      ap list (run_part y r (lo * size) (hi * size) (j * size) size p (omega arith) ∙ ap
      (λ a. run (item y) a size) t);
  weight_within = omega (arith, p.weight_within);
  height_within = omega (arith, p.height_within);
})

-- ---- arrays

-- the items of a part are that part of the items
items_part : (x r : Layout) (lo hi : ℕ) → IsPart x lo hi r → lo ≤ hi → hi ≤ len x
    → items r ≡ slice_range (items x) lo hi
items_part x r lo hi p le within =
    let n : length (slice_range (items x) lo hi) ≡ hi - lo = omega (
      arith,
      length-take (hi - lo) (drop lo (items x)),
      length-drop lo (items x),
      length-map-range_with_len (item x) 0 (len x),
    ) in
    ext_get_or null _ _ (length-map-range_with_len (item r) 0 (len r) ∙ p.size ∙ sym n)
    (λ j h.
    let h' : j < hi - lo = omega (arith, length-map-range_with_len (item r) 0 (len r), p.size) in
    get_or-map-range_with_len (item r) 0 (len r) j j null (omega (arith, p.size)) (omega arith)
    ∙ p.items j h'
    ∙ sym (get_or-map-range_with_len (item x) 0 (len x) (lo + j) (lo + j) null (omega arith)
    (omega arith))
    ∙ sym (get_or-drop lo (items x) j null)
    ∙ sym (get_or-take (hi - lo) (drop lo (items x)) j null h'))

pub array_items_part : (x r : Layout) (lo hi : ℕ) → IsPart x lo hi r → lo ≤ hi → hi ≤ len x
    → array_items r ≡ slice_range (array_items x) lo hi
array_items_part x r lo hi p le within =
    ap (λ t. map (simple_value t) (items r)) p.typ
    ∙ ap (map (simple_value (layout_type x))) (items_part x r lo hi p le within)
    ∙ sym (take-map (simple_value (layout_type x)) (hi - lo) (drop lo (items x)))
    ∙ ap (take (hi - lo)) (sym (drop-map (simple_value (layout_type x)) lo (items x)))

pub ruleset range_laws = (
  AllReach-le,
  AllReach-get,
  weight-get,
  weights-take_more,
  weights-take-le,
  AreParts-push,
  reach_of_parts,
  count_of_parts,
  count-layouts_from,
  times-le,
  minus-times,
)
