-- Arrays whose lanes are those of their outermost kind.
use Rattle.std.proofs.Common.{◌≡◌, ℕ, ◌+◌, ◌-◌, ◌*◌, ◌<◌, ◌≤◌, ◌^◌, arith, refl, ap, ap₂, sym, ◌∙◌}
use Rattle.std.proofs.Common.{subst, take, suc, zero, add-one, slice_get, Some, List, [], ◌∷◌}
use Rattle.std.specs.Prelude.{Option, None}
use Rattle.std.proofs.lemmas.Int.{ints}
use Rattle.awk_types.specs.DataType.{Name}
use Rattle.awk_types.specs.Value.{list}
use Rattle.awk_lanes.specs.Column.{Column}
use Rattle.awk_lanes.specs.Counted.{before, offsets_by}
use Rattle.awk_lanes.specs.Cut.{cut_of}
use Rattle.awk_lanes.specs.Numbers.{nat_of}
use Rattle.awk_lanes.specs.Places.{at, place_at, size_of, AreSpans, IsOffsets}
use Rattle.awk_lanes.proofs.CountedLanes.{before-equal, place-offsets}
use Rattle.awk_lanes.proofs.CutLaws.{size-cut, at-cut}
use Rattle.awk_layout.specs.Item.{run}
use Rattle.awk_layout.specs.Laws.{len-fits}
use Rattle.awk_layout.specs.Layout.{Layout, layouts_from, flat, regular, lists, offset_lists, rows}
use Rattle.awk_layout.specs.Valid.{len, IsValid}
use Rattle.awk_gather.specs.Arrays.{array_item}
use Rattle.awk_columns.specs.Joined.{AreOffsets}
use Rattle.awk_columns.specs.Lists.{AreInRow}
use Rattle.awk_columns.specs.ListValues.{list_at}
use Rattle.awk_columns.proofs.ArrayLaws.{item-offset_lists}
use Rattle.awk_columns.proofs.OffsetLaws.{are_offsets}
use Rattle.awk_open.specs.Opened.{IsOpened, AreLong}
use Rattle.awk_open.specs.declared.opening.Opened.TheVariants.{Leaf, Row}
use Rattle.awk_open.proofs.OpenedKinds.{item-lists, item-regular, item-rows, type-rows, within_at}
use Rattle.awk_open.proofs.OpenedKinds.{items_of}
use Rattle.awk_open.proofs.OpenedArrays.{regular_within, rows_within}

pub whole_leaf : (c : Column) (x : Layout) → flat c ≡ x → IsValid x → IsOpened x (Leaf c)
whole_leaf c x e v =
    subst (λ (y : Layout). IsOpened y (Leaf c)) e
    (record {
      kind = refl;
      size = refl;
      valid = subst IsValid (sym e) v;
      lengths = tt;
      items =
          λ i k. refl;
    })

pub whole_lists : (s t a b : Column) (x z : Layout) → IsValid (lists s t x) → z ≡ x → a ≡ s → b ≡ t
    → IsOpened (lists s t x) (items_of None a b z)
whole_lists s t a b x z v e f h =
    rw (e, f, h) (record {
      kind = refl;
      size = refl;
      valid = v;
      lengths = tt;
      items = λ i k.
          item-lists s t x i;
    })

-- ---- offsets as starts and stops

starts-at : (o : Column) (i : ℕ) → i + 1 < size_of o → at (cut_of o 0 (size_of o - 1)) i ≡ at o i
starts-at o i h =
    let e : 0 + i ≡ i = omega arith in at-cut o 0 (size_of o - 1) i (omega arith) ∙ ap (at o) e

stops-at : (o : Column) (i : ℕ) → i + 1 < size_of o → at (cut_of o 1 (size_of o)) i ≡ at o (i + 1)
stops-at o i h =
    let e : 1 + i ≡ i + 1 = omega arith in at-cut o 1 (size_of o) i (omega arith) ∙ ap (at o) e

spans-cut : (o : Column) (n : ℕ) → IsOffsets o n
    → AreSpans (cut_of o 0 (size_of o - 1)) (cut_of o 1 (size_of o)) n
spans-cut o n v =
    let some : 0 < size_of o = v.some in
    let a : size_of (cut_of o 0 (size_of o - 1)) ≡ size_of o - 1 - 0 = size-cut o 0 (size_of o - 1)
    (omega arith) (omega arith) in
    let b : size_of (cut_of o 1 (size_of o)) ≡ size_of o - 1 = size-cut o 1 (size_of o)
    (omega arith) (omega arith) in
    record {
      start_kind = v.kind;
      stop_kind = v.kind;
      same_size = omega (arith, a, b);
      ordered = λ i k.
          let l : i + 1 < size_of o = omega (arith, a) in
          rw (starts-at o i l, stops-at o i l) (v.ordered i l);
    }

-- where one list ends the next begins
row-cut : (o : Column) (m : ℕ) → m + 1 ≡ size_of o → AreInRow (cut_of o 0 m) (cut_of o 1 (m + 1))
row-cut o m e i l =
    let long = size-cut o 0 m (omega arith) (omega (arith, e)) in
    let next : 0 + (i + 1) ≡ 1 + i = omega arith in
    at-cut o 0 m (i + 1) (omega (arith, l, long)) ∙ ap (at o) next
    ∙ sym (at-cut o 1 (m + 1) i (omega (arith, l, long)))

pub cut_in_row : (o a b : Column) (m n : ℕ) → n ≡ m + 1 → n ≡ size_of o → a ≡ cut_of o 0 m
    → b ≡ cut_of o 1 n → AreInRow a b
cut_in_row o a b m n e f g h = rw (g, h, e) (row-cut o m (omega (arith, e, f)))

pub whole_offsets : (o a b : Column) (n : ℕ) (x z : Layout) → IsValid (offset_lists o x) → z ≡ x
    → n ≡ size_of o → a ≡ cut_of o 0 (n - 1) → b ≡ cut_of o 1 n
    → IsOpened (offset_lists o x) (items_of None a b z)
whole_offsets o a b n x z v e m f h =
    let some : 0 < size_of o = v.1.some in
    let long : size_of (cut_of o 0 (size_of o - 1)) ≡ size_of o - 1 - 0 = size-cut o 0
    (size_of o - 1) (omega arith) (omega arith) in
    rw (e, f, h, m) (record {
      kind = refl;
      size = omega (arith, long);
      valid = (omega (arith, long, v.0), spans-cut o (len x) v.1, v.2);
      lengths = tt;
      items = λ i k.
          let l : i + 1 < size_of o = omega arith in
          rw (starts-at o i l, stops-at o i l) (item-offset_lists o x i);
    })

-- ---- lists of one size

item-spans : (size n : ℕ) (x : Layout) (a b : Column) (i : ℕ) → place_at a i ≡ i * size
    → place_at b i ≡ i * size + size → array_item (regular size n x) i ≡ list_at a b x i
item-spans size n x a b i e f =
    let long : place_at b i - place_at a i ≡ size = omega (arith, e, f) in
    item-regular size n x i
    ∙ ap₂ (λ first k. list (run (array_item x) first k)) (sym e) (sym long)

module _ (size n : ℕ) (x : Layout) (v : IsValid (regular size n x)) where
  abbrev even : Column
  even = offsets_by (λ k. size) n

  pub even-total : before (λ k. size) n < 2 ^ 63
  even-total = omega (arith, before-equal size n, v.1, len-fits x v.2)

  even-offsets : AreOffsets even n (before (λ k. size) n)
  even-offsets = are_offsets (λ k. size) n v.0

  pub even-size : (o : Column) → o ≡ even → size_of o ≡ n + 1
  even-size o e = ap size_of e ∙ even-offsets.size

  even-within : IsOffsets even (len x)
  even-within = record {
    kind = even-offsets.offsets.kind;
    some = even-offsets.offsets.some;
    ordered = λ i p d.
        let f = even-offsets.offsets.ordered i p d in
        (f.0, f.1, omega (arith, ints, f.2, before-equal size n, v.1));
  }

  even-lists : IsValid (offset_lists even x)
  even-lists = (omega (arith, even-offsets.size, v.0), even-within, v.2)

  even-place : (i : ℕ) → i ≤ n → place_at even i ≡ i * size
  even-place i p = place-offsets (λ k. size) n i p ∙ before-equal size i

  starts-place : (i : ℕ) → i < n → place_at (cut_of even 0 n) i ≡ i * size
  starts-place i p =
      let e : 0 + i ≡ i = omega arith in
      ap nat_of (at-cut even 0 n i (omega (arith, p)) ∙ ap (at even) e)
      ∙ even-place i (omega (arith, p))

  stops-place : (i : ℕ) → i < n → place_at (cut_of even 1 (n + 1)) i ≡ i * size + size
  stops-place i p =
      let e : 1 + i ≡ i + 1 = omega arith in
      let next : (i + 1) * size ≡ i * size + size = grind arith in
      ap nat_of (at-cut even 1 (n + 1) i (omega (arith, p)) ∙ ap (at even) e)
      ∙ even-place (i + 1) (omega (arith, p)) ∙ next

  size-starts : size_of (cut_of even 0 n) ≡ n
  size-starts = size-cut even 0 n (omega arith) (omega (arith, even-offsets.size)) ∙ omega arith

  as-offsets : IsOpened (offset_lists even x) (items_of None (cut_of even 0 n)
      (cut_of even 1 (n + 1)) x)
  as-offsets =
      let e : n ≡ n + 1 - 1 = omega arith in
      whole_offsets even (cut_of even 0 n) (cut_of even 1 (n + 1)) (n + 1) x x even-lists refl
      (sym even-offsets.size) (ap (cut_of even 0) e) refl

  even-opened : IsOpened (regular size n x) (items_of (Some size) (cut_of even 0 n)
      (cut_of even 1 (n + 1)) x)
  even-opened = record {
    kind = refl;
    size = size-starts;
    valid = as-offsets.valid;
    lengths = λ i p.
        let q : i < n = omega (arith, p, size-starts) in
        omega (arith, starts-place i q, stops-place i q);
    items = λ i p.
        item-spans size n x (cut_of even 0 n) (cut_of even 1 (n + 1)) i (starts-place i p)
        (stops-place i p);
  }

pub whole_regular : (size n : ℕ) (o a b : Column) (x z : Layout) → IsValid (regular size n x)
    → z ≡ x → o ≡ offsets_by (λ k. size) n → a ≡ cut_of o 0 n → b ≡ cut_of o 1 (n + 1)
    → IsOpened (regular size n x) (items_of (Some size) a b z)
whole_regular size n o a b x z v e f h k = rw (h, k, f, e) (even-opened size n x v)

-- ---- rows

pub whole_rows : (names others : Option (List Name)) (n : ℕ) (xs ys : List Layout)
    → IsValid (rows names n (layouts_from xs)) → AreLong n xs → others ≡ names → ys ≡ xs
    → IsOpened (rows names n (layouts_from xs)) (Row others ys)
whole_rows names others n xs ys v h e f = rw (e, f) (record {
  kind = type-rows names n xs;
  size = refl;
  valid = v;
  lengths = h;
  items = λ i k. item-rows names n xs i;
})

long_suc : (n : ℕ) (xs : List Layout) (i : ℕ) (y : Layout) → slice_get xs i ≡ Some y
    → AreLong n (take i xs) → len y ≡ n → AreLong n (take (suc i) xs)
long_suc n [] i y e h p = cc
long_suc n (x ∷ xs) zero y e h p = let f : x ≡ y = cc in (rw f p, tt)
long_suc n (x ∷ xs) (suc i) y e h p = (h.0, long_suc n xs i y e h.1 p)

pub AreLong-push : (n : ℕ) (xs : List Layout) (i : ℕ) (y : Layout) → slice_get xs i ≡ Some y
    → AreLong n (take i xs) → len y ≡ n → AreLong n (take (i + 1) xs)
AreLong-push n xs i y e h p = rw add-one (long_suc n xs i y e h p)

pub ruleset whole =
    (whole_leaf, whole_rows, AreLong-push, within_at, rows_within, regular_within)
