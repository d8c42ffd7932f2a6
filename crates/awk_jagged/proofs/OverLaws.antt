-- What is picked of rows, under the level that they are of.
use Rattle.std.specs.Prelude.{◌≡◌, ℕ, ◌+◌, ◌<◌, ◌^◌, refl, Bool, true, false, ◌||◌, List, length}
use Rattle.std.specs.Prelude.{map, Option, Some, None, is_some, IfSome, if◌then◌else◌}
use Rattle.std.specs.List.{range_with_len}
use Rattle.std.proofs.Common.{arith, ap, sym, ◌∙◌, subst}
use Rattle.awk_types.specs.DataType.{DataType, var}
use Rattle.awk_types.specs.Gives.{◌or◌}
use Rattle.awk_types.specs.Simple.{option_if}
use Rattle.awk_types.specs.Value.{Value, int, truth, null, list, row, alt, values_from}
use Rattle.awk_types.proofs.ItemLimits.{within_limit}
use Rattle.awk_lanes.specs.Column.{Column}
use Rattle.awk_lanes.specs.Counted.{before, offsets_by}
use Rattle.awk_lanes.specs.Places.{size_of, at, IsOptionalIndex}
use Rattle.awk_counts.proofs.ListLaws.{offsets-same}
use Rattle.awk_layout.specs.Item.{at_option}
use Rattle.awk_layout.specs.Layout.{Layout, offset_lists}
use Rattle.awk_layout.specs.Typing.{array_type, array_items}
use Rattle.awk_layout.specs.Valid.{len, IsValid}
use Rattle.awk_layout.proofs.ArrayItems.{length-array_items}
use Rattle.awk_gather.proofs.OptionItems.{item-optional}
use Rattle.awk_gather.specs.Arrays.{array_item}
use Rattle.awk_columns.proofs.ArrayLaws.{array_items-at}
use Rattle.awk_columns.proofs.ListNodes.{len-list}
use Rattle.awk_columns.specs.Lists.{Listed, length_of}
use Rattle.awk_jagged.specs.Jagged.{is_jagged, picked_items, row_by, size_refused}
use Rattle.awk_jagged_rows.specs.Levels.{AreRows, IsRowIndex, row_at, row_count, rows_before}
use Rattle.awk_jagged.specs.Outcomes.{ArePickedLists, AreTooMany, IsOutcome, IsOutcomeOf}
use Rattle.awk_jagged.specs.Over.{row_layout, Holds, CanHold, IsOver}
use Rattle.awk_jagged.specs.Pairs.{picks, picked_length}
use Rattle.awk_jagged_rows.specs.Sides.{sides, are_lists}
use Rattle.awk_jagged_rows.specs.Rows.{lists_by}
use Rattle.awk_jagged.specs.declared.leaves.Outcome.{Outcome}
use Rattle.awk_jagged.specs.declared.leaves.Outcome.TheVariants as outcome
use Rattle.awk_jagged_rows.specs.declared.levels.Rows.{Rows}
use Rattle.awk_jagged.proofs.FlatItems.{list-row, are-offsets, size-offsets, present-below}
use Rattle.awk_jagged_rows.proofs.FlatPlaces.{flat_within, IsIn, find}
use Rattle.awk_jagged_places.proofs.FlatLists.{length-each}
use Rattle.awk_jagged.proofs.PairLaws.{AreBelow, unrolls, even-up, uneven-up, have-up, lack-up}
use Rattle.awk_jagged.proofs.PairLaws.{picks-rows, length-picked, size-up}
use Rattle.awk_jagged.proofs.PickedTypes.{picked_typ}
use Rattle.awk_jagged_rows.proofs.SpanLaws.{list-items}

-- ---- one row

pub lists_row : (f : List Value → List Value → List Value) (v w : Value) → are_lists v w ≡ true
    → list (values_from (f (sides v w).0 (sides v w).1)) ≡ row_by f v w
lists_row f (list vs) (list ws) e = refl
lists_row f (list vs) (int z) e = absurd cc
lists_row f (list vs) (truth b) e = absurd cc
lists_row f (list vs) null e = absurd cc
lists_row f (list vs) (row ws) e = absurd cc
lists_row f (list vs) (alt k w) e = absurd cc
lists_row f (int z) w e = absurd cc
lists_row f (truth b) w e = absurd cc
lists_row f null w e = absurd cc
lists_row f (row vs) w e = absurd cc
lists_row f (alt k v) w e = absurd cc

null_row : (f : List Value → List Value → List Value) (v w : Value) → are_lists v w ≡ false
    → null ≡ row_by f v w
null_row f (list vs) (list ws) e = absurd cc
null_row f (list vs) (int z) e = refl
null_row f (list vs) (truth b) e = refl
null_row f (list vs) null e = refl
null_row f (list vs) (row ws) e = refl
null_row f (list vs) (alt k w) e = refl
null_row f (int z) w e = refl
null_row f (truth b) w e = refl
null_row f null w e = refl
null_row f (row vs) w e = refl
null_row f (alt k v) w e = refl

some_row : (f : List Value → List Value → List Value) (v w : Value) (g : ℕ → Value) (t : ℕ)
    (b : Bool) → are_lists v w ≡ b
    → g t ≡ list (values_from (f (sides v w).0 (sides v w).1))
    → at_option (if b then Some t else None) g ≡ row_by f v w
some_row f v w g t true e h = h ∙ lists_row f v w e
some_row f v w g t false e h = null_row f v w e

-- ---- all rows

pub below_of : (xs ws : Listed) (r : Rows) → AreRows xs ws r
    → is_jagged (array_type ws.content) ≡ true
    → AreBelow (array_type ws.content) (array_type r.ws.content) (lists_by xs) (lists_by ws)
    (size_of ws.starts) (length_of ws) (lists_by r.xs) (lists_by r.ws) (row_at xs) (row_at ws)
below_of xs ws r h j = record {
  unrolls = unrolls (array_type ws.content) (array_type r.ws.content) h.second j h.second_type;
  first = λ i p. list-items xs i
      ∙ ap (λ n. map (row_at xs i) (range_with_len 0 n)) (h.alike i p);
  second = λ i p. list-items ws i;
  rows = h.rows;
}

module _ (xs ws : Listed) (r : Rows) (h : AreRows xs ws r)
    (j : is_jagged (array_type ws.content) ≡ true) where
  abbrev n : ℕ
  n = size_of ws.starts

  abbrev u : DataType
  u = array_type ws.content

  abbrev v : DataType
  v = array_type r.ws.content

  abbrev m : ℕ
  m = row_count ws

  b : AreBelow u v (lists_by xs) (lists_by ws) n (length_of ws) (lists_by r.xs) (lists_by r.ws)
      (row_at xs) (row_at ws)
  b = below_of xs ws r h j

  abbrev made : ℕ → List Value
  made t = picked_items v (lists_by r.xs t) (lists_by r.ws t)

  abbrev picked : ℕ → ℕ → Value
  picked i k = row_by (picked_items v) (row_at xs i k) (row_at ws i k)

  -- the row that is made at a place
  made_row : (i k : ℕ) → i < n → k < length_of ws i
      → list (values_from (made (rows_before ws i + k)))
      ≡ list (values_from (picked_items v (sides (row_at xs i k) (row_at ws i k)).0
      (sides (row_at xs i k) (row_at ws i k)).1))
  made_row i k p q =
      ap (λ s. list (values_from (picked_items v s.0 s.1))) (h.rows i k p q)

  module _ (o : Column) (y : Layout) (valid : IsValid y) (items : array_items y ≡ picks v
      (lists_by r.xs) (lists_by r.ws) m)
      (eo : o ≡ offsets_by (picked_length v (lists_by r.xs) (lists_by r.ws)) m) where
    size : size_of o ≡ m + 1
    size = ap size_of eo ∙ size-offsets (picked_length v (lists_by r.xs) (lists_by r.ws)) m

    len_y : len y ≡ before (picked_length v (lists_by r.xs) (lists_by r.ws)) m
    len_y = sym (length-array_items y) ∙ ap length items ∙ length-each made m

    pub holds : (idx : Option Column) → IsRowIndex xs ws idx → Holds idx o y
    holds idx e = record {
      length = omega (arith, size, h.few);
      valid = rw (eo, len_y) (are-offsets (picked_length v (lists_by r.xs) (lists_by r.ws)) m);
      index = go idx e;
    }
      where
        go : (idx : Option Column) → IsRowIndex xs ws idx
            → IfSome idx (λ j. (size_of j < 2 ^ 63) × IsOptionalIndex j (len (offset_lists o y)))
        go None e = tt
        go (Some j) e = (
          omega (arith, e.size, h.few),
          record {
            kind = rw e.kind tt;
            below = λ t p.
                let s : IsIn (length_of ws) n t =
                find (length_of ws) n t (omega (arith, p, e.size)) in
                let w : rows_before ws s.list + s.item < len (offset_lists o y) =
                omega (
                  arith,
                  len-list None m o y size,
                  flat_within (length_of ws) n s.list s.item s.within s.below,
                ) in
                rw s.place (present-below (at j (rows_before ws s.list + s.item))
                (are_lists (row_at xs s.list s.item) (row_at ws s.list s.item))
                (rows_before ws s.list + s.item) (len (offset_lists o y))
                (e.places s.list s.item s.within s.below) w);
          },
        )

    row_item : (idx : Option Column) → IsRowIndex xs ws idx → (i k : ℕ) → i < n
        → k < length_of ws i
        → array_item (row_layout idx o y) (rows_before ws i + k) ≡ picked i k
    row_item None e i k p q =
        list-row y o made m (rows_before ws i + k) items eo
        (flat_within (length_of ws) n i k p q)
        ∙ made_row i k p q
        ∙ lists_row (picked_items v) (row_at xs i k) (row_at ws i k) (e i k p q)
    row_item (Some j) e i k p q =
        item-optional j (offset_lists o y) (rows_before ws i + k)
        ∙ ap (λ s. at_option s (array_item (offset_lists o y))) (e.places i k p q)
        ∙ some_row (picked_items v) (row_at xs i k) (row_at ws i k)
        (array_item (offset_lists o y)) (rows_before ws i + k)
        (are_lists (row_at xs i k) (row_at ws i k)) refl
        (list-row y o made m (rows_before ws i + k) items eo
        (flat_within (length_of ws) n i k p q) ∙ made_row i k p q)

    row_len : (idx : Option Column) → IsRowIndex xs ws idx → len (row_layout idx o y) ≡ m
    row_len None e = len-list None m o y size
    row_len (Some j) e = e.size

    row_typ : (idx : Option Column) (c : Bool) → is_some idx ≡ c
        → array_type (row_layout idx o y) ≡ option_if c (var (array_type y))
    row_typ None true e = absurd cc
    row_typ None false e = refl
    row_typ (Some j) true e = refl
    row_typ (Some j) false e = absurd cc

    row_valid : (idx : Option Column) → Holds idx o y → IsValid (row_layout idx o y)
    row_valid None g = (g.length, g.valid, valid)
    row_valid (Some j) g = (g.index.0, g.index.1, (g.length, g.valid, valid))

    row_items : (idx : Option Column) → IsRowIndex xs ws idx
        → array_items (row_layout idx o y) ≡ picks u (lists_by xs) (lists_by ws) n
    row_items idx e =
        array_items-at (row_layout idx o y)
        ∙ ap (λ k. map (array_item (row_layout idx o y)) (range_with_len 0 k)) (row_len idx e)
        ∙ picks-rows u v (lists_by xs) (lists_by ws) n (length_of ws) (lists_by r.xs)
        (lists_by r.ws) (row_at xs) (row_at ws) b (array_item (row_layout idx o y))
        (row_item idx e)

  size_at : size_refused u (picks u (lists_by xs) (lists_by ws) n)
      ≡ size_refused v (picks v (lists_by r.xs) (lists_by r.ws) m)
  size_at =
      size-up u v (lists_by xs) (lists_by ws) n (length_of ws) (lists_by r.xs) (lists_by r.ws)
      (row_at xs) (row_at ws) b
      ∙ ap (λ o. o or size_refused v (picks v (lists_by r.xs) (lists_by r.ws) m))
      (within_limit m h.few)

  lengths : (i : ℕ) → i < n → picked_length u (lists_by xs) (lists_by ws) i ≡ length_of ws i
  lengths = length-picked u v (lists_by xs) (lists_by ws) n (length_of ws) (lists_by r.xs)
      (lists_by r.ws) (row_at xs) (row_at ws) b

  pub picked-over : (o : Column) (y : Layout)
      → ArePickedLists (array_type r.xs.content) v (lists_by r.xs) (lists_by r.ws) m o y
      → ArePickedLists (array_type xs.content) u (lists_by xs) (lists_by ws) n r.offsets
      (row_layout r.index o y)
  picked-over o y a = record {
    even = even-up u v (lists_by xs) (lists_by ws) n (length_of ws) (lists_by r.xs)
        (lists_by r.ws) (row_at xs) (row_at ws) b a.even;
    have = have-up u v (lists_by xs) (lists_by ws) n (length_of ws) (lists_by r.xs)
        (lists_by r.ws) (row_at xs) (row_at ws) b a.have;
    few = size_at ∙ a.few;
    typ = picked_typ u v (array_type xs.content) (array_type r.xs.content) (array_type y) h.first
        h.second j h.second_type h.first_type a.typ
        ∙ ap (λ t. Some t) (sym (row_typ o y a.valid a.items a.offsets r.index
        (h.first || h.second) h.optional));
    valid = row_valid o y a.valid a.items a.offsets r.index
        (holds o y a.valid a.items a.offsets r.index h.index);
    offsets = h.offsets ∙ offsets-same (length_of ws)
        (picked_length u (lists_by xs) (lists_by ws)) n (λ i p. sym (lengths i p));
    items = row_items o y a.valid a.items a.offsets r.index h.index;
  }

  pub many-over : AreTooMany v (lists_by r.xs) (lists_by r.ws) m
      → AreTooMany u (lists_by xs) (lists_by ws) n
  many-over a = record {
    even = even-up u v (lists_by xs) (lists_by ws) n (length_of ws) (lists_by r.xs)
        (lists_by r.ws) (row_at xs) (row_at ws) b a.even;
    have = have-up u v (lists_by xs) (lists_by ws) n (length_of ws) (lists_by r.xs)
        (lists_by r.ws) (row_at xs) (row_at ws) b a.have;
    many = size_at ∙ a.many;
  }

  -- the outcome of the rows, by their own number
  below_here : (below : Outcome) → IsOutcomeOf r.xs r.ws below
      → IsOutcome (array_type r.xs.content) v (lists_by r.xs) (lists_by r.ws) m below
  below_here below o =
      subst (λ k. IsOutcome (array_type r.xs.content) v (lists_by r.xs) (lists_by r.ws) k below)
      h.second_size o

  pub can-hold : (below : Outcome) → IsOutcomeOf r.xs r.ws below → CanHold r.index below
  can-hold outcome.Uneven o = tt
  can-hold outcome.Outside o = tt
  can-hold outcome.TooMany o = tt
  can-hold (outcome.Lists c y) o =
      let a = below_here (outcome.Lists c y) o in
      holds c y a.valid a.items a.offsets r.index h.index

  pub outcome-over : (below made : Outcome) → IsOutcomeOf r.xs r.ws below → IsOver r below made
      → IsOutcomeOf xs ws made
  outcome-over outcome.Uneven made o e =
      subst (IsOutcomeOf xs ws) (sym e)
      (uneven-up u v (lists_by xs) (lists_by ws) n (length_of ws) (lists_by r.xs)
      (lists_by r.ws) (row_at xs) (row_at ws) b (below_here outcome.Uneven o))
  outcome-over outcome.Outside made o e =
      let a = below_here outcome.Outside o in
      subst (IsOutcomeOf xs ws) (sym e) (
        even-up u v (lists_by xs) (lists_by ws) n (length_of ws) (lists_by r.xs)
            (lists_by r.ws) (row_at xs) (row_at ws) b a.0,
        lack-up u v (lists_by xs) (lists_by ws) n (length_of ws) (lists_by r.xs)
            (lists_by r.ws) (row_at xs) (row_at ws) b a.1,
      )
  outcome-over outcome.TooMany made o e =
      subst (IsOutcomeOf xs ws) (sym e) (many-over (below_here outcome.TooMany o))
  outcome-over (outcome.Lists c y) made o e =
      subst (IsOutcomeOf xs ws) (sym e) (picked-over c y (below_here (outcome.Lists c y) o))
