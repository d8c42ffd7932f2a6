-- Rows of histograms, by their lanes.
use Rattle.std.proofs.Common.{◌≡◌, ℕ, ◌+◌, ◌-◌, ◌*◌, ◌<◌, List, [], ◌∷◌, length, map, get_or}
use Rattle.std.proofs.Common.{refl, ap, ap₂, sym, ◌∙◌, arith, subst}
use Rattle.std.specs.Prelude.{ℤ, pos, Some, ◌^◌, true, ◌≢◌}
use Rattle.std.specs.List.{range_with_len}
use Rattle.std.proofs.lemmas.Int.{ints}
use Rattle.std.proofs.lemmas.List.{length-map}
use Rattle.std.proofs.lemmas.List.Edits.{length-between}
use Rattle.std.proofs.lemmas.List.FromFn.{fill_by_all, get_or-map-range_with_len}
use Rattle.std.proofs.lemmas.Simd.{map-map}
use Rattle.awk_types.specs.DataType.{DataType, unknown, leaf, var, reg, rec, tup, opt, uni}
use Rattle.awk_types.specs.Parts.{number_of}
use Rattle.awk_types.specs.Predicates.{is_leaf}
use Rattle.awk_types.specs.Simple.{present, simple_value}
use Rattle.awk_types.specs.Value.{Value, null, list, row, value_list, values_from}
use Rattle.awk_types.specs.WholeNumbers.{is_numbers}
use Rattle.awk_types.specs.declared.primitive.Primitive.{Primitive}
use Rattle.awk_types.specs.declared.primitive.Primitive.TheVariants as primitive
use Rattle.awk_types.proofs.Trees.{values_from-list}
use Rattle.awk_types.proofs.TypeShapes.{numbers_leaf}
use Rattle.awk_lanes.specs.Column.{Column}
use Rattle.awk_lanes.specs.Counted.{before, items_lane, offsets_by}
use Rattle.awk_lanes.specs.Made.{lane_of}
use Rattle.awk_lanes.specs.Numbers.{element}
use Rattle.awk_lanes.specs.Places.{size_of, place_at, IsOffsets}
use Rattle.awk_lanes.specs.declared.kind.Kind.TheVariants.{I64}
use Rattle.awk_lanes.specs.declared.kind.Kind.TheVariants as kind
use Rattle.awk_lanes.proofs.CountedLanes.{before-next, before_mono, length-numbers}
use Rattle.awk_lanes.proofs.CountedLanes.{numbers-at, place-offsets, before-equal}
use Rattle.awk_lanes.proofs.MadeLanes.{at-lane_of, size-lane_of}
use Rattle.awk_layout.specs.Item.{item, run, leaf_value}
use Rattle.awk_layout.specs.Kinds.{kind_of}
use Rattle.awk_layout.specs.Layout.{Layout, flat, offset_lists, rows, layouts_from}
use Rattle.awk_layout.specs.Typing.{array_type, array_items}
use Rattle.awk_layout.specs.Valid.{len, IsValid, AllReach}
use Rattle.awk_gather.specs.Arrays.{array_item}
use Rattle.awk_layout.proofs.Runs.{length-run, value_list-run}
use Rattle.awk_list_functions.specs.Made.{IsColumn}
use Rattle.awk_numbers.specs.Folds.{lane_numbers}
use Rattle.awk_parts.specs.Parts.{AreRising, AreParts, part_at}
use Rattle.awk_present.specs.Numbers.{leaf_of}
use Rattle.awk_present.specs.Present.{ArePresent, list_at}
use Rattle.awk_present.specs.declared.present.Present.{Present}
use Rattle.awk_columns.specs.Columns.{present_values}
use Rattle.awk_bins.specs.Bins.{intervals, count_in, interval_counts, count_under, count_over}
use Rattle.awk_bins.specs.Bins.{AreBinned}
use Rattle.awk_bins.specs.declared.bins.Binned.{Binned}
use Rattle.awk_hist.specs.Bins.{bin_names, bins_type, count_value, count_nulls, bins_row, bins_and}
use Rattle.awk_hist.specs.Lists.{AreItems, AreNullsReady, null_count, null_lane}
use Rattle.awk_hist.specs.Rows.{bins_fields, bins_layout, AreOfSizes}
use Rattle.awk_hist.proofs.InnermostLaws.{present_few}

-- ---- rows

row_same : (a b c d e f g h : Value) → a ≡ e → b ≡ f → c ≡ g → d ≡ h
    → row (values_from (a ∷ b ∷ c ∷ d ∷ [])) ≡ row (values_from (e ∷ f ∷ g ∷ h ∷ []))
row_same a b c d e f g h p q r s =
    ap (λ x. row (values_from (x ∷ b ∷ c ∷ d ∷ []))) p
    ∙ ap (λ x. row (values_from (e ∷ x ∷ c ∷ d ∷ []))) q
    ∙ ap (λ x. row (values_from (e ∷ f ∷ x ∷ d ∷ []))) r
    ∙ ap (λ x. row (values_from (e ∷ f ∷ g ∷ x ∷ []))) s

run_by : (h f : ℕ → Value) (a n : ℕ) → ((j : ℕ) → j < n → h (a + j) ≡ f j)
    → run h a n ≡ values_from (map f (range_with_len 0 n))
run_by h f a n e =
    sym (values_from-list (run h a n))
    ∙ ap values_from (fill_by_all f (value_list (run h a n)) n null (length-run h a n)
    (λ k p. ap (λ xs. get_or xs k null) (value_list-run h a n)
    ∙ get_or-map-range_with_len h a n k (a + k) null p refl ∙ e k p))

module _ (es : List ℤ) (zs : ℕ → List ℤ) (nulls : ℕ → ℕ) (n : ℕ) where
  abbrev lengths : ℕ → ℕ
  lengths i = intervals es

  abbrev counts : Column
  counts = items_lane I64 lengths (λ i j. pos (count_in es (zs i) j)) n

  abbrev column : (ℕ → ℕ) → Column
  column f = lane_of I64 n (λ i. pos (f i))

  abbrev pub rows_made : Layout
  rows_made =
      rows (Some bin_names) n
      (layouts_from (offset_lists (offsets_by lengths n) (flat counts)
      ∷ flat (column (λ i. count_under es (zs i))) ∷ flat (column (λ i. count_over es (zs i)))
      ∷ flat (column nulls) ∷ []))

  value_at : (f : ℕ → ℕ) (i : ℕ) → i < n → item (flat (column f)) i ≡ count_value (f i)
  value_at f i l = ap (leaf_value I64) (at-lane_of I64 n (λ i. pos (f i)) i l)

  counts_at : (i : ℕ) → i < n → item (offset_lists (offsets_by lengths n) (flat counts)) i
      ≡ list (values_from (map count_value (interval_counts es (zs i))))
  counts_at i l =
      let k : ℕ = intervals es in
      let first = place-offsets lengths n i (omega (arith, l)) in
      let next = place-offsets lengths n (i + 1) (omega (arith, l)) in
      let long : place_at (offsets_by lengths n) (i + 1) - place_at (offsets_by lengths n) i ≡ k =
      omega (arith, first, next, before-next lengths i) in
      ap list
      (ap₂ (λ a b. run (item (flat counts)) a b) first long
      ∙ run_by (item (flat counts)) (λ j. count_value (count_in es (zs i) j)) (before lengths i) k
      (λ j m. ap (leaf_value I64)
      (numbers-at lengths (λ i j. pos (count_in es (zs i) j)) i j n l m))
      ∙ ap values_from (sym (map-map count_value (count_in es (zs i)) (range_with_len 0 k))))

  row_at : (i : ℕ) → i < n → item rows_made i ≡ bins_row es (zs i) (nulls i)
  row_at i l =
      row_same (item (offset_lists (offsets_by lengths n) (flat counts)) i)
      (item (flat (column (λ i. count_under es (zs i)))) i)
      (item (flat (column (λ i. count_over es (zs i)))) i) (item (flat (column nulls)) i)
      (list (values_from (map count_value (interval_counts es (zs i)))))
      (count_value (count_under es (zs i))) (count_value (count_over es (zs i)))
      (count_value (nulls i)) (counts_at i l) (value_at (λ i. count_under es (zs i)) i l)
      (value_at (λ i. count_over es (zs i)) i l) (value_at nulls i l)

  pub rows_column : IsValid rows_made
      → IsColumn bins_type (λ i. bins_row es (zs i) (nulls i)) n rows_made
  rows_column v = record {
    valid = v;
    size = refl;
    typ = refl;
    items = λ i l. ap (simple_value bins_type) (row_at i l);
  }

-- ---- of lists

prim_numbers : (p : Primitive) → is_numbers (leaf p) ≡ true → kind_of p ≡ kind.Bool → ⊥
prim_numbers primitive.Bool h e = cc
prim_numbers primitive.I8 h e = cc
prim_numbers primitive.I16 h e = cc
prim_numbers primitive.I32 h e = cc
prim_numbers primitive.I64 h e = cc
prim_numbers primitive.U8 h e = cc
prim_numbers primitive.U16 h e = cc
prim_numbers primitive.U32 h e = cc
prim_numbers primitive.U64 h e = cc

option_numbers : (t : DataType) → is_numbers t ≡ true → kind_of (leaf_of (opt t)) ≡ kind.Bool → ⊥
option_numbers unknown h e = cc
option_numbers (leaf p) h e = prim_numbers p h e
option_numbers (var t) h e = cc
option_numbers (reg n t) h e = cc
option_numbers (rec ns ts) h e = cc
option_numbers (tup ts) h e = cc
option_numbers (opt t) h e = cc
option_numbers (uni ts) h e = cc

numbers_kind : (t : DataType) → is_numbers (present t) ≡ true → kind_of (leaf_of t) ≡ kind.Bool → ⊥
numbers_kind unknown h e = cc
numbers_kind (leaf p) h e = prim_numbers p h e
numbers_kind (var t) h e = cc
numbers_kind (reg n t) h e = cc
numbers_kind (rec ns ts) h e = cc
numbers_kind (tup ts) h e = cc
numbers_kind (opt t) h e = option_numbers t h e
numbers_kind (uni ts) h e = cc

module _ (z : Layout) (o : Column) (n : ℕ) (x : AreItems z o n) where
  pub are_leaves : is_leaf (present (array_type z)) ≡ true
  are_leaves = numbers_leaf (present (array_type z)) x.numbers

  module _ (p : Present) (r : ArePresent z o n p) where
    abbrev all : List ℤ
    all = lane_numbers p.lane

    abbrev vs : ℕ → List Value
    vs i = list_at (array_items z) o i

    pub kind_numbers : p.lane.kind ≢ kind.Bool
    kind_numbers e = numbers_kind (array_type z) x.numbers (sym r.kind ∙ e)

    numbers-count : length all ≡ size_of p.lane
    numbers-count = length-map p.lane.items (element p.lane.kind)

    pub number_parts : AreParts all p.offsets n
    number_parts = record {
      rising = subst (AreRising p.offsets n) (sym numbers-count) r.rising;
      few = omega (arith, numbers-count, r.few, x.few);
    }

    whole-count : (i : ℕ) → i < n → length (vs i) ≡ place_at o (i + 1) - place_at o i
    whole-count i l =
        length-between (array_items z) (place_at o i) (place_at o (i + 1))
        (x.rising.within (i + 1) (omega (arith, l)))

    part-count : (i : ℕ) → i < n
        → length (part_at all p.offsets i) ≡ place_at p.offsets (i + 1) - place_at p.offsets i
    part-count i l =
        length-between all (place_at p.offsets i) (place_at p.offsets (i + 1))
        (omega (arith, numbers-count, r.rising.within (i + 1) (omega (arith, l))))

    present-count : (i : ℕ) → i < n
        → length (part_at all p.offsets i) ≡ length (present_values (vs i))
    present-count i l =
        ap length (r.parts i l) ∙ length-map (present_values (vs i)) number_of

    pub nulls_counted : (more i : ℕ) → i < n
        → null_count o p.offsets more i ≡ count_nulls (vs i) + more
    nulls_counted more i l =
        omega (
          arith,
          whole-count i l,
          part-count i l,
          present-count i l,
          present_few (vs i),
        )

    pub nulls_ready : AreNullsReady o p.offsets n
    nulls_ready = record {
      all = record {
        kind = x.rising.kind;
        size = x.rising.size;
        positive = x.rising.positive;
        ordered = x.rising.ordered;
        within = λ i l. omega (arith, x.rising.within i l, x.few);
      };
      some = record {
        kind = r.rising.kind;
        size = r.rising.size;
        positive = r.rising.positive;
        ordered = r.rising.ordered;
        within = λ i l. omega (arith, r.rising.within i l, r.few, x.few);
      };
      fewer = λ i l.
          omega (
            arith,
            whole-count i l,
            part-count i l,
            present-count i l,
            present_few (vs i),
          );
    }

    module _ (es : List ℤ) (more : ℕ) (b : Binned) (h : AreBinned es (part_at all p.offsets) n b)
      where
        counts-size : size_of b.counts ≡ n * intervals es
        counts-size =
            ap size_of h.counts
            ∙ length-numbers (λ i. intervals es)
            (λ i k. pos (count_in es (part_at all p.offsets i) k)) n
            ∙ before-equal (intervals es) n

        under-size : size_of b.under ≡ n
        under-size =
            ap size_of h.under ∙ size-lane_of I64 n
            (λ i. pos (count_under es (part_at all p.offsets i)))

        over-size : size_of b.over ≡ n
        over-size =
            ap size_of h.over ∙ size-lane_of I64 n
            (λ i. pos (count_over es (part_at all p.offsets i)))

        abbrev layout_of : (a b c d : Column) → Layout
        layout_of a b c d =
            rows (Some bin_names) n
            (layouts_from (offset_lists (offsets_by (λ i. intervals es) n) (flat a)
            ∷ flat b ∷ flat c ∷ flat d ∷ []))

        pub of_sizes : (q : Column) → q ≡ null_lane o p.offsets more n → n * intervals es < 2 ^ 63
            → AreOfSizes b q n (intervals es)
        of_sizes q qe few = record {
          counts = counts-size;
          under = under-size;
          over = over-size;
          nulls = ap size_of qe ∙ size-lane_of I64 n (λ i. pos (null_count o p.offsets more i));
          few = few;
          fits = x.fits;
        }

        layouts_same : (a b c d e f g h : Column) → a ≡ e → b ≡ f → c ≡ g → d ≡ h
            → layout_of a b c d ≡ layout_of e f g h
        layouts_same a b c d e f g h p q r s =
            ap (λ x. layout_of x b c d) p ∙ ap (λ x. layout_of e x c d) q
            ∙ ap (λ x. layout_of e f x d) r ∙ ap (layout_of e f g) s

        pub binned_column : (q : Column) (y : Layout) → q ≡ null_lane o p.offsets more n
            → y ≡ bins_layout n (intervals es) b q → IsValid y
            → IsColumn bins_type (λ i. bins_and more es (vs i)) n y
        binned_column q y qe ye valid =
            let zs : ℕ → List ℤ = part_at all p.offsets in
            let nulls : ℕ → ℕ = null_count o p.offsets more in
            let same : y ≡ rows_made es zs nulls n =
            ye
            ∙ layouts_same b.counts b.under b.over q
            (items_lane I64 (λ i. intervals es) (λ i k. pos (count_in es (zs i) k)) n)
            (lane_of I64 n (λ i. pos (count_under es (zs i))))
            (lane_of I64 n (λ i. pos (count_over es (zs i)))) (null_lane o p.offsets more n)
            h.counts h.under h.over qe in
            let made = rows_column es zs nulls n (subst IsValid same valid) in
            record {
              valid = valid;
              size = ap len same ∙ made.size;
              typ = ap array_type same ∙ made.typ;
              items = λ i l.
                  ap (λ w. array_item w i) same ∙ made.items i l
                  ∙ ap (simple_value bins_type)
                  (ap₂ (bins_row es) (r.parts i l) (nulls_counted more i l));
            }

-- ---- lists of one length

pub even_offsets : (k n w : ℕ) → w ≡ n * k → IsOffsets (offsets_by (λ i. k) n) w
even_offsets k n w e = record {
  kind = tt;
  some = omega (arith, size-lane_of I64 (n + 1) (λ i. pos (before (λ j. k) i)));
  ordered = λ i l.
      let s = size-lane_of I64 (n + 1) (λ i. pos (before (λ j. k) i)) in
      let here = at-lane_of I64 (n + 1) (λ i. pos (before (λ j. k) i)) i (omega (arith, l, s)) in
      let next =
      at-lane_of I64 (n + 1) (λ i. pos (before (λ j. k) i)) (i + 1) (omega (arith, l, s)) in
      let up = before_mono (λ j. k) i (i + 1) (omega arith) in
      let last = before_mono (λ j. k) (i + 1) n (omega (arith, l, s)) in
      rw (here, next) (λ d. (
        omega (arith, ints),
        omega (arith, ints, up),
        omega (arith, ints, last, before-equal k n, e),
      ));
}

pub fields_reach : (n k : ℕ) (b : Binned) (q : Column) → AreOfSizes b q n k
    → AllReach n (layouts_from (bins_fields n k b q))
fields_reach n k b q h = (
  omega (arith, size-lane_of I64 (n + 1) (λ i. pos (before (λ j. k) i))),
  (omega (arith, h.under), (omega (arith, h.over), (omega (arith, h.nulls), tt))),
)
