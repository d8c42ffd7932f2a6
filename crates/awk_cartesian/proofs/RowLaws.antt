-- The rows of operands, one operand after another.
use Rattle.std.specs.Prelude.{◌≡◌, refl, ℕ, ◌+◌, ◌<◌, ◌≤◌, Bool, true, false, ◌&&◌, ◌||◌}
use Rattle.std.specs.Prelude.{nat_lt, List, [], ◌∷◌, ◌++◌, length, map, get_or, Option, Some, None}
use Rattle.std.specs.Prelude.{is_some, take, ℤ}
use Rattle.std.specs.List.{range_with_len, list_all}
use Rattle.std.proofs.Common.{arith, ap, ap₂, sym, ◌∙◌, subst, ltb-true}
use Rattle.std.proofs.lemmas.Bool.{ltb-false}
use Rattle.std.proofs.lemmas.List.{take_all, length-append, map-append, get_or_append_left}
use Rattle.std.proofs.lemmas.List.{get_or_push}
use Rattle.std.proofs.lemmas.List.Folds.{list_all-append, list_any-append}
use Rattle.std.proofs.lemmas.List.FromFn.{map-range_with_len_more}
use Rattle.std.proofs.Math.Bool.{or-true, or-false, and-true}
use Rattle.awk_base.proofs.Ranges.{map-same}
use Rattle.awk_types.specs.DataType.{DataType}
use Rattle.awk_types.specs.Datum as shown
use Rattle.awk_types.specs.Value.{Value, null}
use Rattle.awk_lanes.specs.declared.kind.Kind.TheVariants.{I64}
use Rattle.awk_lanes.specs.Column.{Column, no_places}
use Rattle.awk_lanes.specs.Places.{option_place}
use Rattle.awk_lanes.proofs.MadeLanes.{size-lane_of, at-lane_of}
use Rattle.awk_layout.specs.Datum.{datum_of}
use Rattle.awk_layout.specs.Layout.{empty}
use Rattle.awk_layout.specs.Typing.{array_type}
use Rattle.awk_layout.specs.declared.datum.Datum.{Datum}
use Rattle.awk_columns.specs.Columns.{is_present, list_items}
use Rattle.awk_unify.specs.FieldNames.{with_type}
use Rattle.awk_merge_operands.specs.Concatenate.{row_of}
use Rattle.awk_merge_operands.specs.Operands.{list_place, IndexesAll}
use Rattle.awk_merge_operands.specs.declared.operands.Axis.{Axis}
use Rattle.awk_cartesian.specs.Cartesian.{operand_item, item_types}
use Rattle.awk_products.specs.Sources.{IsSource, source_list, AreSources, list_in, lists_in}
use Rattle.awk_cartesian.specs.Sources.{rows_in, may_be_null, IsOpened, present_place}
use Rattle.awk_cartesian.specs.Sources.{AreBoth, AreRows, pushed}
use Rattle.awk_cartesian.specs.Spans.{place_in_both, both_lane}
use Rattle.awk_cartesian.specs.declared.sources.Source.{Source}
use Rattle.awk_products.specs.declared.sources.Sources.{Sources}
use Rattle.awk_cartesian.specs.declared.rows.Rows.{Rows}

-- ---- one source more

module _ (n : ℕ) (x : Sources) (s : Source) (h : AreSources n x) where
  abbrev k : ℕ
  k = length x.contents

  abbrev y : Sources
  y = pushed x s

  first-old : (j : ℕ) → j < k → get_or y.firsts j no_places ≡ get_or x.firsts j no_places
  first-old j p =
      get_or_append_left x.firsts (s.first ∷ []) no_places j (omega (arith, p, h.firsts))

  length-old : (j : ℕ) → j < k → get_or y.lengths j no_places ≡ get_or x.lengths j no_places
  length-old j p =
      get_or_append_left x.lengths (s.length ∷ []) no_places j (omega (arith, p, h.lengths))

  content-old : (j : ℕ) → j < k → get_or y.contents j empty ≡ get_or x.contents j empty
  content-old j p = get_or_append_left x.contents (s.content ∷ []) empty j p

  first-new : get_or y.firsts k no_places ≡ s.first
  first-new = get_or_push x.firsts s.first no_places k h.firsts

  length-new : get_or y.lengths k no_places ≡ s.length
  length-new = get_or_push x.lengths s.length no_places k h.lengths

  content-new : get_or y.contents k empty ≡ s.content
  content-new = get_or_push x.contents s.content empty k refl

  pub more_sources : IsSource n s.first s.length s.content → AreSources n y
  more_sources a = record {
    firsts = omega (
      arith,
      length-append x.firsts (s.first ∷ []),
      length-append x.contents (s.content ∷ []),
      h.firsts,
    );
    lengths = omega (
      arith,
      length-append x.lengths (s.length ∷ []),
      length-append x.contents (s.content ∷ []),
      h.lengths,
    );
    each = λ j p. go j (omega (arith, p, length-append x.contents (s.content ∷ []))) (nat_lt j k)
        refl;
  }
    where
      go : (j : ℕ) → j < k + 1 → (b : Bool) → nat_lt j k ≡ b
          → IsSource n (get_or y.firsts j no_places) (get_or y.lengths j no_places)
          (get_or y.contents j empty)
      go j p true e =
          let l : j < k = ltb-true j k e in
          rw (first-old j l, length-old j l, content-old j l) (h.each j l)
      go j p false e =
          let q : j ≡ k = omega (arith, p, ltb-false j k e) in
          rw q (rw (first-new, length-new, content-new) a)

  list-old : (i j : ℕ) → j < k → list_in y i j ≡ list_in x i j
  list-old i j p = rw (first-old j p, length-old j p, content-old j p) refl

  list-new : (i : ℕ) → list_in y i k ≡ source_list s.first s.length s.content i
  list-new i = rw (first-new, length-new, content-new) refl

  pub more_lists : (i : ℕ)
      → lists_in y i ≡ lists_in x i ++ source_list s.first s.length s.content i ∷ []
  more_lists i =
      let z : 0 + k ≡ k = omega arith in
      ap (λ m. map (list_in y i) (range_with_len 0 m)) (length-append x.contents (s.content ∷ []))
      ∙ map-range_with_len_more (list_in y i) 0 k k z
      ∙ ap₂ (λ us u. us ++ u ∷ [])
      (map-same (list_in y i) (list_in x i) 0 k (λ j p q. list-old i j (omega (arith, q))))
      (list-new i)

-- ---- the types of operands

types-more : (axis : Axis) (ds : List shown.Datum) (d : shown.Datum) (ts : List DataType)
    (t : DataType) → item_types axis ds ≡ Some ts → operand_item axis d ≡ Some t
    → item_types axis (ds ++ d ∷ []) ≡ Some (ts ++ t ∷ [])
types-more axis [] d ts t e f =
    let no : ts ≡ [] = cc in
    ap (λ o. with_type o (Some [])) f ∙ ap (λ us. Some (us ++ t ∷ [])) (sym no)
types-more axis (c ∷ ds) d ts t e f =
    go (operand_item axis c) (item_types axis ds) refl refl e
    (λ us g. types-more axis ds d us t g f)
  where
    go : (o : Option DataType) (os : Option (List DataType)) → operand_item axis c ≡ o
        → item_types axis ds ≡ os → with_type o os ≡ Some ts
        → ((us : List DataType) → item_types axis ds ≡ Some us
        → item_types axis (ds ++ d ∷ []) ≡ Some (us ++ t ∷ []))
        → with_type (operand_item axis c) (item_types axis (ds ++ d ∷ []))
        ≡ Some (ts ++ t ∷ [])
    go None os a b g h = absurd (cc)
    go (Some u) None a b g h = absurd (cc)
    go (Some u) (Some us) a b g h =
        let w : u ∷ us ≡ ts = cc in
        ap₂ with_type a (h us b) ∙ ap (λ vs. Some (vs ++ t ∷ [])) w

-- ---- the rows of operands

pub no_rows : (axis : Axis) (n : ℕ) (r : Rows)
    → r.sources ≡ record { firsts = []; lengths = []; contents = [] } → r.index ≡ None
    → AreRows axis n [] r
no_rows axis n r e f = rw (e, f) (record {
  sources = record {
    firsts = refl;
    lengths = refl;
    each = λ j p. absurd (omega (arith, p));
  };
  count = refl;
  lists = λ i p. refl;
  types = refl;
  index = tt;
  present = λ i p. refl;
  optional = refl;
})

-- ---- rows that are null by neither of two indexes

pub none_both : (n : ℕ) (r : Option Column) → IndexesAll r n → AreBoth n r None r
none_both n r h = record {
  index = h;
  places = λ i p b e. e ∙ ap (λ c. present_place c i) (sym (and-true b));
  optional = sym (or-false (is_some r));
}

pub some_both : (n : ℕ) (r : Option Column) (j c : Column) → c ≡ both_lane r (Some j) n
    → AreBoth n r (Some j) (Some c)
some_both n r j c e = rw e (record {
  index = (tt, size-lane_of I64 n f);
  places = λ i p b g.
      ap option_place (at-lane_of I64 n f i p)
      ∙ ap (λ o. option_place (place_in_both i o (list_place (Some j) i))) g
      ∙ go b i (list_place (Some j) i);
  optional = sym (or-true (is_some r));
})
  where
    f : ℕ → ℤ
    f i = place_in_both i (list_place r i) (list_place (Some j) i)

    go : (b : Bool) (i : ℕ) (o : Option ℕ)
        → option_place (place_in_both i (present_place b i) o) ≡ present_place (b && is_some o) i
    go true i None = refl
    go true i (Some q) = refl
    go false i o = refl

module _ (axis : Axis) (n : ℕ) (ds : List Datum) (d : Datum) (r q : Rows) (s : Source)
    (h : AreRows axis n ds r)
    (o : IsOpened (rows_in axis d) (operand_item axis (datum_of d)) (may_be_null axis d) s)
    (m : length (rows_in axis d) ≡ n) (e : q.sources ≡ pushed r.sources s)
    (b : AreBoth n r.index s.index q.index) where
  abbrev row : ℕ → Value
  row i = get_or (rows_in axis d) i null

  rows-present : (i : ℕ) → i < n → list_place q.index i
      ≡ present_place (list_all is_present (row_of (map (rows_in axis) (ds ++ d ∷ [])) i)) i
  rows-present i p =
      let old : Bool = list_all is_present (row_of (map (rows_in axis) ds) i) in
      b.places i p old (h.present i p)
      ∙ ap (λ c. present_place (old && c) i)
      (o.present i (omega (arith, p, m)) ∙ sym (and-true (is_present (row i))))
      ∙ ap (λ c. present_place c i)
      (sym (list_all-append is_present (row_of (map (rows_in axis) ds) i) (row i ∷ [])))
      ∙ ap (λ vs. present_place (list_all is_present vs) i)
      (sym (ap (map (λ vs. get_or vs i null)) (map-append (rows_in axis) ds (d ∷ []))
      ∙ map-append (λ vs. get_or vs i null) (map (rows_in axis) ds) (rows_in axis d ∷ [])))

  pub more_rows : AreRows axis n (ds ++ d ∷ []) q
  more_rows = record {
    sources = subst (AreSources n) (sym e) (more_sources n r.sources s h.sources
        (subst (λ k. IsSource k s.first s.length s.content) m o.source));
    count = ap (λ x. length x.contents) e
        ∙ omega (
          arith,
          length-append r.sources.contents (s.content ∷ []),
          length-append ds (d ∷ []),
          h.count,
        );
    lists = λ i p.
        ap (λ x. lists_in x i) e ∙ more_lists n r.sources s h.sources i
        ∙ ap₂ (λ us u. us ++ u ∷ []) (h.lists i p) (o.lists i (omega (arith, p, m)))
        ∙ sym (map-append (λ d. list_items (get_or (rows_in axis d) i null)) ds (d ∷ []));
    types = ap (item_types axis) (map-append datum_of ds (d ∷ []))
        ∙ types-more axis (map datum_of ds) (datum_of d) (map array_type r.sources.contents)
        (array_type s.content) h.types o.typ
        ∙ ap Some (sym (ap (λ x. map array_type x.contents) e
        ∙ map-append array_type r.sources.contents (s.content ∷ [])));
    index = b.index;
    present = rows-present;
    optional = b.optional
        ∙ ap₂ (λ c d. c || d) h.optional (o.optional ∙ sym (or-false (may_be_null axis d)))
        ∙ sym (list_any-append (may_be_null axis) ds (d ∷ []));
  }

-- ---- what holds of an operand

pub all_of_no_more : (axis : Axis) (n : ℕ) (ds : List Datum) (j : ℕ) (r : Rows) → length ds ≤ j
    → AreRows axis n (take j ds) r → AreRows axis n ds r
all_of_no_more axis n ds j r l h = subst (λ xs. AreRows axis n xs r) (take_all j ds l) h
