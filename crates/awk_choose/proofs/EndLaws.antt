-- What a condition and two operands give at the ends that they are paired to.
use Rattle.std.proofs.Common.{◌≡◌, ℕ, zero, suc, ◌+◌, ◌<◌, true, false, refl, ap, ap₂, sym, subst}
use Rattle.std.proofs.Common.{◌∙◌, arith}
use Rattle.std.specs.Prelude.{List, [], ◌∷◌, map, length, get_or, slice_get, Some, Result, Ok, Err}
use Rattle.std.specs.List.{AllByRecursion, list_all}
use Rattle.std.proofs.lemmas.List.{length-map}
use Rattle.std.proofs.lemmas.Option.{slice_get_within}
use Rattle.std.proofs.lemmas.Simd.{zip2_of_maps}
use Rattle.std.proofs.lemmas.Bool.{and_parts, or_parts}
use Rattle.awk_types.specs.Datum.{Datum, datum_type}
use Rattle.awk_types.specs.Predicates.{is_leaf}
use Rattle.awk_types.specs.Simple.{present, is_option}
use Rattle.awk_types.specs.Value.{Value, int}
use Rattle.awk_types.specs.declared.fault.Fault.{Fault}
use Rattle.awk_types.specs.declared.primitive.Primitive.{Primitive}
use Rattle.awk_columns.specs.Columns.{part_at}
use Rattle.awk_columns.specs.Parts.{AreParts}
use Rattle.awk_layout.specs.Datum.{datum_of}
use Rattle.awk_layout.specs.Filler.{filler_of}
use Rattle.awk_layout.specs.Layout.{Layout}
use Rattle.awk_layout.specs.Typing.{array_type, array_items}
use Rattle.awk_layout.specs.Valid.{len}
use Rattle.awk_layout.specs.declared.datum.Datum.{Datum as Held}
use Rattle.awk_layout.specs.declared.datum.Operand.{Operand}
use Rattle.awk_layout.specs.declared.datum.Operand.TheVariants as operand
use Rattle.awk_layout.proofs.ArrayItems.{length-array_items}
use Rattle.awk_leaves.specs.Table.{choice_judged}
use Rattle.awk_leaves.specs.Values.{chosen_at, chosen_values, choice_values, in_judged}
use Rattle.awk_leaves.specs.declared.leaf_type.LeafType.{LeafType}
use Rattle.awk_leaves.specs.declared.leaf_type.LeafType.TheVariants.{Unknown}
use Rattle.awk_pair_operands.specs.Pairs.{typs, leaf_types}
use Rattle.awk_pair_sides.specs.Levels.{some_option}
use Rattle.awk_ends.specs.Operands.{leaf_in, data_in, leaf_of, at_end}
use Rattle.awk_ends.specs.Columns.{IsAmong, data_before, column_at, ends_of, leaf_at, values_at}
use Rattle.awk_ends.proofs.ColumnLaws.{AreEnds, ends-count, ends-leaf, parts-at, same-at}
use Rattle.awk_choose.specs.Choice.{far, choice_data, choice_row, are_leaves}
use Rattle.awk_choose.specs.Ends.{IsLeafColumn, AreLeafColumns, is_optional_at, ArePresent}
use Rattle.awk_choose.specs.Ends.{IsColumnEnd, IsEnd, IsEndAt}
use Rattle.awk_choose.specs.Ends.{end_leaf, end_values, AreEndsAt, columns_judged, columns_said}
use Rattle.awk_choose.specs.declared.ends.End.{End}
use Rattle.awk_choose.proofs.MaskLaws.{present-choices}

-- ---- at a place of a list

-- what the column of a datum gives is what the datum gives
pub column-at : (d : Held) (k : ℕ) (ys : List Layout) (e : End)
    → len (column_at ys k) ≡ ends_of ys → IsColumnEnd (column_at ys k) e
    → IsEndAt (operand.Of d) k ys e
column-at d k ys e size h = record {
  leaf = h.leaf;
  values = ap (λ n. end_values n e) (sym size) ∙ h.values;
  end = subst (λ n. IsEnd n e) size h.end;
  present = h.present;
}

-- where no column is optional none at a place is
none-optional : (ys : List Layout) (k : ℕ) → some_option (map array_type ys) ≡ false
    → k < length ys → is_option (array_type (column_at ys k)) ≡ false
none-optional [] k e l = absurd (omega (arith, l))
none-optional (y ∷ ys) zero e l =
    (or_parts (is_option (array_type y)) (some_option (map array_type ys)) e).0
none-optional (y ∷ ys) (suc k) e l =
    none-optional ys k (or_parts (is_option (array_type y)) (some_option (map array_type ys)) e).1
    (omega (arith, l))

none-optional-at : (x : Operand) (k : ℕ) (ys : List Layout)
    → some_option (map array_type ys) ≡ false → IsAmong x k ys → is_optional_at x k ys ≡ false
none-optional-at (operand.Of d) k ys e l = none-optional ys k e l
none-optional-at (operand.Literal z) k ys e l = refl

-- ---- columns of parts

leaf-columns : (es : List Value) (k : ℕ) (ys : List Layout) → AreParts k es ys
    → list_all is_leaf (map present (map array_type ys)) ≡ true
    → AllByRecursion (IsLeafColumn (length es)) ys
leaf-columns es k [] h e = tt
leaf-columns es k (y ∷ ys) h e =
    let split = and_parts (is_leaf (present (array_type y)))
    (list_all is_leaf (map present (map array_type ys))) e in (
      record {
        size = sym (length-array_items y) ∙ ap length h.0 ∙ length-map es (part_at k);
        leaf = split.0;
      },
      leaf-columns es (suc k) ys h.1 split.1,
    )

first-size : (n : ℕ) (ys : List Layout) → AllByRecursion (IsLeafColumn n) ys → 0 < length ys
    → ends_of ys ≡ n
first-size n [] h l = absurd (omega (arith, l))
first-size n (y ∷ ys) h l = h.0.size

-- ---- an operand among the data

-- a datum is the k-th of the data
abbrev IsAt : Operand → ℕ → List Datum → Type 0
IsAt (operand.Of d) k ds = slice_get ds k ≡ Some (datum_of d)
IsAt (operand.Literal z) k ds = Unit {0}

pub record IsGiven (x : Operand) (k : ℕ) (es : List Value) (ys : List Layout) : Type 0 where
  pub among : IsAmong x k ys
  pub leaf : leaf_at x k ys ≡ leaf_of (filler_of x)
  pub values : values_at (ends_of ys) x k ys ≡ map (at_end (filler_of x) k) es

leaf-of : (ds : List Datum) (k : ℕ) (d : Datum) → slice_get ds k ≡ Some d
    → get_or (map leaf_in (typs ds)) k Unknown ≡ leaf_in (datum_type d)
leaf-of [] k d e = absurd cc
leaf-of (c ∷ ds) zero d e =
    let same : c ≡ d = cc in ap (λ c. leaf_in (datum_type c)) same
leaf-of (c ∷ ds) (suc k) d e = leaf-of ds k d e

given : (ds : List Datum) (es : List Value) (ys : List Layout) (x : Operand) (k : ℕ)
    → AreEnds far ds es ys → ends_of ys ≡ length es → IsAt x k ds → IsGiven x k es ys
given ds es ys (operand.Of d) k h n e =
    let count : length ys ≡ length ds = ends-count far ds es ys h in
    let l : k < length ys =
    subst (λ m. k < m) (sym count) (slice_get_within ds k (datum_of d) e) in
    record {
      among = l;
      leaf = ends-leaf far ds es ys k h ∙ leaf-of ds k (datum_of d) e;
      values = parts-at es 0 ys k h.parts l
          ∙ (let z : 0 + k ≡ k = omega arith in ap (λ m. map (part_at m) es) z);
    }
given ds es ys (operand.Literal z) k h n e = record {
  among = tt;
  leaf = refl;
  values = same-at es (int z) (ends_of ys) n;
}

second-at : (c : Datum) (a b : Operand)
    → IsAt b (suc (data_before a)) (choice_data c (filler_of a) (filler_of b))
second-at c (operand.Of d) (operand.Of e) = refl
second-at c (operand.Of d) (operand.Literal z) = tt
second-at c (operand.Literal z) (operand.Of e) = refl
second-at c (operand.Literal z) (operand.Literal w) = tt

first-at : (c : Datum) (a b : Operand) → IsAt a 1 (choice_data c (filler_of a) (filler_of b))
first-at c (operand.Of d) b = refl
first-at c (operand.Literal z) b = tt

before : (a : Operand) → data_before a ≡ length (data_in (filler_of a))
before (operand.Of d) = refl
before (operand.Literal z) = refl

-- ---- the condition and both operands

pub record AreGiven (c : Datum) (a b : Operand) (es : List Value) (ys : List Layout)
    : Type 0 where
  pub some : 0 < length ys
  pub leaves : AreLeafColumns ys
  pub count : ends_of ys ≡ length es
  pub leaf : leaf_in (array_type (column_at ys 0)) ≡ leaf_in (datum_type c)
  pub values : array_items (column_at ys 0) ≡ map (part_at 0) es
  pub first : IsGiven a 1 es ys
  pub second : IsGiven b (suc (data_before a)) es ys

all-given : (c : Datum) (a b : Operand) (es : List Value) (ys : List Layout)
    → AreEnds far (choice_data c (filler_of a) (filler_of b)) es ys
    → are_leaves (choice_data c (filler_of a) (filler_of b)) ≡ true → AreGiven c a b es ys
all-given c a b es ys h e =
    let ds = choice_data c (filler_of a) (filler_of b) in
    let n : length ys ≡ length ds = ends-count far ds es ys h in
    let some : 0 < length ys = omega (arith, n) in
    let long : AllByRecursion (IsLeafColumn (length es)) ys =
    leaf-columns es 0 ys h.parts (ap (λ ts. list_all is_leaf (map present ts)) h.types ∙ e) in
    let count : ends_of ys ≡ length es = first-size (length es) ys long some in
    record {
      some = some;
      leaves = subst (λ m. AllByRecursion (IsLeafColumn m) ys) (sym count) long;
      count = count;
      leaf = ends-leaf far ds es ys 0 h;
      values = parts-at es 0 ys 0 h.parts some;
      first = given ds es ys a 1 h count (first-at c a b);
      second = given ds es ys b (suc (data_before a)) h count (second-at c a b);
    }

-- of columns that data are paired to
pub pair-given : (c : Datum) (a b : Operand) (es : List Value) (ys : List Layout)
    (ds : List Datum) → ds ≡ choice_data c (filler_of a) (filler_of b) → AreParts 0 es ys
    → map array_type ys ≡ leaf_types far ds → are_leaves ds ≡ true → AreGiven c a b es ys
pair-given c a b es ys ds same parts types leaves =
    all-given c a b es ys (record { parts = parts; types = types ∙ ap (leaf_types far) same })
    (sym (ap are_leaves same) ∙ leaves)

-- ---- what is chosen

choice-same : (s s' t t' u u' : LeafType) (cs cs' xs xs' ys ys' : List Value) → s ≡ s'
    → t ≡ t' → u ≡ u' → cs ≡ cs' → xs ≡ xs' → ys ≡ ys'
    → choice_values s t u cs xs ys ≡ choice_values s' t' u' cs' xs' ys'
choice-same s s' t t' u u' cs cs' xs xs' ys ys' e f g h i j =
    ap (λ s. choice_values s t u cs xs ys) e
    ∙ ap₂ (λ t u. choice_values s' t u cs xs ys) f g
    ∙ ap (λ cs. choice_values s' t' u' cs xs ys) h
    ∙ ap₂ (λ xs ys. choice_values s' t' u' cs' xs ys) i j

judged-same : (s s' t t' u u' : LeafType) (p : Primitive) → s ≡ s' → t ≡ t' → u ≡ u'
    → choice_judged s' t' u' ≡ Ok p → choice_judged s t u ≡ Ok p
judged-same s s' t t' u u' p e f g h =
    ap (λ s. choice_judged s t u) e ∙ ap₂ (choice_judged s') f g ∙ h

-- what is chosen where the types are judged
judged-values : (s t u : LeafType) (cs xs ys vs : List Value)
    → choice_values s t u cs xs ys ≡ Ok vs → vs ≡ chosen_values cs xs ys
judged-values s t u cs xs ys vs h = by (choice_judged s t u) h
  where
    by : (j : Result Primitive Fault) → in_judged j (λ p. Ok (chosen_values cs xs ys)) ≡ Ok vs
        → vs ≡ chosen_values cs xs ys
    by (Ok p) h = let same : chosen_values cs xs ys ≡ vs = cc in sym same
    by (Err f) h = absurd cc

pub given-judged : (c : Datum) (a b : Operand) (p : Primitive) (es : List Value)
    (ys : List Layout)
    → choice_judged (leaf_in (datum_type c)) (leaf_of (filler_of a)) (leaf_of (filler_of b)) ≡ Ok p
    → AreGiven c a b es ys → columns_judged a b ys ≡ Ok p
given-judged c a b p es ys judged s =
    judged-same (leaf_in (array_type (column_at ys 0))) (leaf_in (datum_type c)) (leaf_at a 1 ys)
    (leaf_of (filler_of a)) (leaf_at b (suc (data_before a)) ys) (leaf_of (filler_of b)) p s.leaf
    s.first.leaf s.second.leaf judged

rows-chosen : (f g h : Value → Value) (es cs xs ys : List Value) → cs ≡ map f es → xs ≡ map g es
    → ys ≡ map h es → chosen_values cs xs ys ≡ map (λ v. chosen_at (f v) (g v) (h v)) es
rows-chosen f g h es cs xs ys e i j =
    zip2_of_maps (λ choose y. choose y) (λ v. chosen_at (f v) (g v)) h es
    (zip2_of_maps chosen_at f g es e i) j

-- ---- what columns say

-- as rows say it
pub given-said : (c : Datum) (a b : Operand) (p : Primitive) (es : List Value)
    (ys : List Layout)
    → choice_judged (leaf_in (datum_type c)) (leaf_of (filler_of a)) (leaf_of (filler_of b)) ≡ Ok p
    → AreGiven c a b es ys
    → columns_said a b ys ≡ Ok (map (choice_row (filler_of a) (filler_of b)) es)
given-said c a b p es ys judged s =
    let k = suc (data_before a) in
    let x = array_items (column_at ys 0) in
    let y = values_at (ends_of ys) a 1 ys in
    let z = values_at (ends_of ys) b k ys in
    ap (λ j. in_judged j (λ (p : Primitive). Ok (chosen_values x y z)))
    (given-judged c a b p es ys judged s)
    ∙ ap (λ vs. Ok vs)
    (rows-chosen (part_at 0) (at_end (filler_of a) 1) (at_end (filler_of b) k) es x y z s.values
    s.first.values s.second.values
    ∙ ap (λ m. map (λ v. chosen_at (part_at 0 v) (at_end (filler_of a) 1 v)
    (at_end (filler_of b) (suc m) v)) es) (before a))

module _ (a b : Operand) (ys : List Layout) (c x y : End) (h : AreEndsAt a b ys c x y) (n : ℕ)
    (size : n ≡ ends_of ys) where
  -- what n ends say of a choice
  abbrev ends_said : Result (List Value) Fault
  ends_said =
      choice_values (end_leaf c) (end_leaf x) (end_leaf y) (end_values n c) (end_values n x)
      (end_values n y)

  -- it is what their columns say
  pub ends-said : ends_said ≡ columns_said a b ys
  ends-said =
      choice-same (end_leaf c) (leaf_in (array_type (column_at ys 0))) (end_leaf x)
      (leaf_at a 1 ys) (end_leaf y) (leaf_at b (suc (data_before a)) ys)
      (end_values n c) (array_items (column_at ys 0)) (end_values n x)
      (values_at (ends_of ys) a 1 ys) (end_values n y)
      (values_at (ends_of ys) b (suc (data_before a)) ys) h.condition.leaf h.first.leaf
      h.second.leaf (ap (λ m. end_values m c) size ∙ h.condition.values)
      (ap (λ m. end_values m x) size ∙ h.first.values)
      (ap (λ m. end_values m y) size ∙ h.second.values)

  pub ends-judged : (p : Primitive) → columns_judged a b ys ≡ Ok p
      → choice_judged (end_leaf c) (end_leaf x) (end_leaf y) ≡ Ok p
  ends-judged p e =
      judged-same (end_leaf c) (leaf_in (array_type (column_at ys 0))) (end_leaf x)
      (leaf_at a 1 ys) (end_leaf y) (leaf_at b (suc (data_before a)) ys) p h.condition.leaf
      h.first.leaf h.second.leaf e

  -- what is chosen is not null where no column is optional
  pub ends-present : (vs : List Value) → ends_said ≡ Ok vs
      → some_option (map array_type ys) ≡ false → 0 < length ys → IsAmong a 1 ys
      → IsAmong b (suc (data_before a)) ys → ArePresent vs
  ends-present vs e o l i j =
      subst ArePresent
      (sym (judged-values (leaf_in (array_type (column_at ys 0))) (leaf_at a 1 ys)
      (leaf_at b (suc (data_before a)) ys) (array_items (column_at ys 0))
      (values_at (ends_of ys) a 1 ys) (values_at (ends_of ys) b (suc (data_before a)) ys) vs
      (sym ends-said ∙ e)))
      (present-choices (array_items (column_at ys 0)) (values_at (ends_of ys) a 1 ys)
      (values_at (ends_of ys) b (suc (data_before a)) ys)
      (h.condition.present (none-optional ys 0 o l))
      (h.first.present (none-optional-at a 1 ys o i))
      (h.second.present (none-optional-at b (suc (data_before a)) ys o j)))
