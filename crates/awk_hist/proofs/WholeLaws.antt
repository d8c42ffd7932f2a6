-- The histogram of all leaves, by the column that lists come to.
use Rattle.std.proofs.Common.{◌≡◌, ℕ, zero, suc, ◌+◌, ◌<◌, ◌≤◌, List, [], ◌∷◌, length, map, map-id}
use Rattle.std.proofs.Common.{refl, ap, ap₂, sym, ◌∙◌, arith}
use Rattle.std.specs.Prelude.{ℤ, pos, Bool, true, false, cond, ◌&&◌, int_lt, int_le, ◌≤ℤ◌, ◌*◌, ◌^◌}
use Rattle.std.specs.Prelude.{◌||◌, nat_lt, Some, None, Ok, Err, Result, if◌then◌else◌}
use Rattle.std.specs.List.{count_by, slice_range, flat_map}
use Rattle.std.proofs.lemmas.Grind.{common_steps}
use Rattle.std.proofs.lemmas.Int.{ints}
use Rattle.std.proofs.lemmas.List.Concat.{flat_map-cons}
use Rattle.std.proofs.lemmas.List.Sums.{sum_by-cons}
use Rattle.std.proofs.lemmas.Bool.{ltb-false}
use Rattle.awk_base.proofs.Ranges.{map-same}
use Rattle.awk_types.specs.DataType.{DataType, depth, nodes}
use Rattle.awk_types.specs.Datum.{Datum, arr, one}
use Rattle.awk_types.specs.Gives.{refused_or, ◌or◌}
use Rattle.awk_types.specs.Limit.{limit, width, depth_limit, size_limit}
use Rattle.awk_types.specs.ItemLimit.{item_limit}
use Rattle.awk_types.specs.Parts.{number_of}
use Rattle.awk_types.specs.Predicates.{is_null, is_leaf}
use Rattle.awk_types.specs.declared.fault.Fault.{Fault}
use Rattle.awk_types.specs.declared.fault.Fault.TheVariants.{Axis, WrongType, Size}
use Rattle.awk_types.specs.Simple.{present, simple_value}
use Rattle.awk_types.specs.Value.{Value, int, truth, null, list, row, alt, values_from, value_list}
use Rattle.awk_types.specs.WholeNumbers.{is_numbers}
use Rattle.awk_types.proofs.Trees.{value_list-from}
use Rattle.awk_lanes.specs.Column.{Column}
use Rattle.awk_lanes.specs.Places.{at, place_at}
use Rattle.awk_lanes.specs.declared.kind.Kind.TheVariants.{I64}
use Rattle.awk_layout.specs.Layout.{Layout}
use Rattle.awk_layout.specs.Typing.{array_type, array_items}
use Rattle.awk_columns.specs.Columns.{is_present}
use Rattle.awk_numbers.proofs.PartLaws.{whole_range}
use Rattle.awk_present.specs.Numbers.{numbers}
use Rattle.awk_present.specs.Present.{list_at}
use Rattle.awk_bins.specs.Bins.{count_in, interval_counts, count_under, count_over, intervals}
use Rattle.awk_bins.specs.Edges.{edge_at, lies_in}
use Rattle.awk_hist.specs.Hist.{leaves, lists_refused, has_numbers, hist_of, hist_of_array}
use Rattle.awk_hist.specs.Lists.{AreItems, IsInnermost}
use Rattle.awk_hist.specs.declared.innermost.Innermost.TheVariants as innermost
use Rattle.awk_hist.specs.Bins.{bins, bins_and, bins_row, bins_type, count_nulls, count_value}

-- numbers that pass a test, counted among values
pub count-numbers : (q : ℤ → Bool) (vs : List Value)
    → count_by q (numbers vs) ≡ count_by (λ v. is_present v && q (number_of v)) vs
count-numbers q [] = refl
count-numbers q (v ∷ vs) = by v (count-numbers q vs)
  where
    test : Value → Bool
    test v = is_present v && q (number_of v)

    more : (v : Value) → numbers (v ∷ vs) ≡ number_of v ∷ numbers vs → test v ≡ q (number_of v)
        → count_by q (numbers vs) ≡ count_by test vs
        → count_by q (numbers (v ∷ vs)) ≡ count_by test (v ∷ vs)
    more v a b h =
        ap (count_by q) a ∙ sum_by-cons (λ z. cond (q z) 1 0) (number_of v) (numbers vs)
        ∙ ap₂ (λ c n. cond c 1 0 + n) (sym b) h ∙ sym (sum_by-cons (λ v. cond (test v) 1 0) v vs)

    by : (v : Value) → count_by q (numbers vs) ≡ count_by test vs
        → count_by q (numbers (v ∷ vs)) ≡ count_by test (v ∷ vs)
    by null h = h ∙ sym (sum_by-cons (λ v. cond (test v) 1 0) null vs ∙ omega arith)
    by (int z) h = more (int z) refl refl h
    by (truth b) h = more (truth b) refl refl h
    by (list ws) h = more (list ws) refl refl h
    by (row ws) h = more (row ws) refl refl h
    by (alt k w) h = more (alt k w) refl refl h

-- columns whose values pass tests alike, apart from so many nulls, have the same histogram
module _ (es : List ℤ) (us vs : List Value) (more : ℕ)
    (h : (p : Value → Bool) → count_by p us ≡ count_by p vs + cond (p null) more 0) where
  same : (q : ℤ → Bool) → count_by q (numbers us) ≡ count_by q (numbers vs)
  same q =
      count-numbers q us ∙ h (λ v. is_present v && q (number_of v)) ∙ omega arith
      ∙ sym (count-numbers q vs)

  abbrev counts_of : List Value → Value
  counts_of ws = list (values_from (map count_value (interval_counts es (numbers ws))))

  pub bins_same : bins es us ≡ bins_and more es vs
  bins_same =
      ap (λ ns. row (values_from (list (values_from (map count_value ns))
      ∷ count_value (count_under es (numbers us)) ∷ count_value (count_over es (numbers us))
      ∷ count_value (count_nulls us) ∷ [])))
      (map-same (count_in es (numbers us)) (count_in es (numbers vs)) 0 (intervals es)
      (λ i p q. same (lies_in es i)))
      ∙ ap (λ n. row (values_from (counts_of vs
      ∷ count_value n ∷ count_value (count_over es (numbers us))
      ∷ count_value (count_nulls us) ∷ []))) (same (λ z. int_lt z (edge_at es 0)))
      ∙ ap₂ (λ n k. row (values_from (counts_of vs
      ∷ count_value (count_under es (numbers vs)) ∷ count_value n ∷ count_value k ∷ [])))
      (same (λ z. int_le (edge_at es (intervals es)) z)) (h is_null)

-- a histogram is simple
pub simple_bins : (es zs : List ℤ) (nulls : ℕ)
    → simple_value bins_type (bins_row es zs nulls) ≡ bins_row es zs nulls
simple_bins es zs nulls =
    ap (λ vs. row (values_from (list (values_from vs)
    ∷ count_value (count_under es zs) ∷ count_value (count_over es zs) ∷ count_value nulls ∷ [])))
    (map-id (value_list (values_from (map count_value (interval_counts es zs))))
    ∙ value_list-from (map count_value (interval_counts es zs)))

-- ---- a column as one list

abbrev pub ends : ℕ → Column
ends n = record { kind = I64; items = pos 0 ∷ pos n ∷ [] }

pub whole_items : (z : Layout) (n : ℕ) → n ≡ length (array_items z)
    → is_numbers (present (array_type z)) ≡ true → length (array_items z) ≤ item_limit
    → AreItems z (ends n) 1
whole_items z n e h few = record {
  numbers = h;
  rising = record {
    kind = tt;
    size = refl;
    positive = positive;
    ordered = ordered;
    within = within;
  };
  first = refl;
  last = e;
  few = few;
  fits = omega arith;
}
  where
    positive : (i : ℕ) → i ≤ 1 → pos 0 ≤ℤ at (ends n) i
    positive zero l = omega (arith, ints)
    positive (suc zero) l = omega (arith, ints)
    positive (suc (suc i)) l = absurd (omega (arith, l))

    ordered : (i : ℕ) → i < 1 → place_at (ends n) i ≤ place_at (ends n) (i + 1)
    ordered zero l = omega arith
    ordered (suc i) l = absurd (omega (arith, l))

    within : (i : ℕ) → i ≤ 1 → place_at (ends n) i ≤ length (array_items z)
    within zero l = omega arith
    within (suc zero) l = omega (arith, e)
    within (suc (suc i)) l = absurd (omega (arith, l))

pub whole_list : (vs : List Value) (n : ℕ) → n ≡ length vs → list_at vs (ends n) 0 ≡ vs
whole_list vs n e = ap (λ n. slice_range vs 0 n) e ∙ whole_range vs

-- ---- what is told

pub depth_within : (t : DataType) → limit t ≡ None → depth t ≤ 60
depth_within t h = by (nat_lt 60 (depth t)) refl h
  where
    by : (b : Bool) → nat_lt 60 (depth t) ≡ b
        → (if b then Some depth_limit
        else if nat_lt 65536 (nodes t) || nat_lt 127 (width t) then Some size_limit else None)
        ≡ None
        → depth t ≤ 60
    by true e h = cc
    by false e h = ltb-false 60 (depth t) e

pub nulls_within : (t : DataType) (more : ℕ) → depth t ≤ 60 → more ≤ item_limit * depth t
    → more < 2 ^ 40
nulls_within t more l m = omega (arith, l, m)

pub leaves_binned : (es : List ℤ) (t : DataType) (vs : List Value) (z : Layout) (more : ℕ)
    → IsInnermost t vs (innermost.Column z more)
    → hist_of_array es t vs ≡ Ok (one bins_type (bins_and more es (array_items z)))
leaves_binned es t vs z more h =
    ap (λ r. refused_or r (one bins_type (bins es (flat_map (leaves t) vs)))) h.0
    ∙ ap (λ v. Ok (one bins_type v))
    (bins_same es (flat_map (leaves t) vs) (array_items z) more h.1.counts)

module _ (es : List ℤ) (t : DataType) (vs : List Value) where
  abbrev of_array : Bool → Bool → Result Datum Fault
  of_array b c =
      refused_or ((if b then None else Some WrongType) or (if c then Some Size else None)
      or lists_refused t vs) (one bins_type (bins es (flat_map (leaves t) vs)))

  pub array_wrong : has_numbers t ≡ false → hist_of es (arr t vs) ≡ Err WrongType
  array_wrong h = ap (λ b. of_array b (nat_lt item_limit (length vs))) h

  pub array_many : has_numbers t ≡ true → item_limit < length vs → hist_of es (arr t vs) ≡ Err Size
  array_many h l =
      let e : nat_lt item_limit (length vs) ≡ true = grind (arith, l) in
      ap₂ of_array h e

  pub array_fine : has_numbers t ≡ true → length vs ≤ item_limit
      → hist_of es (arr t vs) ≡ hist_of_array es t vs
  array_fine h l =
      let e : nat_lt item_limit (length vs) ≡ false = grind (arith, l) in
      ap₂ of_array h e

module _ (es : List ℤ) (t : DataType) (v : Value) where
  abbrev of_one : Bool → Bool → Result Datum Fault
  of_one b c =
      refused_or ((if b then Some Axis else None) or (if c then None else Some WrongType)
      or lists_refused t (v ∷ [])) (one bins_type (bins es (leaves t v)))

  pub one_leaf : is_leaf (present t) ≡ true → hist_of es (one t v) ≡ Err Axis
  one_leaf h = ap (λ b. of_one b (has_numbers t)) h

  pub one_wrong : is_leaf (present t) ≡ false → has_numbers t ≡ false
      → hist_of es (one t v) ≡ Err WrongType
  one_wrong h k = ap₂ of_one h k

  pub one_fine : is_leaf (present t) ≡ false → has_numbers t ≡ true
      → hist_of es (one t v) ≡ hist_of_array es t (v ∷ [])
  one_fine h k =
      ap₂ of_one h k
      ∙ ap (λ vs. refused_or (lists_refused t (v ∷ [])) (one bins_type (bins es vs))) (sym alone)
    where
      alone : flat_map (leaves t) (v ∷ []) ≡ leaves t v
      alone = flat_map-cons (leaves t) v [] ∙ grind (arith, common_steps)
