-- The laws of arrays joined one after another.
use Rattle.std.specs.Prelude.{zero, suc, ◌<◌, ◌≡◌, ℕ, ◌+◌, ◌-◌, List, [], ◌∷◌, ◌++◌, length, map}
use Rattle.std.specs.Prelude.{take, drop, Option, Some, None, option_map, Ok, pos, refl}
use Rattle.std.proofs.Common.{arith, ap, ap₂, sym, ◌∙◌}
use Rattle.std.proofs.lemmas.List.{length-append, length-map, append-nil, append_assoc}
use Rattle.std.proofs.lemmas.List.Sums.{sum_by-cons, sum_by-append}
use Rattle.std.proofs.Math.Seq.{take-append_seam, drop-append-add}
use Rattle.awk_types.specs.DataType.{DataType, unknown}
use Rattle.awk_types.specs.Datum.{Datum, arr, one, datum_type}
use Rattle.awk_types.specs.Faults.{limit_fault}
use Rattle.awk_types.specs.Gives.{refused_or, ◌or◌}
use Rattle.awk_types.specs.ItemLimit.{too_many}
use Rattle.awk_types.specs.Limit.{limit}
use Rattle.awk_types.specs.Value.{Value}
use Rattle.awk_types.proofs.RefusalLaws.{refused_or-Ok, refused_or-None}
use Rattle.awk_merge_operands.specs.Concatenate.{concatenate_of, operand_items, operand_types}
use Rattle.awk_merge_operands.specs.Concatenate.{joined_as, carried_columns, stacked, values_fault}
use Rattle.awk_merge_operands.specs.declared.operands.Axis.TheVariants.{Arrays}
use Rattle.awk_unify.specs.After.{after}
use Rattle.awk_unify.specs.Carries.{carry_at}
use Rattle.awk_unify.specs.Carry.{Carry, carried, keep}
use Rattle.awk_unify.specs.Early.{as_it_is}
use Rattle.awk_unify.specs.FieldNames.{with_type}
use Rattle.awk_types.proofs.ItemLimits.{within_limit}
use Rattle.awk_unify.specs.Unification.{Unification}
use Rattle.awk_unify.specs.Unify.{unification}
use Rattle.awk_unify.specs.UnifyList.{UnificationList, unification_list, unification_more}
use Rattle.awk_unify.specs.UnifyList.{one_further}
use Rattle.awk_unify.proofs.Rules.{unified_early, early-unknown, early-same}
use Rattle.awk_unify.proofs.CarriedLaws.{map-keep}
use Rattle.awk_law_chains.specs.Arrays.{AreFew}
use Rattle.awk_laws.specs.Concatenation.{ConcatenationLaws, items_in, unified, carried_items}
use Rattle.awk_laws.specs.Concatenation.{part_range}
use Rattle.awk_laws.proofs.Slices.{range-places}

-- ---- types

with_first : (t : DataType) (ds : List Datum) (ts : List DataType) (o : Option (List DataType))
    → ((us : List DataType) → o ≡ Some us → map datum_type ds ≡ us)
    → with_type (Some t) o ≡ Some ts → t ∷ map datum_type ds ≡ ts
with_first t ds ts None f h = cc
with_first t ds ts (Some us) f h =
    let w : t ∷ us ≡ ts = cc in ap (λ xs. t ∷ xs) (f us refl) ∙ w

types-are : (ds : List Datum) (ts : List DataType) → operand_types Arrays ds ≡ Some ts
    → map datum_type ds ≡ ts
types-are [] ts e = cc
types-are (arr t vs ∷ ds) ts e =
    with_first t ds ts (operand_types Arrays ds) (λ us f. types-are ds us f) e
types-are (one t v ∷ ds) ts e = cc

length-more : (u : UnificationList) (bs : List DataType)
    → length (unification_more u bs).lifts ≡ length u.lifts + length bs
length-more u [] = omega arith
length-more u (b ∷ bs) =
    let r = unification u.typ b in
    omega (
      arith,
      length-more (one_further u b) bs,
      length-append (map (after r.left) u.lifts) (r.right ∷ []),
      length-map u.lifts (after r.left),
    )

length-lifts : (ds : List Datum) → length (unified ds).lifts ≡ length ds
length-lifts ds =
    omega (
      arith,
      length-more (record { typ = unknown; lifts = [] }) (map datum_type ds),
      length-map ds datum_type,
    )

-- ---- the whole

whole-as : (ds : List Datum) (whole : Datum) (o : Option (List DataType))
    → operand_types Arrays ds ≡ o → joined_as Arrays o (map operand_items ds) ≡ Ok whole
    → whole ≡ arr (unified ds).typ
    (stacked (carried_columns (unified ds).lifts (map operand_items ds)))
whole-as ds whole None e f = cc
whole-as ds whole (Some ts) e f =
    let u = unification_list ts in
    let columns = carried_columns u.lifts (map operand_items ds) in
    let r = refused_or-Ok (option_map limit_fault (limit u.typ) or values_fault Arrays columns)
    (arr u.typ (stacked columns)) whole f in
    sym r.1
    ∙ ap (λ ss. arr (unification_list ss).typ
    (stacked (carried_columns (unification_list ss).lifts (map operand_items ds))))
    (sym (types-are ds ts e))

whole-is : (ds : List Datum) (whole : Datum) → concatenate_of (pos 0) ds ≡ Ok whole
    → whole ≡ arr (unified ds).typ
    (stacked (carried_columns (unified ds).lifts (map operand_items ds)))
whole-is ds whole e = whole-as ds whole (operand_types Arrays ds) refl e

-- ---- lengths

length-stacked : (fs : List Carry) (ds : List Datum) → length fs ≡ length ds
    → length (stacked (carried_columns fs (map operand_items ds))) ≡ items_in ds
length-stacked [] [] e = refl
length-stacked [] (d ∷ ds) e = absurd (omega (arith, e))
length-stacked (f ∷ fs) [] e = absurd (omega (arith, e))
length-stacked (f ∷ fs) (d ∷ ds) e =
    let rest = stacked (carried_columns fs (map operand_items ds)) in
    omega (
      arith,
      length-append (map (carried f) (operand_items d)) rest,
      length-map (operand_items d) (carried f),
      length-stacked fs ds (omega (arith, e)),
      sum_by-cons (λ x. length (operand_items x)) d ds,
    )

-- ---- a part's places

part-stacked : (fs : List Carry) (before after : List Datum) (part : Datum)
    → length fs ≡ length (before ++ part ∷ after)
    → take (length (operand_items part)) (drop (items_in before)
    (stacked (carried_columns fs (map operand_items (before ++ part ∷ after)))))
    ≡ map (carried (carry_at fs (length before))) (operand_items part)
part-stacked [] [] after part e = absurd (omega (arith, e))
part-stacked [] (b ∷ before) after part e = absurd (omega (arith, e))
part-stacked (f ∷ fs) [] after part e =
    let here = map (carried f) (operand_items part) in
    let rest = stacked (carried_columns fs (map operand_items after)) in
    ap (λ (k : ℕ). take k (here ++ rest)) (sym (length-map (operand_items part) (carried f)))
    ∙ take-append_seam here rest
part-stacked (f ∷ fs) (b ∷ before) after part e =
    let here = map (carried f) (operand_items b) in
    let rest = stacked (carried_columns fs (map operand_items (before ++ part ∷ after))) in
    let size : items_in (b ∷ before) ≡ length here + items_in before =
    omega (
      arith,
      sum_by-cons (λ x. length (operand_items x)) b before,
      length-map (operand_items b) (carried f),
    ) in
    ap (λ (k : ℕ). take (length (operand_items part)) (drop k (here ++ rest))) size
    ∙ ap (take (length (operand_items part))) (drop-append-add here rest (items_in before))
    ∙ part-stacked fs before after part (omega (arith, e))

-- ---- the laws

length_of_parts : (ds : List Datum) (whole : Datum) → concatenate_of (pos 0) ds ≡ Ok whole
    → length (operand_items whole) ≡ items_in ds
length_of_parts ds whole e =
    ap (λ d. length (operand_items d)) (whole-is ds whole e)
    ∙ length-stacked (unified ds).lifts ds (length-lifts ds)

range_of_part : (before after : List Datum) (part whole : Datum)
    → let ds = before ++ part ∷ after in concatenate_of (pos 0) ds ≡ Ok whole
    → part_range before part whole
    ≡ Ok (arr (unified ds).typ (carried_items ds (length before) part))
range_of_part before after part whole e =
    let ds = before ++ part ∷ after in
    let fs = (unified ds).lifts in
    let t = (unified ds).typ in
    let ws = stacked (carried_columns fs (map operand_items ds)) in
    let m = length (operand_items part) in
    let a = items_in before in
    let size : length ws ≡ items_in ds = length-stacked fs ds (length-lifts ds) in
    let sum : items_in ds ≡ a + (m + items_in after) =
    sum_by-append (λ x. length (operand_items x)) before (part ∷ after)
    ∙ ap (λ (k : ℕ). a + k) (sum_by-cons (λ x. length (operand_items x)) part after) in
    let span : a + m - a ≡ m = omega arith in
    ap (part_range before part) (whole-is ds whole e)
    ∙ ap (λ vs. Ok (arr t vs))
    (range-places ws a (a + m) (omega (arith, size, sum))
    ∙ ap (λ (k : ℕ). take k (drop a ws)) span
    ∙ part-stacked fs before after part (length-lifts ds))

unknown_first : (t : DataType) → unification unknown t ≡ as_it_is t
unknown_first t = unified_early unknown t (as_it_is t) (early-unknown t)

kept : (vs : List Value) → map (carried keep) vs ++ [] ≡ vs
kept [] = refl
kept (v ∷ vs) = ap (λ ws. v ∷ ws) (kept vs)

one_array : (t : DataType) (vs : List Value) → limit t ≡ None → AreFew vs
    → concatenate_of (pos 0) (arr t vs ∷ []) ≡ Ok (arr t vs)
one_array t vs l p =
    let answer = λ (r : Unification). refused_or
    (option_map limit_fault (limit r.typ) or too_many (length (map (carried r.right) vs ++ [])))
    (arr r.typ (map (carried r.right) vs ++ [])) in
    ap answer (unknown_first t)
    ∙ refused_or-None
    (option_map limit_fault (limit t) or too_many (length (map (carried keep) vs ++ [])))
    (arr t (map (carried keep) vs ++ [])) (arr t vs)
    (ap₂ (λ x y. x or y) (ap (option_map limit_fault) l)
    (within_limit (length (map (carried keep) vs ++ [])) (omega (arith, ap length (kept vs), p))))
    (ap (arr t) (kept vs))

-- ---- parts of one type

kept_lifts : (fs : List Carry) → map (after keep) fs ≡ fs
kept_lifts [] = refl
kept_lifts (f ∷ fs) = ap (λ gs. f ∷ gs) (kept_lifts fs)

like_further : (t : DataType) (fs : List Carry)
    → one_further (record { typ = t; lifts = fs }) t
    ≡ record { typ = t; lifts = fs ++ keep ∷ [] }
like_further t fs =
    ap (further fs) (unified_early t t (as_it_is t) (early-same t))
    ∙ ap (λ gs. record { typ = t; lifts = gs ++ keep ∷ [] }) (kept_lifts fs)
  where
    further : List Carry → Unification → UnificationList
    further gs r = record { typ = r.typ; lifts = map (after r.left) gs ++ r.right ∷ [] }

like_more : (t : DataType) (fs : List Carry) (vss : List (List Value))
    → unification_more (record { typ = t; lifts = fs }) (map datum_type (map (arr t) vss))
    ≡ record { typ = t; lifts = fs ++ map (λ vs. keep) vss }
like_more t fs [] =
    ap (λ gs. record { typ = t; lifts = gs }) (sym (append-nil fs))
like_more t fs (vs ∷ vss) =
    ap (λ u. unification_more u (map datum_type (map (arr t) vss))) (like_further t fs)
    ∙ like_more t (fs ++ keep ∷ []) vss
    ∙ ap (λ gs. record { typ = t; lifts = gs })
    (append_assoc fs (keep ∷ []) (map (λ ws. keep) vss))

like_unified : (t : DataType) (vs : List Value) (vss : List (List Value))
    → unified (arr t vs ∷ map (arr t) vss)
    ≡ record { typ = t; lifts = keep ∷ map (λ ws. keep) vss }
like_unified t vs vss =
    ap (λ (r : Unification). unification_more
    (record { typ = r.typ; lifts = map (after r.left) [] ++ r.right ∷ [] })
    (map datum_type (map (arr t) vss))) (unknown_first t)
    ∙ like_more t (keep ∷ []) vss

carry_kept : (vss : List (List Value)) (k : ℕ) → carry_at (map (λ vs. keep) vss) k ≡ keep
carry_kept [] k = refl
carry_kept (vs ∷ vss) zero = refl
carry_kept (vs ∷ vss) (suc k) = carry_kept vss k

like_part : (t : DataType) (vss : List (List Value)) (k : ℕ) (vs : List Value)
    → 0 < length vss
    → arr (unified (map (arr t) vss)).typ
    (map (carried (carry_at (unified (map (arr t) vss)).lifts k)) vs) ≡ arr t vs
like_part t [] k vs p = absurd (omega (arith, p))
like_part t (ws ∷ wss) k vs p =
    ap (λ u. arr u.typ (map (carried (carry_at u.lifts k)) vs)) (like_unified t ws wss)
    ∙ ap (λ f. arr t (map (carried f) vs)) (carry_kept (ws ∷ wss) k)
    ∙ ap (arr t) (map-keep vs)

map-seam : (t : DataType) (before after : List (List Value)) (vs : List Value)
    → map (arr t) (before ++ vs ∷ after) ≡ map (arr t) before ++ arr t vs ∷ map (arr t) after
map-seam t [] after vs = refl
map-seam t (ws ∷ before) after vs = ap (λ ds. arr t ws ∷ ds) (map-seam t before after vs)

some_part : (before after : List (List Value)) (vs : List Value)
    → 0 < length (before ++ vs ∷ after)
some_part [] after vs = omega arith
some_part (ws ∷ before) after vs = omega arith

range_of_like_part : (t : DataType) (before after : List (List Value)) (vs : List Value)
    (whole : Datum)
    → concatenate_of (pos 0) (map (arr t) before ++ arr t vs ∷ map (arr t) after) ≡ Ok whole
    → part_range (map (arr t) before) (arr t vs) whole ≡ Ok (arr t vs)
range_of_like_part t before after vs whole e =
    let k = length (map (arr t) before) in
    range_of_part (map (arr t) before) (map (arr t) after) (arr t vs) whole e
    ∙ ap (λ ds. Ok (arr (unified ds).typ (map (carried (carry_at (unified ds).lifts k)) vs)))
    (sym (map-seam t before after vs))
    ∙ ap (λ d. Ok d) (like_part t (before ++ vs ∷ after) k vs (some_part before after vs))

pub concatenation_laws : ConcatenationLaws
concatenation_laws = record {
  length_of_parts = length_of_parts;
  range_of_part = range_of_part;
  range_of_like_part = range_of_like_part;
  one_array = one_array;
}
