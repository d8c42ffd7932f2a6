-- Rows of values, carried part by part.
use Rattle.std.proofs.Common.{◌≡◌, ◌==◌, ℕ, zero, suc, ◌<◌, List, [], ◌∷◌, Bool, true, false}
use Rattle.std.proofs.Common.{length, map, get_or, slice_get, Option, Some, None, option_map}
use Rattle.std.proofs.Common.{if◌then◌else◌, refl, ap, sym, subst, ◌∙◌, arith, add-one}
use Rattle.std.specs.List.{range_with_len}
use Rattle.std.proofs.lemmas.List.FromFn.{fill_by_all, get_or-map-range_with_len}
use Rattle.std.proofs.lemmas.List.FromFn.{length-map-range_with_len}
use Rattle.awk_base.proofs.Ranges.{map-same}
use Rattle.awk_types.specs.DataType.{DataType, unknown, tup, types_from}
use Rattle.awk_types.specs.Has.{Has, HasRow}
use Rattle.awk_types.specs.Simple.{values_by}
use Rattle.awk_types.specs.Value.{Value, null, row, value_list, values_from}
use Rattle.awk_types.proofs.Trees.{value_list-from}
use Rattle.awk_types.proofs.HasLaws.{row-length}
use Rattle.awk_unify.specs.Carry.{Carry, Carries as CarryList, carry, no_carries, carry_list}
use Rattle.awk_unify.specs.Carry.{carried, carried_each, keep, in_items, to_parts, to_alternatives}
use Rattle.awk_unify.specs.Carry.{at_place, in_order}
use Rattle.awk_unify.specs.Carries.{carry_at}
use Rattle.awk_unify.specs.Places.{places_from}
use Rattle.awk_merge_sides.specs.Lifts.{source_at, part_source, part_carry}

-- ---- rows of values

-- the value at a place as it is carried, or null where there is none
abbrev pub or_null : Carry → Option Value → Value
or_null f (Some v) = carried f v
or_null f None = null

abbrev pub value_from : (ℕ → Carry) → List Value → Option ℕ → Value
value_from f vs (Some k) = or_null (f k) (slice_get vs k)
value_from f vs None = null

-- the part at a place of a row that is carried
abbrev pub part_value : Carry → List Value → ℕ → Value
part_value f vs j = value_from (part_carry f) vs (part_source f j)

-- the values at the first n places
abbrev pub first_parts : Carry → List Value → ℕ → List Value
first_parts f vs n = map (part_value f vs) (range_with_len 0 n)

has_at : (ts : List DataType) (vs : List Value) (j : ℕ) → HasRow (types_from ts) vs
    → j < length ts → Has (get_or ts j unknown) (get_or vs j null)
has_at [] vs j h l = absurd (omega (arith, l))
has_at (t ∷ ts) [] j h l = absurd h
has_at (t ∷ ts) (v ∷ vs) zero h l = h.0
has_at (t ∷ ts) (v ∷ vs) (suc j) h l = has_at ts vs j h.1 (omega (arith, l))

-- the value that a place is found to go to
found_none : (f : ℕ → Carry) (o : Option ℕ) → value_from f [] o ≡ null
found_none f None = refl
found_none f (Some k) = refl

found_after : (f : Carry) (fs : List Carry) (v : Value) (vs : List Value) (o : Option ℕ)
    → value_from (carry_at (f ∷ fs)) (v ∷ vs) (option_map suc o) ≡ value_from (carry_at fs) vs o
found_after f fs v vs None = refl
found_after f fs v vs (Some k) = refl

placed_one : (b : Bool) (f : Carry) (fs : List Carry) (v : Value) (vs : List Value) (w : Value)
    (o : Option ℕ) → w ≡ value_from (carry_at fs) vs o
    → (if b then carried f v else w)
    ≡ value_from (carry_at (f ∷ fs)) (v ∷ vs) (if b then Some 0 else option_map suc o)
placed_one true f fs v vs w o e = refl
placed_one false f fs v vs w o e = e ∙ sym (found_after f fs v vs o)

-- the part that goes to a place
placed_part : (j : ℕ) (ps : List ℕ) (fs : CarryList) (vs : List Value)
    → at_place j ps (values_by (carried_each fs) vs)
    ≡ value_from (carry_at (carry_list fs)) vs (source_at j ps (carry_list fs))
placed_part j [] fs vs = refl
placed_part j (p ∷ ps) no_carries vs = refl
placed_part j (p ∷ ps) (carry f fs) [] =
    sym (found_none (carry_at (f ∷ carry_list fs)) (source_at j (p ∷ ps) (f ∷ carry_list fs)))
placed_part j (p ∷ ps) (carry f fs) (v ∷ vs) =
    placed_one (p == j) f (carry_list fs) v vs (at_place j ps (values_by (carried_each fs) vs))
    (source_at j ps (carry_list fs)) (placed_part j ps fs vs)

places-range : {X : Type 0} (g : ℕ → X) (a n : ℕ)
    → map g (places_from a n) ≡ map g (range_with_len a n)
places-range g a zero = refl
places-range {X} g a (suc n) =
    ap (λ (xs : List X). g a ∷ xs) (places-range g (suc a) n
    ∙ ap (λ i. map g (range_with_len i n)) (sym (add-one a)))

length-in_order : (ps : List ℕ) (vs : List Value) → length (in_order ps vs) ≡ length ps
length-in_order ps vs =
    ap length (places-range (λ j. at_place j ps vs) 0 (length ps))
    ∙ length-map-range_with_len (λ j. at_place j ps vs) 0 (length ps)

in_order-parts : (ps : List ℕ) (fs : CarryList) (vs : List Value) (n : ℕ) → length ps ≡ n
    → in_order ps (values_by (carried_each fs) vs) ≡ first_parts (to_parts ps fs) vs n
in_order-parts ps fs vs n e =
    places-range (λ j. at_place j ps (values_by (carried_each fs) vs)) 0 (length ps)
    ∙ map-same (λ j. at_place j ps (values_by (carried_each fs) vs))
    (part_value (to_parts ps fs) vs) 0 (length ps) (λ j p q. placed_part j ps fs vs)
    ∙ ap (first_parts (to_parts ps fs) vs) e

kept_part : (vs : List Value) (j : ℕ) → j < length vs
    → get_or vs j null ≡ or_null keep (slice_get vs j)
kept_part [] j l = absurd (omega (arith, l))
kept_part (v ∷ vs) zero l = refl
kept_part (v ∷ vs) (suc j) l = kept_part vs j (omega (arith, l))

kept_parts : (vs : List Value) (n : ℕ) → length vs ≡ n
    → vs ≡ map (λ j. or_null keep (slice_get vs j)) (range_with_len 0 n)
kept_parts vs n e = fill_by_all (λ j. or_null keep (slice_get vs j)) vs n null e
    (λ j l. kept_part vs j (omega (arith, l, e)))

-- a row whose parts go to those of a type
pub row_carried : (f : Carry) (vs : List Value) (ts : List DataType)
    → Has (tup (types_from ts)) (carried f (row (values_from vs)))
    → carried f (row (values_from vs)) ≡ row (values_from (first_parts f vs (length ts)))
row_carried keep vs ts h =
    ap (λ ws. row (values_from ws))
    (kept_parts vs (length ts)
    (row-length ts vs (subst (HasRow (types_from ts)) (value_list-from vs) h)))
row_carried (in_items g) vs ts h =
    ap (λ ws. row (values_from ws))
    (kept_parts vs (length ts)
    (row-length ts vs (subst (HasRow (types_from ts)) (value_list-from vs) h)))
row_carried (to_alternatives us gs) vs ts h = absurd h
row_carried (to_parts ps fs) vs ts h =
    let ws : List Value = in_order ps (values_by (carried_each fs) (value_list (values_from vs))) in
    let n : length ps ≡ length ts =
    sym (length-in_order ps (values_by (carried_each fs) (value_list (values_from vs))))
    ∙ row-length ts ws (subst (HasRow (types_from ts)) (value_list-from ws) h) in
    ap (λ us. row (values_from (in_order ps (values_by (carried_each fs) us)))) (value_list-from vs)
    ∙ ap (λ us. row (values_from us)) (in_order-parts ps fs vs (length ts) n)

-- each part is of its type
pub part_has : (f : Carry) (vs : List Value) (ts : List DataType) (j : ℕ)
    → Has (tup (types_from ts)) (carried f (row (values_from vs))) → j < length ts
    → Has (get_or ts j unknown) (part_value f vs j)
part_has f vs ts j h l =
    let r : Has (tup (types_from ts)) (row (values_from (first_parts f vs (length ts)))) =
    subst (Has (tup (types_from ts))) (row_carried f vs ts h) h in
    subst (Has (get_or ts j unknown))
    (get_or-map-range_with_len (part_value f vs) 0 (length ts) j j null l (omega arith))
    (has_at ts (first_parts f vs (length ts)) j
    (subst (HasRow (types_from ts)) (value_list-from (first_parts f vs (length ts))) r) l)
