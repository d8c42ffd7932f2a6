-- What a reducer gives for each innermost list.
use Rattle.std.specs.Prelude.{◌≡◌, List, [], ◌∷◌, map, filter, Ok, refl}
use Rattle.std.proofs.Common.{ap, ◌∙◌}
use Rattle.awk_types.specs.DataType.{DataType, leaf, opt}
use Rattle.awk_types.specs.Datum.{Datum, one, datum_type}
use Rattle.awk_types.specs.Settle.{settle}
use Rattle.awk_types.specs.Simple.{simple, simple_value}
use Rattle.awk_types.specs.Value.{Value, int, truth, null, list, row, alt}
use Rattle.awk_types.proofs.SimpleLaws.{in_option_stays}
use Rattle.awk_columns.specs.Columns.{is_present, present_values}
use Rattle.awk_frames.specs.Shape.{ends}
use Rattle.awk_pair_operands.specs.Typed.{IsTyped}
use Rattle.awk_reduce.specs.Reduce.{reduce_of, reducer_function}
use Rattle.awk_reduce.specs.Reducers.{reduced, reduced_type}
use Rattle.awk_reduce.specs.declared.reducer.Reducer.{Reducer}
use Rattle.awk_reduce.specs.declared.reducer.Reducer.TheVariants.{Sum, Prod, Min, Max, Argmin}
use Rattle.awk_reduce.specs.declared.reducer.Reducer.TheVariants.{Argmax, Any, All, Count}
use Rattle.awk_reduce.specs.declared.reducer.Reducer.TheVariants.{CountNonzero}
use Rattle.awk_law_chains.specs.Innermost.{innermost_lists, innermost_type, leaves_in}
use Rattle.awk_number_laws.proofs.ReducedLists.{present_twice, results_are}

plain_reduced : (how : Reducer) (t : DataType) (x : Value)
    → simple_value (reduced_type how t) x ≡ x
plain_reduced Sum t x = refl
plain_reduced Prod t x = refl
plain_reduced Min t x = in_option_stays (λ v. v) x refl
plain_reduced Max t x = in_option_stays (λ v. v) x refl
plain_reduced Argmin t x = in_option_stays (λ v. v) x refl
plain_reduced Argmax t x = in_option_stays (λ v. v) x refl
plain_reduced Any t x = refl
plain_reduced All t x = refl
plain_reduced Count t x = refl
plain_reduced CountNonzero t x = refl

simple_reduced : (how : Reducer) (t : DataType) → simple (reduced_type how t) ≡ reduced_type how t
simple_reduced Sum t = refl
simple_reduced Prod t = refl
simple_reduced Min t = refl
simple_reduced Max t = refl
simple_reduced Argmin t = refl
simple_reduced Argmax t = refl
simple_reduced Any t = refl
simple_reduced All t = refl
simple_reduced Count t = refl
simple_reduced CountNonzero t = refl

ends_reduced : (how : Reducer) (t : DataType) (vs : List Value)
    → filter is_present (ends (reduced_type how t) vs) ≡ filter is_present vs
ends_reduced Sum t vs = refl
ends_reduced Prod t vs = refl
ends_reduced Min t vs = present_twice vs
ends_reduced Max t vs = present_twice vs
ends_reduced Argmin t vs = present_twice vs
ends_reduced Argmax t vs = present_twice vs
ends_reduced Any t vs = refl
ends_reduced All t vs = refl
ends_reduced Count t vs = refl
ends_reduced CountNonzero t vs = refl

optional_result : (t : DataType) (x : Value) → ends t [] ≡ [] → ends t (x ∷ []) ≡ x ∷ []
    → ((v : Value) → settle t v ≡ one t v)
    → filter is_present (leaves_in (settle (opt t) x)) ≡ filter is_present (x ∷ [])
optional_result t null z e h = ap (filter is_present) z
optional_result t (int z) n e h =
    ap (λ d. filter is_present (leaves_in d)) (h (int z)) ∙ ap (filter is_present) e
optional_result t (truth b) n e h =
    ap (λ d. filter is_present (leaves_in d)) (h (truth b)) ∙ ap (filter is_present) e
optional_result t (list us) n e h =
    ap (λ d. filter is_present (leaves_in d)) (h (list us)) ∙ ap (filter is_present) e
optional_result t (row us) n e h =
    ap (λ d. filter is_present (leaves_in d)) (h (row us)) ∙ ap (filter is_present) e
optional_result t (alt j u) n e h =
    ap (λ d. filter is_present (leaves_in d)) (h (alt j u)) ∙ ap (filter is_present) e

settled_reduced : (how : Reducer) (t : DataType) (x : Value)
    → filter is_present (leaves_in (settle (reduced_type how t) x)) ≡ filter is_present (x ∷ [])
settled_reduced Sum t x = refl
settled_reduced Prod t x = refl
settled_reduced Min t x = optional_result (leaf _) x refl refl (λ v. refl)
settled_reduced Max t x = optional_result (leaf _) x refl refl (λ v. refl)
settled_reduced Argmin t x = optional_result (leaf _) x refl refl (λ v. refl)
settled_reduced Argmax t x = optional_result (leaf _) x refl refl (λ v. refl)
settled_reduced Any t x = refl
settled_reduced All t x = refl
settled_reduced Count t x = refl
settled_reduced CountNonzero t x = refl

pub reduced_are : (how : Reducer) (d made : Datum) → IsTyped d → reduce_of how d ≡ Ok made
    → present_values (leaves_in made)
    ≡ present_values (map (reduced how (innermost_type (datum_type d))) (innermost_lists d))
reduced_are how d made k e =
    let f = reducer_function how in
    results_are (reduced_type how) (reduced how) f.refusal f.spoil
    (λ t us. plain_reduced how t (reduced how t us)) (simple_reduced how) (ends_reduced how)
    (λ t us. settled_reduced how t (reduced how t us)) d made k e
