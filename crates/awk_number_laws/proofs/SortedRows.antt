-- Lists that are picked row by row by the places of their items in order.
use Rattle.std.specs.Prelude.{◌≡◌, ◌||◌, Bool, true, false, List, length, map, sum}
use Rattle.std.specs.Prelude.{Option, Some, None, option_map, Ok, refl, if◌then◌else◌}
use Rattle.std.proofs.Common.{ap, ap₂, sym, ◌∙◌}
use Rattle.awk_types.specs.DataType.{DataType, unknown, leaf, var, reg, rec, tup, opt, uni}
use Rattle.awk_types.specs.Datum.{Datum, arr}
use Rattle.awk_types.specs.Faults.{limit_fault, limit_refused}
use Rattle.awk_types.specs.Gives.{refused_or, ◌or◌}
use Rattle.awk_types.specs.Limit.{limit}
use Rattle.awk_types.specs.Predicates.{is_leaf, is_list}
use Rattle.awk_types.specs.Simple.{IsSimple, present, simple}
use Rattle.awk_types.specs.Value.{Value}
use Rattle.awk_types.specs.declared.fault.Fault.{Fault}
use Rattle.awk_types.specs.declared.primitive.Primitive.TheVariants.{I64}
use Rattle.awk_types.proofs.SimpleLaws.{simple_stays}
use Rattle.awk_list_functions.specs.Causes.{first_spoil}
use Rattle.awk_list_functions.specs.Lift.{lifted_type, lifted_value, refusal_at}
use Rattle.awk_list_functions.specs.Lifting.{on_items, on_whole, refusal_fault, spoil_fault}
use Rattle.awk_list_functions.specs.ListFunction.{ListFunction}
use Rattle.awk_list_functions.specs.Spoils.{spoil_at, too_many}
use Rattle.awk_list_functions.specs.declared.causes.Spoil.{Spoil}
use Rattle.awk_list_functions.specs.declared.place.Reach.TheVariants.{Innermost}
use Rattle.awk_columns.specs.Columns.{joined_items, lists_among, present_values}
use Rattle.awk_jagged.specs.Jagged.{jagged_of}
use Rattle.awk_order.specs.Order.{item_order, items_in_order}
use Rattle.awk_order.specs.Sort.{place_items, sort_of, argsort_of, sort_function, argsort_function}
use Rattle.awk_law_chains.specs.Arrays.{AreItems, any_length_at, is_lists_to, of_any_length}
use Rattle.awk_number_laws.specs.Leaves.{on_result}
use Rattle.awk_number_laws.proofs.InnermostLists.{inside as reached_inside, items_given}
use Rattle.awk_law_chains.proofs.Limits.{few_spoil-limit}
use Rattle.awk_number_laws.proofs.ListOrders.{length-sorted, pick_is, places_within}
use Rattle.awk_number_laws.proofs.OrderLaws.{inside}
use Rattle.awk_law_chains.proofs.RowsPicked.{picked_by_places}
use Rattle.awk_number_laws.proofs.SortedAgain.{same_type, each_plain}

either_if : (b c : Bool) → (b ≡ false → c ≡ true) → (b || c) ≡ true
either_if true c e = refl
either_if false c e = e refl

module _ (up : Bool) where
  abbrev sorts : ListFunction
  sorts = sort_function up

  abbrev argsorts : ListFunction
  argsorts = argsort_function up

  abbrev sorted_in : DataType → Value → Value
  sorted_in t v = lifted_value sorts.giving Innermost t v

  abbrev IsReached : DataType → Type 0
  IsReached t = refusal_at argsorts Innermost t ≡ None

  abbrev spoil_in : DataType → List Value → Option Spoil
  spoil_in t vs = spoil_at argsorts Innermost t vs

  below : (t : DataType) → is_leaf (present t) ≡ false
      → (if is_leaf (present t) then argsorts.refusal t else refusal_at argsorts Innermost t) ≡ None
      → IsReached t
  below t e r =
      reached_inside (argsorts.refusal t) (refusal_at argsorts Innermost t) (is_leaf (present t)) e
      r

  lists_reached : (t : DataType) → IsReached t → is_lists_to Innermost t ≡ true
  lists_reached (var t) r =
      either_if (is_leaf (present t)) (is_lists_to Innermost t)
      (λ e. lists_reached t (below t e r))
  lists_reached (reg n t) r =
      either_if (is_leaf (present t)) (is_lists_to Innermost t)
      (λ e. lists_reached t (below t e r))
  lists_reached (opt t) r = lists_reached t r
  lists_reached unknown r = cc
  lists_reached (leaf p) r = cc
  lists_reached (rec ns ts) r = cc
  lists_reached (tup ts) r = cc
  lists_reached (uni ts) r = cc

  -- ---- what sort gives

  refusals : (t : DataType) → refusal_at sorts Innermost t ≡ refusal_at argsorts Innermost t
  refusals (var t) = ap (λ x. if is_leaf (present t) then argsorts.refusal t else x) (refusals t)
  refusals (reg n t) = ap (λ x. if is_leaf (present t) then argsorts.refusal t else x) (refusals t)
  refusals (opt t) = refusals t
  refusals unknown = refl
  refusals (leaf p) = refl
  refusals (rec ns ts) = refl
  refusals (tup ts) = refl
  refusals (uni ts) = refl

  spoil_if : (b : Bool) (t : DataType) (vs : List Value)
      → (b ≡ false → spoil_at sorts Innermost t (joined_items vs) ≡ spoil_in t (joined_items vs))
      → (if b then too_many (sum (map length (lists_among vs)))
      else first_spoil (too_many (length (joined_items vs)))
      (spoil_at sorts Innermost t (joined_items vs)))
      ≡ (if b then too_many (sum (map length (lists_among vs)))
      else first_spoil (too_many (length (joined_items vs))) (spoil_in t (joined_items vs)))
  spoil_if true t vs e = refl
  spoil_if false t vs e = ap (first_spoil (too_many (length (joined_items vs)))) (e refl)

  spoils : (t : DataType) (vs : List Value) → IsReached t
      → spoil_at sorts Innermost t vs ≡ spoil_in t vs
  spoils (var t) vs r =
      spoil_if (is_leaf (present t)) t vs (λ e. spoils t (joined_items vs) (below t e r))
  spoils (reg n t) vs r =
      spoil_if (is_leaf (present t)) t vs (λ e. spoils t (joined_items vs) (below t e r))
  spoils (opt t) vs r = spoils t (present_values vs) r
  spoils unknown vs r = cc
  spoils (leaf p) vs r = cc
  spoils (rec ns ts) vs r = cc
  spoils (tup ts) vs r = cc
  spoils (uni ts) vs r = cc

  only_limit : (x y z : Option Fault) → x ≡ None → z ≡ None → (x or (y or z)) ≡ y
  only_limit x None z e f = ap₂ (λ a b. a or b) e f
  only_limit x (Some y) z e f = ap (λ a. a or Some y) e

  sort_given : (t : DataType) (vs : List Value) → IsSimple t → IsReached t
      → first_spoil (too_many (length vs)) (spoil_in t vs) ≡ None
      → on_items sorts Innermost t vs
      ≡ refused_or (limit_refused t) (arr t (map (sorted_in t) vs))
  sort_given t vs s r e =
      let told = refusals t ∙ r in
      let u = lifted_type sorts.giving Innermost t in
      let same : simple u ≡ t = ap simple (same_type up t told) ∙ simple_stays t s in
      ap₂ refused_or
      (only_limit (option_map refusal_fault (refusal_at sorts Innermost t))
      (option_map limit_fault (limit (simple u)))
      (option_map spoil_fault (first_spoil (too_many (length vs)) (spoil_at sorts Innermost t vs)))
      (ap (option_map refusal_fault) told)
      (ap (option_map spoil_fault) (ap (first_spoil (too_many (length vs))) (spoils t vs r) ∙ e))
      ∙ ap (λ x. option_map limit_fault (limit x)) same)
      (ap₂ arr same (each_plain up t vs told))

  any_result : (q : Option Fault) (t : DataType) (vs : List Value)
      → on_result (λ d. Ok (of_any_length Innermost d)) (refused_or q (arr t vs))
      ≡ refused_or q (arr (any_length_at Innermost t) vs)
  any_result None t vs = refl
  any_result (Some f) t vs = refl

  jagged_given : (t : DataType) (vs : List Value) → AreItems t vs → IsReached t
      → first_spoil (too_many (length vs)) (spoil_in t vs) ≡ None
      → jagged_of (arr t vs) (arr (lifted_type argsorts.giving Innermost t)
      (map (lifted_value argsorts.giving Innermost t) vs))
      ≡ refused_or (limit_refused t) (arr (any_length_at Innermost t) (map (sorted_in t) vs))
  jagged_given t vs h r e =
      picked_by_places (place_items up) (items_in_order up) (pick_is up)
      (λ us. inside (length us) (item_order up us) (places_within up us)) (length-sorted up)
      argsorts.refusal argsorts.spoil
      (λ t ls e. few_spoil-limit (sum (map length ls)) e) Innermost t vs h (lists_reached t r) e

no_leaf : (t : DataType) → is_list t ≡ true → is_leaf t ≡ false
no_leaf (var t) e = refl
no_leaf (reg n t) e = refl
no_leaf unknown e = cc
no_leaf (leaf p) e = cc
no_leaf (rec ns ts) e = refl
no_leaf (tup ts) e = refl
no_leaf (opt t) e = refl
no_leaf (uni ts) e = refl

pub picks_rows : (up : Bool) (t : DataType) (vs : List Value) (places : Datum)
    → is_list (present t) ≡ true → AreItems t vs → argsort_of up (arr t vs) ≡ Ok places
    → jagged_of (arr t vs) places
    ≡ on_result (λ d. Ok (of_any_length Innermost d)) (sort_of up (arr t vs))
picks_rows up t vs places l h e =
    let f = sort_function up in
    let g = argsort_function up in
    let bare = no_leaf (present t) l in
    let k = items_given (λ t. leaf I64) (place_items up) (λ t l. refl) (λ t s. tt) (λ t x l. refl)
    t vs places h.simple
    (sym (ap (λ b. if b then on_whole g t vs else on_items g Innermost t vs) bare) ∙ e) in
    ap (jagged_of (arr t vs)) k.is
    ∙ jagged_given up t vs h k.reached k.spoil
    ∙ sym (ap (on_result (λ d. Ok (of_any_length Innermost d)))
    (ap (λ b. if b then on_whole f t vs else on_items f Innermost t vs) bare
    ∙ sort_given up t vs h.simple k.reached k.spoil)
    ∙ any_result up (limit_refused t) t (map (lifted_value f.giving Innermost t) vs))
