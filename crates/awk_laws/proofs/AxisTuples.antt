-- What combinations gives for each list at an axis.
use Rattle.std.specs.Prelude.{◌≡◌, ℕ, zero, suc, ◌<◌, ℤ, Bool, true, false, List, [], ◌∷◌}
use Rattle.std.specs.Prelude.{length, map, get_or, replicate, None, Ok, refl}
use Rattle.std.specs.List.{AllByRecursion}
use Rattle.std.proofs.Common.{arith, ap, ap₂, ◌∙◌}
use Rattle.std.proofs.lemmas.List.{length-map}
use Rattle.std.proofs.lemmas.Simd.{map-map}
use Rattle.awk_base.proofs.Every.{all-at}
use Rattle.awk_types.specs.DataType.{DataType, tup, types_from}
use Rattle.awk_types.specs.Datum.{Datum, datum_type}
use Rattle.awk_types.specs.Has.{Has}
use Rattle.awk_types.specs.Simple.{IsSimple, simple, simple_value, simple_values, values_by}
use Rattle.awk_types.specs.Value.{Value, null, row, values_from}
use Rattle.awk_types.proofs.SimpleLaws.{simple_stays, value_stays, simples-same}
use Rattle.awk_types.proofs.Trees.{value_list-from}
use Rattle.awk_combi.specs.Combinations.{combinations_function, combinations_of, slot_type}
use Rattle.awk_combi.specs.Combinations.{slot_value, slots, tuple_at, tuple_type, tuples}
use Rattle.awk_pair_operands.specs.Typed.{IsTyped}
use Rattle.awk_places.specs.Places.{rising_places}
use Rattle.awk_places.proofs.FlatLaws.{map-same-all}
use Rattle.awk_laws.specs.Axes.{TypedList, lists_of}
use Rattle.awk_laws.specs.Choices.{IsChoice, tuples_of_list}
use Rattle.awk_laws.proofs.AxisLists.{each-given, given}
use Rattle.awk_laws.proofs.AxisTypes.{IsPlain, plain_lists}
use Rattle.awk_laws.proofs.ChoiceLaws.{all_choices}

-- ---- slots of one type

slots-same : (m : ℕ) (u : DataType) (xs : List Value) → length xs ≡ m
    → AllByRecursion (λ x. simple_value u x ≡ x) xs
    → values_by (simple_values (types_from (replicate m u))) xs ≡ xs
slots-same zero u [] e h = refl
slots-same zero u (x ∷ xs) e h = absurd (omega (arith, e))
slots-same (suc m) u [] e h = absurd (omega (arith, e))
slots-same (suc m) u (x ∷ xs) e h =
    ap₂ (λ y ys. y ∷ ys) h.0 (slots-same m u xs (omega (arith, e)) h.1)

-- ---- tuples of items of a simple type

slot_simple : (places : Bool) (t : DataType) → IsSimple t
    → simple (slot_type places t) ≡ slot_type places t
slot_simple true t s = refl
slot_simple false t s = simple_stays t s

slot_stays : (places : Bool) (t : DataType) (vs : List Value) (k : ℕ) → IsSimple t
    → AllByRecursion (Has t) vs → k < length vs
    → simple_value (slot_type places t) (slot_value places vs k) ≡ slot_value places vs k
slot_stays true t vs k s h l = refl
slot_stays false t vs k s h l =
    value_stays t (get_or vs k null) s (all-at (Has t) vs k null h l)

slots_stay : (places : Bool) (t : DataType) (vs : List Value) (ks : List ℕ) → IsSimple t
    → AllByRecursion (Has t) vs → AllByRecursion (λ k. k < length vs) ks
    → AllByRecursion (λ x. simple_value (slot_type places t) x ≡ x) (map (slot_value places vs) ks)
slots_stay places t vs [] s h l = tt
slots_stay places t vs (k ∷ ks) s h l =
    (slot_stays places t vs k s h l.0, slots_stay places t vs ks s h l.1)

module _ (n : ℕ) (rep places : Bool) where
  abbrev tuples_given : TypedList → TypedList
  tuples_given l = given (λ c. None) (tuple_type places n) (tuples rep places n) l

  type_stays : (t : DataType) → IsSimple t → simple (tuple_type places n t) ≡ tuple_type places n t
  type_stays t s =
      ap (λ ts. tup (types_from ts))
      (simples-same (slots n (slot_type places t)) (slot_type places t) (slot_simple places t s))

  tuple_stays : (t : DataType) (vs : List Value) (ks : List ℕ) → IsSimple t
      → AllByRecursion (Has t) vs → IsChoice rep (slots n (slot_type places t)) (length vs) ks
      → simple_value (tuple_type places n t) (tuple_at places vs ks) ≡ tuple_at places vs ks
  tuple_stays t vs ks s h c =
      let u = slot_type places t in
      let xs = map (slot_value places vs) ks in
      ap (λ ys. row (values_from (values_by
      (simple_values (types_from (replicate (slots n u) u))) ys))) (value_list-from xs)
      ∙ ap (λ ys. row (values_from ys))
      (slots-same (slots n u) u xs (length-map ks (slot_value places vs) ∙ c.long)
      (slots_stay places t vs ks s h c.below))

  list_given : (l : TypedList) → IsPlain l → tuples_given l ≡ tuples_of_list n rep places l
  list_given l p =
      let t = l.0 in
      let vs = l.1 in
      let m = slots n (slot_type places t) in
      ap₂ (λ u xs. (u, xs)) (type_stays t p.0)
      (map-map (simple_value (tuple_type places n t)) (tuple_at places vs)
      (rising_places rep m (length vs))
      ∙ map-same-all (IsChoice rep m (length vs))
      (λ ks. simple_value (tuple_type places n t) (tuple_at places vs ks)) (tuple_at places vs)
      (λ ks c. tuple_stays t vs ks p.0 p.1 c) (rising_places rep m (length vs))
      (all_choices rep m (length vs)))

  pub nested_tuples : (axis : ℤ) (d made : Datum) → IsTyped d → IsSimple (datum_type d)
      → combinations_of n rep axis places d ≡ Ok made
      → lists_of axis made ≡ map (tuples_of_list n rep places) (lists_of axis d)
  nested_tuples axis d made h s e =
      each-given (λ c. None) (tuple_type places n) (tuples rep places n)
      (combinations_function n rep places) refl axis d made h s e
      ∙ map-same-all IsPlain tuples_given (tuples_of_list n rep places) list_given
      (lists_of axis d) (plain_lists axis d h s)
