-- How many tuples there are of the items of one list, and those that places pick.
use Rattle.std.proofs.Common.{◌≡◌, ℕ, ◌+◌, ◌-◌, ◌/◌, ◌<◌, ◌≤◌, refl, ap, ap₂, sym, subst, ◌∙◌}
use Rattle.std.proofs.Common.{arith, List, [], ◌∷◌, map, length, get_or}
use Rattle.std.specs.Prelude.{pos, nat_lt, Bool, true, false, Some, None}
use Rattle.std.specs.Prelude.{if◌then◌else◌}
use Rattle.std.specs.List.{AllByRecursion}
use Rattle.std.proofs.Math.Nat.{div-le_self}
use Rattle.std.proofs.lemmas.List.{length-map}
use Rattle.std.proofs.lemmas.Simd.{map-map}
use Rattle.awk_types.specs.DataType.{DataType, nodes}
use Rattle.awk_types.specs.Value.{Value, int, null, row, values_from}
use Rattle.awk_types.proofs.Trees.{value_list-from}
use Rattle.awk_layout.specs.Item.{at_option}
use Rattle.awk_places.specs.Places.{rising_places}
use Rattle.awk_places.proofs.BegunLaws.{all_below, AreBelow}
use Rattle.awk_places.proofs.FlatLaws.{map-same-all}
use Rattle.awk_places.proofs.RisingLaws.{rising_places-from}
use Rattle.awk_select.specs.Picks.{picked, take_place, take_places}
use Rattle.awk_combi.specs.Combinations.{slot_type, slots, slot_value, tuple_at}
use Rattle.awk_combi.specs.Combinations.{tuples}
use Rattle.awk_laws.specs.Choices.{binomial}
use Rattle.awk_laws.specs.Choices.{HasSlots, picked_tuple}
use Rattle.awk_laws.proofs.ChoiceLaws.{count-choices, count-repeated}

-- ---- how many

count_by_places : (rep places : Bool) (n : ℕ) (t : DataType) (vs : List Value)
    → HasSlots n places t
    → length (tuples rep places n t vs) ≡ length (rising_places rep n (length vs))
count_by_places rep places n t vs h =
    length-map (rising_places rep (slots n (slot_type places t)) (length vs)) (tuple_at places vs)
    ∙ ap (λ k. length (rising_places rep k (length vs))) h

pub count_is : (places : Bool) (n : ℕ) (t : DataType) (vs : List Value) → HasSlots n places t
    → length (tuples false places n t vs) ≡ binomial (length vs) n
count_is places n t vs h =
    count_by_places false places n t vs h ∙ count-choices n (length vs)

pub count_repeated_is : (places : Bool) (n : ℕ) (t : DataType) (vs : List Value)
    → HasSlots n places t → length (tuples true places n t vs) ≡ binomial (length vs + n - 1) n
count_repeated_is places n t vs h =
    count_by_places true places n t vs h ∙ count-repeated n (length vs)

-- ---- a pick by places

-- a place has at least as many slots as an item
place_slots : (n : ℕ) (t : DataType) → HasSlots n false t → HasSlots n true t
place_slots n t h =
    let few : 65536 / nodes t ≤ 65536 = div-le_self 65536 (nodes t) in
    omega (arith, h, few)

pick_all : (vs : List Value) (ks : List ℕ) → AreBelow (length vs) ks
    → picked vs (take_places (length vs) (map (slot_value true vs) ks))
    ≡ map (slot_value false vs) ks
pick_all vs [] h = refl
pick_all vs (k ∷ ks) h = ap₂ (λ v ws. v ∷ ws) (one k h.0) (pick_all vs ks h.1)
  where
    one : (k : ℕ) → k < length vs
        → at_option (take_place (length vs) (int (pos k))) (λ k. get_or vs k null)
        ≡ get_or vs k null
    one k l =
        let e : nat_lt k (length vs) ≡ true = grind (arith, l) in
        ap (λ b. at_option (if b then Some k else None) (λ k. get_or vs k null)) e

pick_tuple : (vs : List Value) (ks : List ℕ) → AreBelow (length vs) ks
    → picked_tuple vs (tuple_at true vs ks) ≡ tuple_at false vs ks
pick_tuple vs ks h =
    ap (λ ws. row (values_from (picked vs (take_places (length vs) ws))))
    (value_list-from (map (slot_value true vs) ks))
    ∙ ap (λ ws. row (values_from ws)) (pick_all vs ks h)

pub pick_is : (rep : Bool) (n : ℕ) (t : DataType) (vs : List Value) → HasSlots n false t
    → map (picked_tuple vs) (tuples rep true n t vs) ≡ tuples rep false n t vs
pick_is rep n t vs h =
    let kss = rising_places rep n (length vs) in
    ap (λ k. map (picked_tuple vs) (map (tuple_at true vs) (rising_places rep k (length vs))))
    (place_slots n t h)
    ∙ map-map (picked_tuple vs) (tuple_at true vs) kss
    ∙ map-same-all (AreBelow (length vs)) (λ ks. picked_tuple vs (tuple_at true vs ks))
    (tuple_at false vs) (pick_tuple vs) kss
    (subst (AllByRecursion (AreBelow (length vs))) (sym (rising_places-from rep n (length vs)))
    (all_below rep n 0 (length vs)))
    ∙ ap (λ k. map (tuple_at false vs) (rising_places rep k (length vs))) (sym h)
