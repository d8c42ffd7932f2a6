-- The laws of lists in order.
use Rattle.std.proofs.Common.{◌≡◌, ℕ, ◌<◌, ◌≤◌, refl, ap, ap₂, sym, ◌∙◌, arith, true≢false}
use Rattle.std.proofs.Common.{List, [], ◌∷◌, map, length}
use Rattle.std.specs.Prelude.{pos, nat_lt, sum, is_none, Bool, true, false, ◌||◌, Option, Some}
use Rattle.std.specs.Prelude.{None, Ok, if◌then◌else◌}
use Rattle.std.specs.List.{list_any}
use Rattle.std.proofs.lemmas.Bool.{ltb-false}
use Rattle.std.proofs.lemmas.List.{length-map}
use Rattle.awk_base.proofs.Sums.{sum-one}
use Rattle.awk_types.specs.DataType.{DataType, unknown, leaf, var, reg, rec, tup, opt, uni}
use Rattle.awk_types.specs.Datum.{Datum, arr, datum_type}
use Rattle.awk_types.specs.Gives.{refused_or, ◌or◌}
use Rattle.awk_types.specs.ItemLimit.{item_limit, too_many}
use Rattle.awk_types.specs.Predicates.{is_leaf}
use Rattle.awk_types.specs.Simple.{IsSimple, present, simple_value}
use Rattle.awk_types.specs.Value.{Value, int, value_list, values_from}
use Rattle.awk_types.specs.declared.fault.Fault.{Fault}
use Rattle.awk_types.specs.declared.fault.Fault.TheVariants as fault
use Rattle.awk_types.specs.declared.primitive.Primitive.TheVariants.{I64}
use Rattle.awk_types.proofs.RefusalLaws.{refused_or-Ok}
use Rattle.awk_types.proofs.Trees.{value_list-from}
use Rattle.awk_types.proofs.ItemLimits.{within_limit}
use Rattle.awk_list_functions.specs.Lifting.{first_told}
use Rattle.awk_list_functions.specs.declared.causes.Spoil.{Spoil}
use Rattle.awk_list_functions.specs.declared.causes.Spoil.TheVariants.{Size}
use Rattle.awk_select.specs.Picks.{picked, take_places, take_of, is_outside, index_refused}
use Rattle.awk_sorting.proofs.InsertLaws.{AllBelow}
use Rattle.awk_order.specs.Order.{item_order, items_in_order}
use Rattle.awk_order.specs.Sort.{place_items, sort_of, argsort_of}
use Rattle.awk_order.proofs.ValueLaws.{leaf_simple_value}
use Rattle.awk_law_chains.specs.Innermost.{innermost_lists}
use Rattle.awk_number_laws.proofs.InnermostLists.{nested}
use Rattle.awk_number_laws.proofs.ListOrders.{length-sorted, length-places}
use Rattle.awk_number_laws.proofs.ListOrders.{pick_is, places_within, twice_is}

-- ---- whole arrays of leaves

abbrev size_by : Bool → Option Spoil
size_by b = if b then Some Size else None

-- what is told of one list, by how many items it has
abbrev size_told : ℕ → Option Fault
size_told n = first_told None None (size_by (nat_lt item_limit (sum (n ∷ []))))

-- items as the list that a function gives, settled
abbrev settled : DataType → List Value → List Value
settled t ws = value_list (values_from (map (simple_value t) (value_list (values_from ws))))

each_simple : (t : DataType) (ws : List Value) → is_leaf (present t) ≡ true
    → map (simple_value t) ws ≡ ws
each_simple t [] l = refl
each_simple t (w ∷ ws) l = ap₂ (λ v vs. v ∷ vs) (leaf_simple_value t w l) (each_simple t ws l)

settled_is : (t : DataType) (ws : List Value) → is_leaf (present t) ≡ true → settled t ws ≡ ws
settled_is t ws l =
    value_list-from (map (simple_value t) (value_list (values_from ws)))
    ∙ ap (map (simple_value t)) (value_list-from ws) ∙ each_simple t ws l

few : (n : ℕ) → size_told n ≡ None → n ≤ item_limit
few n e = go (nat_lt item_limit (sum (n ∷ []))) refl e
  where
    go : (b : Bool) → nat_lt item_limit (sum (n ∷ [])) ≡ b
        → first_told None None (size_by b) ≡ None → n ≤ item_limit
    go true f g = absurd (cc)
    go false f g =
        omega (arith, sum-one n, ltb-false item_limit (sum (n ∷ [])) f)

pub inside : (n : ℕ) (ps : List ℕ) → AllBelow n ps
    → list_any (is_outside n) (map (λ (p : ℕ). int (pos p)) ps) ≡ false
inside n [] h = refl
inside n (p ∷ ps) h = ap₂ (λ b c. b || c) (one p h.0) (inside n ps h.1)
  where
    one : (p : ℕ) → p < n → is_outside n (int (pos p)) ≡ false
    one p l =
        let e : nat_lt p n ≡ true = grind (arith, l) in
        ap (λ b. is_none (if b then Some p else None)) e

module _ (up : Bool) (t : DataType) (vs : List Value) (l : is_leaf (present t) ≡ true)
    (sorts : (ws : List Value) → sort_of up (arr t ws)
    ≡ refused_or (size_told (length ws)) (arr t (settled t (items_in_order up ws))))
    (argsorts : argsort_of up (arr t vs)
    ≡ refused_or (size_told (length vs)) (arr (leaf I64) (settled (leaf I64) (place_items up vs))))
    (takes : (ws : List Value) → take_of (arr t vs) (arr (leaf I64) ws)
    ≡ refused_or (index_refused (length vs) ws or too_many (length ws))
    (arr t (picked vs (take_places (length vs) ws)))) where
  taken_places : size_told (length vs) ≡ None
      → take_of (arr t vs) (arr (leaf I64) (place_items up vs)) ≡ Ok (arr t (items_in_order up vs))
  taken_places e =
      let n = length (place_items up vs) in
      let long : n ≡ length vs =
      length-map (item_order up vs) (λ (p : ℕ). int (pos p)) ∙ length-places up vs in
      takes (place_items up vs)
      ∙ ap₂ (λ b o. refused_or ((if b then Some fault.Index else None) or o)
      (arr t (picked vs (take_places (length vs) (place_items up vs)))))
      (inside (length vs) (item_order up vs) (places_within up vs))
      (within_limit n (omega (arith, long, few (length vs) e)))
      ∙ ap (λ ws. Ok (arr t ws)) (pick_is up vs)

  picks_are : (places : Datum) → argsort_of up (arr t vs) ≡ Ok places
      → take_of (arr t vs) places ≡ sort_of up (arr t vs)
  picks_are places e =
      let k = refused_or-Ok (size_told (length vs))
      (arr (leaf I64) (settled (leaf I64) (place_items up vs))) places (sym argsorts ∙ e) in
      ap (take_of (arr t vs)) (sym k.1)
      ∙ ap (λ ws. take_of (arr t vs) (arr (leaf I64) ws))
      (settled_is (leaf I64) (place_items up vs) refl)
      ∙ taken_places k.0
      ∙ sym (sorts vs
      ∙ ap₂ (λ o ws. refused_or o (arr t ws)) k.0 (settled_is t (items_in_order up vs) l))

  again_is : (sorted : Datum) → sort_of up (arr t vs) ≡ Ok sorted
      → sort_of up sorted ≡ Ok sorted
  again_is sorted e =
      let k = refused_or-Ok (size_told (length vs)) (arr t (settled t (items_in_order up vs)))
      sorted (sym (sorts vs) ∙ e) in
      let ws = items_in_order up vs in
      let same : arr t ws ≡ sorted = ap (arr t) (sym (settled_is t ws l)) ∙ k.1 in
      ap (sort_of up) (sym same)
      ∙ sorts ws
      ∙ ap₂ (λ n us. refused_or (size_told n) (arr t us)) (length-sorted up vs)
      (settled_is t (items_in_order up ws) l ∙ twice_is up vs)
      ∙ ap (λ o. refused_or o (arr t ws)) k.0
      ∙ ap Ok same

pub picks_all : (up : Bool) (t : DataType) (vs : List Value) (places : Datum)
    → is_leaf (present t) ≡ true → argsort_of up (arr t vs) ≡ Ok places
    → take_of (arr t vs) places ≡ sort_of up (arr t vs)
picks_all up unknown vs places l e =
    picks_are up unknown vs l (λ ws. refl) refl (λ ws. refl) places e
picks_all up (leaf p) vs places l e =
    picks_are up (leaf p) vs l (λ ws. refl) refl (λ ws. refl) places e
picks_all up (opt unknown) vs places l e =
    picks_are up (opt unknown) vs l (λ ws. refl) refl (λ ws. refl) places e
picks_all up (opt (leaf p)) vs places l e =
    picks_are up (opt (leaf p)) vs l (λ ws. refl) refl (λ ws. refl) places e
picks_all up (var t) vs places l e = absurd (true≢false (sym l))
picks_all up (reg n t) vs places l e = absurd (true≢false (sym l))
picks_all up (rec ns ts) vs places l e = absurd (true≢false (sym l))
picks_all up (tup ts) vs places l e = absurd (true≢false (sym l))
picks_all up (uni ts) vs places l e = absurd (true≢false (sym l))
picks_all up (opt (var t)) vs places l e = absurd (true≢false (sym l))
picks_all up (opt (reg n t)) vs places l e = absurd (true≢false (sym l))
picks_all up (opt (rec ns ts)) vs places l e = absurd (true≢false (sym l))
picks_all up (opt (tup ts)) vs places l e = absurd (true≢false (sym l))
picks_all up (opt (opt t)) vs places l e = absurd (true≢false (sym l))
picks_all up (opt (uni ts)) vs places l e = absurd (true≢false (sym l))

pub again_all : (up : Bool) (t : DataType) (vs : List Value) (sorted : Datum)
    → is_leaf (present t) ≡ true → sort_of up (arr t vs) ≡ Ok sorted
    → sort_of up sorted ≡ Ok sorted
again_all up unknown vs sorted l e =
    again_is up unknown vs l (λ ws. refl) refl (λ ws. refl) sorted e
again_all up (leaf p) vs sorted l e =
    again_is up (leaf p) vs l (λ ws. refl) refl (λ ws. refl) sorted e
again_all up (opt unknown) vs sorted l e =
    again_is up (opt unknown) vs l (λ ws. refl) refl (λ ws. refl) sorted e
again_all up (opt (leaf p)) vs sorted l e =
    again_is up (opt (leaf p)) vs l (λ ws. refl) refl (λ ws. refl) sorted e
again_all up (var t) vs sorted l e = absurd (true≢false (sym l))
again_all up (reg n t) vs sorted l e = absurd (true≢false (sym l))
again_all up (rec ns ts) vs sorted l e = absurd (true≢false (sym l))
again_all up (tup ts) vs sorted l e = absurd (true≢false (sym l))
again_all up (uni ts) vs sorted l e = absurd (true≢false (sym l))
again_all up (opt (var t)) vs sorted l e = absurd (true≢false (sym l))
again_all up (opt (reg n t)) vs sorted l e = absurd (true≢false (sym l))
again_all up (opt (rec ns ts)) vs sorted l e = absurd (true≢false (sym l))
again_all up (opt (tup ts)) vs sorted l e = absurd (true≢false (sym l))
again_all up (opt (opt t)) vs sorted l e = absurd (true≢false (sym l))
again_all up (opt (uni ts)) vs sorted l e = absurd (true≢false (sym l))

-- ---- any nesting

pub nested_sorted : (up : Bool) (d sorted : Datum) → IsSimple (datum_type d)
    → sort_of up d ≡ Ok sorted
    → innermost_lists sorted ≡ map (items_in_order up) (innermost_lists d)
nested_sorted up d sorted s e =
    nested (λ t. t) (items_in_order up) (λ t l. l) (λ t l. l)
    (λ t x l. leaf_simple_value t x l) d sorted s e

pub nested_argsorted : (up : Bool) (d places : Datum) → IsSimple (datum_type d)
    → argsort_of up d ≡ Ok places
    → innermost_lists places ≡ map (place_items up) (innermost_lists d)
nested_argsorted up d places s e =
    nested (λ t. leaf I64) (place_items up) (λ t l. refl) (λ t l. tt) (λ t x l. refl) d places s e
