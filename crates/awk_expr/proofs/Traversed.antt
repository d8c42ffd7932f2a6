-- Lists whose items are read one after another.
use Rattle.std.proofs.Common.{◌≡◌, ℕ, ◌+◌, ◌≤◌, true, cond, List, [], ◌∷◌, ◌++◌, map, drop, length}
use Rattle.std.proofs.Common.{Option, Some, None, option_map, option_and_then, Ok, refl, sym, ap}
use Rattle.std.proofs.Common.{◌∙◌, subst, append_assoc, append-nil}
use Rattle.std.proofs.lemmas.List.{drop_all}
use Rattle.awk_types.specs.Gives.{Told}
use Rattle.awk_types.specs.DataType.{Name}
use Rattle.serde_json.specs.Data.{Data}
use Rattle.serde_json.specs.Find.{as_str}
use Rattle.serde_json.specs.View.{view}
use Rattle.serde_json.specs.declared.value.Value.{Value}
use Rattle.awk_types.specs.Names.{are_distinct}
use Rattle.awk_expr.specs.Arguments.{all_of, if_distinct}
use Rattle.awk_expr.specs.Told.{Unread, or_query}
use Rattle.awk_expr.proofs.Heads.{failed}

module _ {B : Type 0} (f : Data → Option B) (made : List B) (vs : List Value) (i : ℕ) (v : Value)
    (rest : drop i vs ≡ v ∷ drop (i + 1) vs)
    (invariant : all_of f (map view vs) ≡ option_map (λ bs. made ++ bs)
    (all_of f (map view (drop i vs)))) where
  here : all_of f (map view vs) ≡ option_map (λ bs. made ++ bs)
      (all_of f (view v ∷ map view (drop (i + 1) vs)))
  here = invariant ∙ ap (λ us. option_map (λ bs. made ++ bs) (all_of f (map view us))) rest

  one_more : (b : B) (o : Option B) (r : Option (List B)) → or_query o ≡ Ok b
      → option_map (λ bs. made ++ bs)
      (option_and_then (λ b. option_map (λ bs. b ∷ bs) r) o) ≡ option_map
      (λ bs. (made ++ b ∷ []) ++ bs) r
  one_more b None r e = absurd (cc)
  one_more b (Some a) None e = refl
  one_more b (Some a) (Some bs) e = let same : a ≡ b = cc in ap (λ x. Some (made ++ x ∷ bs)) same
      ∙ ap Some (sym (append_assoc made (b ∷ []) bs))

  pub all-more : (b : B) → or_query (f (view v)) ≡ Ok b
      → all_of f (map view vs) ≡ option_map (λ bs. (made ++ b ∷ []) ++ bs)
      (all_of f (map view (drop (i + 1) vs)))
  all-more b e = here ∙ one_more b (f (view v)) _ e

  one_told : (t : Option Unread) (o : Option B) (r : Option (List B)) → Told t (or_query o)
      → Told t (or_query
      (option_map (λ bs. made ++ bs) (option_and_then (λ b. option_map (λ bs. b ∷ bs) r) o)))
  one_told None o r h = tt
  one_told (Some u) None r h = ap failed h
  one_told (Some u) (Some a) r h = absurd (cc)

  pub all-told : (t : Option Unread) → Told t (or_query (f (view v)))
      → Told t (or_query (all_of f (map view vs)))
  all-told t h = subst (λ o. Told t (or_query o)) (sym here) (one_told t (f (view v)) _ h)

-- all items were read
pub all-done : {B : Type 0} (f : Data → Option B) (made : List B) (vs : List Value) (i : ℕ)
    → length vs ≤ i
    → all_of f (map view vs) ≡ option_map (λ bs. made ++ bs) (all_of f (map view (drop i vs)))
    → all_of f (map view vs) ≡ Some made
all-done f made vs i past e = e
    ∙ ap (λ us. option_map (λ bs. made ++ bs) (all_of f (map view us))) (drop_all i vs past)
    ∙ ap Some (append-nil made)

-- ---- texts, none of which comes twice

module _ (o : Option (List Data)) (ds : List Data) (items : or_query o ≡ Ok ds) where
  of_items : (p : Option (List Data)) → or_query p ≡ Ok ds
      → option_and_then (all_of as_str) p ≡ all_of as_str ds
  of_items None e = absurd (cc)
  of_items (Some es) e = let same : es ≡ ds = cc in ap (all_of as_str) same

  distinct_told : (t : Option Unread) (p : Option (List Name)) → Told t (or_query p)
      → Told t (or_query (option_and_then if_distinct p))
  distinct_told None p h = tt
  distinct_told (Some u) None h = h
  distinct_told (Some u) (Some ns) h = absurd (cc)

  pub texts-told : (t : Option Unread) → Told t (or_query (all_of as_str ds))
      → Told t (or_query (option_and_then if_distinct (option_and_then (all_of as_str) o)))
  texts-told t h =
      subst (λ p. Told t (or_query (option_and_then if_distinct p))) (sym (of_items o items))
      (distinct_told t (all_of as_str ds) h)

  pub texts-done : (names : List Name) → all_of as_str ds ≡ Some names → are_distinct names ≡ true
      → or_query (option_and_then if_distinct (option_and_then (all_of as_str) o)) ≡ Ok names
  texts-done names all distinct =
      ap (λ p. or_query (option_and_then if_distinct p)) (of_items o items ∙ all)
      ∙ ap (λ b. or_query (cond b (Some names) None)) distinct
