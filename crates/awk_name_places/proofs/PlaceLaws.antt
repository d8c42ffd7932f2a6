-- A place in a list of keys is that of the name.
use Rattle.std.proofs.Common.{◌≡◌, ◌≤◌, ◌+◌, ◌||◌, ℕ, suc, Bool, true, false, List, [], ◌∷◌, ◌++◌}
use Rattle.std.proofs.Common.{length, map, Some, None, refl, ap, ap₂, sym, ◌∙◌, cond, nat_lt, arith}
use Rattle.std.specs.Prelude.{not, position}
use Rattle.std.specs.Borrow.{Bor}
use Rattle.std.specs.List.{list_any, position_or_len}
use Rattle.std.specs.Str.{bytes_eq}
use Rattle.std.proofs.Math.Bool.{not-not}
use Rattle.std.proofs.lemmas.List.{map-append}
use Rattle.awk_types.specs.DataType.{Name}
use Rattle.awk_types.specs.Names.{is_among}
use Rattle.awk_types.proofs.NameLaws.{same_name-flip}
use Rattle.awk_name_places.specs.Places.{place_in}

-- ---- a place that is found

place_or_len-≤ : (p : Bor (List ℕ) → Bool) (ks : List (Bor (List ℕ)))
    → position_or_len p ks ≤ length ks
place_or_len-≤ p [] = omega arith
place_or_len-≤ p (k ∷ ks) = step (not (p k)) (place_or_len-≤ p ks)
  where
    step : (b : Bool) → position_or_len p ks ≤ length ks
        → cond b (1 + position_or_len p ks) 0 ≤ suc (length ks)
    step true h = omega (arith, h)
    step false h = omega arith

module _ (key : List ℕ) where
  place_or_len : (ks : List (Bor (List ℕ)))
      → position_or_len (λ k. bytes_eq key k.now) ks ≡ place_in (map (λ k. k.now) ks) key
  place_or_len [] = refl
  place_or_len (k ∷ ks) =
      step (bytes_eq key k.now) (place_or_len ks)
      ∙ ap (λ b. cond b 0 (suc (place_in (map (λ k. k.now) ks) key))) (same_name-flip key k.now)
    where
      step : (b : Bool)
          → position_or_len (λ k. bytes_eq key k.now) ks ≡ place_in (map (λ k. k.now) ks) key
          → cond (not b) (1 + position_or_len (λ k. bytes_eq key k.now) ks) 0
          ≡ cond b 0 (suc (place_in (map (λ k. k.now) ks) key))
      step true e = refl
      step false e = omega (arith, e)

  -- what a look-up gives, by the test whether the place is within
  by_found : (b : Bool) (place i : ℕ) → Some i ≡ cond b (Some place) None → i ≡ place
  by_found true place i e = cc
  by_found false place i e = absurd (cc)

  by_absent : (place all : ℕ) (b : Bool) → nat_lt place all ≡ b → place ≤ all
      → cond b (Some place) None ≡ None → all ≡ place
  by_absent place all true test within e = absurd (cc)
  by_absent place all false test within e = grind arith

  pub found-place : (ks : List (Bor (List ℕ))) (names : List Name)
      → map (λ k. k.now) ks ≡ names → (i : ℕ)
      → Some i ≡ position (λ k. bytes_eq key k.now) ks → i ≡ place_in names key
  found-place ks names shown i e =
      by_found (nat_lt (position_or_len (λ k. bytes_eq key k.now) ks) (length ks)) _ i e
      ∙ place_or_len ks ∙ ap (λ ns. place_in ns key) shown

  pub absent-place : (ks : List (Bor (List ℕ))) (names : List Name)
      → map (λ k. k.now) ks ≡ names
      → None ≡ position (λ k. bytes_eq key k.now) ks → length ks ≡ place_in names key
  absent-place ks names shown e =
      by_absent (position_or_len (λ k. bytes_eq key k.now) ks) (length ks)
      (nat_lt (position_or_len (λ k. bytes_eq key k.now) ks) (length ks)) refl
      (place_or_len-≤ (λ k. bytes_eq key k.now) ks) (sym e)
      ∙ place_or_len ks ∙ ap (λ ns. place_in ns key) shown

-- ---- one name more

pub keys-more : (old new : List (Bor (List ℕ))) (key : Bor (List ℕ)) (added : Bool)
    → added ≡ true
    → added ≡ not (list_any (λ k. bytes_eq key.now k.now) old)
    → new ≡ cond (list_any (λ k. bytes_eq key.now k.now) old) old (old ++ key ∷ [])
    → map (λ k. k.now) new ≡ map (λ k. k.now) old ++ key.now ∷ []
keys-more old new key added is_new told pushed =
    by added (list_any (λ k. bytes_eq key.now k.now) old) is_new told pushed
  where
    by : (a b : Bool) → a ≡ true → a ≡ not b → new ≡ cond b old (old ++ key ∷ [])
        → map (λ k. k.now) new ≡ map (λ k. k.now) old ++ key.now ∷ []
    by false b e t p = absurd (cc)
    by true true e t p = absurd (cc)
    by true false e t p =
        ap (map (λ k. k.now)) p ∙ map-append (λ (k : Bor (List ℕ)). k.now) old (key ∷ [])

-- ---- whether a name is one of the keys

any-among : (name : Name) (ks : List (Bor (List ℕ)))
    → list_any (λ k. bytes_eq name k.now) ks ≡ is_among name (map (λ k. k.now) ks)
any-among name [] = refl
any-among name (k ∷ ks) = ap₂ (λ s t. s || t) (same_name-flip name k.now) (any-among name ks)

-- a key is added exactly where the name is not one of those before
pub keys-among : (name : Name) (ks : List (Bor (List ℕ))) (names : List Name) (added : Bool)
    → map (λ k. k.now) ks ≡ names → added ≡ not (list_any (λ k. bytes_eq name k.now) ks)
    → is_among name names ≡ not added
keys-among name ks names added shown told =
    sym (any-among name ks ∙ ap (is_among name) shown) ∙ sym (not-not _) ∙ ap not (sym told)

-- ---- the name of a field
