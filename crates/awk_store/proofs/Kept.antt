-- What is kept: keys with the bytes that lie in the arena.
use Rattle.std.proofs.Common.{◌≡◌, ℕ, Bool, true, false, cond, List, [], ◌∷◌, ◌++◌, length, Option}
use Rattle.std.proofs.Common.{Some, None, suc, refl, ap, sym, ◌∙◌, subst, arith}
use Rattle.std.specs.Prelude.{is_some, All}
use Rattle.std.specs.Borrow.{Bor}
use Rattle.std.specs.Map.{lookup, keys_of}
use Rattle.std.specs.Option.{option_copied}
use Rattle.std.specs.Str.{bytes_eq}
use Rattle.std.specs.Cmp.Lexicographic.{bytes_decides}
use Rattle.std.proofs.lemmas.List.{map-append}
use Rattle.std.proofs.lemmas.List.Elements.{All-push}
use Rattle.std.proofs.lemmas.Map.Made.{is_some-lookup}
use Rattle.indexmap.specs.IndexMap.{insert_entry}
use Rattle.indexmap.proofs.MapLemmas.{insert_entry-absent, absent_from_lookup}
use Rattle.awk_store.specs.Buffers.{ByKey, Given, at_key, shown_by, AreCopied, is_fetched}
use Rattle.awk_store.specs.Buffers.{with_fetched, unfetched_len}

-- what holds of each kept key and its bytes, holds of those that are found
found_step : (P : List ℕ → List ℕ → Type 0) (key : List ℕ) (here : List ℕ × List ℕ)
    (later : Option (List ℕ)) (bytes : List ℕ) → P here.0 here.1
    → (later ≡ Some bytes → P key bytes)
    → (b : Bool) → bytes_eq key here.0 ≡ b → cond b (Some here.1) later ≡ Some bytes → P key bytes
found_step P key here later bytes holds others true same is =
    let found : here.1 ≡ bytes = cc in
    subst (P key) found (subst (λ k. P k here.1) (sym ((bytes_decides key here.0).0 same)) holds)
found_step P key here later bytes holds others false same is = others is

pub found_holds : (P : List ℕ → List ℕ → Type 0) (key : List ℕ) (known : ByKey) (bytes : List ℕ)
    → All (λ e. P e.0 e.1) known → at_key known key ≡ Some bytes → P key bytes
found_holds P key [] bytes h is = cc
found_holds P key (e ∷ known) bytes h is =
    found_step P key e (at_key known key) bytes (h 0 e (omega arith))
    (found_holds P key known bytes (λ k d lt. h (suc k) d (omega arith)))
    (bytes_eq key e.0) refl is

-- ---- keys that are shown by their bytes

module _ {K : Type 0} (name : K → List ℕ) where
  -- what is looked up behind references is what they show
  copied_step : (b : Bool) (here : Bor (List ℕ)) (later : Option (Bor (List ℕ)))
      (shown : Option (List ℕ)) → option_copied later ≡ shown
      → option_copied (cond b (Some here) later) ≡ cond b (Some here.now) shown
  copied_step true here later shown e = refl
  copied_step false here later shown e = e

  pub lookup-shown : (key : List ℕ) (kept : List (K × Bor (List ℕ)))
      → option_copied (lookup (λ k. bytes_eq key (name k)) kept) ≡ at_key (shown_by name kept) key
  lookup-shown key [] = refl
  lookup-shown key (e ∷ kept) =
      copied_step (bytes_eq key (name e.0)) e.1 _ _ (lookup-shown key kept)

  -- what is looked up among the entries
  pub at_key-shown : (entries : ByKey) (kept : List (K × Bor (List ℕ)))
      → shown_by name kept ≡ entries
      → (key : List ℕ) (found : Option (Bor (List ℕ)))
      → found ≡ lookup (λ k. bytes_eq key (name k)) kept
      → option_copied found ≡ at_key entries key
  at_key-shown entries kept shown key found e =
      ap option_copied e ∙ lookup-shown key kept ∙ ap (λ r. at_key r key) shown

  -- where nothing is found, no key is there
  pub lookup-none : (entries : ByKey) (kept : List (K × Bor (List ℕ)))
      → shown_by name kept ≡ entries
      → (key : List ℕ) → at_key entries key ≡ None → None ≡ lookup (λ k. bytes_eq key (name k)) kept
  lookup-none entries kept shown key none = by _ (at_key-shown entries kept shown key _ refl ∙ none)
    where
      by : (found : Option (Bor (List ℕ))) → option_copied found ≡ None → None ≡ found
      by None e = refl
      by (Some x) e = absurd (cc)

  -- a new key is kept last
  pub insert_entry-new : (kept : List (K × Bor (List ℕ))) (key : List ℕ) (own : K)
      (bytes : Bor (List ℕ)) → None ≡ lookup (λ k. bytes_eq key (name k)) kept → name own ≡ key
      → insert_entry (λ x y. bytes_eq (name x) (name y)) kept own bytes ≡ kept ++ (own, bytes) ∷ []
  insert_entry-new kept key own bytes e same =
      insert_entry-absent (λ x y. bytes_eq (name x) (name y)) own bytes kept
      (absent_from_lookup (λ k. bytes_eq (name own) (name k)) kept
      (ap (λ t. lookup (λ k. bytes_eq t (name k)) kept) same ∙ sym e))

  -- the keys and the kept bytes after one more
  pub shown_by-push : (kept : List (K × Bor (List ℕ))) (own : K) (bytes : Bor (List ℕ))
      → shown_by name (kept ++ (own, bytes) ∷ []) ≡ shown_by name kept ++ (name own, bytes.now) ∷ []
  shown_by-push kept own bytes =
      map-append (λ (e : K × Bor (List ℕ)). let shown : List ℕ × List ℕ = (name e.0, e.1.now) in
      shown) kept ((own, bytes) ∷ [])

  -- ---- what is seen as these entries and these kept keys, at a key

  module _ (s : Given) (entries : ByKey) (kept : List (K × Bor (List ℕ)))
      (shown : record { entries = entries; fetched = keys_of (shown_by name kept) } ≡ s)
      (key : List ℕ) where
    is_fetched-lookup : (found : Option (Bor (List ℕ)))
        → found ≡ lookup (λ k. bytes_eq key (name k)) kept
        → is_fetched s key ≡ is_some (option_copied found)
    is_fetched-lookup found e =
        ap (λ r. is_fetched r key) (sym shown) ∙ sym
        (is_some-lookup (bytes_eq key) (shown_by name kept))
        ∙ ap is_some (sym (lookup-shown key kept)) ∙ ap (λ o. is_some (option_copied o)) (sym e)

    -- where the key is found
    pub holds-known : (P : ByKey → List ℕ → List ℕ → Type 0) (bytes : Bor (List ℕ))
        → All (λ e. P entries e.0 e.1) (shown_by name kept)
        → Some bytes ≡ lookup (λ k. bytes_eq key (name k)) kept → P s.entries key bytes.now
    holds-known P bytes h e =
        subst (λ r. P r.entries key bytes.now) shown
        (found_holds (P entries) key (shown_by name kept) bytes.now h
        (sym (lookup-shown key kept) ∙ ap option_copied (sym e)))

    pub with_fetched-known : (bytes : Bor (List ℕ))
        → Some bytes ≡ lookup (λ k. bytes_eq key (name k)) kept → s ≡ with_fetched s key
    with_fetched-known bytes e = rw (is_fetched-lookup (Some bytes) e)

    -- where it is not
    pub is_fetched-new : None ≡ lookup (λ k. bytes_eq key (name k)) kept → is_fetched s key ≡ false
    is_fetched-new e = is_fetched-lookup None e

    pub with_fetched-new : (own : K) (bytes : Bor (List ℕ))
        → None ≡ lookup (λ k. bytes_eq key (name k)) kept → name own ≡ key
        → record {
          entries = entries;
          fetched = keys_of (shown_by name (kept ++ (own, bytes) ∷ []));
        } ≡ with_fetched s key
    with_fetched-new own bytes e same =
        let entries_same : entries ≡ s.entries = ap (λ r. r.entries) shown in
        let keys_more : keys_of (shown_by name (kept ++ (own, bytes) ∷ [])) ≡ s.fetched ++ key ∷ []
        =
        ap keys_of (shown_by-push kept own bytes) ∙ map-append (λ e. e.0) (shown_by name kept)
        ((name own, bytes.now) ∷ [])
        ∙ ap (λ r. r.fetched ++ name own ∷ []) shown ∙ ap (λ k. s.fetched ++ k ∷ []) same in
        rw (is_fetched-new e, entries_same, keys_more)

    pub unfetched_len-new : (found : List ℕ) → None ≡ lookup (λ k. bytes_eq key (name k)) kept
        → Some found ≡ at_key entries key → unfetched_len s key ≡ length found
    unfetched_len-new found e is = rw (is_fetched-new e, ← shown, ← is)

-- an entry is found though others come behind it
at_key-append : (entries more : ByKey) (key bytes : List ℕ) → at_key entries key ≡ Some bytes
    → at_key (entries ++ more) key ≡ Some bytes
at_key-append [] more key bytes is = absurd (cc)
at_key-append (e ∷ entries) more key bytes is =
    by (bytes_eq key e.0) (at_key-append entries more key bytes) is
  where
    by : (b : Bool) → (at_key entries key ≡ Some bytes → at_key (entries ++ more) key ≡ Some bytes)
        → cond b (Some e.1) (at_key entries key) ≡ Some bytes
        → cond b (Some e.1) (at_key (entries ++ more) key) ≡ Some bytes
    by true later is = is
    by false later is = later is

pub AreCopied-append : (entries more known : ByKey) → AreCopied entries known
    → AreCopied (entries ++ more) known
AreCopied-append entries more known h k d lt = at_key-append entries more _ _ (h k d lt)

-- what holds of all that is kept, and of one more
pub holds-push : {K : Type 0} (name : K → List ℕ) (P : List ℕ → List ℕ → Type 0)
    (kept : List (K × Bor (List ℕ))) (own : K) (bytes : Bor (List ℕ)) → All (λ e. P e.0 e.1)
    (shown_by name kept) → P (name own) bytes.now
    → All (λ e. P e.0 e.1) (shown_by name (kept ++ (own, bytes) ∷ []))
holds-push name P kept own bytes h new =
    rw (shown_by-push name kept own bytes) (All-push (λ e. P e.0 e.1) (shown_by name kept)
    (name own, bytes.now) h new)
