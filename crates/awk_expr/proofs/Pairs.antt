-- Pairs of a name and an expression, read one after another.
use Rattle.std.proofs.Common.{◌≡◌, ◌<◌, ℕ, ◌+◌, Bool, true, false, cond, List, [], ◌∷◌, ◌++◌, map}
use Rattle.std.proofs.Common.{drop, length, Option, Some, None, option_map, option_and_then, Ok}
use Rattle.std.proofs.Common.{Err, refl, sym, ap, ◌∙◌, subst, arith, append_assoc}
use Rattle.std.proofs.lemmas.List.{map-append}
use Rattle.awk_types.specs.Gives.{Told}
use Rattle.awk_types.specs.DataType.{Name}
use Rattle.serde_json.specs.Data.{Data}
use Rattle.serde_json.specs.View.{view}
use Rattle.serde_json.specs.declared.value.Value.{Value}
use Rattle.awk_types.specs.Names.{are_distinct}
use Rattle.awk_expr.specs.Arguments.{Args, both, all_of, pair_of, pair_in, named_exprs}
use Rattle.awk_expr.specs.Arguments.{names_and_exprs}
use Rattle.awk_expr.specs.declared.fixed.FixedArg.{FixedArg}
use Rattle.awk_expr.specs.declared.fixed.FixedArg.TheVariants.{Texts}
use Rattle.awk_expr.specs.Told.{Unread, query, or_query}
use Rattle.awk_expr.proofs.Heads.{failed}
use Rattle.awk_expr.proofs.Traversed.{all-more}

-- the names of pairs, and the values of their expressions
abbrev names_in : List (Name × Data) → List Name
names_in ps = map (λ p. p.0) ps

abbrev exprs_in : List (Name × Data) → List Data
exprs_in ps = map (λ p. p.1) ps

-- a pair more at the end
pushed : {A B : Type 0} (f : A → B) (ps : List A) (p : A)
    → map f (ps ++ p ∷ []) ≡ map f ps ++ f p ∷ []
pushed f ps p = map-append f ps (p ∷ [])

-- the pairs before a place were read, and their names and expressions put behind those before
pub record AreRead (before exprs : List Data) (names : List Name) (vs : List Value)
    (i : ℕ) : Type 0 where
  pub made : List (Name × Data)
  pub names_of : names ≡ names_in made
  pub exprs_of : exprs ≡ before ++ exprs_in made
  pub rest : all_of pair_in (map view vs) ≡ option_map (λ ps. made ++ ps)
      (all_of pair_in (map view (drop i vs)))

unchanged : (o : Option (List (Name × Data)))
    → o ≡ option_map (λ ps. let none : List (Name × Data) = [] in none ++ ps) o
unchanged None = refl
unchanged (Some ps) = refl

pub none-read : (before : List Data) (vs : List Value) → before ≡ before ++ []
    → AreRead before before [] vs 0
none-read before vs e =
    record {
      made = [];
      names_of = refl;
      exprs_of = e;
      rest =
          unchanged (all_of pair_in (map view vs));
    }

pub pair-read : {before exprs exprs' : List Data} {names names' : List Name} {vs : List Value}
    {i : ℕ} (v : Value) (p : Name × Data) → AreRead before exprs names vs i
    → drop i vs ≡ v ∷ drop (i + 1) vs → or_query (pair_in (view v)) ≡ Ok p
    → names' ≡ names ++ p.0 ∷ [] → exprs' ≡ exprs ++ p.1 ∷ []
    → AreRead before exprs' names' vs (i + 1)
pair-read {before} {vs = vs} {i = i} v p h at e n x = record {
  made = h.made ++ p ∷ [];
  names_of = n ∙ ap (λ ns. ns ++ p.0 ∷ []) h.names_of ∙ sym (pushed (λ q. q.0) h.made p);
  exprs_of = x ∙ ap (λ ds. ds ++ p.1 ∷ []) h.exprs_of
      ∙ append_assoc before (exprs_in h.made) (p.1 ∷ [])
      ∙ ap (λ ds. before ++ ds) (sym (pushed (λ q. q.1) h.made p));
  rest = all-more pair_in h.made vs i v at h.rest p e;
}

-- ---- the whole list

more : (o : Option (Name × Data)) (r : Option (List (Name × Data))) (made : List (Name × Data))
    → option_and_then (λ b. option_map (λ bs. b ∷ bs) r) o ≡ Some made → 0 < length made
more None r made e = absurd (cc)
more (Some p) None made e = absurd (cc)
more (Some p) (Some ps) made e = let same : p ∷ ps ≡ made = cc in omega (arith, ap length same)

some_made : (ds : List Data) (made : List (Name × Data)) → 0 < length ds
    → all_of pair_in ds ≡ Some made → 0 < length made
some_made [] made some e = absurd (omega (arith, some))
some_made (d ∷ ds) made some e = more (pair_in d) (all_of pair_in ds) made e

module _ (sofar : Args) (o : Option (List Data)) (ds : List Data) (items : or_query o ≡ Ok ds) where
  of_items : (p : Option (List Data)) → or_query p ≡ Ok ds
      → option_and_then named_exprs p ≡ named_exprs ds
  of_items None e = absurd (cc)
  of_items (Some es) e = let same : es ≡ ds = cc in ap named_exprs same

  told : (t : Option Unread) (p : Option (List (Name × Data))) → Told t (or_query p)
      → Told t (or_query
      (option_map (both sofar)
      (option_and_then (λ ps. names_and_exprs (names_in ps) (exprs_in ps)) p)))
  told None p h = tt
  told (Some u) None h = ap failed h
  told (Some u) (Some ps) h = absurd (cc)

  pub named-told : (t : Option Unread) → Told t (or_query (all_of pair_in ds))
      → Told t (or_query (option_map (both sofar) (option_and_then named_exprs o)))
  named-told t h =
      subst (λ p. Told t (or_query (option_map (both sofar) p))) (sym (of_items o items))
      (told t (all_of pair_in ds) h)

  by_names : (made : List (Name × Data)) → 0 < length made → (b : Bool)
      → are_distinct (names_in made) ≡ b
      → names_and_exprs (names_in made) (exprs_in made) ≡ cond b
      (Some (let a : Args =
      record { exprs = exprs_in made; fixed = Texts (names_in made) ∷ [] } in a)) None
  by_names [] some b e = absurd (omega (arith, some))
  by_names (p ∷ ps) some true e =
      ap (λ c. option_map
      (λ names. let a : Args = record { exprs = exprs_in (p ∷ ps); fixed = Texts names ∷ [] } in a)
      (cond c (Some (names_in (p ∷ ps))) None)) e
  by_names (p ∷ ps) some false e =
      ap (λ c. option_map
      (λ names. let a : Args = record { exprs = exprs_in (p ∷ ps); fixed = Texts names ∷ [] } in a)
      (cond c (Some (names_in (p ∷ ps))) None)) e

  pub named-said : (made : List (Name × Data)) → 0 < length ds → all_of pair_in ds ≡ Some made
      → (b : Bool) → are_distinct (names_in made) ≡ b
      → or_query (option_map (both sofar) (option_and_then named_exprs o)) ≡ or_query
      (option_map (both sofar)
      (cond b (Some
      (let a : Args = record { exprs = exprs_in made; fixed = Texts (names_in made) ∷ [] } in
      a)) None))
  named-said made some all b e =
      ap (λ p. or_query (option_map (both sofar) p))
      (of_items o items
      ∙ ap (option_and_then (λ ps. names_and_exprs (names_in ps) (exprs_in ps))) all
      ∙ by_names made (some_made ds made some all) b e)

-- the whole list, with the names behind the other arguments
pub named-made : (sofar : Args) (names : List Name) (exprs : List Data) (fixed : List FixedArg)
    (made : List (Name × Data)) → names ≡ names_in made → exprs ≡ sofar.exprs ++ exprs_in made
    → fixed ≡ sofar.fixed ++ Texts names ∷ []
    → or_query
    (option_map (both sofar)
    (Some (let a : Args =
    record { exprs = exprs_in made; fixed = Texts (names_in made) ∷ [] } in a))) ≡ Ok
    (let t : Args = record { exprs = exprs; fixed = fixed } in t)
named-made sofar names exprs fixed made n x f =
    λ i. Ok (let t : Args =
    record {
      exprs = sym x i;
      fixed =
          (ap (λ ns. sofar.fixed ++ Texts ns ∷ []) (sym n) ∙ sym f) i;
    } in t)

-- ---- a pair

pair_of-none : (ds : List Data) → (length ds ≡ 2 → ⊥) → pair_of ds ≡ None
pair_of-none [] h = refl
pair_of-none (a ∷ []) h = refl
pair_of-none (a ∷ b ∷ []) h = absurd (h refl)
pair_of-none (a ∷ b ∷ c ∷ ds) h = refl

pub pair-none : (o : Option (List Data)) (ds : List Data) → or_query o ≡ Ok ds → (length ds ≡ 2 → ⊥)
    → or_query (option_and_then pair_of o) ≡ Err query
pair-none None ds e h = absurd (cc)
pair-none (Some es) ds e h = let same : es ≡ ds = cc in
    ap or_query (ap pair_of same ∙ pair_of-none ds h)
