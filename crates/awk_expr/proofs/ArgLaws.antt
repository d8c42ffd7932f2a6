-- The arguments of a call, one after another.
use Rattle.std.proofs.Common.{◌≡◌, ℕ, ◌+◌, ◌<◌, ◌≤◌, List, [], ◌∷◌, ◌++◌, map, drop, length, get_or}
use Rattle.std.proofs.Common.{Bor, Option, Some, None, option_map, option_and_then, Ok, refl, sym}
use Rattle.std.proofs.Common.{ap, ◌∙◌, subst, arith, append_assoc, append-nil}
use Rattle.std.proofs.lemmas.List.{map-append, drop_more, drop_all}
use Rattle.awk_types.specs.Gives.{Told}
use Rattle.serde_json.specs.Data.{Data}
use Rattle.serde_json.specs.View.{view}
use Rattle.serde_json.specs.declared.value.Value.{Value}
use Rattle.awk_expr.specs.Arguments.{Args, both, of_fixed, fixed_of, part_of, args_of, some_exprs}
use Rattle.awk_expr.specs.declared.fixed.FixedArg.{FixedArg}
use Rattle.awk_expr.specs.declared.kind.ArgKind.TheVariants as kind
use Rattle.awk_expr.specs.declared.kind.ArgKind.{ArgKind}
use Rattle.awk_expr.specs.Told.{Unread, or_query}

both-both : (a b c : Args) → both a (both b c) ≡ both (both a b) c
both-both a b c =
    λ i. record {
      exprs = sym (append_assoc a.exprs b.exprs c.exprs) i;
      fixed =
          sym (append_assoc a.fixed b.fixed c.fixed) i;
    }

-- as many kinds as values
none_at : {A B : Type 0} (o : Option A)
    → option_and_then (λ a. let n : Option B = None in n) o ≡ None
none_at None = refl
none_at (Some a) = refl

pub args-uneven : (ks : List ArgKind) (ds : List Data) → (length ks ≡ length ds → ⊥)
    → args_of ks ds ≡ None
args-uneven [] [] h = absurd (h refl)
args-uneven [] (d ∷ ds) h = refl
args-uneven (k ∷ ks) [] h = refl
args-uneven (k ∷ ks) (d ∷ ds) h =
    ap (λ o. option_and_then (λ a. option_map (both a) o) (part_of k d))
    (args-uneven ks ds (λ e. h (omega (arith, e)))) ∙ none_at (part_of k d)

-- ---- one argument more

module _ (sofar : Args) where
  rest : (a new : Args) → both sofar a ≡ new → (r : Option Args)
      → option_map (both sofar) (option_map (both a) r) ≡ option_map (both new) r
  rest a new e None = refl
  rest a new e (Some b) = ap Some (both-both sofar a b ∙ ap (λ z. both z b) e)

  one_more : (o r : Option Args) (new : Args) → or_query (option_map (both sofar) o) ≡ Ok new
      → option_map (both sofar) (option_and_then (λ a. option_map (both a) r) o) ≡ option_map
      (both new) r
  one_more None r new e = absurd (cc)
  one_more (Some a) r new e = let same : both sofar a ≡ new = cc in rest a new same r

  one_told : (t : Option Unread) (o r : Option Args) → Told t (or_query (option_map (both sofar) o))
      → Told t (or_query (option_map (both sofar) (option_and_then (λ a. option_map (both a) r) o)))
  one_told None o r h = tt
  one_told (Some u) None r h = h
  one_told (Some u) (Some a) r h = absurd (cc)

  module _ (ks : List ArgKind) (vs : List Value) (i : ℕ) (k : ArgKind) (v : Value)
      (of_kinds : drop i ks ≡ k ∷ drop (i + 1) ks) (of_values : drop i vs ≡ v ∷ drop (i + 1) vs)
      (invariant : args_of ks (map view vs) ≡ option_map (both sofar)
      (args_of (drop i ks) (map view (drop i vs)))) where
    here : args_of ks (map view vs) ≡ option_map (both sofar)
        (args_of (k ∷ drop (i + 1) ks) (view v ∷ map view (drop (i + 1) vs)))
    here = invariant
        ∙ ap (λ ls. option_map (both sofar) (args_of ls (map view (drop i vs)))) of_kinds
        ∙ ap (λ us. option_map (both sofar) (args_of (k ∷ drop (i + 1) ks) (map view us))) of_values

    pub args-more : (new : Args) → or_query (option_map (both sofar) (part_of k (view v))) ≡ Ok new
        → args_of ks (map view vs) ≡ option_map (both new)
        (args_of (drop (i + 1) ks) (map view (drop (i + 1) vs)))
    args-more new e = here ∙ one_more (part_of k (view v)) _ new e

    pub args-told : (t : Option Unread)
        → Told t (or_query (option_map (both sofar) (part_of k (view v))))
        → Told t (or_query (args_of ks (map view vs)))
    args-told t h =
        subst (λ o. Told t (or_query o)) (sym here) (one_told t (part_of k (view v)) _ h)

-- ---- a list of expressions

pub exprs-more : (xs : List (Bor Value)) (x : Bor Value) (vs : List Value) (i : ℕ) (d : Value)
    → i < length vs → x.now ≡ get_or vs i d
    → map (λ (v : Bor Value). view v.now) (xs ++ x ∷ []) ++ map view (drop (i + 1) vs) ≡ map
    (λ (v : Bor Value). view v.now) xs ++ map view (drop i vs)
exprs-more xs x vs i d within e =
    let front = map (λ (v : Bor Value). view v.now) xs in
    ap (λ z. z ++ map view (drop (i + 1) vs))
    (map-append (λ (v : Bor Value). view v.now) xs (x ∷ []))
    ∙ append_assoc front (view x.now ∷ []) (map view (drop (i + 1) vs))
    ∙ ap (λ us. front ++ map view us)
    (ap (λ y. y ∷ drop (i + 1) vs) e ∙ sym (drop_more vs i d within))

-- ---- an argument that is no expression

pub part-fixed : (k : ArgKind) (d : Data) → (k ≡ kind.Expr → ⊥) → (k ≡ kind.Exprs → ⊥)
    → (k ≡ kind.NamedExprs → ⊥) → part_of k d ≡ option_map of_fixed (fixed_of k d)
part-fixed kind.Expr d p q r = absurd (p refl)
part-fixed kind.Exprs d p q r = absurd (q refl)
part-fixed kind.NamedExprs d p q r = absurd (r refl)
part-fixed kind.Place d p q r = refl
part-fixed kind.Bound d p q r = refl
part-fixed kind.Step d p q r = refl
part-fixed kind.Count d p q r = refl
part-fixed kind.SomeCount d p q r = refl
part-fixed kind.Truth d p q r = refl
part-fixed kind.Text d p q r = refl
part-fixed kind.Texts d p q r = refl
part-fixed kind.Primitive d p q r = refl
part-fixed kind.Edges d p q r = refl

pub fixed-done : (exprs : List Data) (fixed new : List FixedArg) (o : Option FixedArg)
    (a : FixedArg) → or_query o ≡ Ok a → new ≡ fixed ++ a ∷ []
    → or_query
    (option_map (both (let s : Args = record { exprs = exprs; fixed = fixed } in s))
    (option_map of_fixed o)) ≡ Ok (let t : Args = record { exprs = exprs; fixed = new } in t)
fixed-done exprs fixed new None a e is = absurd (cc)
fixed-done exprs fixed new (Some b) a e is =
    let same : b ≡ a = cc in
    λ i. Ok (let t : Args =
    record {
      exprs = append-nil exprs i;
      fixed =
          (ap (λ c. fixed ++ c ∷ []) same ∙ sym is) i;
    } in t)

-- all expressions of a list were read
pub exprs-all : (made before : List Data) (vs : List Value) (i : ℕ) → length vs ≤ i
    → made ++ map view (drop i vs) ≡ before ++ map view vs → made ≡ before ++ map view vs
exprs-all made before vs i past e = sym (append-nil made)
    ∙ ap (λ us. made ++ map view us) (sym (drop_all i vs past)) ∙ e

pub exprs-done : (o : Option (List Data)) (ds before made : List Data) (fixed : List FixedArg)
    → or_query o ≡ Ok ds → 0 < length ds → made ≡ before ++ ds
    → or_query
    (option_map (both (let s : Args = record { exprs = before; fixed = fixed } in s))
    (option_and_then some_exprs o)) ≡ Ok
    (let t : Args = record { exprs = made; fixed = fixed } in t)
exprs-done None ds before made fixed e some is = absurd (cc)
exprs-done (Some []) ds before made fixed e some is = let same : [] ≡ ds = cc in
    absurd (omega (arith, some, ap length same))
exprs-done (Some (x ∷ xs)) ds before made fixed e some is =
    let same : x ∷ xs ≡ ds = cc in
    λ i. Ok (let t : Args =
    record { exprs = (ap (λ ys. before ++ ys) same ∙ sym is) i; fixed = append-nil fixed i } in
    t)
