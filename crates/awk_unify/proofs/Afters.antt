-- Lifts after one another, over lists.
use Rattle.std.proofs.Common.{◌≡◌, ℕ, ◌+◌, ◌≤◌, List, [], ◌∷◌, ◌++◌, map, min, drop, length}
use Rattle.std.proofs.Common.{slice_get, Some, add-one, refl, ap, arith, zero, suc, ◌∙◌, sym}
use Rattle.std.proofs.Common.{append_assoc}
use Rattle.std.proofs.Math.Seq.{drop-nil}
use Rattle.std.proofs.lemmas.List.{append-nil}
use Rattle.awk_base.proofs.Lists.{drop-get}
use Rattle.awk_types.specs.DataType.{DataType}
use Rattle.awk_unify.specs.Carry.{Carry, carry, keep, carries_from, tag_at}
use Rattle.awk_unify.specs.After.{after, afters, carry_by, each_after}
use Rattle.awk_unify.specs.Carries.{all_same, carry_at, each_then, put_after, kept_each}

pub by_place : (gs : List Carry) (k : ℕ) (f : Carry)
    → carry_by (afters (carries_from gs)) k f ≡ after (carry_at gs k) f
by_place [] k f = refl
by_place (g ∷ gs) zero f = refl
by_place (g ∷ gs) (suc k) f = by_place gs k f

pub each_are : (gs : List Carry) (ps : List ℕ) (fs : List Carry)
    → each_after (afters (carries_from gs)) ps (carries_from fs) ≡ carries_from (put_after gs ps fs)
each_are gs [] fs = refl
each_are gs (p ∷ ps) [] = refl
each_are gs (p ∷ ps) (f ∷ fs) =
    ap (λ h. carry h (each_after (afters (carries_from gs)) ps (carries_from fs))) (by_place gs p f)
    ∙ ap (carry (after (carry_at gs p) f)) (each_are gs ps fs)

-- the one at a place, and beyond the last one
pub carry_at-get : (gs : List Carry) (k : ℕ) (g : Carry) → slice_get gs k ≡ Some g
    → carry_at gs k ≡ g
carry_at-get [] k g e = cc
carry_at-get (h ∷ gs) zero g e = cc
carry_at-get (h ∷ gs) (suc k) g e = carry_at-get gs k g e

pub carry_at-beyond : (gs : List Carry) (k : ℕ) → length gs ≤ k → carry_at gs k ≡ keep
carry_at-beyond [] k h = refl
carry_at-beyond (g ∷ gs) zero h = absurd (omega arith)
carry_at-beyond (g ∷ gs) (suc k) h = carry_at-beyond gs k (omega arith)

-- no more
pub put_after-end : (gs : List Carry) (ps : List ℕ) (fs : List Carry) (i : ℕ)
    → i ≡ min (length ps) (length fs) → put_after gs (drop i ps) (drop i fs) ≡ []
put_after-end gs [] fs i h = rw (drop-nil i) refl
put_after-end gs (p ∷ ps) [] zero h = refl
put_after-end gs (p ∷ ps) [] (suc i) h = absurd (omega arith)
put_after-end gs (p ∷ ps) (f ∷ fs) zero h = absurd (omega arith)
put_after-end gs (p ∷ ps) (f ∷ fs) (suc i) h = put_after-end gs ps fs i (omega arith)

pub each_then-end : (fs gs : List Carry) (i : ℕ) → i ≡ min (length fs) (length gs)
    → each_then (drop i fs) (drop i gs) ≡ []
each_then-end [] gs i h = rw (drop-nil i) refl
each_then-end (f ∷ fs) [] zero h = refl
each_then-end (f ∷ fs) [] (suc i) h = absurd (omega arith)
each_then-end (f ∷ fs) (g ∷ gs) zero h = absurd (omega arith)
each_then-end (f ∷ fs) (g ∷ gs) (suc i) h = each_then-end fs gs i (omega arith)

pub kept_each-push : (n : ℕ) → kept_each n ++ keep ∷ [] ≡ kept_each (n + 1)
kept_each-push n = rw add-one (push n)
  where
    push : (n : ℕ) → kept_each n ++ keep ∷ [] ≡ kept_each (suc n)
    push zero = refl
    push (suc n) = ap (λ fs. keep ∷ fs) (push n)

pub all_same-length : (ts : List DataType) → all_same ts ≡ kept_each (length ts)
all_same-length [] = refl
all_same-length (t ∷ ts) = ap (λ fs. keep ∷ fs) (all_same-length ts)

pub ruleset afters_laws =
    (by_place, each_are, carry_at-get, carry_at-beyond, put_after-end, each_then-end, drop-get)

pub ruleset kept_laws = (kept_each-push, all_same-length)

-- one more item of a loop
pub loop_step : {X : Type 0} (made new rest more all : List X) (x : X) → made ++ rest ≡ all
    → rest ≡ x ∷ more → new ≡ made ++ x ∷ [] → new ++ more ≡ all
loop_step made new rest more all x e f g =
    ap (λ xs. xs ++ more) g ∙ append_assoc made (x ∷ []) more ∙ sym (ap (λ xs. made ++ xs) f) ∙ e

pub put_step : (gs : List Carry) (ks : List ℕ) (fs : List Carry) (i k : ℕ) (f h : Carry)
    → slice_get ks i ≡ Some k → slice_get fs i ≡ Some f → h ≡ after (carry_at gs k) f
    → put_after gs (drop i ks) (drop i fs) ≡ h ∷ put_after gs (drop (i + 1) ks) (drop (i + 1) fs)
put_step gs ks fs i k f h d e a = rw (drop-get ks i k d, drop-get fs i f e, a) refl

pub then_step : (fs gs : List Carry) (i : ℕ) (f g h : Carry) → slice_get fs i ≡ Some f
    → slice_get gs i ≡ Some g → h ≡ after g f
    → each_then (drop i fs) (drop i gs) ≡ h ∷ each_then (drop (i + 1) fs) (drop (i + 1) gs)
then_step fs gs i f g h d e a = rw (drop-get fs i f d, drop-get gs i g e, a) refl

pub tag_step : (us ks : List ℕ) (i k t : ℕ) → slice_get ks i ≡ Some k → t ≡ tag_at us k
    → map (tag_at us) (drop i ks) ≡ t ∷ map (tag_at us) (drop (i + 1) ks)
tag_step us ks i k t d a = rw (drop-get ks i k d, a) refl

pub put_last : (gs : List Carry) (ks : List ℕ) (fs made : List Carry) (i : ℕ)
    → made ++ put_after gs (drop i ks) (drop i fs) ≡ put_after gs ks fs
    → i ≡ min (length ks) (length fs) → made ≡ put_after gs ks fs
put_last gs ks fs made i e h =
    sym (append-nil made) ∙ ap (λ xs. made ++ xs) (sym (put_after-end gs ks fs i h)) ∙ e

pub then_last : (fs gs made : List Carry) (i : ℕ)
    → made ++ each_then (drop i fs) (drop i gs) ≡ each_then fs gs → i ≡ min (length fs) (length gs)
    → made ≡ each_then fs gs
then_last fs gs made i e h =
    sym (append-nil made) ∙ ap (λ xs. made ++ xs) (sym (each_then-end fs gs i h)) ∙ e
