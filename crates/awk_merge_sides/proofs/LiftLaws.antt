-- How lifts act on parts, by their variants, and the search for a part.
use Rattle.std.proofs.Common.{◌≡◌, ◌==◌, ◌+◌, ◌<◌, ◌≤◌, ◌∷◌, [], ℕ, suc, List, true, false, Option}
use Rattle.std.proofs.Common.{Some, None, drop, length, slice_get, if◌then◌else◌, option_map, refl}
use Rattle.std.proofs.Common.{ap, ap₂, sym, ◌∙◌, arith, ◌⊎◌, inl, inr, Bool, get_or, map, min}
use Rattle.std.proofs.Common.{subst}
use Rattle.std.proofs.lemmas.Bool.{cases_lt}
use Rattle.std.proofs.lemmas.List.{drop_all, drop_more}
use Rattle.std.proofs.lemmas.List.FromFn.{get_or-map-range_with_len, length-map-range_with_len}
use Rattle.std.specs.List.{range_with_len}
use Rattle.awk_base.proofs.Lists.{drop-get}
use Rattle.awk_unify.proofs.Views.{lift_of-Alternatives, lift_of-Parts}
use Rattle.awk_unify.specs.Carries.{carry_at}
use Rattle.awk_unify.specs.Carry.{Carry, keep}
use Rattle.awk_unify.specs.View.{lift_of, lifts_of}
use Rattle.awk_unify.specs.declared.lift.Lift.{Alternatives, Lift, Parts}
use Rattle.awk_unify.specs.declared.lift.Lifts.{Lifts}
use Rattle.awk_unify.proofs.SameLifts.{carry_list-from}
use Rattle.awk_merge_sides.specs.Lifts.{alternative_carry, part_carry, part_source}
use Rattle.awk_merge_sides.specs.Lifts.{source_at, AreSources}

-- ---- variants

pub part_source-Parts : (f : Lift) (ps : List ℕ) (parts : Lifts) (j : ℕ) → f ≡ Parts ps parts
    → source_at j ps (lifts_of parts) ≡ part_source (lift_of f) j
part_source-Parts f ps parts j e =
    sym (ap (λ c. part_source c j) (ap lift_of e ∙ lift_of-Parts ps parts)
    ∙ ap (source_at j ps) (carry_list-from (lifts_of parts)))

pub part_carry-Parts : (f : Lift) (ps : List ℕ) (parts : Lifts) (k : ℕ) → f ≡ Parts ps parts
    → carry_at (lifts_of parts) k ≡ part_carry (lift_of f) k
part_carry-Parts f ps parts k e =
    sym (ap (λ c. part_carry c k) (ap lift_of e ∙ lift_of-Parts ps parts)
    ∙ ap (λ fs. carry_at fs k) (carry_list-from (lifts_of parts)))

pub alternative_carry-Alternatives : (f : Lift) (ts : List ℕ) (parts : Lifts) (k : ℕ)
    → f ≡ Alternatives ts parts → carry_at (lifts_of parts) k ≡ alternative_carry (lift_of f) k
alternative_carry-Alternatives f ts parts k e =
    sym (ap (λ c. alternative_carry c k) (ap lift_of e ∙ lift_of-Alternatives ts parts)
    ∙ ap (λ fs. carry_at fs k) (carry_list-from (lifts_of parts)))

-- ---- the search

-- what is found among the places from k on, as a place of all
abbrev pub from : ℕ → Option ℕ → Option ℕ
from k o = option_map (λ i. k + i) o

from-zero : (o : Option ℕ) → o ≡ from 0 o
from-zero None = refl
from-zero (Some i) = ap Some (omega arith)

from-suc : (k : ℕ) (o : Option ℕ) → from k (option_map suc o) ≡ from (k + 1) o
from-suc k None = refl
from-suc k (Some i) = ap Some (omega arith)

pub source_start : (j : ℕ) (ps : List ℕ) (fs : List Carry)
    → source_at j ps fs ≡ from 0 (source_at j (drop 0 ps) (drop 0 fs))
source_start j ps fs = from-zero (source_at j ps fs)

ahead : (j p k : ℕ) (ps : List ℕ) (fs : List Carry) → slice_get ps k ≡ Some p → k < length fs
    → source_at j (drop k ps) (drop k fs)
    ≡ (if p == j then Some 0 else option_map suc (source_at j (drop (k + 1) ps) (drop (k + 1) fs)))
ahead j p k ps fs e l =
    ap₂ (source_at j) (drop-get ps k p e) (drop_more fs k keep l)

no_more : (j : ℕ) (ps : List ℕ) (fs : List Carry) → (length ps ≡ 0) ⊎ (length fs ≡ 0)
    → source_at j ps fs ≡ None
no_more j [] fs h = refl
no_more j (p ∷ ps) [] h = refl
no_more j (p ∷ ps) (f ∷ fs) (inl e) = absurd (omega (arith, e))
no_more j (p ∷ ps) (f ∷ fs) (inr e) = absurd (omega (arith, e))

-- ---- the parts of all places, from the last part to the first

-- the parts from the k-th on are put where they go
abbrev pub AreFrom : ℕ → List ℕ → List Carry → ℕ → List (Option ℕ) → Type 0
AreFrom k ps fs n sources =
    AreSources (λ j. from k (source_at j (drop k ps) (drop k fs))) n sources

-- a table after one that has the part k at the place p
abbrev pub IsPutAt : ℕ → ℕ → List (Option ℕ) → List (Option ℕ) → Type 0
IsPutAt p k old new = (j : ℕ) → j < length old
    → get_or new j None ≡ (if p == j then Some k else get_or old j None)

past : (k : ℕ) (ps : List ℕ) (fs : List Carry) → (length ps ≤ k) ⊎ (length fs ≤ k)
    → (length (drop k ps) ≡ 0) ⊎ (length (drop k fs) ≡ 0)
past k ps fs (inl l) = inl (ap length (drop_all k ps l))
past k ps fs (inr l) = inr (ap length (drop_all k fs l))

pub sources_start : (n k : ℕ) (ps : List ℕ) (fs : List Carry) (sources : List (Option ℕ))
    → k ≡ min (length ps) (length fs) → AreSources (λ j. None) n sources
    → AreFrom k ps fs n sources
sources_start n k ps fs sources e h = record {
  long = h.long;
  at = λ j l. h.at j l
      ∙ sym (ap (from k) (no_more j (drop k ps) (drop k fs)
      (past k ps fs (which (cases_lt (length ps) (length fs))))));
}
  where
    which : (length ps < length fs) ⊎ (length fs ≤ length ps)
        → (length ps ≤ k) ⊎ (length fs ≤ k)
    which (inl l) = inl (omega (arith, l, e))
    which (inr l) = inr (omega (arith, l, e))

here_or_later : (k : ℕ) (before later : Option ℕ) (b : Bool) → before ≡ from (k + 1) later
    → (if b then Some k else before) ≡ from k (if b then Some 0 else option_map suc later)
here_or_later k before later true e = ap Some (omega arith)
here_or_later k before later false e = e ∙ sym (from-suc k later)

sources_next : (n k p : ℕ) (ps : List ℕ) (fs : List Carry) (old new : List (Option ℕ))
    → slice_get ps k ≡ Some p → k < length fs → length new ≡ length old → IsPutAt p k old new
    → AreFrom (k + 1) ps fs n old → AreFrom k ps fs n new
sources_next n k p ps fs old new e l same put h = record {
  long = same ∙ h.long;
  at = λ j w. put j (omega (arith, w, h.long))
      ∙ here_or_later k (get_or old j None) (source_at j (drop (k + 1) ps) (drop (k + 1) fs))
      (p == j) (h.at j w)
      ∙ sym (ap (from k) (ahead j p k ps fs e l));
}

pub sources_back : (n k before after p : ℕ) (ps : List ℕ) (fs : List Carry)
    (old new : List (Option ℕ)) → before ≡ k + 1 → after ≡ k
    → slice_get ps k ≡ Some p → k < length fs → length new ≡ length old
    → IsPutAt p k old new
    → AreFrom before ps fs n old
    → AreFrom after ps fs n new
sources_back n k before after p ps fs old new d a e l same put h =
    subst (λ i. AreFrom i ps fs n new) (sym a)
    (sources_next n k p ps fs old new e l same put
    (subst (λ i. AreFrom i ps fs n old) d h))

pub sources_end : (n k : ℕ) (ps : List ℕ) (fs : List Carry) (sources : List (Option ℕ)) → k ≡ 0
    → AreFrom k ps fs n sources
    → AreSources (λ j. source_at j ps fs) n sources
sources_end n k ps fs sources e h = all (subst (λ i. AreFrom i ps fs n sources) e h)
  where
    all : AreFrom 0 ps fs n sources
        → AreSources (λ j. source_at j ps fs) n sources
    all g = record { long = g.long; at = λ j l. g.at j l ∙ sym (source_start j ps fs) }

pub sources-Parts : (f : Lift) (ps : List ℕ) (parts : Lifts) (n : ℕ) (sources : List (Option ℕ))
    → f ≡ Parts ps parts → AreSources (λ j. source_at j ps (lifts_of parts)) n sources
    → AreSources (part_source (lift_of f)) n sources
sources-Parts f ps parts n sources e h = record {
  long = h.long;
  at = λ j l. h.at j l ∙ part_source-Parts f ps parts j e;
}

-- one for each place, in order
pub made_sources : (f : ℕ → Option ℕ) (n m : ℕ) (sources : List (Option ℕ)) → m ≡ n
    → sources ≡ map f (range_with_len 0 m) → AreSources f n sources
made_sources f n m sources e h = record {
  long = ap length h ∙ length-map-range_with_len f 0 m ∙ e;
  at = λ j l. ap (λ xs. get_or xs j None) h
      ∙ get_or-map-range_with_len f 0 m j j None (omega (arith, l, e)) (omega arith);
}
