-- Lists from a place on, and places in them.
use Rattle.std.proofs.Common.{◌≡◌, ℕ, suc, zero, ◌+◌, ◌≤◌, List, [], ◌∷◌, ◌++◌, length, slice_get}
use Rattle.std.proofs.Common.{Some, add-one, arith, refl, ap, ◌∙◌}
use Rattle.awk_base.proofs.Lists.{drop-get, take-get}
use Rattle.awk_unify.specs.Carry.{tag_at}
use Rattle.awk_unify.specs.Places.{places, places_from}

pub tag_at-get : (ks : List ℕ) (i k : ℕ) → slice_get ks i ≡ Some k → tag_at ks i ≡ k
tag_at-get [] i k e = cc
tag_at-get (h ∷ ks) zero k e = cc
tag_at-get (h ∷ ks) (suc i) k e = tag_at-get ks i k e

pub tag_at-beyond : (ks : List ℕ) (i : ℕ) → length ks ≤ i → tag_at ks i ≡ 0
tag_at-beyond [] i h = refl
tag_at-beyond (k ∷ ks) zero h = absurd (omega arith)
tag_at-beyond (k ∷ ks) (suc i) h = tag_at-beyond ks i (omega arith)

places_from-push : (k n : ℕ) → places_from k n ++ (k + n) ∷ [] ≡ places_from k (suc n)
places_from-push k zero = ap (λ m. m ∷ []) (omega arith)
places_from-push k (suc n) =
    let next : k + suc n ≡ suc k + n = omega arith in
    rw next (ap (λ ms. k ∷ ms) (places_from-push (suc k) n))

pub places-push : (n : ℕ) → places n ++ n ∷ [] ≡ places (n + 1)
places-push n = rw add-one (ap (λ m. places n ++ m ∷ []) (omega arith) ∙ places_from-push 0 n)

pub ruleset place_laws = (drop-get, tag_at-get, tag_at-beyond, places-push)

pub ruleset get_laws = (take-get, drop-get)
