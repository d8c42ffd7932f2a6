-- What is made and what is left to draw, from one turn of a loop to the next.
use Rattle.std.proofs.Common.{◌≡◌, ◌<◌, ℕ, zero, suc, ◌+◌, ◌-◌, ◌*◌, ◌%◌, List, ◌∷◌, ◌++◌}
use Rattle.std.proofs.Common.{length, refl, ap, sym, ◌∙◌, arith, append_assoc}
use Rattle.std.specs.List.{flat_map}
use Rattle.std.proofs.lemmas.List.Concat.{flat_map-cons}
use Rattle.awk_made.specs.Draws.{draw, after_draws, muon, muons, events}

-- ---- one more

pub muons_from : (n i s : ℕ) → i < n
    → muons (n - i) s ≡ muon s ∷ muons (n - (i + 1)) (draw (draw s))
muons_from n i s h =
    let e : n - i ≡ suc (n - (i + 1)) = omega arith in
    ap (λ k. muons k s) e

pub draws_from : (n i s : ℕ) → i < n
    → after_draws (2 * (n - i)) s ≡ after_draws (2 * (n - (i + 1))) (draw (draw s))
draws_from n i s h =
    let e : 2 * (n - i) ≡ suc (suc (2 * (n - (i + 1)))) = omega arith in
    ap (λ k. after_draws k s) e

pub events_from : (n i s : ℕ) → i < n
    → events (n - i) s ≡ muons (draw s % 4) (draw s) ∷ events (n - (i + 1))
    (after_draws (2 * (draw s % 4)) (draw s))
events_from n i s h =
    let e : n - i ≡ suc (n - (i + 1)) = omega arith in
    ap (λ k. events k s) e

pub length-muons : (n s : ℕ) → length (muons n s) ≡ n
length-muons zero s = refl
length-muons (suc n) s = ap suc (length-muons n (draw (draw s)))

-- ---- bytes of one more

pub made_on : {X : Type 0} (f : X → List ℕ) (made made1 : List ℕ) (x : X) (xs all : List X)
    (whole : List ℕ) → made ++ flat_map f all ≡ whole → all ≡ x ∷ xs → made1 ≡ made ++ f x → made1
    ++ flat_map f xs ≡ whole
made_on f made made1 x xs all whole sofar e m =
    ap (λ z. z ++ flat_map f xs) m ∙ append_assoc made (f x) (flat_map f xs) ∙ ap (λ z. made ++ z)
    (sym (flat_map-cons f x xs) ∙ ap (flat_map f) (sym e)) ∙ sofar
