-- Where a number stands among edges that rise.
use Rattle.std.proofs.Common.{◌≡◌, ℕ, zero, suc, ◌+◌, ◌<◌, List, [], ◌∷◌, length, get_or}
use Rattle.std.proofs.Common.{refl, ap, ◌∙◌, arith}
use Rattle.std.specs.Prelude.{ℤ, Bool, true, false, cond, nat_lt, int_le, int_lt}
use Rattle.std.proofs.lemmas.Bool.{and_parts}
use Rattle.std.proofs.lemmas.Int.{ints}
use Rattle.std.proofs.lemmas.List.Sums.{sum_by-cons}
use Rattle.awk_bins.specs.Edges.{rise_above, are_rising}
use Rattle.awk_bins.specs.Tallies.{edges_up_to}

pub up_to_first : (e : ℤ) (es : List ℤ) (z : ℤ)
    → edges_up_to (e ∷ es) z ≡ cond (int_le e z) 1 0 + edges_up_to es z
up_to_first e es z = sum_by-cons (λ x. cond (int_le x z) 1 0) e es

-- edges above one that is greater than a number are greater too
above : (e : ℤ) (es : List ℤ) (z : ℤ) → rise_above e es ≡ true → int_le e z ≡ false
    → (k : ℕ) (d : ℤ) → k < length es → int_le (get_or es k d) z ≡ false
above e [] z h f k d l = absurd (omega (arith, l))
above e (g ∷ es) z h f zero d l =
    grind (arith, ints, (and_parts (int_lt e g) (rise_above g es) h).0, f)
above e (g ∷ es) z h f (suc k) d l =
    let p = and_parts (int_lt e g) (rise_above g es) h in
    let next : int_le g z ≡ false = grind (arith, ints, p.0, f) in
    above g es z p.1 next k d (omega (arith, l))

none : (e : ℤ) (es : List ℤ) (z : ℤ) → rise_above e es ≡ true → int_le e z ≡ false
    → edges_up_to es z ≡ 0
none e [] z h f = refl
none e (g ∷ es) z h f =
    let p = and_parts (int_lt e g) (rise_above g es) h in
    let next : int_le g z ≡ false = grind (arith, ints, p.0, f) in
    up_to_first g es z ∙ ap (λ b. cond b 1 0 + edges_up_to es z) next
    ∙ ap (λ n. 0 + n) (none g es z p.1 next)

still_rising : (e : ℤ) (es : List ℤ) → rise_above e es ≡ true → are_rising es ≡ true
still_rising e [] h = refl
still_rising e (g ∷ es) h = (and_parts (int_lt e g) (rise_above g es) h).1

-- the edges that are no greater than a number are the first ones
pub edge_reached : (es : List ℤ) (z : ℤ) → are_rising es ≡ true → (k : ℕ) (d : ℤ)
    → k < length es → int_le (get_or es k d) z ≡ nat_lt k (edges_up_to es z)
edge_reached [] z h k d l = absurd (omega (arith, l))
edge_reached (e ∷ es) z h k d l =
    by (λ j m. edge_reached es z (still_rising e es h) j d m) (int_le e z) refl k l
  where
    by : ((j : ℕ) → j < length es → int_le (get_or es j d) z ≡ nat_lt j (edges_up_to es z))
        → (b : Bool) → int_le e z ≡ b → (k : ℕ) → k < length (e ∷ es)
        → int_le (get_or (e ∷ es) k d) z ≡ nat_lt k (edges_up_to (e ∷ es) z)
    by next true t zero m =
        let n : edges_up_to (e ∷ es) z ≡ 1 + edges_up_to es z =
        up_to_first e es z ∙ ap (λ b. cond b 1 0 + edges_up_to es z) t in
        grind (arith, t, n)
    by next true t (suc k) m =
        let n : edges_up_to (e ∷ es) z ≡ 1 + edges_up_to es z =
        up_to_first e es z ∙ ap (λ b. cond b 1 0 + edges_up_to es z) t in
        let r = next k (omega (arith, m)) in
        grind (arith, r, n)
    by next false f zero m =
        let n : edges_up_to (e ∷ es) z ≡ 0 =
        up_to_first e es z ∙ ap (λ b. cond b 1 0 + edges_up_to es z) f
        ∙ ap (λ n. 0 + n) (none e es z h f) in
        grind (arith, f, n)
    by next false f (suc k) m =
        let n : edges_up_to (e ∷ es) z ≡ 0 =
        up_to_first e es z ∙ ap (λ b. cond b 1 0 + edges_up_to es z) f
        ∙ ap (λ n. 0 + n) (none e es z h f) in
        let r = above e es z h f k d (omega (arith, m)) in
        grind (arith, r, n)
