-- Edges moved into the range of numbers, one after another.
use Rattle.std.proofs.Common.{◌≡◌, ℕ, ◌+◌, ◌-◌, ◌/◌, ◌<◌, ◌≤◌, List, [], ◌∷◌, ◌++◌, length}
use Rattle.std.proofs.Common.{get_or, map, refl, ap, sym, subst, ◌∙◌, arith, inl, inr, ◌⊎◌}
use Rattle.std.specs.Prelude.{ℤ, pos, ◌≤ℤ◌, int_le, int_lt, nat_lt, Bool, true, false, not, cond}
use Rattle.std.specs.Prelude.{min}
use mir.Val.{bool_byte}
use Rattle.std.proofs.lemmas.Grind.{common_steps}
use Rattle.std.proofs.lemmas.Int.{ints}
use Rattle.std.proofs.lemmas.Bool.{cases_order}
use Rattle.std.proofs.lemmas.List.Sums.{count_by-le-length}
use Rattle.awk_bins.specs.Edges.{are_rising}
use Rattle.awk_bins.specs.Near.{AreNear}
use Rattle.awk_bins.specs.Tallies.{edges_up_to}
use Rattle.awk_bins.proofs.EdgeLaws.{edge_reached}

-- the first n edges, each moved
pub record AreMoved (least most : ℤ) (es ks : List ℤ) (n : ℕ) : Type 0 where
  pub size : length ks ≡ n
  pub same : (k : ℕ) → k < n → (z : ℤ) → least ≤ℤ z → z ≤ℤ most
      → int_le (get_or ks k (pos 0)) z ≡ int_le (get_or es k (pos 0)) z

pub moved_more : (least most : ℤ) (es ks : List ℤ) (n : ℕ) (e : ℤ)
    → AreMoved least most es ks n
    → ((z : ℤ) → least ≤ℤ z → z ≤ℤ most → int_le e z ≡ int_le (get_or es n (pos 0)) z)
    → AreMoved least most es (ks ++ e ∷ []) (n + 1)
moved_more least most es ks n e h next = record {
  size = grind (arith, common_steps, h.size);
  same = λ k l. by k (cases k (omega (arith, l)));
}
  where
    cases : (k : ℕ) → k < n + 1 → (k < n) ⊎ (k ≡ n)
    cases k l = by_order (cases_order k n)
      where
        by_order : (k ≡ n) ⊎ ((k < n) ⊎ (n < k)) → (k < n) ⊎ (k ≡ n)
        by_order (inl e) = inr e
        by_order (inr (inl b)) = inl b
        by_order (inr (inr b)) = absurd (omega (arith, l, b))

    by : (k : ℕ) → (k < n) ⊎ (k ≡ n) → (z : ℤ) → least ≤ℤ z → z ≤ℤ most
        → int_le (get_or (ks ++ e ∷ []) k (pos 0)) z ≡ int_le (get_or es k (pos 0)) z
    by k (inl l) z a b =
        let old : get_or (ks ++ e ∷ []) k (pos 0) ≡ get_or ks k (pos 0) =
        grind (arith, common_steps, h.size, l) in
        ap (λ x. int_le x z) old ∙ h.same k l z a b
    by k (inr q) z a b =
        let new : get_or (ks ++ e ∷ []) k (pos 0) ≡ e = grind (arith, common_steps, h.size, q) in
        ap (λ x. int_le x z) new ∙ next z a b
        ∙ ap (λ i. int_le (get_or es i (pos 0)) z) (sym q)

map-append : {X : Type 0} (f : X → ℤ) (xs ys : List X) → map f (xs ++ ys) ≡ map f xs ++ map f ys
map-append f [] ys = refl
map-append f (x ∷ xs) ys = ap (λ l. f x ∷ l) (map-append f xs ys)

pub moved_pushed : {X : Type 0} (number : X → ℤ) (least most : ℤ) (es : List ℤ)
    (was now : List X) (n : ℕ) (k : X) → now ≡ was ++ k ∷ []
    → AreMoved least most es (map number was) n
    → ((z : ℤ) → least ≤ℤ z → z ≤ℤ most → int_le (number k) z ≡ int_le (get_or es n (pos 0)) z)
    → AreMoved least most es (map number now) (n + 1)
moved_pushed number least most es was now n k e h next =
    subst (λ ks. AreMoved least most es ks (n + 1))
    (sym (ap (map number) e ∙ map-append number was (k ∷ [])))
    (moved_more least most es (map number was) n (number k) h next)

-- where the next edge is above all numbers, or there is none, these are all that are reached
pub all_near : (least most : ℤ) (es ks : List ℤ) (n : ℕ) → are_rising es ≡ true → n ≤ length es
    → AreMoved least most es ks n
    → ((z : ℤ) → z ≤ℤ most → edges_up_to es z ≤ n)
    → AreNear least most es ks
all_near least most es ks n rising l h all = record {
  all = λ z a b. omega (arith, all z b, h.size);
  reached = λ z k a b m.
      h.same k (omega (arith, m, h.size)) z a b
      ∙ edge_reached es z rising k (pos 0) (omega (arith, m, h.size, l));
}

-- no edge from the end on is reached
pub none_left : (es : List ℤ) (z : ℤ) → edges_up_to es z ≤ length es
none_left es z = count_by-le-length (λ e. int_le e z) es

-- nor one from an edge on that is above all numbers
pub none_above : (es : List ℤ) (n : ℕ) (most : ℤ) → are_rising es ≡ true → n < length es
    → int_lt most (get_or es n (pos 0)) ≡ true → (z : ℤ) → z ≤ℤ most → edges_up_to es z ≤ n
none_above es n most rising l above z b =
    let not_here : int_le (get_or es n (pos 0)) z ≡ false = grind (arith, ints, above, b) in
    let here = edge_reached es z rising n (pos 0) l in
    grind (arith, not_here, here)

-- ---- how many edges are reached, of c

-- of the first ones, one by one
pub one_more : (c i count d : ℕ) (b : Bool) → count ≡ min i c → b ≡ nat_lt i c → d ≡ bool_byte b
    → count + d ≡ min (i + 1) c
one_more c i count d b e t f = by b refl
  where
    by : (x : Bool) → b ≡ x → count + d ≡ min (i + 1) c
    by true q =
        let there : nat_lt i c ≡ true = sym t ∙ q in
        let one : d ≡ 1 = f ∙ ap bool_byte q in
        grind (arith, e, there, one)
    by false q =
        let there : nat_lt i c ≡ false = sym t ∙ q in
        let none : d ≡ 0 = f ∙ ap bool_byte q in
        grind (arith, e, there, none)

-- half of those that are left are passed where the last of that half is reached
pub halved : (c base left passed : ℕ) (b : Bool) → 1 < left → base ≤ c → c ≤ base + left
    → b ≡ nat_lt (base + left / 2 - 1) c → passed ≡ cond (not b) 0 (left / 2)
    → (passed ≤ left / 2) × (base + passed ≤ c) × (c ≤ base + passed + (left - left / 2))
halved c base left passed b many from below t f = by b refl
  where
    by : (x : Bool) → b ≡ x
        → (passed ≤ left / 2) × (base + passed ≤ c) × (c ≤ base + passed + (left - left / 2))
    by true q =
        let there : nat_lt (base + left / 2 - 1) c ≡ true = sym t ∙ q in
        let half : passed ≡ left / 2 = f ∙ ap (λ b. cond (not b) 0 (left / 2)) q in
        let reached : base + left / 2 - 1 < c = grind (arith, there) in
        (omega (arith, half), omega (arith, half, reached), omega (arith, half, below))
    by false q =
        let there : nat_lt (base + left / 2 - 1) c ≡ false = sym t ∙ q in
        let none : passed ≡ 0 = f ∙ ap (λ b. cond (not b) 0 (left / 2)) q in
        let over : c ≤ base + left / 2 - 1 = grind (arith, there) in
        (omega (arith, none), omega (arith, none, from), omega (arith, none, over, many))

-- the one that is left
pub last_one : (c base left d : ℕ) (b : Bool) → left ≤ 1 → base ≤ c → c ≤ base + left
    → b ≡ nat_lt base c → d ≡ bool_byte b → base + d ≡ c
last_one c base left d b one from below t f = by b refl
  where
    by : (x : Bool) → b ≡ x → base + d ≡ c
    by true q =
        let there : nat_lt base c ≡ true = sym t ∙ q in
        let more : d ≡ 1 = f ∙ ap bool_byte q in
        grind (arith, there, more, one, below)
    by false q =
        let there : nat_lt base c ≡ false = sym t ∙ q in
        let none : d ≡ 0 = f ∙ ap bool_byte q in
        grind (arith, there, none, from)
