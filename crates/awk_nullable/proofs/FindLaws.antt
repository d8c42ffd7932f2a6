-- The first item that has a number, one item more.
use Rattle.std.proofs.Common.{◌≡◌, ℕ, zero, suc, ◌+◌, ◌<◌, ◌≤◌, nat_lt, arith, refl}
use Rattle.std.proofs.Common.{ap, ap₂, sym, ◌∙◌}
use Rattle.std.specs.Prelude.{ℤ, ◌+ℤ◌, Bool, true, false, cond, Option, Some, None}
use Rattle.std.specs.List.{range_with_len}
use Rattle.std.specs.Option.{option_map}
use Rattle.awk_base.proofs.Lists.{position-cons}
use Rattle.awk_lanes.specs.Column.{Column}
use Rattle.awk_lanes.specs.Places.{at}
use Rattle.awk_nullable.specs.Extremes.{is_some_number, leaf_key, number_place, IsItem}
use Rattle.awk_nullable.specs.Numbers.{leaf_number}
use Rattle.awk_nullable.proofs.KeyLaws.{eq-shift}

-- the earlier one of two places, the first if there is one
abbrev pub earlier : Option ℕ → Option ℕ → Option ℕ
earlier None o = o
earlier (Some k) o = Some k

pub earlier_none : (o : Option ℕ) → earlier o None ≡ o
earlier_none None = refl
earlier_none (Some k) = refl

-- item n, if it has a number
abbrev pub found : ℤ → ℕ → Option ℤ → Option ℕ
found z n o = cond (is_some_number z o) (Some n) None

later : (o p : Option ℕ) → option_map suc (earlier o p)
    ≡ earlier (option_map suc o) (option_map suc p)
later None p = refl
later (Some k) p = refl

found_later : (z : ℤ) (n : ℕ) (o : Option ℤ) → option_map suc (found z n o) ≡ found z (suc n) o
found_later z n o = go (is_some_number z o)
  where
    go : (b : Bool) → option_map suc (cond b (Some n) None) ≡ cond b (Some (suc n)) None
    go true = refl
    go false = refl

module _ (g : ℕ → Option ℤ) (z : ℤ) where
  abbrev there : ℕ → Bool
  there q = is_some_number z (g q)

  first_cons : (a n : ℕ) → number_place g a (suc n) z
      ≡ cond (there a) (Some 0) (option_map suc (number_place g (a + 1) n z))
  first_cons a n = position-cons there a (range_with_len (a + 1) n)

  pub place-more : (a n : ℕ) → number_place g a (n + 1) z
      ≡ earlier (number_place g a n z) (found z n (g (a + n)))
  place-more a zero =
      let e : a ≡ a + 0 = omega arith in
      first_cons a 0 ∙ one (there a) ∙ ap (λ q. found z 0 (g q)) e
    where
      one : (b : Bool) → cond b (Some 0) None ≡ earlier None (cond b (Some 0) None)
      one b = refl
  place-more a (suc n) =
      let e : a + 1 + n ≡ a + suc n = omega arith in
      let m : suc n + 1 ≡ suc (n + 1) = omega arith in
      ap (λ k. number_place g a k z) m
      ∙ first_cons a (n + 1)
      ∙ ap (λ o. cond (there a) (Some 0) (option_map suc o)) (place-more (a + 1) n)
      ∙ by (there a) (number_place g (a + 1) n z) (g (a + 1 + n))
      ∙ ap₂ (λ o q. earlier o (found z (suc n) (g q))) (sym (first_cons a n)) e
    where
      by : (b : Bool) (o : Option ℕ) (w : Option ℤ)
          → cond b (Some 0) (option_map suc (earlier o (found z n w)))
          ≡ earlier (cond b (Some 0) (option_map suc o)) (found z (suc n) w)
      by true o w = refl
      by false o w =
          later o (found z n w) ∙ ap (earlier (option_map suc o)) (found_later z n w)

-- ---- the first item, or the count of all

-- one item more
pub item_more : (count i : ℕ) (o : Option ℕ) (place : ℕ) (b : Bool) → i < count
    → IsItem count i o place
    → IsItem count (i + 1) (earlier o (cond b (Some i) None))
    (cond (nat_lt (cond b i count) place) (cond b i count) place)
item_more count i None place true l h = (grind (arith, l, h), omega arith)
item_more count i None place false l h = grind (arith, l, h)
item_more count i (Some k) place true l h = (grind (arith, l, h.0, h.1), omega (arith, h.1))
item_more count i (Some k) place false l h = (grind (arith, l, h.0, h.1), omega (arith, h.1))

pub item_there : (count : ℕ) (o : Option ℕ) (place : ℕ) → place < count
    → IsItem count count o place → Some place ≡ o
item_there count None place l h = absurd (omega (arith, l, h))
item_there count (Some k) place l h = ap Some h.0

pub item_none : (count : ℕ) (o : Option ℕ) (place : ℕ) → count ≤ place
    → IsItem count count o place → None ≡ o
item_none count None place l h = refl
item_none count (Some k) place l h = absurd (omega (arith, l, h.0, h.1))

-- ---- keys stand where their numbers do

module _ (f : ℕ → Option ℕ) (c : Column) (s z : ℤ) where
  found-key : (n : ℕ) (o : Option ℕ) → found (z +ℤ s) n (option_map (λ k. at c k +ℤ s) o)
      ≡ found z n (option_map (at c) o)
  found-key n None = refl
  found-key n (Some k) = ap (λ b. cond b (Some n) None) (eq-shift z (at c k) s)

  pub place-key : (a n : ℕ)
      → number_place (leaf_key f c s) a n (z +ℤ s) ≡ number_place (leaf_number f c) a n z
  place-key a zero = refl
  place-key a (suc n) =
      let e : suc n ≡ n + 1 = omega arith in
      ap (λ i. number_place (leaf_key f c s) a i (z +ℤ s)) e
      ∙ place-more (leaf_key f c s) (z +ℤ s) a n
      ∙ ap₂ earlier (place-key a n) (found-key n (f (a + n)))
      ∙ sym (place-more (leaf_number f c) z a n)
      ∙ ap (λ i. number_place (leaf_number f c) a i z) (sym e)
