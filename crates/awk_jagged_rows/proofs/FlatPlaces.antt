-- Places of lists one after another.
use Rattle.std.specs.Prelude.{◌≡◌, ℕ, zero, suc, ◌+◌, ◌-◌, ◌<◌, ◌≤◌, nat_lt, Bool, true, false}
use Rattle.std.specs.Prelude.{refl, List, ◌∷◌, ◌++◌, map}
use Rattle.std.specs.List.{range_with_len}
use Rattle.std.proofs.Common.{arith, ap, ◌∙◌, subst}
use Rattle.awk_lanes.specs.Counted.{before}
use Rattle.awk_lanes.proofs.CountedLanes.{before-next, before_mono}

-- a range in two parts
pub map_parts : {Y : Type 0} (f : ℕ → Y) (a m k : ℕ)
    → map f (range_with_len a (m + k))
    ≡ map f (range_with_len a m) ++ map f (range_with_len (a + m) k)
map_parts f a zero k =
    let e : zero + k ≡ k = omega arith in
    let g : a ≡ a + zero = omega arith in
    ap (λ j. map f (range_with_len a j)) e ∙ ap (λ b. map f (range_with_len b k)) g
map_parts {Y} f a (suc m) k =
    let e : suc m + k ≡ suc (m + k) = omega arith in
    let g : a + 1 + m ≡ a + suc m = omega arith in
    ap (λ j. map f (range_with_len a j)) e
    ∙ ap (λ (ys : List Y). f a ∷ ys)
    (map_parts f (a + 1) m k
    ∙ ap (λ b. map f (range_with_len (a + 1) m) ++ map f (range_with_len b k)) g)

module _ (m : ℕ → ℕ) where
  -- a place of all is one of some list
  pub record IsIn (n t : ℕ) : Type 0 where
    pub list : ℕ
    pub item : ℕ
    pub within : list < n
    pub below : item < m list
    pub place : t ≡ before m list + item

  pub find : (n t : ℕ) → t < before m n → IsIn n t
  find zero t h = absurd (omega (arith, h))
  find (suc n) t h = go (nat_lt t (before m n)) refl (λ l. find n t l)
    where
      go : (b : Bool) → nat_lt t (before m n) ≡ b → (t < before m n → IsIn n t) → IsIn (suc n) t
      go true e before_here =
          let l : t < before m n = grind (arith, e) in
          let f : IsIn n t = before_here l in
          record {
            list = f.list;
            item = f.item;
            within = omega (arith, f.within);
            below = f.below;
            place = f.place;
          }
      go false e before_here =
          let l : before m n ≤ t = grind (arith, e) in
          record {
            list = n;
            item = t - before m n;
            within = omega arith;
            below = omega (arith, l, h);
            place = omega (arith, l);
          }

  -- item k of list i is within all
  pub flat_within : (n i k : ℕ) → i < n → k < m i → before m i + k < before m n
  flat_within n i k p q =
      omega (arith, p, q, before-next m i, before_mono m (i + 1) n (omega (arith, p)))

-- one place more
pub one_more : (P : ℕ → Type 0) (n : ℕ) → ((i : ℕ) → i < n → P i) → P n → (i : ℕ) → i < n + 1
    → P i
one_more P n h e i q = go (nat_lt i n) refl
  where
    go : (b : Bool) → nat_lt i n ≡ b → P i
    go true f = h i (grind (arith, f))
    go false f =
        let s : n ≡ i = grind (arith, f, q) in
        subst P s e
