-- What lists give, one after another.
use Rattle.std.specs.Prelude.{◌≡◌, ℕ, zero, suc, ◌+◌, ◌<◌, ◌≤◌, refl, List, ◌++◌, length, map}
use Rattle.std.specs.List.{range_with_len, flat_map}
use Rattle.std.proofs.Common.{arith, ap, ap₂, sym, ◌∙◌}
use Rattle.std.proofs.lemmas.Grind.{flat_map-append}
use Rattle.std.proofs.lemmas.List.{length-append}
use Rattle.std.proofs.lemmas.List.Folds.{flat_map-map}
use Rattle.awk_base.proofs.Ranges.{map_from}
use Rattle.awk_lanes.specs.Counted.{before}
use Rattle.awk_base.proofs.Each.{each_of, each_of-more}
use Rattle.awk_jagged_rows.proofs.FlatPlaces.{map_parts}

-- what is the same at each place of a range is the same list
pub flat_same : {Y : Type 0} (f g : ℕ → List Y) (a m : ℕ)
    → ((i : ℕ) → a ≤ i → i < a + m → f i ≡ g i)
    → flat_map f (range_with_len a m) ≡ flat_map g (range_with_len a m)
flat_same f g a zero h = refl
flat_same {Y} f g a (suc m) h = ap₂ (λ (ys : List Y) (zs : List Y). ys ++ zs)
    (h a (omega arith) (omega arith))
    (flat_same f g (a + 1) m (λ i p q. h i (omega (arith, p)) (omega (arith, q))))

-- the same from the first place on
pub each_same : {Y : Type 0} (f g : ℕ → List Y) (n : ℕ) → ((i : ℕ) → i < n → f i ≡ g i)
    → each_of f n ≡ each_of g n
each_same f g n e = flat_same f g 0 n (λ i p q. e i (omega (arith, q)))

-- what lists give that are joined
pub flat_each : {Y Z : Type 0} (p : Y → List Z) (f : ℕ → List Y) (n : ℕ)
    → flat_map p (each_of f n) ≡ each_of (λ i. flat_map p (f i)) n
flat_each p f zero = refl
flat_each {Y} {Z} p f (suc n) =
    let e : suc n ≡ n + 1 = omega arith in
    ap (λ j. flat_map p (each_of f j)) e
    ∙ ap (flat_map p) (each_of-more f n)
    ∙ flat_map-append p (each_of f n) (f n)
    ∙ ap (λ (zs : List Z). zs ++ flat_map p (f n)) (flat_each p f n)
    ∙ sym (each_of-more (λ i. flat_map p (f i)) n)
    ∙ ap (each_of (λ i. flat_map p (f i))) (sym e)

module _ (m : ℕ → ℕ) where
  -- all places, list by list
  pub map-flat : {Y : Type 0} (f : ℕ → Y) (n : ℕ)
      → map f (range_with_len 0 (before m n))
      ≡ each_of (λ i. map (λ k. f (before m i + k)) (range_with_len 0 (m i))) n
  map-flat f zero = refl
  map-flat {Y} f (suc n) =
      let e : suc n ≡ n + 1 = omega arith in
      let z : 0 + before m n ≡ before m n = omega arith in
      map_parts f 0 (before m n) (m n)
      ∙ ap (λ b. map f (range_with_len 0 (before m n)) ++ map f (range_with_len b (m n))) z
      ∙ ap₂ (λ (ys : List Y) (zs : List Y). ys ++ zs) (map-flat f n) (map_from f (before m n) (m n))
      ∙ sym (each_of-more (λ i. map (λ k. f (before m i + k)) (range_with_len 0 (m i))) n)
      ∙ ap (each_of (λ i. map (λ k. f (before m i + k)) (range_with_len 0 (m i)))) (sym e)

  -- what is given at all places, list by list
  pub each-flat : {Y : Type 0} (f : ℕ → List Y) (n : ℕ)
      → each_of f (before m n)
      ≡ each_of (λ i. flat_map (λ k. f (before m i + k)) (range_with_len 0 (m i))) n
  each-flat {Y} f n =
      sym (flat_map-map (λ (ys : List Y). ys) f (range_with_len 0 (before m n)))
      ∙ ap (flat_map (λ (ys : List Y). ys)) (map-flat f n)
      ∙ flat_each (λ (ys : List Y). ys)
      (λ i. map (λ k. f (before m i + k)) (range_with_len 0 (m i))) n
      ∙ each_same _ _ n (λ i p.
      flat_map-map (λ (ys : List Y). ys) (λ k. f (before m i + k)) (range_with_len 0 (m i)))

-- how many items lists have together
pub length-each : {Y : Type 0} (f : ℕ → List Y) (n : ℕ)
    → length (each_of f n) ≡ before (λ i. length (f i)) n
length-each f zero = refl
length-each f (suc n) =
    let e : suc n ≡ n + 1 = omega arith in
    ap (λ j. length (each_of f j)) e
    ∙ ap length (each_of-more f n)
    ∙ length-append (each_of f n) (f n)
    ∙ ap (λ a. a + length (f n)) (length-each f n)
