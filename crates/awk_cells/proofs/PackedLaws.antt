-- Numbers with their places in one compare as the numbers do, the earlier one first.
use Rattle.std.proofs.Common.{◌≡◌, ℕ, ◌+◌, ◌%◌, ◌<◌, ◌≤◌, List, length, map, get_or, arith, refl}
use Rattle.std.proofs.Common.{ap, ap₂, ◌∙◌}
use Rattle.std.specs.Prelude.{ℤ, pos, negsuc, ◌+ℤ◌, ◌*ℤ◌, Bool, true, false, FitsSigned}
use Rattle.std.specs.Prelude.{if◌then◌else◌}
use Rattle.std.specs.Int.{w64, cast_unsigned}
use Rattle.std.proofs.lemmas.Int.{ints}
use Rattle.awk_numbers.specs.Folds.{beats}
use Rattle.awk_numbers.specs.declared.extremes.Extreme.{Extreme}
use Rattle.awk_numbers.specs.declared.extremes.Extreme.TheVariants.{Least, Greatest}
use Rattle.awk_cells.specs.Extremes.{better_number, better_of, packed, turned, IsBest}
use Rattle.awk_cells.specs.declared.extremes.Best.{Best}
use Rattle.awk_cells.proofs.ExtremeLaws.{IsSoFar, better_more, best_found}

packed_new : (how : Extreme) (x y : ℤ) (p q : ℕ) → p ≤ q → q ≤ 1073741824
    → beats how y x ≡ true → beats Least (packed how y q) (packed how x p) ≡ true
packed_new Least x y p q l m e = grind (arith, ints)
packed_new Greatest x y p q l m e = grind (arith, ints)

packed_old : (how : Extreme) (x y : ℤ) (p q : ℕ) → p ≤ q → q ≤ 1073741824
    → beats how y x ≡ false → beats Least (packed how y q) (packed how x p) ≡ false
packed_old Least x y p q l m e = grind (arith, ints)
packed_old Greatest x y p q l m e = grind (arith, ints)

-- the lesser one is that of the better one
pub packed_better : (how : Extreme) (old next : Best) → old.place ≤ next.place
    → next.place ≤ 1073741824
    → better_number Least (packed how old.number old.place) (packed how next.number next.place)
    ≡ packed how (better_of how old next).number (better_of how old next).place
packed_better how old next l m = go (beats how next.number old.number) refl
  where
    x : ℤ
    x = packed how old.number old.place

    y : ℤ
    y = packed how next.number next.place

    go : (b : Bool) → beats how next.number old.number ≡ b
        → (if beats Least y x then y else x)
        ≡ packed how (if b then next else old).number (if b then next else old).place
    go true e =
        ap (λ b. if b then y else x)
        (packed_new how old.number next.number old.place next.place l m e)
    go false e =
        ap (λ b. if b then y else x)
        (packed_old how old.number next.number old.place next.place l m e)

better_place : (how : Extreme) (old next : Best) (i : ℕ) → old.place ≤ i → next.place ≤ i
    → (better_of how old next).place ≤ i
better_place how old next i l m = go (beats how next.number old.number)
  where
    go : (b : Bool) → (if b then next else old).place ≤ i
    go true = m
    go false = l

-- the place of what is held
pub place_held : (n : ℤ) (z : ℤ) (p : ℕ) → FitsSigned w64 n → p ≤ 1073741824
    → n ≡ pos p +ℤ z *ℤ pos 4294967296 → cast_unsigned w64 n % 4294967296 ≡ p
place_held (pos n) z p f l e = omega (arith, ints, f, l, e)
place_held (negsuc n) z p f l e = omega (arith, ints, f, l, e)

-- the extreme of the first i numbers, by a number and its place in one
abbrev pub HasBest : Extreme → (List ℕ → ℤ) → List (List ℕ) → ℕ → ℤ → Type 0
HasBest how f gs i z =
    (b : Best) × (z ≡ packed how b.number b.place) × (b.place ≤ i) × IsSoFar how f gs i b

-- one number more
pub best_more : (how : Extreme) (f : List ℕ → ℤ) (gs : List (List ℕ)) (i : ℕ) (old y next : ℤ)
    → next ≡ packed how y i → i ≤ 1073741824 → i < length gs → y ≡ get_or (map f gs) i (pos 0)
    → HasBest how f gs i old → HasBest how f gs (i + 1) (better_number Least old next)
best_more how f gs i old y next e few l here h =
    let b : Best = h.0 in
    let n : Best = record { place = i; number = y } in
    let new : Best = better_of how b n in (
      new,
      ap₂ (better_number Least) h.1 e ∙ packed_better how b n h.2 few,
      omega (arith, better_place how b n i h.2 (omega arith)),
      better_more how f gs i b n new refl l refl here h.3,
    )

-- when all are read, it holds the place of the extreme
pub best_place : (how : Extreme) (f : List ℕ → ℤ) (gs : List (List ℕ)) (i : ℕ) (z : ℤ)
    → length gs ≤ i → HasBest how f gs i z → (b : Best) × IsBest how f gs b
    × (z ≡ pos b.place +ℤ turned how b.number *ℤ pos 4294967296)
best_place how f gs i z l h = (h.0, best_found how f gs i h.0 l h.3, h.1)
