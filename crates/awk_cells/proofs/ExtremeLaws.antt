-- The extreme of the numbers that were read so far, and the first of its places.
use Rattle.std.proofs.Common.{◌≡◌, ℕ, ◌+◌, ◌<◌, ◌≤◌, List, length, map, get_or, arith, refl, ap}
use Rattle.std.proofs.Common.{sym, ◌∙◌, subst, true, false}
use Rattle.std.specs.Prelude.{ℤ, pos, Bool, if◌then◌else◌}
use Rattle.std.proofs.lemmas.List.{length-map}
use Rattle.awk_numbers.specs.Folds.{beats, first_extreme}
use Rattle.awk_numbers.specs.declared.extremes.Extreme.{Extreme}
use Rattle.awk_numbers.proofs.ExtremeLaws.{IsFirst, first_kept, first_new, first_found}
use Rattle.awk_cells.specs.Extremes.{better_of, better_number, IsBest}
use Rattle.awk_cells.specs.Extremes.{number_or_zero}
use Rattle.awk_cells.specs.declared.extremes.Best.{Best}

module _ (how : Extreme) (f : List ℕ → ℤ) (gs : List (List ℕ)) (i : ℕ) where
  abbrev zs : List ℤ
  zs = map f gs

  -- the extreme of the first i numbers
  abbrev pub IsSoFar : Best → Type 0
  IsSoFar b = IsFirst how (map f gs) i b.place b.number

  all-read : length gs ≤ i → length zs ≤ i
  all-read l = omega (arith, l, length-map gs f)

  -- one number more
  pub better_more : (old next new : Best) → new ≡ better_of how old next → i < length gs
      → next.place ≡ i → next.number ≡ get_or (map f gs) i (pos 0) → IsSoFar old
      → IsFirst how (map f gs) (i + 1) new.place new.number
  better_more old next new same l place e h =
      subst (λ (b : Best). IsFirst how zs (i + 1) b.place b.number) (sym same)
      (go (beats how next.number old.number) refl)
    where
      inside : i < length zs
      inside = omega (arith, l, length-map gs f)

      go : (b : Bool) → beats how next.number old.number ≡ b
          → IsFirst how (map f gs) (i + 1) (if b then next else old).place
          (if b then next else old).number
      go true t =
          subst (λ k. IsFirst how zs (i + 1) k next.number) (sym place)
          (first_new how zs i old.place old.number next.number inside e t h)
      go false t = first_kept how zs i old.place old.number next.number e t h

  -- when all are read, it is the extreme
  pub best_found : (b : Best) → length gs ≤ i → IsSoFar b → IsBest how f gs b
  best_found b l h = record {
    inside = omega (arith, h.inside, length-map gs f);
    found = h.found;
    first = sym (first_found how zs i b.place b.number (all-read l) h);
  }

pub best_read : (how : Extreme) (f : List ℕ → ℤ) (gs : List (List ℕ)) (b : Best)
    → IsBest how f gs b
    → b.number ≡ number_or_zero (map f gs) (first_extreme how (map f gs))
best_read how f gs b h = sym (ap (number_or_zero (map f gs)) h.first ∙ h.found)

-- ---- the extreme alone

-- the extreme of the first i numbers
abbrev pub HasFirst : Extreme → List ℤ → ℕ → ℤ → Type 0
HasFirst how zs i z = (k : ℕ) × IsFirst how zs i k z

-- one number more
pub number_more : (how : Extreme) (zs : List ℤ) (i : ℕ) (old next new : ℤ)
    → new ≡ better_number how old next → i < length zs → next ≡ get_or zs i (pos 0)
    → HasFirst how zs i old → HasFirst how zs (i + 1) new
number_more how zs i old next new same l e h =
    subst (HasFirst how zs (i + 1)) (sym same) (go (beats how next old) refl)
  where
    go : (b : Bool) → beats how next old ≡ b → HasFirst how zs (i + 1) (if b then next else old)
    go true t = (i, first_new how zs i h.0 old next l e t h.1)
    go false t = (h.0, first_kept how zs i h.0 old next e t h.1)

-- when all are read, it is the extreme
pub number_found : (how : Extreme) (zs : List ℤ) (i : ℕ) (z : ℤ) → length zs ≤ i
    → HasFirst how zs i z → z ≡ number_or_zero zs (first_extreme how zs)
number_found how zs i z l h =
    sym (ap (number_or_zero zs) (sym (first_found how zs i h.0 z l h.1)) ∙ h.1.found)
