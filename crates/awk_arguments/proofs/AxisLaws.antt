-- The levels of several data, one after another.
use Rattle.std.proofs.Common.{◌≡◌, ℕ, ◌+◌, true, false, List, ◌∷◌, map, drop, slice_get, Option}
use Rattle.std.proofs.Common.{Some, None, refl, ap, ◌∙◌}
use Rattle.awk_types.specs.Levels.{common_number, datum_levels, is_number}
use Rattle.awk_base.proofs.Lists.{drop-get}
use Rattle.awk_layout.specs.Datum.{datum_of}
use Rattle.awk_layout.specs.declared.datum.Datum.{Datum}

-- those from a place on
abbrev pub levels_from : List Datum → ℕ → List (Option ℕ)
levels_from xs k = map datum_levels (map datum_of (drop k xs))

module _ (xs : List Datum) (k : ℕ) (x : Datum) (at : slice_get xs k ≡ Some x) where
  abbrev here : Option ℕ
  here = datum_levels (datum_of x)

  levels_from-get : levels_from xs k ≡ here ∷ levels_from xs (k + 1)
  levels_from-get = ap (λ ys. map datum_levels (map datum_of ys)) (drop-get xs k x at)

  -- where one has no levels, or other levels than the first, there is no common number
  pub common-none : here ≡ None → common_number (levels_from xs k) ≡ None
  common-none none =
      ap common_number levels_from-get ∙ ap (λ o. common_number (o ∷ levels_from xs (k + 1))) none

  pub common-other : (n : ℕ) → is_number n here ≡ false
      → common_number (Some n ∷ levels_from xs k) ≡ None
  common-other n other =
      ap (λ ns. common_number (Some n ∷ ns)) levels_from-get ∙ rw other refl

  -- one that has those of the first is no matter
  pub common-same : (n : ℕ) → is_number n here ≡ true
      → common_number (Some n ∷ levels_from xs k)
      ≡ common_number (Some n ∷ levels_from xs (k + 1))
  common-same n same = ap (λ ns. common_number (Some n ∷ ns)) levels_from-get ∙ rw same refl
