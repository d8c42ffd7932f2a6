-- The first item of the best key, one item more.
use Rattle.std.proofs.Common.{◌≡◌, ℕ, ◌+◌, ◌<◌, List, refl, ap, ap₂, sym, ◌∙◌, subst, arith}
use Rattle.std.proofs.Common.{◌⊎◌, inl, inr}
use Rattle.std.specs.Prelude.{ℤ, Bool, true, false, cond, Option, Some, None, FitsSigned}
use Rattle.std.specs.Prelude.{not, if◌then◌else◌}
use Rattle.std.specs.Int.{w64}
use Rattle.std.specs.Option.{option_and_then, unwrap_or}
use Rattle.std.specs.Ordering.{int_eq}
use Rattle.std.proofs.lemmas.Int.{ints}
use Rattle.awk_base.proofs.Truths.{int_eq-refl}
use Rattle.awk_lanes.specs.Column.{Column}
use Rattle.awk_lanes.specs.Places.{at}
use Rattle.awk_numbers.specs.Folds.{beats}
use Rattle.awk_numbers.specs.declared.extremes.Extreme.{Extreme}
use Rattle.awk_numbers.specs.declared.extremes.Extreme.TheVariants.{Least, Greatest}
use Rattle.awk_nullable.specs.Extremes.{better_key, extreme_place, leaf_key, number_place}
use Rattle.awk_nullable.specs.Extremes.{IsFoundKey, IsPlacedKey, IsWorst}
use Rattle.awk_nullable.specs.Numbers.{leaf_number, numbers_from}
use Rattle.awk_nullable.proofs.FindLaws.{earlier, earlier_none, found, place-more, place-key}

-- a number is not another that it beats
differs : (how : Extreme) (z y : ℤ) → beats how z y ≡ true → int_eq z y ≡ false
differs Least z y e = grind (arith, ints)
differs Greatest z y e = grind (arith, ints)

-- nor one that does not beat what it beats
differs_too : (how : Extreme) (z x y : ℤ) → beats how z x ≡ true → beats how y x ≡ false
    → int_eq z y ≡ false
differs_too Least z x y e f = grind (arith, ints)
differs_too Greatest z x y e f = grind (arith, ints)

beats_on : (how : Extreme) (z y x : ℤ) → beats how z y ≡ true → beats how y x ≡ true
    → beats how z x ≡ true
beats_on Least z y x e f = grind (arith, ints)
beats_on Greatest z y x e f = grind (arith, ints)

abbrev item_if : ℕ → Bool → Option ℕ
item_if i b = cond b (Some i) None

module _ (how : Extreme) (worst : ℤ) (count : ℕ) (g : ℕ → Option ℤ) (first i : ℕ) where
  abbrev IsSoFar : ℤ → ℕ → Type 0
  IsSoFar key place = IsPlacedKey how worst count g first i key place

  abbrev IsNext : ℤ → ℕ → Type 0
  IsNext key place = IsPlacedKey how worst count g first (i + 1) key place

  abbrev before_it : ℤ → Option ℕ
  before_it z = number_place g first i z

  module _ (o : Option ℤ) (e : g (first + i) ≡ o) where
    more : (z : ℤ) → number_place g first (i + 1) z ≡ earlier (before_it z) (found z i o)
    more z = place-more g z first i ∙ ap (λ w. earlier (before_it z) (found z i w)) e

    -- the place stays, since no number found later is an earlier one
    stays : (key : ℤ) (place : ℕ) → IsSoFar key place
        → ((place ≡ count) × (key ≡ worst))
        ⊎ ((place < i + 1) × (number_place g first (i + 1) key ≡ Some place))
    stays key place h = go h.here
      where
        go : ((place ≡ count) × (key ≡ worst))
            ⊎ ((place < i) × (before_it key ≡ Some place))
            → ((place ≡ count) × (key ≡ worst))
            ⊎ ((place < i + 1) × (number_place g first (i + 1) key ≡ Some place))
        go (inl p) = inl p
        go (inr p) =
            inr (omega (arith, p.0), more key ∙ ap (λ q. earlier q (found key i o)) p.1)

  null_more : (key : ℤ) (place : ℕ) → g (first + i) ≡ None → IsSoFar key place → IsNext key place
  null_more key place e h = record {
    before = λ z t. more None e z ∙ earlier_none (before_it z) ∙ h.before z t;
    here = stays None e key place h;
  }

  module _ (y : ℤ) (e : g (first + i) ≡ Some y) (key : ℤ) (place : ℕ) (h : IsSoFar key place) where
    new_more : beats how y key ≡ true → IsNext y i
    new_more t = record {
      before = λ z s.
          more (Some y) e z
          ∙ ap₂ earlier (h.before z (beats_on how z y key s t))
          (ap (item_if i) (differs how z y s));
      here = inr (
        omega arith,
        more (Some y) e y ∙ ap₂ earlier (h.before y t) (ap (item_if i) (int_eq-refl y)),
      );
    }

    old_more : beats how y key ≡ false → IsNext key place
    old_more t = record {
      before = λ z s.
          more (Some y) e z
          ∙ ap₂ earlier (h.before z s) (ap (item_if i) (differs_too how z key y s t));
      here = stays (Some y) e key place h;
    }

    number_more : IsNext (better_key how key y) (cond (beats how y key) i place)
    number_more = go (beats how y key) refl
      where
        go : (b : Bool) → beats how y key ≡ b → IsNext (if b then y else key) (cond b i place)
        go true t = new_more t
        go false t = old_more t

  pub placed_more : (key : ℤ) (place : ℕ) → IsWorst how worst → FitsSigned w64 key
      → IsSoFar key place
      → IsNext (better_key how key (unwrap_or (g (first + i)) worst))
      (cond (beats how (unwrap_or (g (first + i)) worst) key) i place)
  placed_more key place w fits h = go (g (first + i)) refl
    where
      go : (o : Option ℤ) → g (first + i) ≡ o
          → IsNext (better_key how key (unwrap_or o worst))
          (cond (beats how (unwrap_or o worst) key) i place)
      go None e =
          subst (λ b. IsNext (if b then worst else key) (cond b i place)) (sym (w key fits))
          (null_more key place e h)
      go (Some y) e = number_more y e key place h

-- ---- of all items

module _ (how : Extreme) (f : ℕ → Option ℕ) (c : Column) (s worst : ℤ) (first count : ℕ) where
  abbrev zs : List ℤ
  zs = numbers_from (leaf_number f c) first count

  -- the place of the key is that of the extreme
  pub key_placed : (key : ℤ) (some : Bool) → not some ≡ false
      → IsFoundKey how c s worst zs key some
      → number_place (leaf_key f c s) first count key
      ≡ extreme_place how (leaf_number f c) first count
  key_placed key true e h =
      ap (number_place (leaf_key f c s) first count) h.3
      ∙ place-key f c s (at c h.0) first count
      ∙ sym (ap (option_and_then (number_place (leaf_number f c) first count)) h.2)
  key_placed key false e h = cc

  pub place_there : (key : ℤ) (place : ℕ) → place < count
      → IsPlacedKey how worst count (leaf_key f c s) first count key place
      → Some place ≡ number_place (leaf_key f c s) first count key
  place_there key place l h = go h.here
    where
      go : ((place ≡ count) × (key ≡ worst))
          ⊎ ((place < count) × (number_place (leaf_key f c s) first count key ≡ Some place))
          → Some place ≡ number_place (leaf_key f c s) first count key
      go (inl p) = absurd (omega (arith, l, p.0))
      go (inr p) = sym p.1
