-- The number that stands at the first place of an extreme.
use Rattle.std.proofs.Common.{◌≡◌, ℕ, suc, ◌<◌, ◌≤◌, List, [], ◌∷◌, length, get_or, arith, refl, ap}
use Rattle.std.proofs.Common.{sym, ◌∙◌, subst, inl, inr, ◌⊎◌}
use Rattle.std.specs.Prelude.{ℤ, pos, Bool, true, false, cond, nat_lt, position, Option, Some, None}
use Rattle.std.specs.Int.{int_min, int_max}
use Rattle.std.specs.List.{fold, position_or_len, Contains}
use Rattle.std.specs.Option.{option_and_then}
use Rattle.std.specs.Ordering.{int_eq}
use Rattle.std.proofs.lemmas.Bool.Decides.{Decides-int_eq}
use Rattle.std.proofs.lemmas.Int.{ints, fold-int_min_reached, fold-int_max_reached}
use Rattle.std.proofs.lemmas.List.{get_or_default}
use Rattle.std.proofs.lemmas.List.Quantifiers.{position-Some}
use Rattle.std.proofs.lemmas.List.Sums.{fails_before_first}
use Rattle.awk_numbers.specs.Folds.{first_extreme, extreme_of}
use Rattle.awk_numbers.specs.declared.extremes.Extreme.{Extreme}
use Rattle.awk_numbers.specs.declared.extremes.Extreme.TheVariants.{Least, Greatest}

abbrev pub IsFound : Option ℤ → List ℤ → ℕ → Type 0
IsFound o zs q =
    (q < length zs) × (o ≡ Some (get_or zs q (pos 0)))
    × (position (int_eq (get_or zs q (pos 0))) zs ≡ Some q)

found_by : (o : Option ℤ) (zs : List ℤ) (q : ℕ)
    → option_and_then (λ x. position (int_eq x) zs) o ≡ Some q → IsFound o zs q
found_by None zs q e = cc
found_by (Some x) zs q e =
    let p = position-Some (int_eq x) zs q (pos 0) e in
    let same : x ≡ get_or zs q (pos 0) = (Decides-int_eq x (get_or zs q (pos 0))).0 p.1 in
    (p.0, ap Some same, subst (λ y. position (int_eq y) zs ≡ Some q) same e)

pub extreme_found : (how : Extreme) (zs : List ℤ) (q : ℕ) → first_extreme how zs ≡ Some q
    → IsFound (extreme_of how zs) zs q
extreme_found Least zs q e = found_by (extreme_of Least zs) zs q e
extreme_found Greatest zs q e = found_by (extreme_of Greatest zs) zs q e

-- what stands among numbers has a place
has_place : (z : ℤ) (zs : List ℤ) (k : ℕ) → k < length zs → get_or zs k (pos 0) ≡ z
    → position (int_eq z) zs ≡ None → ⊥
has_place z zs k l e h = go (nat_lt (position_or_len (int_eq z) zs) (length zs)) refl h
  where
    self : (y : ℤ) → int_eq y y ≡ true
    self y = grind (arith, ints)

    go : (b : Bool) → nat_lt (position_or_len (int_eq z) zs) (length zs) ≡ b
        → cond b (Some (position_or_len (int_eq z) zs)) None ≡ None → ⊥
    go true t n = cc
    go false t n =
        let late : length zs ≤ position_or_len (int_eq z) zs = grind (arith, t) in
        let no : int_eq z (get_or zs k (pos 0)) ≡ false =
        fails_before_first (int_eq z) zs k (pos 0) (omega (arith, l, late)) in
        let yes : int_eq z (get_or zs k (pos 0)) ≡ true = ap (int_eq z) e ∙ self z in
        let wrong : true ≡ false = sym yes ∙ no in
        cc

reached_place : (x m : ℤ) (zs : List ℤ) → (m ≡ x) ⊎ Contains zs m
    → position (int_eq m) (x ∷ zs) ≡ None → ⊥
reached_place x m zs (inl e) h = has_place m (x ∷ zs) 0 (omega arith) (sym e) h
reached_place x m zs (inr f) h =
    has_place m (x ∷ zs) (suc f.0) (omega (arith, f.1))
    (get_or_default zs f.0 (pos 0) m f.1 ∙ f.2) h

-- only of none there is none
pub extreme_none : (how : Extreme) (zs : List ℤ) → first_extreme how zs ≡ None
    → extreme_of how zs ≡ None
extreme_none Least [] e = refl
extreme_none Greatest [] e = refl
extreme_none Least (x ∷ zs) e =
    absurd (reached_place x (fold int_min x zs) zs
    (fold-int_min_reached x zs (fold int_min x zs) refl) e)
extreme_none Greatest (x ∷ zs) e =
    absurd (reached_place x (fold int_max x zs) zs
    (fold-int_max_reached x zs (fold int_max x zs) refl) e)
