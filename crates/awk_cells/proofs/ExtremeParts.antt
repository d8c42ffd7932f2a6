-- The extreme of numbers, by that of parts, which may overlap.
use Rattle.std.proofs.Common.{◌≡◌, ℕ, zero, suc, ◌+◌, ◌-◌, ◌<◌, ◌≤◌, ◌⊎◌, inl, inr, List, ◌++◌}
use Rattle.std.proofs.Common.{length, take, drop, get_or, arith, refl, ap, sym, ◌∙◌, subst}
use Rattle.std.proofs.Common.{true, false}
use Rattle.std.specs.Prelude.{ℤ, pos, Bool, if◌then◌else◌}
use Rattle.std.proofs.lemmas.Bool.{cases_lt}
use Rattle.std.proofs.lemmas.Int.{ints}
use Rattle.std.proofs.lemmas.List.{length-append, length-drop, length-take-le, get_or-take}
use Rattle.std.proofs.lemmas.List.{get_or-drop, get_or_append_left, get_or-append_right}
use Rattle.std.proofs.lemmas.List.{get_or-append-add}
use Rattle.awk_numbers.specs.Folds.{beats, first_extreme}
use Rattle.awk_numbers.specs.declared.extremes.Extreme.{Extreme}
use Rattle.awk_numbers.specs.declared.extremes.Extreme.TheVariants.{Least, Greatest}
use Rattle.awk_numbers.proofs.ExtremeLaws.{first_alone}
use Rattle.awk_cells.specs.Extremes.{better_number, number_or_zero, IsExtreme}
use Rattle.awk_cells.proofs.ExtremeLaws.{HasFirst, number_more, number_found}

beaten_on : (how : Extreme) (w x y : ℤ) → beats how w x ≡ false → beats how y x ≡ true
    → beats how w y ≡ false
beaten_on Least w x y p q = grind (arith, ints)
beaten_on Greatest w x y p q = grind (arith, ints)

beaten_back : (how : Extreme) (w x y : ℤ) → beats how w y ≡ false → beats how y x ≡ false
    → beats how w x ≡ false
beaten_back Least w x y p q = grind (arith, ints)
beaten_back Greatest w x y p q = grind (arith, ints)

beats_neither : (how : Extreme) (x y : ℤ) → beats how x y ≡ false → beats how y x ≡ false → x ≡ y
beats_neither Least x y p q = grind (arith, ints)
beats_neither Greatest x y p q = grind (arith, ints)

-- none of the numbers beats it
abbrev IsBound : Extreme → List ℤ → ℤ → Type 0
IsBound how zs z = (k : ℕ) → k < length zs → beats how (get_or zs k (pos 0)) z ≡ false

bound_both : (how : Extreme) (xs ys : List ℤ) (z : ℤ) → IsBound how xs z → IsBound how ys z
    → IsBound how (xs ++ ys) z
bound_both how xs ys z front back k i = go (cases_lt k (length xs))
  where
    go : (k < length xs) ⊎ (length xs ≤ k) → beats how (get_or (xs ++ ys) k (pos 0)) z ≡ false
    go (inl l) =
        ap (λ w. beats how w z) (get_or_append_left xs ys (pos 0) k l) ∙ front k l
    go (inr l) =
        ap (λ w. beats how w z) (get_or-append_right xs ys (length xs) k (pos 0) refl l)
        ∙ back (k - length xs) (omega (arith, i, l, length-append xs ys))

-- the better one of the extremes of two parts
pub extreme_both : (how : Extreme) (xs ys : List ℤ) (x y z : ℤ) → z ≡ better_number how x y
    → IsExtreme how xs x → IsExtreme how ys y → IsExtreme how (xs ++ ys) z
extreme_both how xs ys x y z same h l =
    subst (IsExtreme how (xs ++ ys)) (sym same) (go (beats how y x) refl)
  where
    go : (b : Bool) → beats how y x ≡ b → IsExtreme how (xs ++ ys) (if b then y else x)
    go true t = record {
      place = length xs + l.place;
      inside = omega (arith, l.inside, length-append xs ys);
      found = get_or-append-add xs ys l.place (pos 0) ∙ l.found;
      bound = bound_both how xs ys y
          (λ k i. beaten_on how (get_or xs k (pos 0)) x y (h.bound k i) t) l.bound;
    }
    go false t = record {
      place = h.place;
      inside = omega (arith, h.inside, length-append xs ys);
      found = get_or_append_left xs ys (pos 0) h.place h.inside ∙ h.found;
      bound = bound_both how xs ys x h.bound
          (λ k i. beaten_back how (get_or ys k (pos 0)) x y (l.bound k i) t);
    }

-- ---- parts that overlap

module _ (how : Extreme) (zs : List ℤ) (n m : ℕ) (over : m ≤ n) (within : n ≤ length zs) where
  abbrev parts : List ℤ
  parts = drop m zs ++ take n zs

  last_at : (k : ℕ) → k < length (drop m zs)
      → get_or parts k (pos 0) ≡ get_or zs (m + k) (pos 0)
  last_at k l =
      get_or_append_left (drop m zs) (take n zs) (pos 0) k l ∙ get_or-drop m zs k (pos 0)

  front_at : (k : ℕ) → k < n
      → get_or parts (length (drop m zs) + k) (pos 0) ≡ get_or zs k (pos 0)
  front_at k l =
      get_or-append-add (drop m zs) (take n zs) k (pos 0) ∙ get_or-take n zs k (pos 0) l

  size : length parts ≡ length zs - m + n
  size =
      let both = length-append (drop m zs) (take n zs) in
      omega (arith, both, length-drop m zs, length-take-le n zs within)

  bound_all : (z : ℤ) → IsBound how parts z → IsBound how zs z
  bound_all z h k b = go (cases_lt k n)
    where
      go : (k < n) ⊎ (n ≤ k) → beats how (get_or zs k (pos 0)) z ≡ false
      go (inl l) =
          ap (λ w. beats how w z) (sym (front_at k l))
          ∙ h (length (drop m zs) + k) (omega (arith, l, over, within, size, length-drop m zs))
      go (inr l) =
          let at : k ≡ m + (k - m) = omega (arith, l, over) in
          let inside : k - m < length (drop m zs) =
          omega (arith, l, b, over, length-drop m zs) in
          ap (λ w. beats how w z)
          (ap (λ q. get_or zs q (pos 0)) at ∙ sym (last_at (k - m) inside))
          ∙ h (k - m) (omega (arith, inside, size, length-drop m zs))

  -- the extreme of a front and of a rest that overlap is that of all
  pub extreme_parts : (z : ℤ) → IsExtreme how parts z → IsExtreme how zs z
  extreme_parts z h = go (cases_lt h.place (length (drop m zs)))
    where
      go : (h.place < length (drop m zs)) ⊎ (length (drop m zs) ≤ h.place) → IsExtreme how zs z
      go (inl l) = record {
        place = m + h.place;
        inside = omega (arith, l, over, within, length-drop m zs);
        found = sym (last_at h.place l) ∙ h.found;
        bound = bound_all z h.bound;
      }
      go (inr l) =
          let k = h.place - length (drop m zs) in
          let here : k < n = omega (arith, l, h.inside, size, length-drop m zs) in
          let at : length (drop m zs) + k ≡ h.place = omega (arith, l) in
          record {
            place = k;
            inside = omega (arith, here, within);
            found = sym (front_at k here) ∙ ap (λ q. get_or parts q (pos 0)) at ∙ h.found;
            bound = bound_all z h.bound;
          }

-- ---- the first place of the extreme

-- the first of all numbers that were read
pub extreme_read : (how : Extreme) (zs : List ℤ) (i : ℕ) (z : ℤ) → length zs ≤ i
    → HasFirst how zs i z → IsExtreme how zs z
extreme_read how zs i z l h = record {
  place = h.0;
  inside = h.1.inside;
  found = h.1.found;
  bound = λ k b. h.1.bound k (omega (arith, b, l));
}

has_first : (how : Extreme) (zs : List ℤ) → 0 < length zs → (i : ℕ) → i ≤ length zs
    → (z : ℤ) × HasFirst how zs i z
has_first how zs some zero l =
    (get_or zs 0 (pos 0), (0, first_alone how zs (get_or zs 0 (pos 0)) some refl))
has_first how zs some (suc i) l =
    let old = has_first how zs some i (omega (arith, l)) in
    let next = get_or zs i (pos 0) in
    let new = better_number how old.0 next in
    let on : i + 1 ≡ suc i = omega arith in (
      new,
      subst (λ k. HasFirst how zs k new) on
          (number_more how zs i old.0 next new refl (omega (arith, l)) refl old.1),
    )

-- it is the number at the first of its places
pub extreme_found : (how : Extreme) (zs : List ℤ) (z : ℤ) → IsExtreme how zs z
    → z ≡ number_or_zero zs (first_extreme how zs)
extreme_found how zs z h =
    let first = has_first how zs (omega (arith, h.inside)) (length zs) (omega arith) in
    let x = first.0 in
    let at = first.1 in
    let not_below : beats how z x ≡ false =
    subst (λ w. beats how w x ≡ false) h.found (at.1.bound h.place h.inside) in
    let not_above : beats how x z ≡ false =
    subst (λ w. beats how w z ≡ false) at.1.found (h.bound at.0 at.1.inside) in
    beats_neither how z x not_below not_above ∙ number_found how zs (length zs) x (omega arith) at
