-- That no element passes a test, or not each does, by one more element or by two parts that may
-- overlap.
use Rattle.std.proofs.Common.{◌≡◌, ℕ, zero, suc, ◌+◌, ◌<◌, ◌≤◌, List, [], ◌∷◌, length, take, drop}
use Rattle.std.proofs.Common.{get_or, map, refl, ap, ap₂, sym, ◌∙◌, arith, take-append-drop}
use Rattle.std.specs.Prelude.{Bool, true, false, not, ◌||◌, ◌&&◌}
use Rattle.std.specs.List.{list_any, list_all}
use Rattle.std.proofs.lemmas.List.{take-map, drop-map}
use Rattle.std.proofs.lemmas.List.Folds.{list_any_more, list_all_more, list_all-append}
use Rattle.std.proofs.lemmas.List.Folds.{list_any-append}
use Rattle.std.proofs.Math.Bool.{not-not}

-- neither of two
not-either : (a b : Bool) → (not a && not b) ≡ not (a || b)
not-either true b = refl
not-either false b = refl

-- not both of two
not-both : (a b : Bool) → (not a || not b) ≡ not (a && b)
not-both true b = refl
not-both false b = refl

module _ {X : Type 0} (p : X → Bool) (xs : List X) (i : ℕ) (d : X) (l : i < length xs) where
  -- none, and not the next
  pub none_more : {t a b : Bool} → t ≡ (a && b) → a ≡ not (list_any p (take i xs))
      → b ≡ not (p (get_or xs i d)) → t ≡ not (list_any p (take (i + 1) xs))
  none_more both front next = both ∙ ap₂ (λ x y. x && y) front next
      ∙ not-either (list_any p (take i xs)) (p (get_or xs i d))
      ∙ ap not (sym (list_any_more p xs i d l))

  -- not each, or not the next
  pub lacks_more : {t a b : Bool} → t ≡ (a || b) → a ≡ not (list_all p (take i xs))
      → b ≡ not (p (get_or xs i d)) → t ≡ not (list_all p (take (i + 1) xs))
  lacks_more either front next = either ∙ ap₂ (λ x y. x || y) front next
      ∙ not-both (list_all p (take i xs)) (p (get_or xs i d))
      ∙ ap not (sym (list_all_more p xs i d l))

-- ---- two parts

or_again : (a b : Bool) → (a || (a || b)) ≡ (a || b)
or_again true b = refl
or_again false b = refl

or_apart : (a b c d : Bool) → (b || c) ≡ d → ((a || b) || c) ≡ (a || d)
or_apart true b c d e = refl
or_apart false b c d e = e

and_again : (a b : Bool) → (a && (a && b)) ≡ (a && b)
and_again true b = refl
and_again false b = refl

and_apart : (a b c d : Bool) → (b && c) ≡ d → ((a && b) && c) ≡ (a && d)
and_apart true b c d e = e
and_apart false b c d e = refl

module _ {Y : Type 0} (p : Y → Bool) where
  any_split : (n : ℕ) (ys : List Y)
      → list_any p ys ≡ (list_any p (take n ys) || list_any p (drop n ys))
  any_split n ys =
      ap (list_any p) (sym (take-append-drop n ys))
      ∙ list_any-append p (take n ys) (drop n ys)

  any_over : (n m : ℕ) (ys : List Y) → m ≤ n
      → (list_any p (take n ys) || list_any p (drop m ys)) ≡ list_any p ys
  any_over n zero ys l =
      let front = list_any p (take n ys) in
      ap (λ b. front || b) (any_split n ys) ∙ or_again front (list_any p (drop n ys))
      ∙ sym (any_split n ys)
  any_over zero (suc m) ys l = absurd (omega (arith, l))
  any_over (suc n) (suc m) [] l = refl
  any_over (suc n) (suc m) (y ∷ ys) l =
      or_apart (p y) (list_any p (take n ys)) (list_any p (drop m ys)) (list_any p ys)
      (any_over n m ys (omega (arith, l)))

  all_split : (n : ℕ) (ys : List Y)
      → list_all p ys ≡ (list_all p (take n ys) && list_all p (drop n ys))
  all_split n ys =
      ap (list_all p) (sym (take-append-drop n ys))
      ∙ list_all-append p (take n ys) (drop n ys)

  all_over : (n m : ℕ) (ys : List Y) → m ≤ n
      → (list_all p (take n ys) && list_all p (drop m ys)) ≡ list_all p ys
  all_over n zero ys l =
      let front = list_all p (take n ys) in
      ap (λ b. front && b) (all_split n ys) ∙ and_again front (list_all p (drop n ys))
      ∙ sym (all_split n ys)
  all_over zero (suc m) ys l = absurd (omega (arith, l))
  all_over (suc n) (suc m) [] l = refl
  all_over (suc n) (suc m) (y ∷ ys) l =
      and_apart (p y) (list_all p (take n ys)) (list_all p (drop m ys)) (list_all p ys)
      (all_over n m ys (omega (arith, l)))

  module _ {X : Type 0} (f : X → Y) (xs : List X) (n m : ℕ) (l : m ≤ n) {front last : List X}
      (first : front ≡ take n xs) (rest : last ≡ drop m xs) {a b t : Bool} where
    -- none of either part: none of all
    pub any_parts : t ≡ (a && b) → a ≡ not (list_any p (map f front))
        → b ≡ not (list_any p (map f last)) → not t ≡ list_any p (map f xs)
    any_parts both e h =
        let x = list_any p (map f front) in
        let y = list_any p (map f last) in
        ap not (both ∙ ap₂ (λ u v. u && v) e h ∙ not-either x y) ∙ not-not (x || y)
        ∙ ap₂ (λ u v. list_any p u || list_any p v)
        (ap (map f) first ∙ sym (take-map f n xs)) (ap (map f) rest ∙ sym (drop-map f m xs))
        ∙ any_over n m (map f xs) l

    -- one that lacks in either part lacks in all
    pub all_parts : t ≡ (a || b) → a ≡ not (list_all p (map f front))
        → b ≡ not (list_all p (map f last)) → not t ≡ list_all p (map f xs)
    all_parts either e h =
        let x = list_all p (map f front) in
        let y = list_all p (map f last) in
        ap not (either ∙ ap₂ (λ u v. u || v) e h ∙ not-both x y) ∙ not-not (x && y)
        ∙ ap₂ (λ u v. list_all p u && list_all p v)
        (ap (map f) first ∙ sym (take-map f n xs)) (ap (map f) rest ∙ sym (drop-map f m xs))
        ∙ all_over n m (map f xs) l
