-- Parts of lists of which some items are left out, and lists by their places.
use Rattle.std.proofs.Common.{◌≡◌, ℕ, ◌+◌, ◌-◌, ◌≤◌, ◌<◌, List, ◌++◌, length}
use Rattle.std.proofs.Common.{take, drop, map, get_or, filter, refl, ap, ap₂, sym, ◌∙◌}
use Rattle.std.proofs.Common.{arith}
use Rattle.std.proofs.Common.{length-append, append_assoc}
use Rattle.std.specs.Prelude.{Bool}
use Rattle.std.specs.List.{slice_range, range_with_len}
use Rattle.std.proofs.lemmas.List.{take-append-drop, take-take, length-map}
use Rattle.std.proofs.lemmas.List.Elements.{filter-append}
use Rattle.std.proofs.lemmas.List.FromFn.{get_or-map-range_with_len, length-map-range_with_len}
use Rattle.std.proofs.lemmas.List.{same_lists, get_or-map}
use Rattle.std.proofs.lemmas.Slice.{between_is}
use Rattle.std.proofs.Math.Seq.{drop-append_seam, take-append_seam}

module _ {X : Type 0} where
  -- the first b are the first a and a part
  pub take-parts : (xs : List X) (a b : ℕ) → a ≤ b → take b xs ≡ take a xs ++ slice_range xs a b
  take-parts xs a b l =
      sym (take-append-drop a (take b xs))
      ∙ ap₂ (λ ys zs. ys ++ zs) (take-take a b xs l) (sym (between_is xs a b))

  -- a part in the middle
  pub slice-middle : (xs ys zs : List X) (a b : ℕ) → a ≡ length xs → b ≡ length xs + length ys
      → slice_range ((xs ++ ys) ++ zs) a b ≡ ys
  slice-middle xs ys zs a b e f =
      let n : b - a ≡ length ys = omega (arith, e, f) in
      ap₂ (λ k l. take k (drop l ((xs ++ ys) ++ zs))) n e
      ∙ ap (λ ws. take (length ys) (drop (length xs) ws)) (append_assoc xs ys zs)
      ∙ ap (take (length ys)) (drop-append_seam xs (ys ++ zs))
      ∙ take-append_seam ys zs

  module _ (p : X → Bool) where
    abbrev kept : List X → List X
    kept xs = filter p xs

    -- of a part those that are kept are a part of those that are kept
    pub slice-filter : (xs : List X) (a b : ℕ) → a ≤ b
        → kept (slice_range xs a b)
        ≡ slice_range (kept xs) (length (kept (take a xs))) (length (kept (take b xs)))
    slice-filter xs a b l =
        let front : kept (take b xs) ≡ kept (take a xs) ++ kept (slice_range xs a b) =
        ap kept (take-parts xs a b l) ∙ filter-append p (take a xs) (slice_range xs a b) in
        let whole : kept xs
        ≡ (kept (take a xs) ++ kept (slice_range xs a b)) ++ kept (drop b xs) =
        ap kept (sym (take-append-drop b xs)) ∙ filter-append p (take b xs) (drop b xs)
        ∙ ap (λ ys. ys ++ kept (drop b xs)) front in
        sym (ap (λ ys. slice_range ys (length (kept (take a xs))) (length (kept (take b xs)))) whole
        ∙ slice-middle (kept (take a xs)) (kept (slice_range xs a b)) (kept (drop b xs))
        (length (kept (take a xs))) (length (kept (take b xs))) refl
        (ap length front ∙ length-append (kept (take a xs)) (kept (slice_range xs a b))))

    -- how many of the first are kept
    pub kept-more : (xs : List X) (a b : ℕ) → a ≤ b
        → length (kept (take b xs))
        ≡ length (kept (take a xs)) + length (kept (slice_range xs a b))
    kept-more xs a b l =
        ap length (ap kept (take-parts xs a b l) ∙ filter-append p (take a xs) (slice_range xs a b))
        ∙ length-append (kept (take a xs)) (kept (slice_range xs a b))

    pub kept-few : (xs : List X) (b : ℕ) → length (kept (take b xs)) ≤ length (kept xs)
    kept-few xs b =
        let whole : length (kept xs) ≡ length (kept (take b xs)) + length (kept (drop b xs)) =
        ap length (ap kept (sym (take-append-drop b xs)) ∙ filter-append p (take b xs) (drop b xs))
        ∙ length-append (kept (take b xs)) (kept (drop b xs)) in
        omega (arith, whole)

-- a list by its places
pub map-places : {X Y : Type 0} (f : X → Y) (xs : List X) (d : X)
    → map f xs ≡ map (λ i. f (get_or xs i d)) (range_with_len 0 (length xs))
map-places f xs d =
    same_lists (map f xs) (map (λ i. f (get_or xs i d)) (range_with_len 0 (length xs)))
    (length-map xs f ∙ sym (length-map-range_with_len (λ i. f (get_or xs i d)) 0 (length xs)))
    (λ k e l.
    let l' : k < length xs = omega (arith, l, length-map xs f) in
    get_or-map f xs k d e l'
    ∙ sym (get_or-map-range_with_len (λ i. f (get_or xs i d)) 0 (length xs) k k e l' (omega arith)))
