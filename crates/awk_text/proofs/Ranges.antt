-- Lists made place by place.
use Rattle.std.proofs.Common.{◌≡◌, ℕ, zero, suc, ◌+◌, ◌∷◌, map, refl, ap, ◌∙◌}
use Rattle.std.proofs.Common.{add-one}
use Rattle.std.specs.List.{range_with_len}

-- the places from one further on
pub map-shift : {A : Type 0} (f : ℕ → A) (a n : ℕ)
    → map f (range_with_len (a + 1) n) ≡ map (λ k. f (suc k)) (range_with_len a n)
map-shift f a zero = refl
map-shift f a (suc n) = ap (λ k. f k ∷ map f (range_with_len (a + 1 + 1) n)) (add-one a)
    ∙ ap (λ z. f (suc a) ∷ z) (map-shift f (a + 1) n)
