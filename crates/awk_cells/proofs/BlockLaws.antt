-- Blocks one after another.
use Rattle.std.proofs.Common.{◌≡◌, ℕ, zero, suc, ◌+◌, ◌*◌, ◌<◌, List, [], ◌++◌, length, take, drop}
use Rattle.std.proofs.Common.{get_or, map, take-add, ap, sym, ◌∙◌, arith}
use Rattle.std.specs.List.{flat_map}
use Rattle.std.specs.Simd.{first_chunks}
use Rattle.std.proofs.lemmas.List.{take_more, flat_map_more, append_assoc}
use Rattle.std.proofs.lemmas.List.{map-append}

module _ {X : Type 0} where
  -- they are the front that was cut into them
  pub joined_chunks : (n k : ℕ) (xs : List X)
      → flat_map (λ b. b) (first_chunks n k xs) ≡ take (k * n) xs
  joined_chunks n zero xs =
      let none : zero * n ≡ 0 = grind arith in
      sym (ap (λ m. take m xs) none)
  joined_chunks n (suc k) xs =
      let far : n + k * n ≡ suc k * n = omega arith in
      ap (λ ys. take n xs ++ ys) (joined_chunks n k (drop n xs))
      ∙ sym (take-add n (k * n) xs)
      ∙ ap (λ m. take m xs) far

  -- one block more
  pub joined_more : (bs : List (List X)) (i : ℕ) (d : List X) → i < length bs
      → flat_map (λ b. b) (take (i + 1) bs) ≡ flat_map (λ b. b) (take i bs) ++ get_or bs i d
  joined_more bs i d l =
      ap (flat_map (λ b. b)) (take_more bs i d l)
      ∙ sym (flat_map_more (λ b. b) [] (take i bs) (get_or bs i d))

-- what is made of one block more, behind something else
pub mapped_more : {X Y : Type 0} (f : X → Y) (ys : List Y) (bs : List (List X)) (i : ℕ) (b : List X)
    → i < length bs → b ≡ get_or bs i b
    → (ys ++ map f (flat_map (λ b. b) (take i bs))) ++ map f b
    ≡ ys ++ map f (flat_map (λ b. b) (take (i + 1) bs))
mapped_more f ys bs i b l e =
    let front = flat_map (λ b. b) (take i bs) in
    append_assoc ys (map f front) (map f b)
    ∙ ap (λ zs. ys ++ zs)
    (sym (map-append f front b)
    ∙ ap (λ xs. map f (front ++ xs)) e
    ∙ ap (map f) (sym (joined_more bs i b l)))
