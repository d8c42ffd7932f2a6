-- Where the place stands that so many places stand before, while numbers are read.
use Rattle.std.proofs.Common.{◌≡◌, ℕ, suc, ◌+◌, ◌-◌, ◌<◌, ◌≤◌, List, [], ◌∷◌, length, drop}
use Rattle.std.proofs.Common.{map, refl, sym, arith}
use Rattle.std.specs.Prelude.{ℤ, Bool, true, false, ◌==◌, Option, Some, None, if◌then◌else◌, IfSome}
use Rattle.std.specs.List.{slice_range}
use Rattle.std.specs.Option.{option_map}
use Rattle.std.proofs.lemmas.List.{length-map}
use Rattle.std.proofs.lemmas.List.Edits.{length-between}
use Rattle.awk_numbers.specs.Places.{is_place, nth_true, nth_place}

-- so many numbers further on
abbrev further : ℕ → Option ℕ → Option ℕ
further i o = option_map (λ k. i + k) o

-- what is looked for among all numbers is looked for among those from a place on
abbrev pub IsLeft : ℕ → ℕ → List ℤ → ℕ → Type 0
IsLeft before left zs i = nth_place before zs ≡ further i (nth_place left (drop i zs))

later : (n k : ℕ) (o : Option ℕ) → option_map suc o ≡ Some k → ((m : ℕ) → o ≡ Some m → m < n)
    → k < suc n
later n k None e h = cc
later n k (Some m) e h = let f : suc m ≡ k = cc in omega (arith, f, h m refl)

-- it is one of them
pub nth_inside : (n k : ℕ) (bs : List Bool) → nth_true n bs ≡ Some k → k < length bs
nth_inside n k [] e = cc
nth_inside n k (false ∷ bs) e = later (length bs) k (nth_true n bs) e (λ m f. nth_inside n m bs f)
nth_inside n k (true ∷ bs) e = go (n == 0) e (λ m f. nth_inside (n - 1) m bs f)
  where
    go : (b : Bool)
        → (if b then Some 0 else option_map suc (nth_true (n - 1) bs)) ≡ Some k
        → ((m : ℕ) → nth_true (n - 1) bs ≡ Some m → m < length bs) → k < suc (length bs)
    go true e h = let f : 0 ≡ k = cc in omega (arith, f)
    go false e h = later (length bs) k (nth_true (n - 1) bs) e h

-- so it is among the numbers of a part
pub place_inside : (n a b : ℕ) (zs : List ℤ) (o : Option ℕ) → b ≤ length zs
    → o ≡ nth_place n (slice_range zs a b) → IfSome o (λ k. k < b - a)
place_inside n a b zs None l e = tt
place_inside n a b zs (Some k) l e =
    omega (
      arith,
      nth_inside n k (map is_place (slice_range zs a b)) (sym e),
      length-map (slice_range zs a b) is_place,
      length-between zs a b l,
    )
