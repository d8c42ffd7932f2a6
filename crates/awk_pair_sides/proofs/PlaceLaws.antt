-- Items at places: repeated, and of arrays that are equally long.
use Rattle.std.proofs.Common.{◌≡◌, ℕ, zero, suc, ◌+◌, ◌<◌, refl, ap, arith, sym, subst, ◌∙◌, drop}
use Rattle.std.specs.Prelude.{List, ◌++◌, map, pos, slice_get, Some}
use Rattle.std.specs.List.{range_with_len}
use Rattle.std.proofs.lemmas.Simd.{map-map}
use Rattle.std.proofs.lemmas.List.{map-append}
use Rattle.awk_base.proofs.Lists.{drop-get}
use Rattle.awk_lanes.specs.Column.{Column}
use Rattle.awk_lanes.specs.Counted.{before, items_lane, numbers_of_lists}
use Rattle.awk_lanes.specs.Numbers.{nat_of}
use Rattle.awk_lanes.specs.Places.{size_of, place_at, IsIndex}
use Rattle.awk_lanes.specs.declared.kind.Kind.TheVariants.{I64}
use Rattle.awk_lanes.proofs.CountedLanes.{numbers-at, length-numbers}
use Rattle.awk_layout.specs.Layout.{Layout}
use Rattle.awk_layout.specs.Valid.{len}
use Rattle.awk_open.specs.Opened.{AreLong}
use Rattle.awk_counts.specs.Counted.{first_of}
use Rattle.awk_counts.proofs.FirstPlaces.{first_of-more}
use Rattle.awk_counts.proofs.PlacesBelow.{same-below}
use Rattle.awk_columns.proofs.ReachedContents.{below-first_of, places_index}

-- ---- items repeated

-- numbers that are places, one list after another
pub place-numbers : (m : ℕ → ℕ) (g : ℕ → ℕ → ℕ) (n : ℕ) → numbers_of_lists m (λ i k. pos (g i k)) n
    ≡ map (λ k. pos k) (first_of (λ i. map (g i) (range_with_len 0 (m i))) n)
place-numbers m g zero = refl
place-numbers m g (suc n) =
    let f : ℕ → List ℕ = λ i. map (g i) (range_with_len 0 (m i)) in
    let e : suc n ≡ n + 1 = omega arith in
    ap (λ zs. zs ++ map (λ k. pos (g n k)) (range_with_len 0 (m n))) (place-numbers m g n)
    ∙ ap (λ zs. map (λ k. pos k) (first_of f n) ++ zs)
    (sym (map-map (λ k. pos k) (g n) (range_with_len 0 (m n))))
    ∙ sym (ap (λ k. map (λ k. pos k) (first_of f k)) e
    ∙ ap (map (λ k. pos k)) (first_of-more f n)
    ∙ map-append (λ k. pos k) (first_of f n) (f n))

abbrev pub places_of : (ℕ → ℕ) → ℕ → Column
places_of m n = items_lane I64 m (λ i k. pos i) n

-- each is a place
pub repeats_index : (m : ℕ → ℕ) (n : ℕ) → IsIndex (places_of m n) n
repeats_index m n =
    subst (λ zs. IsIndex (record { kind = I64; items = zs }) n)
    (sym (place-numbers m (λ i k. i) n))
    (places_index n (first_of (λ i. map (λ k. i) (range_with_len 0 (m i))) n)
    (below-first_of n (λ i. map (λ k. i) (range_with_len 0 (m i))) n
    (λ i h. same-below n i 0 (m i) h)))

pub size-places_of : (m : ℕ → ℕ) (n : ℕ) → size_of (places_of m n) ≡ before m n
size-places_of m n = length-numbers m (λ i k. pos i) n

pub place-places_of : (m : ℕ → ℕ) (n i k : ℕ) → i < n → k < m i
    → place_at (places_of m n) (before m i + k) ≡ i
place-places_of m n i k h l = ap nat_of (numbers-at m (λ j q. pos j) i k n h l)

-- ---- arrays that are equally long

pub long_get : (n : ℕ) (xs : List Layout) (i : ℕ) (x : Layout) → slice_get xs i ≡ Some x
    → AreLong n (drop i xs) → (len x ≡ n) × AreLong n (drop (i + 1) xs)
long_get n xs i x e h = subst (AreLong n) (drop-get xs i x e) h
