-- The numbers that the index of an option names.
use Rattle.std.proofs.Common.{◌≡◌, ℕ, zero, suc, ◌+◌, ◌<◌, arith, refl, subst, ◌∙◌}
use Rattle.std.specs.Prelude.{length, map, ℤ, pos, negsuc, ◌<ℤ◌, Some, None}
use Rattle.std.specs.List.{range_with_len}
use Rattle.std.proofs.lemmas.Int.{ints}
use Rattle.awk_base.proofs.Ranges.{flat-in}
use Rattle.awk_lanes.specs.Column.{Column}
use Rattle.awk_lanes.specs.Counted.{before}
use Rattle.awk_lanes.specs.Numbers.{nat_of}
use Rattle.awk_lanes.specs.Places.{size_of, at, place_at, option_place, IsOptionalIndex}
use Rattle.awk_lanes.proofs.CountedLanes.{before-next}
use Rattle.awk_counts.specs.Counted.{first_of, present_place, present_at}
use Rattle.awk_counts.proofs.FirstPlaces.{length-first_of}
use Rattle.awk_list_numbers.specs.ListPlaces.{list_places, ArePlaces}

-- ---- one number of an index

-- a place that it names
pub named_place : (z : ℤ) (p : ℕ) → option_place z ≡ Some p → p ≡ nat_of z
named_place (pos a) p e = cc
named_place (negsuc a) p e = cc

pub no_place_named : (z : ℤ) → option_place z ≡ None → 0 ≡ nat_of z
no_place_named (pos a) e = cc
no_place_named (negsuc a) e = refl

one-read : (z : ℤ)
    → map (λ k. nat_of z) (range_with_len 0 (length (present_place (option_place z))))
    ≡ present_place (option_place z)
one-read (pos a) = refl
one-read (negsuc a) = refl

place-below : (n : ℕ) (z : ℤ) (k : ℕ) → z <ℤ pos n
    → k < length (present_place (option_place z)) → nat_of z < n
place-below n (pos a) k h l = omega (arith, ints, h)
place-below n (negsuc a) k h l = absurd (omega (arith, l))

-- ---- all of them

-- how many places an index names at each place
abbrev pub named_at : Column → ℕ → ℕ
named_at j i = length (present_at j i)

-- the places of the lists of one place are those that the index names
pub places-read : (j : Column) (n : ℕ)
    → list_places (named_at j) (λ i k. place_at j i) n ≡ first_of (present_at j) n
places-read j n =
    flat-in (λ i. map (λ k. place_at j i) (range_with_len 0 (named_at j i))) (present_at j) 0 n
    (λ i l. one-read (at j i))

-- how many there are
length-named : (j : Column) (n : ℕ) → length (first_of (present_at j) n) ≡ before (named_at j) n
length-named j zero = refl
length-named j (suc n) =
    let e : n + 1 ≡ suc n = omega arith in
    subst (λ k. length (first_of (present_at j) k) ≡ before (named_at j) k) e
    (omega (
      arith,
      length-named j n,
      length-first_of (present_at j) n,
      before-next (named_at j) n,
    ))

pub count-read : (j : Column) (n total : ℕ) → total ≡ length (first_of (present_at j) n)
    → total ≡ before (named_at j) n
count-read j n total e = e ∙ length-named j n

-- each is a place of the content
pub are_places : (j : Column) (n : ℕ) → IsOptionalIndex j n
    → ArePlaces n (named_at j) (λ i k. place_at j i) (size_of j)
are_places j n v i k l q = place-below n (at j i) k (v.below i l) q
