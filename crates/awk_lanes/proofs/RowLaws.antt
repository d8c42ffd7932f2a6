-- The lowest bytes of numbers by their places, and the lane that they make.
use Rattle.std.proofs.Common.{◌≡◌, ℕ, ◌+◌, ◌<◌, ◌≤◌, ◌⊎◌, inl, inr, List, [], ◌∷◌, ◌++◌, map}
use Rattle.std.proofs.Common.{get_or, ap, sym, subst, ◌∙◌, arith, true, false, w64}
use Rattle.std.proofs.lemmas.Bool.{cases_lt}
use Rattle.std.proofs.lemmas.Int.{ints}
use Rattle.std.proofs.lemmas.List.{get_or_past}
use Rattle.std.proofs.lemmas.List.FromFn.{get_or-map-range_with_len, length-map-range_with_len}
use Rattle.std.proofs.lemmas.List.FromFn.{map-range_with_len_more, length-range_with_len}
use Rattle.std.specs.Prelude.{ℤ, pos}
use Rattle.std.specs.Int.{cast_unsigned}
use Rattle.std.specs.List.{range_with_len}
use Rattle.awk_lanes.specs.declared.kind.Kind.{Kind}
use Rattle.awk_lanes.specs.declared.kind.Kind.TheVariants.{Bool as Truths, I8, I16, I32, I64}
use Rattle.awk_lanes.specs.declared.kind.Kind.TheVariants.{U8, U16, U32, U64}
use Rattle.awk_lanes.specs.declared.kind.Num.{Num}
use Rattle.awk_lanes.specs.declared.kind.Num.TheVariants.{Int, Nat, Truth}
use Rattle.awk_lanes.specs.Numbers.{width, numbers, int_of, IsOf}
use Rattle.awk_lanes.specs.Ranges.{IsNumber}
use Rattle.awk_lanes.specs.Words.{low_bytes, low_groups, low_row, AreOf}
use Rattle.awk_lanes.proofs.RangeLaws.{fits_8, fits_16, fits_32, fits_64, zero_number}
use Rattle.awk_lanes.proofs.WordLaws.{number_low, numbers-flat_map}

-- a number that code holds as one of a kind is in its range
pub in_range : (k : Kind) (x : Num) → IsOf k x → IsNumber k (int_of x)
in_range Truths (Truth true) h = (omega (arith, ints), omega (arith, ints))
in_range Truths (Truth false) h = (omega (arith, ints), omega (arith, ints))
in_range I8 (Int z) h = fits_8 z h
in_range I16 (Int z) h = fits_16 z h
in_range I32 (Int z) h = fits_32 z h
in_range I64 (Int z) h = fits_64 z h
in_range U8 (Nat n) h = (omega (arith, ints), omega (arith, ints, h))
in_range U16 (Nat n) h = (omega (arith, ints), omega (arith, ints, h))
in_range U32 (Nat n) h = (omega (arith, ints), omega (arith, ints, h))
in_range U64 (Nat n) h = (omega (arith, ints), omega (arith, ints, h))
in_range _ _ h = absurd h

-- one number more
pub more_of : (k : Kind) (n : ℕ) (f : ℕ → ℤ) (z : ℤ) → z ≡ f n → IsNumber k z → AreOf k n f
    → AreOf k (n + 1) f
more_of k n f z e p h i q = earlier_or_last (cases_lt i n)
  where
    earlier_or_last : (i < n) ⊎ (n ≤ i) → IsNumber k (f i)
    earlier_or_last (inl l) = h i l
    earlier_or_last (inr l) =
        let same : n ≡ i = omega (arith, q, l) in
        subst (λ j. IsNumber k (f j)) same (subst (IsNumber k) e p)

pub group_more : (w i : ℕ) (f : ℕ → ℤ) (z : ℤ) (b : List ℕ) (old new : List (List ℕ))
    → new ≡ old ++ b ∷ [] → b ≡ low_bytes w (cast_unsigned w64 z) → z ≡ f i
    → old ≡ low_groups w i f → new ≡ low_groups w (i + 1) f
group_more w i f z b old new e d g h =
    rw (e, d, h, g) (sym
    (map-range_with_len_more (λ j. low_bytes w (cast_unsigned w64 (f j))) 0 i i (omega arith)))

-- the numbers of the bytes are those at the places
pub numbers-low_row : (k : Kind) (n : ℕ) (f : ℕ → ℤ) → AreOf k n f
    → numbers k n (low_row (width k) n f) ≡ map f (range_with_len 0 n)
numbers-low_row k n f h =
    ap (λ m. numbers k m (low_row (width k) n f)) (sym (length-range_with_len 0 n))
    ∙ numbers-flat_map k (λ i. cast_unsigned w64 (f i)) f (λ i. number_low k (f i))
    (range_with_len 0 n) (λ i. within_or_past i (cases_lt i n))
  where
    within_or_past : (i : ℕ) → (i < n) ⊎ (n ≤ i)
        → IsNumber k (get_or (map f (range_with_len 0 n)) i (pos 0))
    within_or_past i (inl l) =
        subst (IsNumber k)
        (sym (get_or-map-range_with_len f 0 n i i (pos 0) l (omega arith))) (h i l)
    within_or_past i (inr l) =
        subst (IsNumber k) (sym (get_or_past (map f (range_with_len 0 n)) i (pos 0)
        (omega (arith, l, length-map-range_with_len f 0 n)))) (zero_number k)
