-- The bytes of a lane, read as numbers, are the lane.
use Rattle.std.proofs.Common.{◌≡◌, ℕ, ◌*◌, ◌<◌, List, [], ◌∷◌, ◌++◌, length, take, drop, get_or}
use Rattle.std.proofs.Common.{refl, ap, sym, ◌∙◌, arith, length-append, ℤ, pos, false}
use Rattle.std.specs.List.{flat_map, AllByRecursion}
use Rattle.std.proofs.lemmas.List.{take_all, take-append-le}
use Rattle.std.proofs.Math.Seq.{drop-append_seam}
use Rattle.awk_lanes.specs.declared.kind.Kind.{Kind}
use Rattle.awk_lanes.specs.declared.kind.Kind.TheVariants.{Bool as Truths, I8, I16, I32, I64, U8}
use Rattle.awk_lanes.specs.declared.kind.Kind.TheVariants.{U16, U32, U64}
use Rattle.awk_lanes.specs.declared.kind.Num.{Num}
use Rattle.awk_lanes.specs.Numbers.{width, number, numbers, int_of, bytes_of, IsOf}
use Rattle.awk_lanes.proofs.NumberParts.{number-take, number-bytes_of, get_or-numbers}
use Rattle.awk_valid.specs.Container.{num}

-- code holds the number as one of the kind
abbrev pub IsHeld : Kind → ℤ → Type 0
IsHeld k z = (x : Num) × IsOf k x × (int_of x ≡ z)

length-bytes_of : (k : Kind) (z : ℤ) → length (bytes_of k z) ≡ width k
length-bytes_of Truths z = refl
length-bytes_of I8 z = refl
length-bytes_of I16 z = refl
length-bytes_of I32 z = refl
length-bytes_of I64 z = refl
length-bytes_of U8 z = refl
length-bytes_of U16 z = refl
length-bytes_of U32 z = refl
length-bytes_of U64 z = refl

pub length-lane_bytes : (k : Kind) (zs : List ℤ)
    → length (flat_map (bytes_of k) zs) ≡ length zs * width k
length-lane_bytes k [] = omega arith
length-lane_bytes k (z ∷ zs) =
    omega (
      arith,
      length-append (bytes_of k z) (flat_map (bytes_of k) zs),
      length-bytes_of k z,
      length-lane_bytes k zs,
    )

number-held : (k : Kind) (z : ℤ) → IsHeld k z → number k (bytes_of k z) ≡ z
number-held k z h =
    ap (λ y. number k (bytes_of k y)) (sym h.2) ∙ number-bytes_of k h.0 h.1 ∙ h.2

-- the bytes of one number stand before the others
first-number : (k : Kind) (z : ℤ) (rest : List ℕ) → IsHeld k z → number k (bytes_of k z ++ rest) ≡ z
first-number k z rest h =
    let w = length-bytes_of k z in
    let own : take (width k) (bytes_of k z ++ rest) ≡ bytes_of k z =
    take-append-le (width k) (bytes_of k z) rest (omega (arith, w))
    ∙ take_all (width k) (bytes_of k z) (omega (arith, w)) in
    sym (number-take k (width k) (bytes_of k z ++ rest) (omega arith)) ∙ ap (number k) own
    ∙ number-held k z h

other-bytes : (k : Kind) (z : ℤ) (rest : List ℕ) → drop (width k) (bytes_of k z ++ rest) ≡ rest
other-bytes k z rest =
    ap (λ n. drop n (bytes_of k z ++ rest)) (sym (length-bytes_of k z))
    ∙ drop-append_seam (bytes_of k z) rest

numbers-lane_bytes : (k : Kind) (zs : List ℤ) → AllByRecursion (IsHeld k) zs
    → numbers k (length zs) (flat_map (bytes_of k) zs) ≡ zs
numbers-lane_bytes k [] h = refl
numbers-lane_bytes k (z ∷ zs) h =
    let rest = flat_map (bytes_of k) zs in
    rw (first-number k z rest h.0, other-bytes k z rest)
    (ap (λ ys. z ∷ ys) (numbers-lane_bytes k zs h.1))

-- the number at each place
pub num-lane_bytes : (k : Kind) (zs : List ℤ) (i : ℕ) → AllByRecursion (IsHeld k) zs → i < length zs
    → num false k (flat_map (bytes_of k) zs) i ≡ get_or zs i (pos 0)
num-lane_bytes k zs i h l =
    sym (get_or-numbers k (length zs) (flat_map (bytes_of k) zs) i l)
    ∙ ap (λ ys. get_or ys i (pos 0)) (numbers-lane_bytes k zs h)
