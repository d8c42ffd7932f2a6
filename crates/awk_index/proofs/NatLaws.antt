-- The numbers of lanes as u64.
use Rattle.std.proofs.Common.{◌≡◌, ℕ, suc, ◌*◌, ◌/◌, ◌^◌, List, [], ◌∷◌}
use Rattle.std.proofs.Common.{length, get_or, map, refl, ◌∙◌, arith}
use Rattle.std.proofs.Common.{◌-◌, Bool, true, false, ltb, w8, w16, w32, w64}
use mir.Val.{sel, bits, hbits}
use Rattle.std.proofs.lemmas.Int.{ints}
use Rattle.std.specs.Prelude.{ℤ, pos, negsuc, ◌≤ℤ◌}
use Rattle.std.specs.Simd.{first_chunks}
use Rattle.std.specs.Int.{Width, cast_signed}
use Rattle.awk_lanes.specs.declared.kind.Kind.{Kind}
use Rattle.awk_lanes.specs.declared.kind.Kind.TheVariants.{Bool as Truths, I8, I16, I32, I64}
use Rattle.awk_lanes.specs.declared.kind.Kind.TheVariants.{U8, U16, U32, U64}
use Rattle.awk_lanes.specs.Numbers.{width, number, numbers}
use Rattle.awk_lanes.specs.Words.{HasNats, integers, unsigned}
use Rattle.awk_lanes.proofs.NumberParts.{map-number_all}

-- an unsigned number is itself, read as signed, where that is not negative
nat-signed : (w : Width) (n : ℕ) → pos 0 ≤ℤ cast_signed w n → pos n ≡ cast_signed w n
nat-signed w n = go (ltb n (2 ^ hbits w))
  where
    go : (c : Bool) → pos 0 ≤ℤ sel c (pos n) (negsuc (2 ^ bits w - suc n))
        → pos n ≡ sel c (pos n) (negsuc (2 ^ bits w - suc n))
    go true h = refl
    go false h = absurd (omega (arith, ints, h))

-- what `HasNats` asks of one number
abbrev IsNat : Kind → ℤ → Type 0
IsNat Truths z = Unit {0}
IsNat U8 z = Unit {0}
IsNat U16 z = Unit {0}
IsNat U32 z = Unit {0}
IsNat U64 z = Unit {0}
IsNat _ z = pos 0 ≤ℤ z

each_nat : (k : Kind) (zs : List ℤ) → HasNats k zs → (i : ℕ) → IsNat k (get_or zs i (pos 0))
each_nat Truths zs h i = tt
each_nat I8 zs h i = h i
each_nat I16 zs h i = h i
each_nat I32 zs h i = h i
each_nat I64 zs h i = h i
each_nat U8 zs h i = tt
each_nat U16 zs h i = tt
each_nat U32 zs h i = tt
each_nat U64 zs h i = tt

pos-unsigned : (k : Kind) (b : List ℕ) → IsNat k (number k b) → pos (unsigned k b) ≡ number k b
pos-unsigned Truths b h = refl
pos-unsigned I8 b h = nat-signed w8 (unsigned I8 b) h
pos-unsigned I16 b h = nat-signed w16 (unsigned I16 b) h
pos-unsigned I32 b h = nat-signed w32 (unsigned I32 b) h
pos-unsigned I64 b h = nat-signed w64 (unsigned I64 b) h
pos-unsigned U8 b h = refl
pos-unsigned U16 b h = refl
pos-unsigned U32 b h = refl
pos-unsigned U64 b h = refl

-- the same for the first of each list of groups
each-unsigned : (k : Kind) (gs : List (List ℕ))
    → ((i : ℕ) → IsNat k (get_or (map (number k) gs) i (pos 0)))
    → integers (map (unsigned k) gs) ≡ map (number k) gs
each-unsigned k [] h = refl
each-unsigned k (g ∷ gs) h =
    let first : pos (unsigned k g) ≡ number k g = pos-unsigned k g (h 0) in
    let others : integers (map (unsigned k) gs) ≡ map (number k) gs =
    each-unsigned k gs (λ i. h (suc i)) in
    cc

-- the unsigned numbers of a lane's groups are the lane's
pub integers-unsigned : (k : Kind) (n : ℕ) (b : List ℕ) (zs : List ℤ) → length b ≡ n * width k
    → numbers k n b ≡ zs → HasNats k zs
    → integers (map (unsigned k) (first_chunks (width k) (length b / width k) b)) ≡ zs
integers-unsigned k n b zs size same h =
    let all : map (number k) (first_chunks (width k) (length b / width k) b) ≡ zs =
    map-number_all k n b zs size same in
    each-unsigned k (first_chunks (width k) (length b / width k) b)
    (λ i. rw all (each_nat k zs h i))
    ∙ all
