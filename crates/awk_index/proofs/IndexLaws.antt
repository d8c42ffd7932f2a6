-- Numbers in groups of bytes.
use Rattle.std.specs.Prelude.{◌≡◌, ◌≢◌, refl, ℕ, ◌*◌, ◌/◌, ◌<◌, List, []}
use Rattle.std.specs.Prelude.{length, map, get_or, ℤ, pos}
use Rattle.std.specs.Simd.{first_chunks}
use Rattle.std.proofs.Common.{arith, ap, sym, ◌∙◌, subst}
use Rattle.std.proofs.lemmas.List.{length-map, get_or-map}
use Rattle.std.proofs.lemmas.Int.{ints}
use Rattle.awk_lanes.specs.declared.kind.Kind.{Kind}
use Rattle.awk_lanes.specs.declared.kind.Kind.TheVariants.{Bool as Truths, I8, I16, I32, I64}
use Rattle.awk_lanes.specs.declared.kind.Kind.TheVariants.{U8, U16, U32, U64}
use Rattle.awk_lanes.specs.Column.{Column}
use Rattle.awk_lanes.specs.Numbers.{width, number, numbers}
use Rattle.awk_lanes.specs.Places.{size_of, at, IsIndexKind}
use Rattle.awk_lanes.specs.Ranges.{IsNumber, AreNumbers}
use Rattle.awk_lanes.specs.Words.{column}
use Rattle.awk_lanes.proofs.NumberParts.{map-number_all}
use Rattle.awk_lanes.proofs.PlaceLaws.{element-index}

-- the numbers of a lane of a kind by its groups
pub kind_numbers-groups : (k : Kind) (c : Column) (b : List ℕ) → c.kind ≡ k
    → length b ≡ size_of c * width c.kind → numbers c.kind (size_of c) b ≡ c.items
    → map (number k) (first_chunks (width k) (length b / width k) b) ≡ c.items
kind_numbers-groups k c b e size same =
    subst (λ kind. length b ≡ size_of c * width kind → numbers kind (size_of c) b ≡ c.items
    → map (number k) (first_chunks (width k) (length b / width k) b) ≡ c.items) (sym e)
    (λ s t. map-number_all k (size_of c) b c.items s t) size same

pub numbers-groups : (c : Column) (b : List ℕ) → c.kind ≡ I64
    → length b ≡ size_of c * width c.kind → numbers c.kind (size_of c) b ≡ c.items
    → map (number I64) (first_chunks 8 (length b / 8) b) ≡ c.items
numbers-groups = kind_numbers-groups I64

-- ---- one number

abbrev Seen : Kind → List (List ℕ) → Column
Seen kind gs = record { kind = kind; items = map (number I64) gs }

pub within-groups : (kind : Kind) (gs : List (List ℕ)) (v : Column) (i : ℕ) → Seen kind gs ≡ v
    → i < size_of v → i < length gs
within-groups kind gs v i e l =
    omega (arith, l, ap size_of e, length-map gs (number I64))

pub number-at : (kind : Kind) (gs : List (List ℕ)) (v : Column) (i : ℕ) → Seen kind gs ≡ v
    → IsIndexKind kind → i < size_of v → number I64 (get_or gs i []) ≡ at v i
number-at kind gs v i e p l =
    sym (get_or-map (number I64) gs i [] (pos 0) (within-groups kind gs v i e l))
    ∙ sym (element-index kind (get_or (map (number I64) gs) i (pos 0)) p)
    ∙ ap (λ (c : Column). at c i) e

-- ---- numbers of any kind

wide : (k : Kind) (z : ℤ) → k ≢ U64 → IsNumber k z → IsNumber I64 z
wide Truths z p h = (omega (arith, ints, h.0), omega (arith, ints, h.1))
wide I8 z p h = (omega (arith, ints, h.0), omega (arith, ints, h.1))
wide I16 z p h = (omega (arith, ints, h.0), omega (arith, ints, h.1))
wide I32 z p h = (omega (arith, ints, h.0), omega (arith, ints, h.1))
wide I64 z p h = h
wide U8 z p h = (omega (arith, ints, h.0), omega (arith, ints, h.1))
wide U16 z p h = (omega (arith, ints, h.0), omega (arith, ints, h.1))
wide U32 z p h = (omega (arith, ints, h.0), omega (arith, ints, h.1))
wide U64 z p h = absurd (p refl)

pub not-unsigned : (k : Kind) → IsIndexKind k → k ≢ U64
not-unsigned k h e = subst IsIndexKind e h

-- numbers of offsets and the like are numbers of 64 bits
pub wide-numbers : (c : Column) → IsIndexKind c.kind → AreNumbers c
    → AreNumbers (column I64 c.items)
wide-numbers c p h i =
    wide c.kind (get_or c.items i (pos 0)) (not-unsigned c.kind p) (h i)
