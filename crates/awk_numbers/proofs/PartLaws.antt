-- Parts of numbers, and numbers seen another way.
use Rattle.std.proofs.Common.{◌≡◌, ℕ, ◌+◌, ◌-◌, ◌*◌, ◌/◌, ◌≤◌, List, ◌++◌, length, take, drop, map}
use Rattle.std.proofs.Common.{refl, ap, sym, ◌∙◌, arith}
use Rattle.std.specs.Prelude.{ℤ, pos}
use Rattle.std.specs.Simd.{first_chunks}
use Rattle.std.specs.List.{slice_range}
use Rattle.std.proofs.lemmas.List.{map-id, take-map, drop-map, take_all}
use Rattle.std.proofs.lemmas.List.Edits.{length-between}
use Rattle.std.proofs.lemmas.List.Folds.{drop_split}
use Rattle.std.proofs.Math.Seq.{take-append-add}
use Rattle.std.proofs.lemmas.Simd.{map-map}
use Rattle.awk_lanes.specs.Column.{Column}
use Rattle.awk_lanes.specs.Numbers.{element, number, numbers, width}
use Rattle.awk_lanes.specs.Places.{size_of}
use Rattle.awk_lanes.specs.declared.kind.Kind.{Kind}
use Rattle.awk_lanes.specs.declared.kind.Kind.TheVariants.{Bool as Truths, I8, I16, I32, I64}
use Rattle.awk_lanes.specs.declared.kind.Kind.TheVariants.{U8, U16, U32, U64}
use Rattle.awk_lanes.proofs.NumberParts.{map-number_all}
use Rattle.awk_lanes.proofs.WordLaws.{integers-byte_numbers}
use Rattle.awk_numbers.specs.Folds.{lane_numbers}

pub slice_range-map : {X Y : Type 0} (f : X → Y) (xs : List X) (a b : ℕ)
    → slice_range (map f xs) a b ≡ map f (slice_range xs a b)
slice_range-map f xs a b = ap (take (b - a)) (drop-map f a xs) ∙ take-map f (b - a) (drop a xs)

-- a part is its front and its rest
pub slice_range-split : {X : Type 0} (xs : List X) (a i b : ℕ) → a ≤ i → i ≤ b → i ≤ length xs
    → slice_range xs a b ≡ slice_range xs a i ++ slice_range xs i b
slice_range-split xs a i b p q r =
    let l : length (slice_range xs a i) ≡ i - a = length-between xs a i r in
    let n : b - a ≡ length (slice_range xs a i) + (b - i) = omega (arith, p, q, l) in
    ap (λ k. take k (drop a xs)) n
    ∙ ap (take (length (slice_range xs a i) + (b - i))) (drop_split xs a i p)
    ∙ take-append-add (slice_range xs a i) (drop i xs) (b - i)

pub whole_range : {X : Type 0} (xs : List X) → slice_range xs 0 (length xs) ≡ xs
whole_range xs = take_all (length xs - 0) xs (omega arith)

-- the numbers of a lane that has no truth values are as they lie
pub element-other : (k : Kind) (zs : List ℤ) → (k ≡ Truths → ⊥) → map (element k) zs ≡ zs
element-other Truths zs h = absurd (h refl)
element-other I8 zs h = map-id zs
element-other I16 zs h = map-id zs
element-other I32 zs h = map-id zs
element-other I64 zs h = map-id zs
element-other U8 zs h = map-id zs
element-other U16 zs h = map-id zs
element-other U32 zs h = map-id zs
element-other U64 zs h = map-id zs

-- the cells of the bytes of a lane that has no truth values
pub cells_all : (k : Kind) (c : Column) (b : List ℕ) → c.kind ≡ k → (k ≡ Truths → ⊥)
    → length b ≡ size_of c * width c.kind → numbers c.kind (size_of c) b ≡ c.items
    → map (number k) (first_chunks (width k) (length b / width k) b) ≡ lane_numbers c
cells_all k c b e h size same =
    map-number_all k (size_of c) b c.items (size ∙ ap (λ q. size_of c * width q) e)
    (ap (λ q. numbers q (size_of c) b) (sym e) ∙ same)
    ∙ sym (element-other k c.items h) ∙ ap (λ q. map (element q) c.items) (sym e)

-- the truth values of the bytes of a lane
pub truths_all : (c : Column) (b : List ℕ) → c.kind ≡ Truths
    → length b ≡ size_of c * width c.kind → numbers c.kind (size_of c) b ≡ c.items
    → map (λ n. element Truths (pos n)) b ≡ lane_numbers c
truths_all c b e size same =
    sym (map-map (element Truths) pos b)
    ∙ ap (map (element Truths)) (integers-byte_numbers Truths (size_of c) b c.items tt
    (size ∙ ap (λ q. size_of c * width q) e)
    (ap (λ q. numbers q (size_of c) b) (sym e) ∙ same))
    ∙ ap (λ q. map (element q) c.items) (sym e)

-- the cells of bytes of truth values
pub truth_cells : (b : List ℕ)
    → map (λ g. element Truths (number Truths g)) (first_chunks 1 (length b / 1) b)
    ≡ map (λ n. element Truths (pos n)) b
truth_cells b =
    sym (map-map (element Truths) (number Truths) (first_chunks 1 (length b / 1) b))
    ∙ ap (map (element Truths)) (map-number_all Truths (length b) b (numbers Truths (length b) b)
    (omega arith) refl
    ∙ sym (integers-byte_numbers Truths (length b) b (numbers Truths (length b) b) tt (omega arith)
    refl))
    ∙ map-map (element Truths) pos b
