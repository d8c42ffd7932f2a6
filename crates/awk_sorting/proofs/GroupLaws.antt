-- Numbers of 64 bits in the groups of eight bytes that they lie in, as a lane.
use Rattle.std.proofs.Common.{◌≡◌, ℕ, suc, ◌*◌, ◌/◌, ◌≤◌, refl, ap, ap₂, sym, ◌∙◌, subst}
use Rattle.std.proofs.Common.{List, [], ◌∷◌, ◌++◌, length, map, drop, arith}
use Rattle.std.specs.Prelude.{Bool}
use Rattle.std.specs.List.{All, flat_map}
use Rattle.std.specs.List.Sorted.{IsPermutation}
use Rattle.std.specs.Simd.{first_chunks}
use Rattle.std.proofs.lemmas.List.{length-map, take_at, drop_at}
use Rattle.std.proofs.lemmas.List.Elements.{All-from_get_or}
use Rattle.std.proofs.lemmas.List.Sorted.{All-permutation}
use Rattle.awk_base.proofs.Lists.{length-chunk, length-chunks}
use Rattle.awk_lanes.specs.Column.{Column}
use Rattle.awk_lanes.specs.Numbers.{width, number, numbers}
use Rattle.awk_lanes.specs.Places.{size_of, IsIndexKind}
use Rattle.awk_lanes.specs.Words.{column}
use Rattle.awk_lanes.specs.declared.kind.Kind.TheVariants.{I64}
use Rattle.awk_index.proofs.IndexLaws.{numbers-groups}
use Rattle.awk_lanes.proofs.NumberParts.{number-take}
use Rattle.awk_numbers.specs.Folds.{lane_numbers}
use Rattle.awk_sorting.specs.Lanes.{SortsLane}
use Rattle.awk_sorting.specs.Parts.{SortsParts}
use Rattle.awk_sorting.proofs.LaneLaws.{plain_numbers, sorts_lane}

-- each group has eight bytes
abbrev AreEights : List (List ℕ) → Type 0
AreEights gs = All (λ g. length g ≡ 8) gs

chunks_eights : (n : ℕ) (b : List ℕ) → n * 8 ≤ length b → AreEights (first_chunks 8 n b)
chunks_eights n b h =
    All-from_get_or (λ g. length g ≡ 8) (first_chunks 8 n b) []
    (λ i l. length-chunk 8 n b i h (omega (arith, l, length-chunks 8 n b)))

-- the numbers of groups that stand one after another
numbers_eights : (gs : List (List ℕ)) → AreEights gs
    → numbers I64 (length gs) (flat_map (λ g. g) gs) ≡ map (number I64) gs
numbers_eights [] h = refl
numbers_eights (g ∷ gs) h =
    let others : List ℕ = flat_map (λ g. g) gs in
    let long : length g ≡ 8 = h 0 g (omega arith) in
    let enough : 8 ≤ 8 = omega arith in
    let first : number I64 (g ++ others) ≡ number I64 g =
    sym (number-take I64 8 (g ++ others) enough)
    ∙ ap (number I64) (take_at g others 8 long) in
    let more : numbers I64 (length gs) (drop 8 (g ++ others)) ≡ map (number I64) gs =
    ap (numbers I64 (length gs)) (drop_at g others 8 long)
    ∙ numbers_eights gs (λ i d l. h (suc i) d (omega (arith, l))) in
    cc

flat_lane : (gs : List (List ℕ)) (flat : List ℕ) (r : Column) → AreEights gs
    → flat ≡ flat_map (λ g. g) gs → length flat ≡ length gs * 8 → r.kind ≡ I64
    → r.items ≡ numbers I64 (length flat / 8) flat → r ≡ column I64 (map (number I64) gs)
flat_lane gs flat r h f n k e =
    let count : length flat / 8 ≡ length gs = omega (arith, n) in
    ap₂ (λ j zs. record { kind = j; items = zs }) k
    (e ∙ ap (λ m. numbers I64 m flat) count ∙ ap (numbers I64 (length gs)) f
    ∙ numbers_eights gs h)

module _ (c : Column) (b : List ℕ) (k : c.kind ≡ I64) (size : length b ≡ size_of c * width c.kind)
    (all : numbers c.kind (size_of c) b ≡ c.items) where
  abbrev eights : List (List ℕ)
  eights = first_chunks 8 (length b / 8) b

  read : map (number I64) eights ≡ c.items
  read = numbers-groups c b k size all

  module _ (xs : List (List ℕ)) (e : xs ≡ eights) where
    -- how many groups the bytes of a lane are
    pub length-eights : size_of c ≡ length xs
    length-eights = ap length (sym read) ∙ length-map eights (number I64) ∙ ap length (sym e)

    -- the groups of a lane, sorted part by part, as a lane
    pub sorts_eights : (up : Bool) (o : Column) (n : ℕ) (ys : List (List ℕ)) (flat : List ℕ)
        (r : Column) → SortsParts (number I64) up o n xs ys → flat ≡ flat_map (λ g. g) ys
        → length flat ≡ length ys * 8 → r.kind ≡ I64
        → r.items ≡ numbers I64 (length flat / 8) flat → SortsLane up o n c r
    sorts_eights up o n ys flat r h f m rk ri =
        let numbers_read : map (number I64) xs ≡ lane_numbers c =
        ap (map (number I64)) e ∙ read
        ∙ plain_numbers c (λ b. subst IsIndexKind (sym k ∙ b) tt) in
        let same : IsPermutation eights ys = subst (λ l. IsPermutation l ys) e h.same in
        let each : AreEights ys =
        All-permutation (λ g. length g ≡ 8) eights ys same
        (chunks_eights (length b / 8) b (omega arith)) in
        let made : r ≡ column I64 (map (number I64) ys) = flat_lane ys flat r each f m rk ri in
        let sorted : SortsLane up o n c (column c.kind (map (number I64) ys)) =
        sorts_lane (number I64) up o n c xs ys numbers_read h in
        subst (SortsLane up o n c) (ap (λ j. column j (map (number I64) ys)) k ∙ sym made) sorted
