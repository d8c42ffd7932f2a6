-- How many numbers the lanes before a place have.
use Rattle.std.proofs.Common.{◌≡◌, ◌<◌, ◌≤◌, ℕ, zero, suc, ◌+◌, List, [], ◌∷◌, length, get_or}
use Rattle.std.proofs.Common.{slice_get, Some, arith, ap, sym, subst, ◌∙◌}
use Rattle.std.proofs.lemmas.Option.{get_or_from_slice_get}
use Rattle.awk_lanes.specs.Column.{Column}
use Rattle.awk_lanes.specs.Places.{size_of}
use Rattle.awk_text.specs.Buffers.{no_lane, numbers_before, numbers_in}

-- those of one lane more
numbers_before-next : (n : ℕ) (cs : List Column) → n < length cs
    → numbers_before (suc n) cs ≡ numbers_before n cs + size_of (get_or cs n no_lane)
numbers_before-next zero [] l = absurd (omega arith)
numbers_before-next zero (c ∷ cs) l = omega arith
numbers_before-next (suc n) [] l = absurd (omega arith)
numbers_before-next (suc n) (c ∷ cs) l = omega (arith, numbers_before-next n cs (omega arith))

pub numbers_before-more : (n : ℕ) (cs : List Column) (c : Column) → n < length cs
    → slice_get cs n ≡ Some c
    → numbers_before (n + 1) cs ≡ numbers_before n cs + size_of c
numbers_before-more n cs c l e =
    let one : n + 1 ≡ suc n = omega arith in
    ap (λ k. numbers_before k cs) one ∙ numbers_before-next n cs l
    ∙ ap (λ x. numbers_before n cs + size_of x) (get_or_from_slice_get cs n c no_lane e)

-- all lanes have no fewer
pub numbers_before-all : (n : ℕ) (cs : List Column) → numbers_before n cs ≤ numbers_in cs
numbers_before-all zero cs = omega arith
numbers_before-all (suc n) [] = omega arith
numbers_before-all (suc n) (c ∷ cs) = omega (arith, numbers_before-all n cs)

grows : (n : ℕ) (cs : List Column) → numbers_before n cs ≤ numbers_before (suc n) cs
grows zero cs = omega arith
grows (suc n) [] = omega arith
grows (suc n) (c ∷ cs) = omega (arith, grows n cs)

pub numbers_before-grows : (n : ℕ) (cs : List Column)
    → numbers_before n cs ≤ numbers_before (n + 1) cs
numbers_before-grows n cs =
    let one : n + 1 ≡ suc n = omega arith in
    subst (λ k. numbers_before n cs ≤ numbers_before k cs) (sym one) (grows n cs)
