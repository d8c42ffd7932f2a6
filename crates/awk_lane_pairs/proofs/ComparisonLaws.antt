-- Truth values of comparisons of the numbers of two lanes.
use Rattle.std.proofs.Common.{◌≡◌, ℕ, ◌<◌, List, map, length, get_or, replicate, ap, ap₂, sym, ◌∙◌}
use Rattle.std.proofs.Common.{arith, refl}
use Rattle.std.specs.Prelude.{ℤ, pos, [], Bool, true, false, if◌then◌else◌}
use Rattle.std.specs.Int.{from_bool}
use Rattle.std.specs.List.{range_with_len}
use Rattle.std.specs.Simd.Lanes.{zip2}
use Rattle.std.proofs.lemmas.List.{get_or-map, length-map}
use Rattle.std.proofs.lemmas.List.FromFn.{fill_by_all}
use Rattle.std.proofs.lemmas.Simd.{get_or-zip2, length-zip2, get_or-replicate, length-replicate}
use Rattle.awk_lanes.specs.Column.{Column}
use Rattle.awk_lanes.specs.Made.{lane_of}
use Rattle.awk_lanes.specs.Numbers.{number}
use Rattle.awk_lanes.specs.Words.{column, integers}
use Rattle.awk_lanes.specs.declared.kind.Kind.{Kind}
use Rattle.awk_lanes.specs.declared.kind.Kind.TheVariants.{Bool as Truths}
use Rattle.awk_kernels.specs.Kernels.{compared}
use Rattle.awk_kernels.specs.Operations.{holds}
use Rattle.awk_kernels.specs.declared.operation.Compare.{Compare}
use Rattle.awk_lane_pairs.specs.Comparisons.{flag, truth_at, truth_beside, IsCompared}
use Rattle.awk_lane_pairs.specs.declared.comparison.Flags.{Flags}

-- a truth value as a number
pub one_by : (b : Bool) → pos (if b then 1 else 0) ≡ pos (from_bool b)
one_by true = refl
one_by false = refl

-- numbers that are told by their places
told_by : (how : Compare) (xs ys : List ℤ) (n : ℕ) (t : ℕ → ℤ) → length xs ≡ n → length ys ≡ n
    → ((i : ℕ) → i < n
    → t i ≡ pos (from_bool (holds how (get_or xs i (pos 0)) (get_or ys i (pos 0)))))
    → map t (range_with_len 0 n) ≡ integers (compared how xs ys)
told_by how xs ys n t e f h =
    let one : ℤ → ℤ → ℕ = λ x y. from_bool (holds how x y) in
    let many : length (zip2 one xs ys) ≡ n = length-zip2 one xs ys (e ∙ sym f) ∙ e in
    sym (fill_by_all t (map pos (zip2 one xs ys)) n (pos 0) (length-map (zip2 one xs ys) pos ∙ many)
    (λ i l. get_or-map pos (zip2 one xs ys) i 0 (pos 0) (omega (arith, l, many))
    ∙ ap pos (get_or-zip2 one xs ys i (pos 0) (pos 0) 0 (omega (arith, l, e)) (omega (arith, l, f)))
    ∙ sym (h i l)))

module _ (how : Compare) (f : Flags) (says : (x y : ℤ) → flag f x y ≡ holds how x y) (k : Kind)
    (a : List (List ℕ)) (xs : List ℤ) (e : map (number k) a ≡ xs) (c : Column) where
  first_long : length xs ≡ length a
  first_long = sym (ap length e) ∙ length-map a (number k)

  first_at : (i : ℕ) → i < length a → number k (get_or a i []) ≡ get_or xs i (pos 0)
  first_at i l =
      sym (get_or-map (number k) a i [] (pos 0) l) ∙ ap (λ zs. get_or zs i (pos 0)) e

  -- the lane of a comparison with the numbers of another lane
  pub compared_all : (b : List (List ℕ)) (ys : List ℤ) → map (number k) b ≡ ys
      → length b ≡ length a → ◌≡◌ {A = Column} c (lane_of Truths (length a) (truth_at f k a b))
      → IsCompared how xs ys c
  compared_all b ys g long made =
      let second_at : (i : ℕ) → i < length a → number k (get_or b i []) ≡ get_or ys i (pos 0) =
      λ i l. sym (get_or-map (number k) b i [] (pos 0) (omega (arith, l, long)))
      ∙ ap (λ zs. get_or zs i (pos 0)) g in
      made
      ∙ ap (column Truths) (told_by how xs ys (length a) (truth_at f k a b) first_long
      (sym (ap length g) ∙ length-map b (number k) ∙ long)
      (λ i l. ap (λ t. pos (from_bool t))
      (says (number k (get_or a i [])) (number k (get_or b i []))
      ∙ ap₂ (holds how) (first_at i l) (second_at i l))))

  -- the lane of a comparison with one number
  pub compared_one : (y : ℤ) (n : ℕ) → length a ≡ n
      → ◌≡◌ {A = Column} c (lane_of Truths (length a) (truth_beside f k a y))
      → IsCompared how xs (replicate n y) c
  compared_one y n long made =
      made
      ∙ ap (column Truths) (told_by how xs (replicate n y) (length a) (truth_beside f k a y)
      first_long (length-replicate n y ∙ sym long)
      (λ i l. ap (λ t. pos (from_bool t)) (says (number k (get_or a i [])) y
      ∙ ap₂ (holds how) (first_at i l)
      (sym (get_or-replicate n i y (pos 0) (omega (arith, l, long)))))))
