-- Sums of lists of numbers.
use Rattle.std.proofs.Common.{arith, ◌∙◌, []}
use Rattle.std.specs.Prelude.{◌≡◌, ◌+◌, ℕ, List, ◌∷◌, sum}
use Rattle.std.proofs.lemmas.Grind.{common_steps}
use Rattle.std.proofs.lemmas.List.Sums.{sum_by-cons}

pub sum-cons : (n : ℕ) (ns : List ℕ) → sum (n ∷ ns) ≡ n + sum ns
sum-cons n ns = grind (arith, common_steps)

pub sum-one : (n : ℕ) → sum (n ∷ []) ≡ n
sum-one n = sum_by-cons (λ x. x) n [] ∙ omega arith

pub sum-four : (a b c d : ℕ) → sum (a ∷ b ∷ c ∷ d ∷ []) ≡ a + b + c + d
sum-four a b c d = grind (arith, common_steps)
