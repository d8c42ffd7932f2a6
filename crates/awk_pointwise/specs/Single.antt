-- Operations on one number at each place.
use Rattle.std.specs.Prelude.{◌≡◌, ℤ, pos, neg_ℤ, unsigned_abs, true, List, map, length}
use Rattle.std.specs.Prelude.{replicate, Result}
use Rattle.std.specs.List.{AllByRecursion}
use Rattle.awk_types.specs.Has.{least_number, greatest_number, Holds}
use Rattle.awk_primitives.specs.Promotion.{is_whole}
use Rattle.awk_types.specs.declared.primitive.Primitive.{Primitive}
use Rattle.awk_types.specs.declared.primitive.Primitive.TheVariants.{Bool as Truths}
use Rattle.awk_kernels.specs.Operations.{within}
use Rattle.awk_kernels.specs.declared.operation.Why.{Why}
use Rattle.awk_leaves.specs.declared.operation.Unary.{Unary}
use Rattle.awk_leaves.specs.declared.operation.Unary.TheVariants.{Not, Negate, Absolute, Cast}

-- a zero beside each number
abbrev pub zeros_beside : List ℤ → List ℤ
zeros_beside zs = replicate (length zs) (pos 0)

-- a number that the primitive holds, or why there is none
abbrev pub held : Primitive → ℤ → Result ℤ Why
held p z = within (least_number p) (greatest_number p) z

-- what f gives of each number, where the primitive holds it
abbrev pub held_all : (ℤ → ℤ) → Primitive → List ℤ → List (Result ℤ Why)
held_all f p zs = map (λ z. held p (f z)) zs

abbrev pub size_of_number : ℤ → ℤ
size_of_number z = pos (unsigned_abs z)

-- as far below 0 as a number is from it
abbrev pub below_zero : ℤ → ℤ
below_zero z = neg_ℤ (size_of_number z)

-- the primitive is the operation's, and holds the numbers whose sign changes
abbrev pub IsReady : Unary → Primitive → List ℤ → Type 0
IsReady Not p zs = p ≡ Truths
IsReady Negate p zs = (is_whole p ≡ true) × AllByRecursion (Holds p) zs
IsReady Absolute p zs = (is_whole p ≡ true) × AllByRecursion (Holds p) zs
IsReady (Cast to) p zs = p ≡ to
