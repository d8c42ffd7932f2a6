-- The exact result of each operation on two whole numbers, and what breaks it.
use Rattle.std.specs.Prelude.{ℕ, suc, ℤ, pos, negsuc, ◌+ℤ◌, ◌-ℤ◌, ◌*ℤ◌, neg_ℤ}
use Rattle.std.specs.Prelude.{Bool, true, false, cond, not, ◌&&◌, ◌||◌, int_lt, int_le}
use Rattle.std.specs.Prelude.{Result, Ok, Err}
use Rattle.std.specs.Ordering.{int_eq}
use Rattle.std.specs.Int.{int_div_euclid, int_rem_euclid}
use Rattle.awk_kernels.specs.declared.operation.Arith.{Arith}
use Rattle.awk_kernels.specs.declared.operation.Arith.TheVariants.{Add, Sub, Mul, FloorDiv, Rem}
use Rattle.awk_kernels.specs.declared.operation.Compare.{Compare}
use Rattle.awk_kernels.specs.declared.operation.Compare.TheVariants.{Eq, Ne, Lt, Le, Gt, Ge}
use Rattle.awk_kernels.specs.declared.operation.Why.{Why}
use Rattle.awk_kernels.specs.declared.operation.Why.TheVariants.{Overflow, Zero}

-- the quotient rounded towards minus infinity: by a divisor below 0 it is that of both negated
abbrev pub floor_div : ℤ → ℤ → ℤ
floor_div a (pos b) = int_div_euclid a (pos b)
floor_div a (negsuc b) = int_div_euclid (neg_ℤ a) (pos (suc b))

-- what is left, with the divisor's sign
abbrev pub floor_rem : ℤ → ℤ → ℤ
floor_rem a (pos b) = int_rem_euclid a (pos b)
floor_rem a (negsuc b) = neg_ℤ (int_rem_euclid (neg_ℤ a) (pos (suc b)))

abbrev pub exact : Arith → ℤ → ℤ → ℤ
exact Add a b = a +ℤ b
exact Sub a b = a -ℤ b
exact Mul a b = a *ℤ b
exact FloorDiv a b = floor_div a b
exact Rem a b = floor_rem a b

-- the operation has no result where b is 0
abbrev pub divides : Arith → Bool
divides FloorDiv = true
divides Rem = true
divides Add = false
divides Sub = false
divides Mul = false

-- z where it lies from lo to hi
abbrev pub within : ℤ → ℤ → ℤ → Result ℤ Why
within lo hi z = cond (int_lt z lo || int_lt hi z) (Err Overflow) (Ok z)

-- the exact result within lo to hi, or why there is none
abbrev pub leaf : Arith → ℤ → ℤ → ℤ → ℤ → Result ℤ Why
leaf op lo hi a b = cond (divides op && int_eq b (pos 0)) (Err Zero) (within lo hi (exact op a b))

-- a result that is not below 0, among the whole numbers
abbrev pub whole : Result ℕ Why → Result ℤ Why
whole (Ok z) = Ok (pos z)
whole (Err why) = Err why

abbrev pub holds : Compare → ℤ → ℤ → Bool
holds Eq a b = int_eq a b
holds Ne a b = not (int_eq a b)
holds Lt a b = int_lt a b
holds Le a b = int_le a b
holds Gt a b = int_lt b a
holds Ge a b = int_le b a
