-- How many numbers there are in bytes.
use Rattle.std.proofs.Common.{◌≡◌, ◌≤◌, ◌*◌, ℕ, List, length, Some, None, Ok, Err, cond}
use Rattle.std.proofs.Common.{nat_le, sym, arith}
use Rattle.std.specs.Prelude.{Result, IfOk}
use Rattle.std.proofs.lemmas.Option.{cond_some}
use Rattle.awk_base.proofs.Truths.{nat_le-true}
use Rattle.awk_lanes.specs.declared.kind.Kind.{Kind}
use Rattle.awk_lanes.specs.declared.kind.Kind.TheVariants.{Bool as Truths, I8, I16, I32, I64, U8}
use Rattle.awk_lanes.specs.declared.kind.Kind.TheVariants.{U16, U32, U64}
use Rattle.awk_lanes.specs.Column.{Column}
use Rattle.awk_lanes.specs.Numbers.{width}

-- a number has a byte at least
numbers-≤ : (k : Kind) (n size : ℕ) → n * width k ≤ size → n ≤ size
numbers-≤ Truths n size h = omega arith
numbers-≤ I8 n size h = omega arith
numbers-≤ I16 n size h = omega arith
numbers-≤ I32 n size h = omega arith
numbers-≤ I64 n size h = omega arith
numbers-≤ U8 n size h = omega arith
numbers-≤ U16 n size h = omega arith
numbers-≤ U32 n size h = omega arith
numbers-≤ U64 n size h = omega arith

-- where there are n numbers in the bytes, there are n bytes
pub lane_len-≤ : (k : Kind) (n : ℕ) (bytes : List ℕ) (x lane : Column)
    → Some lane ≡ cond (nat_le (n * width k) (length bytes)) (Some x) None → n ≤ length bytes
lane_len-≤ k n bytes x lane some =
    numbers-≤ k n (length bytes)
    (nat_le-true (n * width k) (length bytes)
    (cond_some (nat_le (n * width k) (length bytes)) x lane (sym some)).0)

-- what is no more than one number is no more than a greater one
pub IfOk-≤ : {X E : Type 0} (r : Result X E) (n small great : ℕ) → small ≤ great
    → IfOk r (λ x. n ≤ small) → IfOk r (λ x. n ≤ great)
IfOk-≤ (Ok x) n small great more h = omega (arith, more, h)
IfOk-≤ (Err e) n small great more h = h
