-- Numbers at the front of bytes that may go on.
use Rattle.std.proofs.Common.{◌≡◌, ◌<◌, ◌≤◌, ℕ, ◌-◌, ◌*◌, ◌/◌, true, false, Bool, cond, nat_le}
use Rattle.std.proofs.Common.{List, length, take, Some, None, ap, ◌∙◌, arith}
use Rattle.std.proofs.Math.Nat.{mul-div_cancel}
use Rattle.std.proofs.lemmas.List.{take_all, length-take}
use Rattle.awk_lanes.specs.declared.kind.Kind.{Kind}
use Rattle.awk_lanes.specs.Column.{Column}
use Rattle.awk_lanes.specs.Numbers.{numbers, width}
use Rattle.awk_lanes.proofs.NumberParts.{length-numbers, numbers-slice_range}
use Rattle.awk_valid.specs.Container.{column_at, numbers_by}
use Rattle.awk_valid.proofs.OrderLaws.{big_numbers-take}

numbers-take : (k : Kind) (n : ℕ) (b : List ℕ) → numbers k n (take (n * width k) b) ≡ numbers k n b
numbers-take k n b =
    let front = numbers-slice_range k n b 0 n (omega arith) (omega arith) in
    let whole : length (numbers k n b) ≤ n = omega (arith, length-numbers k n b) in
    let none : n - 0 ≡ n = omega arith in
    let zeros : 0 * width k ≡ 0 = omega arith in
    let all : n * width k - 0 ≡ n * width k = omega arith in
    let e = rw (none, zeros, all) at front in
    e ∙ take_all n (numbers k n b) whole

numbers_by-take : (big : Bool) (k : Kind) (n : ℕ) (b : List ℕ)
    → numbers_by big k n (take (n * width k) b) ≡ numbers_by big k n b
numbers_by-take true k n b = big_numbers-take k n b
numbers_by-take false k n b = numbers-take k n b

-- the lane over so many bytes has the first numbers of the bytes
pub first_numbers-some : (big : Bool) (k : Kind) (n : ℕ) (b : List ℕ) (lane : Column) → 0 < width k
    → n * width k ≤ length b
    → lane ≡ column_at big k (length (take (n * width k) b) / width k) (take (n * width k) b)
    → Some lane ≡ cond (nat_le (n * width k) (length b)) (Some (column_at big k n b)) None
first_numbers-some big k n b lane some fits is =
    let test : nat_le (n * width k) (length b) ≡ true = grind arith in
    let cut : length (take (n * width k) b) ≡ n * width k =
    rw (length-take (n * width k) b) (omega arith) in
    let items : numbers_by big k (length (take (n * width k) b) / width k) (take (n * width k) b)
    ≡ numbers_by big k n b =
    rw (cut, mul-div_cancel n some) (numbers_by-take big k n b) in
    rw test
    (ap Some (is ∙ ap (λ zs. let c : Column = record { kind = k; items = zs } in c) items))
