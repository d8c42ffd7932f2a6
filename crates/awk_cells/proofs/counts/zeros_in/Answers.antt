use Rattle.std.proofs.Common.{◌≡◌, ◌<◌, ◌≤◌, ◌+◌, length, map, get_or, ap, refl, arith}
use Rattle.std.specs.Prelude.{ℕ, ℤ, pos, Bool, true, false, not, cond}
use Rattle.std.specs.List.{count_by}
use Rattle.std.proofs.lemmas.List.{length-map, take_all}
use Rattle.std.proofs.lemmas.List.Sums.{sum_by_more}
use Rattle.awk_lanes.specs.Numbers.{is_nonzero}
use Rattle.awk_cells.proofs.counts.zeros_in.Goals as goal

-- a number is 0 or it is not
one-of : (b : Bool) → cond (not b) 1 0 + cond b 1 0 ≡ 1
one-of true = refl
one-of false = refl

pub loop-i-preserved : goal.loop-i-preserved
loop-i-preserved g c =
    let f = g.C.Cell.number in
    let gs = c.args.groups.now in
    let i = c.loop-i.i in
    let inside : i < length (map f gs) = omega (arith, c.loop-i-test.true, length-map gs f) in
    let one : ℤ → ℕ = λ z. cond (is_nonzero z) 1 0 in
    let more = sum_by_more one (map f gs) i (pos 0) inside in
    let bit : Bool → ℕ = λ b. cond b 1 0 in
    let told = ap bit c.is_zero_at.ensures in
    let either = one-of (is_nonzero (get_or (map f gs) i (pos 0))) in
    let counted = c.with-zeros.ensures in
    record {
      count = omega (arith, more, c.loop-i.invariant.count, counted, told, either);
      within = omega (arith, c.loop-i-test.true);
    }

pub returns : goal.returns
returns g c =
    let f = g.C.Cell.number in
    let gs = c.args.groups.now in
    let i = c.loop-i.i in
    let last : i ≡ length gs = omega (arith, c.loop-i-test.false, c.loop-i.invariant.within) in
    let end : length (map f gs) ≤ i = omega (arith, last, length-map gs f) in
    let all = ap (count_by is_nonzero) (take_all i (map f gs) end) in
    omega (arith, c.loop-i.invariant.count, all, last)
