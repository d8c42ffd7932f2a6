use Rattle.std.proofs.Common.{◌+◌, ◌*◌, ◌/◌, arith}
use Rattle.awk_simd.proofs.DivisorLaws.{divides_by, leaves_by, share_low, share_high}
use Rattle.awk_simd.proofs.division.Divisor.divide.Goals as goal

pub overflow_sub-rest : goal.overflow_sub-rest
overflow_sub-rest c = share_low c.args.x c.args.self.now c.requires

pub returns-then-rest-self-clause-quotient : goal.returns-then-rest-self-clause-quotient
returns-then-rest-self-clause-quotient c =
    let q = c.args.x * c.args.self.now.share / 18446744073709551616 in
    divides_by c.args.x c.args.self.now.number q (share_low c.args.x c.args.self.now c.requires)
    (omega (arith, c.if-rest-self.true))

pub returns-then-rest-self-clause-rest : goal.returns-then-rest-self-clause-rest
returns-then-rest-self-clause-rest c =
    let q = c.args.x * c.args.self.now.share / 18446744073709551616 in
    leaves_by c.args.x c.args.self.now.number q (share_low c.args.x c.args.self.now c.requires)
    (omega (arith, c.if-rest-self.true))

pub returns-else-rest-self-clause-quotient : goal.returns-else-rest-self-clause-quotient
returns-else-rest-self-clause-quotient c =
    let q = c.args.x * c.args.self.now.share / 18446744073709551616 in
    let l = share_low c.args.x c.args.self.now c.requires in
    let s = share_high c.args.x c.args.self.now c.ranges.x.fits c.requires in
    divides_by c.args.x c.args.self.now.number (q + 1) (omega (arith, l, c.if-rest-self.false))
    (omega (arith, l, s, c.if-rest-self.false))

pub returns-else-rest-self-clause-rest : goal.returns-else-rest-self-clause-rest
returns-else-rest-self-clause-rest c =
    let q = c.args.x * c.args.self.now.share / 18446744073709551616 in
    let l = share_low c.args.x c.args.self.now c.requires in
    let s = share_high c.args.x c.args.self.now c.ranges.x.fits c.requires in
    let e = leaves_by c.args.x c.args.self.now.number (q + 1) (omega (
      arith,
      l,
      c.if-rest-self.false,
    )) (omega (arith, l, s, c.if-rest-self.false)) in
    omega (arith, e, l, c.if-rest-self.false)
