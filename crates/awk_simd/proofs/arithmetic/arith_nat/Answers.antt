use Rattle.std.proofs.Common.{◌∙◌, arith}
use Rattle.std.specs.Prelude.{pos, Ok}
use Rattle.awk_kernels.proofs.PlaceLaws.{leaf_at-nat}
use Rattle.awk_simd.proofs.arithmetic.arith_nat.Goals as goal

pub arith_nat-requires-clause-made : goal.arith_nat-requires-clause-made
arith_nat-requires-clause-made c = λ k l.
    leaf_at-nat c.args.op (pos 0) (pos c.args.hi) c.args.a.now c.args.b.now k (Ok (pos 0))
    (omega (arith, l, c.arith_nat_front-made.ensures.within)) c.requires.b
    ∙ c.arith_nat_front-made.ensures.made k l
