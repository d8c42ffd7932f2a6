use Rattle.std.proofs.Common.{sym, ◌∙◌, arith}
use Rattle.awk_kernels.proofs.PlaceLaws.{compared_at-nat}
use Rattle.awk_simd.proofs.comparisons.compare_nat.Goals as goal

pub compare_nat-requires-clause-made : goal.compare_nat-requires-clause-made
compare_nat-requires-clause-made c = λ k l.
    c.compare_nat_blocks.ensures.made k l
    ∙ c.flags_of.ensures.holds _ _
    ∙ sym (compared_at-nat c.args.how c.args.a.now c.args.b.now k (omega (arith, l)) c.requires.b)
