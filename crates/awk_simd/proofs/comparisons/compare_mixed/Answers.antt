use Rattle.std.proofs.Common.{sym, ◌∙◌, arith}
use Rattle.awk_kernels.proofs.PlaceLaws.{compared_at-mixed}
use Rattle.awk_simd.proofs.comparisons.compare_mixed.Goals as goal

pub compare_mixed-requires-clause-made : goal.compare_mixed-requires-clause-made
compare_mixed-requires-clause-made c = λ k l.
    c.compare_mixed_blocks.ensures.made k l
    ∙ c.flags_of.ensures.holds _ _
    ∙ sym (compared_at-mixed c.args.how c.args.a.now c.args.b.now k (omega (arith, l)) c.requires.b)
