use Rattle.std.proofs.Common.{◌≡◌, ◌+◌, ◌∙◌, sym, subst, map}
use Rattle.awk_base.proofs.Numbers.{ord_max-nat}
use Rattle.awk_pair_operands.specs.Paired.{all_levels}
use Rattle.awk_pair_operands.specs.Types.{operand_type}
use Rattle.awk_pair_operands.proofs.TypeLaws.{depths_from, depths_next}
use Rattle.awk_pair_operands.proofs.types.all_levels.Goals as goal

pub loop-i-preserved : goal.loop-i-preserved
loop-i-preserved c =
    subst (λ g. depths_from g c.args.xs.now (c.loop-i.i + 1)
    ≡ all_levels (map operand_type c.args.xs.now))
    (sym (c.max-greatest.ensures ∙ ord_max-nat c.loop-i.greatest c.depth_of.result))
    (depths_next c.args.xs.now c.loop-i.i c.get.result.now c.loop-i.greatest c.depth_of.result _
    c.get.ensures.item c.depth_of.ensures c.loop-i.invariant)
