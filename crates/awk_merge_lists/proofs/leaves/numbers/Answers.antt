use Rattle.std.proofs.Common.{subst, sym, ◌∙◌}
use Rattle.awk_types.specs.DataType.{leaf}
use Rattle.awk_merge_sides.specs.Sides.{sides_of, IsMerged}
use Rattle.awk_merge_lists.proofs.NumberLaws.{numbers_merged}
use Rattle.awk_merge_lists.proofs.leaves.numbers.Goals as goal

pub returns : goal.returns
returns g c =
    subst (IsMerged (leaf c.args.prim) (sides_of c.args.sides.now)) (sym c.numpy.ensures.node)
    (numbers_merged c.args.prim (sides_of c.args.sides.now) c.in_ok-lane.lane
    (c.in_ok-lane.ensures.kind ∙ c.kind_of.ensures) c.in_ok-lane.ensures.values)
