use Rattle.std.proofs.Common.{sym, ◌∙◌, subst}
use Rattle.awk_lanes.specs.Ranges.{AreNumbers}
use Rattle.awk_lanes.specs.Words.{column}
use Rattle.awk_lanes.specs.declared.kind.Kind.TheVariants.{I64}
use Rattle.awk_index.proofs.IndexLaws.{not-unsigned, wide-numbers}
use Rattle.awk_index.proofs.index.index_of.Goals as goal

pub numbers_of-requires : goal.numbers_of-requires
numbers_of-requires g c = not-unsigned c.args.lane.now.kind c.requires

pub lane_of_numbers-requires : goal.lane_of_numbers-requires
lane_of_numbers-requires g c =
    subst (λ zs. AreNumbers (column I64 zs)) (sym
    (c.deref.ensures.value ∙ c.in_ok-numbers-in_default.ensures.numbers))
    (wide-numbers c.args.lane.now c.requires c.len.ensures.fits)
