use Rattle.std.proofs.Common.{ap₂}
use Rattle.awk_columns.specs.Lists.{span_length}
use Rattle.awk_pair_levels.proofs.EvenLaws.{all_equal}
use Rattle.awk_pair_levels.proofs.alike.is_as_long.Goals as goal

pub returns-then-are_same : goal.returns-then-are_same
returns-then-are_same g c =
    all_equal c.args.lead.now c.args.lists.now
    (λ i h. ap₂ (λ s t. span_length s t i) (c.are_same.ensures.starts c.if-are_same.true)
    (c.are_same.ensures.stops c.if-are_same.true))
