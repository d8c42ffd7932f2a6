use Rattle.awk_base.proofs.Results.{if_ok}
use Rattle.awk_types.proofs.TypeShapes.{numbers_leaf}
use Rattle.awk_layout.specs.Typing.{array_type}
use Rattle.awk_lists.specs.Numbers.{AreNumbers, AreCounts}
use Rattle.awk_lists.proofs.Leaves.{are_whole}
use Rattle.awk_lists.proofs.cutting.counts_of.Goals as goal

pub numbers_of-requires : goal.numbers_of-requires
numbers_of-requires g c = numbers_leaf (array_type c.args.counts.now) c.requires

pub returns : goal.returns
returns g c =
    if_ok (AreNumbers c.args.counts.now) (AreCounts c.args.counts.now) c.numbers_of.result
    (λ n h. are_whole c.args.counts.now n c.requires h) c.numbers_of.ensures
