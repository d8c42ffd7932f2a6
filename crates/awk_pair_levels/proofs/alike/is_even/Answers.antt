use Rattle.std.proofs.Common.{refl}
use Rattle.awk_pair_levels.proofs.EvenLaws.{all_equal}
use Rattle.awk_pair_levels.proofs.InRowLaws.{lists_same}
use Rattle.awk_pair_levels.proofs.alike.is_even.Goals as goal

pub returns-then-begin_at : goal.returns-then-begin_at
returns-then-begin_at g c =
    all_equal c.args.lead.now c.args.lists.now
    (lists_same c.args.lead.now c.args.lists.now c.args.x.now c.in-Some.ends c.requires.size
    (rw c.in-Some.is at c.requires.ends) (c.if-begin_at.ensures refl) c.requires.of)
