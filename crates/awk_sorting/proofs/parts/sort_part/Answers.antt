use Rattle.awk_sorting.proofs.PartLaws.{sorts_part}
use Rattle.awk_sorting.proofs.parts.sort_part.Goals as goal

pub returns : goal.returns
returns g c =
    sorts_part g.N.Number.number c.args.up c.args.start c.args.stop c.args.numbers.now
    c.sort_slice.new.numbers c.requires.order c.requires.within c.sort_slice.ensures.same
    c.sort_slice.ensures.order
