use Rattle.std.proofs.Common.{sym, ◌∙◌}
use Rattle.awk_lanes.specs.Places.{size_of, at}
use Rattle.awk_lanes.proofs.PlaceLaws.{named-below}
use Rattle.awk_fill.proofs.numbers.FilledNumbersNumbers.number.Goals as goal

pub number-requires : goal.number-requires
number-requires g c =
    named-below (at (g.I.OptionIndex.lane c.args.self.now.index.now) c.args.i)
    (size_of c.args.self.now.numbers.now)
    c.in-Some.place (c.requires.ready.below c.args.i c.requires.within)
    (sym c.place.ensures ∙ c.in-Some.is)
