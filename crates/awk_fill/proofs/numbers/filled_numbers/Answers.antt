use Rattle.std.proofs.Common.{rules, ap, ◌∙◌, w64, FitsSigned}
use Rattle.std.proofs.lemmas.Int.{to_z-of_z}
use Rattle.awk_layout.specs.Layout.{flat}
use Rattle.awk_fill.specs.Filled.{filled_lane}
use Rattle.awk_fill.proofs.NumberLaws.{filled_fits, numbers_filled}
use Rattle.awk_fill.proofs.numbers.filled_numbers.Goals as goal

pub numpy-requires : goal.numpy-requires
numpy-requires g c =
    filled_fits _ c.in-Some.numbers c.args.index.now c.in_ok-lane-in-Some-wide_numbers.lane
    c.in_ok-lane-in-Some-wide_numbers.ensures c.requires.fits

pub returns-in_ok-lane-in-Some-wide_numbers : goal.returns-in_ok-lane-in-Some-wide_numbers
returns-in_ok-lane-in-Some-wide_numbers g c f own =
    let fits : FitsSigned w64 c.number-filler.result = search rules in
    numbers_filled f c.args.index.now c.in-Some.numbers c.in-Some-wide_numbers.fillers
    c.args.present.now c.args.own.now c.numpy.result c.number-filler.result c.requires.fits
    c.in-Some.ensures.kind c.in-Some.ensures.numbers c.in-Some-wide_numbers.ensures.kind
    c.in-Some-wide_numbers.ensures.numbers c.number-filler.ensures.number
    (c.numpy.ensures.node ∙ ap flat (c.in_ok-lane-in-Some-wide_numbers.ensures
    ∙ ap (λ z. filled_lane z c.in-Some.numbers c.args.index.now)
    (to_z-of_z w64 c.number-filler.result fits)))
    own
