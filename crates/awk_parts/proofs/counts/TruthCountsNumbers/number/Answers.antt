use Rattle.std.proofs.Common.{ap, sym, ◌∙◌}
use Rattle.std.specs.List.{slice_range}
use Rattle.awk_numbers.specs.Folds.{tallied}
use Rattle.awk_numbers.specs.declared.tallies.Tally.TheVariants as tally
use Rattle.awk_parts.proofs.counts.TruthCountsNumbers.number.Goals as goal

pub returns-clause-number : goal.returns-clause-number
returns-clause-number g c =
    let span = c.span_of.result in
    let same = ap (λ ys. slice_range ys span.start span.stop) (sym c.requires.ready.0)
    ∙ c.span_of.ensures.part in
    c.number.ensures.number ∙ c.truths_counted.ensures.count ∙ ap (tallied tally.Nonzero) same
