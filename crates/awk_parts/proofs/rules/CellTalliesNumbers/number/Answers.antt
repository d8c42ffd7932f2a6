use Rattle.std.proofs.Common.{◌<◌, ◌≤◌, ◌*◌, ap, sym, ◌∙◌, length, arith}
use Rattle.std.specs.List.{slice_range}
use Rattle.std.proofs.lemmas.List.{length-map}
use Rattle.awk_numbers.specs.Folds.{tallied}
use Rattle.awk_parts.proofs.rules.CellTalliesNumbers.number.Goals as goal

pub returns-clause-number : goal.returns-clause-number
returns-clause-number g c =
    let span = c.span_of.result in
    let same = ap (λ ys. slice_range ys span.start span.stop) (sym c.requires.ready.1)
    ∙ c.span_of.ensures.part in
    c.told_of.ensures.number ∙ ap (tallied g.R.Rule.how) same

pub told_of-requires : goal.told_of-requires
told_of-requires g c =
    let small : g.row.W * 1 < 9223372036854775808 = omega (arith, c.requires.ready.0) in
    let groups = c.args.self.now.groups.now in
    let within : c.span_of.result.stop ≤ length groups = omega (
      arith,
      c.span_of.ensures.inside,
      ap length c.requires.ready.1,
      length-map groups g.C.Cell.number,
    ) in (small, (c.span_of.ensures.order, (within, c.span_of.ensures.few)))
