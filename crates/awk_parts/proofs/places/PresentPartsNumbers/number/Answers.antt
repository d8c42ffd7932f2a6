use Rattle.std.proofs.Common.{ap, sym, arith, length}
use Rattle.std.proofs.lemmas.List.Edits.{length-between}
use Rattle.awk_numbers.specs.Folds.{whole_numbers}
use Rattle.awk_parts.specs.Spans.{span_part}
use Rattle.awk_parts.proofs.SpanLaws.{some_there}
use Rattle.awk_parts.proofs.places.PresentPartsNumbers.number.Goals as goal

pub returns-else-span-clause-number : goal.returns-else-span-clause-number
returns-else-span-clause-number g c =
    let parts = c.args.self.now.parts.now in
    let zs = whole_numbers parts.numbers.now in
    let span = c.span_of-span.result in
    let count = length-between zs span.start span.stop c.span_of-span.ensures.inside in
    sym (some_there (span_part zs parts.spans.now c.args.i)
    (λ e. c.if-span.false
    (omega (arith, ap length c.span_of-span.ensures.part, count, e, c.span_of-span.ensures.order))))
