use Rattle.std.proofs.Common.{ap, sym, ◌∙◌, map, rules}
use Rattle.std.specs.Prelude.{FitsSigned}
use Rattle.std.specs.Int.{w64}
use Rattle.std.specs.List.{slice_range}
use Rattle.std.proofs.lemmas.Int.{to_z-of_z}
use Rattle.awk_lanes.specs.Numbers.{number}
use Rattle.awk_lanes.specs.declared.kind.Kind.TheVariants as Kind
use Rattle.awk_numbers.specs.Folds.{first_extreme, whole_numbers}
use Rattle.awk_cells.specs.Extremes.{number_or_zero}
use Rattle.awk_parts.specs.Spans.{span_part}
use Rattle.awk_parts.proofs.extremes.WideExtremesNumbers.number.Goals as goal

pub returns-clause-number : goal.returns-clause-number
returns-clause-number g c =
    let f = c.args.self.now in
    let p = f.parts.now in
    let span = c.span_of.result in
    let z = c.wide_extreme.result in
    let zs = slice_range (map (number Kind.I64) f.groups.now) span.start span.stop in
    let part = span_part (whole_numbers p.numbers.now) p.spans.now c.args.i in
    let fits : FitsSigned w64 z = search rules in
    let same = ap (λ ys. slice_range ys span.start span.stop) (sym c.requires.ready.0)
    ∙ c.span_of.ensures.part in
    ◌∙◌ {b = number_or_zero zs (first_extreme f.how zs)}
    {c = number_or_zero part (first_extreme f.how part)}
    (to_z-of_z w64 z fits ∙ c.wide_extreme.ensures)
    (ap (λ ys. number_or_zero ys (first_extreme f.how ys)) same)
