use Rattle.std.proofs.Common.{◌≤◌, ap, sym, ◌∙◌, length, subst, arith, rules}
use Rattle.std.specs.Prelude.{FitsSigned}
use Rattle.std.specs.Int.{w128, cast_signed as to_z, cast_unsigned as of_z}
use Rattle.std.specs.List.{slice_range}
use Rattle.std.proofs.lemmas.Int.{to_z-of_z}
use Rattle.std.proofs.lemmas.List.{length-map}
use Rattle.awk_lanes.specs.Numbers.{number}
use Rattle.awk_lanes.specs.declared.kind.Kind.TheVariants as Kinds
use Rattle.awk_numbers.specs.Folds.{first_extreme, lane_numbers}
use Rattle.awk_parts.specs.Elements.{IsElement}
use Rattle.awk_cells.specs.Extremes.{number_or_zero}
use Rattle.awk_parts.specs.Spans.{span_part, start_of, stop_of}
use Rattle.awk_parts.proofs.ElementLaws.{part_element, lane_elements}
use Rattle.awk_parts.proofs.naturals.NaturalExtremesNumbers.number.Goals as goal

pub natural_extreme-z-requires : goal.natural_extreme-z-requires
natural_extreme-z-requires g c =
    let groups = c.args.self.now.groups.now in
    let span = c.span_of-span in
    let within : span.result.stop ≤ length groups = omega (
      arith,
      span.ensures.inside,
      ap length c.requires.ready.1,
      length-map groups (number Kinds.U64),
    ) in record { order = span.ensures.order; within = within }

pub number_in-requires : goal.number_in-requires
number_in-requires g c =
    let f = c.args.self.now in
    let p = f.parts.now.spans.now in
    let span = c.span_of-span in
    let r = c.from.result in
    let wide : FitsSigned w128 r = search rules in
    let same = ap (λ ys. slice_range ys span.result.start span.result.stop)
    (sym c.requires.ready.1)
    ∙ span.ensures.part ∙ ap (λ ys. span_part ys p c.args.i) c.requires.ready.0 in
    let read = to_z-of_z w128 r wide ∙ c.from.ensures ∙ c.natural_extreme-z.ensures
    ∙ ap (λ ys. number_or_zero ys (first_extreme f.how ys)) same in
    let lane = f.lane.now in
    let part = span_part (lane_numbers lane) p c.args.i in
    subst (λ k. IsElement k (to_z w128 (of_z w128 r))) (sym c.kind.ensures)
    (subst (IsElement lane.kind) (sym read)
    (part_element lane.kind (lane_numbers lane) (start_of p c.args.i) (stop_of p c.args.i)
    (first_extreme f.how part) (lane_elements lane c.len.ensures.fits)))

pub returns-clause-number : goal.returns-clause-number
returns-clause-number g c =
    let f = c.args.self.now in
    let p = f.parts.now.spans.now in
    let span = c.span_of-span in
    let r = c.from.result in
    let wide : FitsSigned w128 r = search rules in
    let same = ap (λ ys. slice_range ys span.result.start span.result.stop)
    (sym c.requires.ready.1)
    ∙ span.ensures.part ∙ ap (λ ys. span_part ys p c.args.i) c.requires.ready.0 in
    let read = to_z-of_z w128 r wide ∙ c.from.ensures ∙ c.natural_extreme-z.ensures
    ∙ ap (λ ys. number_or_zero ys (first_extreme f.how ys)) same in
    c.number_in.ensures.number ∙ read
