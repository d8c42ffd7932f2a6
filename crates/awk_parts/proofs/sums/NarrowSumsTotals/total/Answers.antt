use Rattle.std.proofs.Common.{◌<◌, ◌≤◌, ◌*◌, ap, sym, ◌∙◌, length, arith, rules}
use Rattle.std.specs.Prelude.{FitsSigned}
use Rattle.std.specs.Int.{w64, w128}
use Rattle.std.specs.List.{slice_range}
use Rattle.std.proofs.lemmas.Int.{to_z-of_z}
use Rattle.std.proofs.lemmas.List.{length-map}
use Rattle.awk_kernels.specs.Kernels.{total}
use Rattle.awk_parts.proofs.sums.NarrowSumsTotals.total.Goals as goal

pub returns : goal.returns
returns g c =
    let span = c.span_of.result in
    let z = c.narrow_sum-sum.result in
    let r = c.from.result in
    let fz : FitsSigned w64 z = search rules in
    let fr : FitsSigned w128 r = search rules in
    let same = ap (λ ys. slice_range ys span.start span.stop) (sym c.requires.ready.2)
    ∙ c.span_of.ensures.part in
    to_z-of_z w128 r fr ∙ c.from.ensures ∙ to_z-of_z w64 z fz ∙ c.narrow_sum-sum.ensures
    ∙ ap total same

pub narrow_sum-sum-requires : goal.narrow_sum-sum-requires
narrow_sum-sum-requires g c =
    let small : g.row.W * 1 < 9223372036854775808 = omega (arith, c.requires.ready.0) in
    let groups = c.args.self.now.groups.now in
    let within : c.span_of.result.stop ≤ length groups = omega (
      arith,
      c.span_of.ensures.inside,
      ap length c.requires.ready.2,
      length-map groups g.C.Cell.number,
    ) in (
      small,
      (c.requires.ready.1, (c.span_of.ensures.order, (within, c.span_of.ensures.few))),
    )
