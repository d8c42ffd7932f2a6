use Rattle.std.proofs.Common.{ap, sym, ◌∙◌, length, arith, rules}
use Rattle.std.specs.Prelude.{FitsSigned}
use Rattle.std.specs.Int.{w128}
use Rattle.std.specs.List.{slice_range}
use Rattle.std.proofs.lemmas.Int.{to_z-of_z}
use Rattle.std.proofs.lemmas.List.{length-map}
use Rattle.awk_kernels.specs.Kernels.{total}
use Rattle.awk_lanes.specs.Numbers.{number}
use Rattle.awk_lanes.specs.declared.kind.Kind.TheVariants as Kind
use Rattle.awk_parts.proofs.sums.IntSumsTotals.total.Goals as goal

pub returns : goal.returns
returns g c =
    let span = c.span_of.result in
    let z = c.int_sum.result in
    let fits : FitsSigned w128 z = search rules in
    let same = ap (λ ys. slice_range ys span.start span.stop) (sym c.requires.ready.0)
    ∙ c.span_of.ensures.part in
    to_z-of_z w128 z fits ∙ c.int_sum.ensures ∙ ap total same

pub int_sum-requires-clause-within : goal.int_sum-requires-clause-within
int_sum-requires-clause-within g c =
    let groups = c.args.self.now.groups.now in
    omega (
      arith,
      c.span_of.ensures.inside,
      ap length c.requires.ready.0,
      length-map groups (number Kind.I64),
    )
