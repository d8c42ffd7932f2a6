use Rattle.std.proofs.Common.{ap, sym, ◌∙◌, rules}
use Rattle.std.specs.Prelude.{FitsSigned}
use Rattle.std.specs.Int.{w128}
use Rattle.std.proofs.lemmas.Int.{to_z-of_z}
use Rattle.awk_kernels.specs.Kernels.{total}
use Rattle.awk_lanes.specs.Numbers.{number}
use Rattle.awk_lanes.specs.declared.kind.Kind.TheVariants as Kind
use Rattle.awk_numbers.proofs.PartLaws.{slice_range-map}
use Rattle.awk_parts.proofs.sums.int_sum.Goals as goal

pub returns : goal.returns
returns c =
    let z = c.int_sum_in.result in
    let fits : FitsSigned w128 z = search rules in
    let same =
    slice_range-map (number Kind.I64) c.args.groups.now c.args.span.start c.args.span.stop in
    to_z-of_z w128 z fits ∙ c.int_sum_in.ensures ∙ ap total (sym same)
