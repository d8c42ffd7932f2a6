use Rattle.std.proofs.Common.{ap, sym, ◌∙◌, rules}
use Rattle.std.specs.Prelude.{FitsSigned}
use Rattle.std.specs.Int.{w64}
use Rattle.std.proofs.lemmas.Int.{to_z-of_z}
use Rattle.awk_kernels.specs.Kernels.{total}
use Rattle.awk_numbers.proofs.PartLaws.{slice_range-map}
use Rattle.awk_parts.proofs.sums.narrow_sum.Goals as goal

pub returns : goal.returns
returns g c =
    let z = c.sum_in.result in
    let fits : FitsSigned w64 z = search rules in
    let same =
    slice_range-map g.C.Cell.number c.args.groups.now c.args.span.start c.args.span.stop in
    to_z-of_z w64 z fits ∙ c.sum_in.ensures ∙ ap total (sym same)
