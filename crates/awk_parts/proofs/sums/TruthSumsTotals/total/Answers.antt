use Rattle.std.proofs.Common.{ap, sym, ◌∙◌, rules}
use Rattle.std.specs.Prelude.{FitsSigned, ℕ, ℤ, pos}
use Rattle.std.specs.Int.{w128}
use Rattle.std.specs.List.{slice_range, count_by}
use Rattle.std.proofs.lemmas.Int.{to_z-of_z}
use Rattle.awk_kernels.specs.Kernels.{total}
use Rattle.awk_lanes.specs.Numbers.{element, is_nonzero}
use Rattle.awk_lanes.specs.declared.kind.Kind.TheVariants as Kind
use Rattle.awk_numbers.proofs.PartLaws.{slice_range-map}
use Rattle.awk_numbers.proofs.TallyLaws.{truths_counted}
use Rattle.awk_cells.proofs.CountLaws.{truths_summed}
use Rattle.awk_parts.proofs.sums.TruthSumsTotals.total.Goals as goal

pub returns : goal.returns
returns g c =
    let f : ℕ → ℤ = λ b. element Kind.Bool (pos b) in
    let xs = c.args.self.now.bytes.now in
    let span = c.span_of.result in
    let part = slice_range xs span.start span.stop in
    let cut = slice_range-map f xs span.start span.stop in
    let r = c.from.result in
    let fits : FitsSigned w128 r = search rules in
    let same = ap (λ ys. slice_range ys span.start span.stop) (sym c.requires.ready.0)
    ∙ c.span_of.ensures.part in
    to_z-of_z w128 r fits ∙ c.from.ensures ∙ c.truths_counted-sum.ensures.count
    ∙ ap (λ zs. pos (count_by is_nonzero zs)) cut
    ∙ ap pos (sym (truths_counted part)) ∙ sym (truths_summed part)
    ∙ ap total (sym cut ∙ same)
