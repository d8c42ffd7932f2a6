use Rattle.std.proofs.Common.{◌≡◌, ◌-◌, ◌<◌, ap, ap₂, subst, ◌∙◌, get_or, arith, rules}
use Rattle.std.specs.Prelude.{pos, IfSome, FitsSigned}
use Rattle.std.specs.Int.{w64, cast_signed as to_z, cast_unsigned as of_z}
use Rattle.std.specs.List.{slice_range}
use Rattle.std.proofs.lemmas.Int.{to_z-of_z}
use Rattle.awk_kernels.specs.Kernels.{total}
use Rattle.awk_numbers.specs.Folds.{whole_numbers}
use Rattle.awk_parts.specs.Spans.{span_part}
use Rattle.awk_parts.proofs.WindowLaws.{sum_read}
use Rattle.awk_parts.proofs.windows.RunningSums.sum_of.Goals as goal

pub returns : goal.returns
returns c =
    let zs = whole_numbers c.args.parts.now.numbers.now in
    let p = c.args.parts.now.spans.now in
    let span = c.bounds_of-span in
    let sums = c.as_slice-sums.result.now in
    let first = c.args.self.now.first in
    let a = span.result.start - first in
    let b = span.result.stop - first in
    let x = get_or sums b (pos 0) in
    let y = get_or sums a (pos 0) in
    let fx : FitsSigned w64 x = search rules in
    let fy : FitsSigned w64 y = search rules in
    let known = c.as_slice-sums.ensures.value in
    let before : a < c.args.self.now.count =
    omega (arith, c.if-span-self.false, c.if-span-self-2.false, span.ensures.order) in
    let same : total (slice_range zs span.result.start span.result.stop)
    ≡ total (span_part zs p c.args.i) =
    ap₂ (λ s t. total (slice_range zs s t)) span.ensures.start span.ensures.stop in
    subst (λ t. IfSome c.checked_sub.result (λ z. z ≡ t)) same
    (sum_read zs first span.result.start span.result.stop (to_z w64 (of_z w64 x))
    (to_z w64 (of_z w64 y)) c.checked_sub.result c.if-span-self.false span.ensures.order
    (to_z-of_z w64 x fx ∙ ap (λ ys. get_or ys b (pos 0)) known
    ∙ c.requires.sums.sums b c.if-span-self-2.false)
    (to_z-of_z w64 y fy ∙ ap (λ ys. get_or ys a (pos 0)) known ∙ c.requires.sums.sums a before)
    c.checked_sub.ensures)
