use Rattle.std.proofs.Common.{ap, sym, ◌∙◌, arith}
use Rattle.std.specs.Prelude.{ℕ, ℤ, pos}
use Rattle.std.specs.List.{slice_range}
use Rattle.std.proofs.lemmas.List.Edits.{length-between}
use Rattle.awk_lanes.specs.Numbers.{element}
use Rattle.awk_lanes.specs.declared.kind.Kind.TheVariants as Kind
use Rattle.awk_numbers.specs.Folds.{tallied}
use Rattle.awk_numbers.specs.declared.tallies.Tally.TheVariants as tally
use Rattle.awk_numbers.proofs.PartLaws.{slice_range-map}
use Rattle.awk_numbers.proofs.TallyLaws.{truths_counted}
use Rattle.awk_cells.proofs.CountLaws.{count_within}
use Rattle.awk_parts.proofs.counts.truths_counted.Goals as goal

pub returns-clause-count : goal.returns-clause-count
returns-clause-count c =
    let f : ℕ → ℤ = λ b. element Kind.Bool (pos b) in
    let xs = c.args.bytes.now in
    let a = c.args.span.start in
    let b = c.args.span.stop in
    ap pos (c.count_set.ensures ∙ truths_counted (slice_range xs a b))
    ∙ ap (tallied tally.Nonzero) (sym (slice_range-map f xs a b))

pub returns-clause-few : goal.returns-clause-few
returns-clause-few c =
    let xs = c.args.bytes.now in
    let a = c.args.span.start in
    let b = c.args.span.stop in
    omega (
      arith,
      c.count_set.ensures,
      count_within (slice_range xs a b),
      length-between xs a b c.requires.within,
      c.requires.few,
    )
