use Rattle.std.proofs.Common.{ap, sym, ◌∙◌}
use Rattle.std.specs.Prelude.{pos}
use Rattle.std.specs.List.{slice_range, count_by}
use Rattle.awk_lanes.specs.Numbers.{element, is_nonzero}
use Rattle.awk_lanes.specs.declared.kind.Kind.TheVariants as kind
use Rattle.awk_numbers.specs.Folds.{whole_numbers}
use Rattle.awk_numbers.proofs.PartLaws.{slice_range-map}
use Rattle.awk_numbers.proofs.tallies.count_nonzero.Goals as goal

pub returns-in-Truths-clause-count : goal.returns-in-Truths-clause-count
returns-in-Truths-clause-count g c =
    c.count_true.ensures
    ∙ ap (count_by is_nonzero)
    (sym (slice_range-map (λ n. element kind.Bool (pos n)) c.in-Truths.bytes.now c.args.start
    c.args.stop)
    ∙ sym (ap (λ w. slice_range (whole_numbers w) c.args.start c.args.stop) c.in-Truths.is))
