use Rattle.std.proofs.Common.{ap, ap₂, sym, ◌∙◌}
use Rattle.std.specs.Prelude.{pos, Bool, if◌then◌else◌, nat_lt, ◌==◌}
use Rattle.std.specs.List.{slice_range}
use Rattle.std.proofs.lemmas.List.Edits.{length-between}
use Rattle.awk_numbers.specs.Folds.{whole_numbers, tallied}
use Rattle.awk_numbers.proofs.TallyLaws.{any_counted, all_counted}
use Rattle.awk_numbers.proofs.tallies.tally_of.Goals as goal

pub returns-in-Any-clause-number : goal.returns-in-Any-clause-number
returns-in-Any-clause-number g c =
    let zs = slice_range (whole_numbers c.args.numbers.now) c.args.start c.args.stop in
    ap (λ (b : Bool). pos (if b then 1 else 0))
    (ap (nat_lt 0) c.count_nonzero-in-Any.ensures.count ∙ any_counted zs)
    ∙ ap (λ how. tallied how zs) (sym c.in-Any.is)

pub returns-in-All-clause-number : goal.returns-in-All-clause-number
returns-in-All-clause-number g c =
    let zs = slice_range (whole_numbers c.args.numbers.now) c.args.start c.args.stop in
    ap (λ (b : Bool). pos (if b then 1 else 0))
    (ap₂ (λ a b. a == b) c.count_nonzero-in-All.ensures.count
    (sym (length-between (whole_numbers c.args.numbers.now) c.args.start c.args.stop
    c.requires.within)) ∙ all_counted zs)
    ∙ ap (λ how. tallied how zs) (sym c.in-All.is)
