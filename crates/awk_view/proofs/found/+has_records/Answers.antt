use Rattle.std.proofs.Common.{sym, ◌∙◌}
use Rattle.awk_view.proofs.FoundSteps.{records_no, records_yes}
use Rattle.awk_view.proofs.found.+has_records.Goals as goal

pub all_have_records-returns-then-not-has_records :
    goal.all_have_records-returns-then-not-has_records
all_have_records-returns-then-not-has_records t c =
    records_no c.args.contents.now c.loop-i.i c.get.result.now c.get.ensures
    (sym c.has_records.ensures ∙ c.if-not-has_records.true) c.loop-i.invariant

pub all_have_records-loop-i-preserved : goal.all_have_records-loop-i-preserved
all_have_records-loop-i-preserved t c =
    records_yes c.args.contents.now c.loop-i.i c.get.result.now c.get.ensures
    (sym c.has_records.ensures ∙ c.if-not-has_records.false) c.loop-i.invariant
