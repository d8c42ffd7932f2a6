use Rattle.std.proofs.Common.{◌≡◌, length}
use Rattle.serde_json.specs.View.{view}
use Rattle.awk_plain_columns.proofs.OptionColumns.{AreIndexed}
use Rattle.awk_plain_columns.proofs.options.option_lane.Given as goal

abbrev pub invariant-loop-i : goal.invariant-loop-i
invariant-loop-i l =
    (l.maker.room ≡ length l.values)
    × AreIndexed (λ v. view v.now) l.values l.i l.next l.maker.items
