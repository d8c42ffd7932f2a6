use Rattle.std.proofs.Common.{drop, map}
use Rattle.serde_json.specs.View.{view}
use Rattle.awk_plain_columns.proofs.RecordLaws.{AreTaken}
use Rattle.awk_plain_columns.proofs.records.members_at.Given as goal

abbrev pub invariant-loop-i : goal.invariant-loop-i
invariant-loop-i l =
    AreTaken l.k (map (λ v. view v.now) l.values) (drop l.start (map (λ v. view v.now) l.parts)) l.i
    (map (λ v. view v.now) l.column.items)
