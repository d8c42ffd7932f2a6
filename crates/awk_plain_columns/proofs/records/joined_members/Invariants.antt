use Rattle.std.proofs.Common.{◌≡◌, ◌++◌, drop, map}
use Rattle.serde_json.specs.View.{view}
use Rattle.awk_plain_columns.specs.Suited as spec
use Rattle.awk_plain_columns.proofs.records.joined_members.Given as goal

-- the members so far and those of the objects that are left are all
abbrev pub invariant-loop-i : goal.invariant-loop-i
invariant-loop-i l =
    spec.joined_members (map (λ v. view v.now) l.values)
    ≡ map (λ v. view v.now) l.parts.items
    ++ spec.joined_members (map (λ v. view v.now) (drop l.i l.values))
