use Rattle.std.proofs.Common.{◌≡◌, ◌++◌, map}
use Rattle.serde_json.specs.View.{members_view, view}
use Rattle.awk_plain_columns.specs.Suited.{member_list}
use Rattle.awk_plain_columns.proofs.records.push_each.Given as goal

-- the members so far and those that are left are all
abbrev pub invariant-loop-key : goal.invariant-loop-key
invariant-loop-key l =
    map (λ v. view v.now) l.fn.parts.items ++ member_list (members_view l.members.entries)
    ≡ map (λ v. view v.now) l.parts.items ++ member_list (members_view l.key-iterator)
