use Rattle.std.proofs.Common.{◌≡◌, ◌++◌}
use Rattle.serde_json.specs.View.{members_view}
use Rattle.awk_plain.specs.Plain.{names_in}
use Rattle.awk_build.proofs.values.names_of.Given as goal

-- the names so far and those of the members that are left
abbrev pub invariant-loop-key : goal.invariant-loop-key
invariant-loop-key l =
    names_in (members_view l.members.entries)
    ≡ l.names ++ names_in (members_view l.key-iterator)
