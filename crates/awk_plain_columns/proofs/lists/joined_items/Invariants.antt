use Rattle.std.proofs.Common.{◌≡◌, ◌++◌, drop, map}
use Rattle.serde_json.specs.View.{view}
use Rattle.awk_plain_columns.specs.Suited.{joined_data}
use Rattle.awk_plain_columns.proofs.lists.joined_items.Given as goal

-- the items so far and those of the lists that are left are all
abbrev pub invariant-loop-i : goal.invariant-loop-i
invariant-loop-i l =
    joined_data (map (λ v. view v.now) l.values)
    ≡ map (λ v. view v.now) l.items.items ++ joined_data (map (λ v. view v.now) (drop l.i l.values))
