use Rattle.std.proofs.Common.{◌≡◌, ◌++◌, drop, map}
use Rattle.serde_json.specs.View.{view}
use Rattle.awk_plain_columns.proofs.lists.push_all.Given as goal

-- the values so far and those that are left are all
abbrev pub invariant-loop-item : goal.invariant-loop-item
invariant-loop-item l =
    map (λ v. view v.now) l.items.items ++ map view (drop l.item-index l.list)
    ≡ map (λ v. view v.now) l.fn.items.items ++ map view l.list
