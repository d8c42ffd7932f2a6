use Rattle.std.proofs.Common.{◌≡◌, ◌++◌, drop, map}
use Rattle.serde_json.specs.View.{view}
use Rattle.awk_plain_columns.specs.Suited.{there}
use Rattle.awk_plain_columns.proofs.options.present_values.Given as goal

-- what is there so far, and of the values that are left
abbrev pub invariant-loop-i : goal.invariant-loop-i
invariant-loop-i l =
    there (map (λ v. view v.now) l.values)
    ≡ map (λ v. view v.now) l.present.items ++ there (map (λ v. view v.now) (drop l.i l.values))
