use Rattle.std.proofs.Common.{◌≡◌, ◌+◌, ◌*◌, ◌++◌, map, drop, option_map}
use Rattle.serde_json.specs.Data.{depth}
use Rattle.serde_json.specs.View.{view}
use Rattle.awk_expr.specs.Arguments.{all_of}
use Rattle.awk_expr.specs.Reading.{expr_said}
use Rattle.awk_expr.specs.View.{exprs_of}
use Rattle.awk_expr.proofs.Levels.{levels}
use Rattle.awk_expr.proofs.read.+read.Given as goal

abbrev pub decreases-read_expr : goal.decreases-read_expr
decreases-read_expr l = 3 * depth (view l.value.now) + 2

abbrev pub decreases-call : goal.decreases-call
decreases-call l = 3 * levels (map view l.values.now) + 1

abbrev pub decreases-exprs : goal.decreases-exprs
decreases-exprs l = 3 * levels (map (λ v. view v.now) l.values.now)

-- the expressions so far, and those of the rest
abbrev pub invariant-exprs-loop-value : goal.invariant-exprs-loop-value
invariant-exprs-loop-value l =
    all_of expr_said (map (λ v. view v.now) l.values) ≡ option_map (λ es. exprs_of l.exprs ++ es)
    (all_of expr_said (map (λ v. view v.now) (drop l.value-index l.values)))
