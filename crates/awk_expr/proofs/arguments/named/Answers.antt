use Rattle.std.proofs.Common.{◌<◌, ◌≤◌, length, map, arith}
use Rattle.std.proofs.lemmas.List.{length-map}
use Rattle.serde_json.specs.View.{view}
use Rattle.awk_expr.specs.Arguments.{items_in}
use Rattle.awk_expr.proofs.Pairs.{pair-none}
use Rattle.awk_expr.proofs.arguments.named.Goals as goal
use Rattle.awk_expr.proofs.arguments.named.Goals.{in_default-via-then-branch-lt2}
use Rattle.awk_expr.proofs.arguments.named.Goals.{in_default-via-else-branch-lt2+else-this-lt3}

pub returns-in_default : goal.returns-in_default
returns-in_default c =
    let vs = c.in_ok-items.field-0.now in
    let none = pair-none (items_in (view c.args.pair.now)) (map view vs) c.in_ok-items.ensures in
    elim c.in_default.branch [
      | in_default-via-then-branch-lt2 w ↦ let short : length vs < 2 = grind arith in
          none (λ e. omega (arith, e, short, length-map vs view))
      | in_default-via-else-branch-lt2+else-this-lt3 w ↦ let long : 3 ≤ length vs = grind arith in
          none (λ e. omega (arith, e, long, length-map vs view))
    ]
