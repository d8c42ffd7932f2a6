use Rattle.std.proofs.Common.{◌≡◌, drop, map, option_map}
use Rattle.serde_json.specs.View.{view}
use Rattle.awk_expr.specs.Arguments.{args_of, both}
use Rattle.awk_expr.specs.ArgsView.{args_view}
use Rattle.awk_expr.proofs.arguments.read_args.Given as goal

-- what was read and what is left are all
abbrev pub invariant-loop-i : goal.invariant-loop-i
invariant-loop-i l =
    args_of l.kinds (map view l.values) ≡ option_map (both (args_view l.args))
    (args_of (drop l.i l.kinds) (map view (drop l.i l.values)))
