-- The arguments that those in code stand for.
use Rattle.std.specs.Prelude.{map}
use Rattle.serde_json.specs.View.{view}
use Rattle.awk_expr.specs.Arguments as said
use Rattle.awk_expr.specs.declared.arguments.Args.{Args}

abbrev pub args_view : Args → said.Args
args_view a = record { exprs = map (λ v. view v.now) a.exprs.items; fixed = a.fixed }
