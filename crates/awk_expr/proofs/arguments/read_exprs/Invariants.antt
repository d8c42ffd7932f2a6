use Rattle.std.proofs.Common.{◌≡◌, ◌++◌, drop, map}
use Rattle.serde_json.specs.View.{view}
use Rattle.awk_expr.proofs.arguments.read_exprs.Given as goal

-- the expressions so far and those that are left are all
abbrev pub invariant-loop-value : goal.invariant-loop-value
invariant-loop-value l = record {
  exprs : map (λ v. view v.now) l.args.exprs.items ++ map view (drop l.value-index l.values) ≡ map
      (λ v. view v.now) l.fn.args.exprs.items ++ map view l.values;
  fixed : l.args.fixed ≡ l.fn.args.fixed;
}
