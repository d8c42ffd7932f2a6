use Rattle.std.proofs.Common.{◌≡◌, map}
use Rattle.serde_json.specs.View.{view}
use Rattle.awk_expr.proofs.Pairs.{AreRead}
use Rattle.awk_expr.proofs.arguments.read_named_exprs.Given as goal

-- the pairs so far were read
abbrev pub invariant-loop-pair : goal.invariant-loop-pair
invariant-loop-pair l = record {
  read : AreRead (map (λ v. view v.now) l.fn.args.exprs.items)
      (map (λ v. view v.now) l.args.exprs.items) l.names l.pairs l.pair-index;
  fixed : l.args.fixed ≡ l.fn.args.fixed;
}
