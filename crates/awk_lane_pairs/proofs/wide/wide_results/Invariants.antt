use Rattle.std.proofs.Common.{◌≡◌, map}
use Rattle.std.specs.Prelude.{ℤ, Ok}
use Rattle.std.specs.List.{range_with_len}
use Rattle.awk_lanes.specs.declared.kind.Kind.TheVariants as Kind
use Rattle.awk_lane_pairs.specs.Results.{leaf_at}
use Rattle.awk_lane_pairs.proofs.wide.wide_results.Given as goal

abbrev pub invariant-loop-i : goal.invariant-loop-i
invariant-loop-i g l = record {
  kind : l.maker.kind ≡ Kind.I64;
  room : l.maker.room ≡ l.n;
  items : map (λ (z : ℤ). Ok z) l.maker.items
      ≡ map (leaf_at g.O.Wide.op (g.A.Row.numbers l.a) (g.B.Row.numbers l.b))
      (range_with_len 0 l.i);
}
