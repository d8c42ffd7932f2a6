use Rattle.std.proofs.Common.{ap, ◌∙◌, length}
use Rattle.awk_lanes.specs.Made.{lane_of}
use Rattle.awk_layout.specs.Kinds.{kind_of}
use Rattle.awk_lane_pairs.specs.Results.{exact_at}
use Rattle.awk_lane_pairs.proofs.calculation.held_results.Goals as goal

pub made_lane-requires-clause-ready : goal.made_lane-requires-clause-ready
made_lane-requires-clause-ready g c =
    (c.requires.small, c.requires.size, c.are_held.ensures c.if-not-are_held.false)

pub returns : goal.returns
returns g c =
    let a = c.args.a.now in
    let b = c.args.b.now in
    let p = g.N.Narrow.prim in
    record {
      held = c.are_held.ensures c.if-not-are_held.false;
      lane = c.in_ok-lane.ensures.lane
          ∙ ap (λ k. lane_of k (length a) (exact_at g.O.Exact.op (kind_of p) a b))
          c.kind.ensures.kind;
    }
