use Rattle.std.proofs.Common.{ap, sym, subst, ◌∙◌, rules, to_z, of_z}
use Rattle.std.specs.Int.{w128}
use Rattle.std.specs.Prelude.{[], FitsSigned}
use Rattle.std.proofs.lemmas.Int.{to_z-of_z}
use Rattle.awk_pointwise.specs.Sides.{leaf_type, side_values, IsSide}
use Rattle.awk_pointwise.proofs.LaneLaws.{lane_results, literal_results}
use Rattle.awk_pointwise.proofs.ReadyLaws.{are_ready}
use Rattle.awk_pointwise.proofs.binary.pair_of_lanes.Goals as goal

pub of_lanes-requires-clause-ready : goal.of_lanes-requires-clause-ready
of_lanes-requires-clause-ready g c =
    let p = c.args.pair.now in
    are_ready p.op (leaf_type p.x.now) (leaf_type p.y.now) p.prim [] [] c.requires.judged tt tt

pub of_lanes-requires-clause-size : goal.of_lanes-requires-clause-size
of_lanes-requires-clause-size g c =
    let p = c.args.pair.now in
    subst (IsSide p.n) c.in-Column-Column.is-1 c.requires.second
    ∙ sym (subst (IsSide p.n) c.in-Column-Column.is-0 c.requires.first)

pub of_lane_beside-requires : goal.of_lane_beside-requires
of_lane_beside-requires g c =
    let p = c.args.pair.now in
    are_ready p.op (leaf_type p.x.now) (leaf_type p.y.now) p.prim [] [] c.requires.judged tt tt

pub returns-in-Column-Column : goal.returns-in-Column-Column
returns-in-Column-Column g c =
    let p = c.args.pair.now in
    lane_results p.op p.prim (side_values p.n p.x.now) (side_values p.n p.y.now)
    c.in-Column-Column.a.now c.in-Column-Column.b.now c.of_lanes.result
    (ap (side_values p.n) (sym c.in-Column-Column.is-0))
    (ap (side_values p.n) (sym c.in-Column-Column.is-1)) c.of_lanes.ensures

pub returns-in-Column-Literal : goal.returns-in-Column-Literal
returns-in-Column-Literal g c =
    let p = c.args.pair.now in
    let a = c.in-Column-Literal.a.now in
    let z = c.in-Column-Literal.z in
    let fits : FitsSigned w128 z = search rules in
    literal_results p.op p.prim (side_values p.n p.x.now) (side_values p.n p.y.now) a
    (to_z w128 (of_z w128 z)) z p.n c.of_lane_beside.result
    (ap (side_values p.n) (sym c.in-Column-Literal.is-0))
    (ap (side_values p.n) (sym c.in-Column-Literal.is-1))
    (subst (IsSide p.n) c.in-Column-Literal.is-0 c.requires.first) (to_z-of_z w128 z fits)
    c.of_lane_beside.ensures
