use Rattle.std.proofs.Common.{sym, subst, arith}
use Rattle.awk_gather.specs.Picked.{IsPicked}
use Rattle.awk_open.proofs.OpenedKinds.{places_at, within_at, picked_push}
use Rattle.awk_gather.proofs.GatheredArrays.{gathered_limit}
use Rattle.awk_open.proofs.opening.gather_all.Goals as goal

pub gather_node-requires-clause-places : goal.gather_node-requires-clause-places
gather_node-requires-clause-places g c =
    places_at c.args.places.now c.args.xs.now c.loop-i.i c.get.result.now c.get.ensures
    c.requires.places

pub of_node-requires : goal.of_node-requires
of_node-requires g c =
    gathered_limit c.get.result.now c.in_ok-part.part c.args.places.now c.in_ok-part.ensures.node
    (within_at c.args.xs.now c.loop-i.i c.get.result.now c.get.ensures c.requires.limits)

pub loop-i-preserved : goal.loop-i-preserved
loop-i-preserved g c = record {
  within = omega arith;
  columns =
      rw c.in_ok-push.ensures.ok (picked_push c.args.places.now c.args.xs.now c.loop-i.i
      c.get.result.now c.loop-i.columns c.in_ok-column.column c.get.ensures
      c.loop-i.invariant.columns (subst (IsPicked c.get.result.now c.args.places.now)
      (sym c.in_ok-column.ensures) c.in_ok-part.ensures.node) c.len-in-loop-i.ensures.valid);
}
