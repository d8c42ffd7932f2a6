use Rattle.std.proofs.Common.{◌+◌, arith, sym, subst}
use Rattle.awk_lanes.specs.Places.{size_of}
use Rattle.awk_counts.specs.Counted.{first_of}
use Rattle.awk_counts.proofs.PlaceLanes.{ArePlaces, given_pushed, given_none, given_room}
use Rattle.awk_lists.specs.Held.{held_at}
use Rattle.awk_lists.proofs.HeldLists.{held-some, held-none}
use Rattle.awk_lists.proofs.holding.held_places.Goals as goal
use Rattle.awk_lists.proofs.holding.held_places.Goals.{then-length_between-gt0}
use Rattle.awk_lists.proofs.holding.held_places.Goals.{else-length_between-gt0}

pub push-requires-clause-room : goal.push-requires-clause-room
push-requires-clause-room c =
    given_room (held_at c.args.starts.now c.args.stops.now) c.args.n c.loop-i.i c.loop-i.i
    (size_of c.args.starts.now) c.loop-i.maker c.requires.count
    (omega (arith, c.loop-i-test.true, c.len-i-end.ensures.len))
    (held-some c.args.starts.now c.args.stops.now c.loop-i.i c.length_between.result
    c.length_between.ensures.length (omega (arith, c.if-length_between-gt0.true)))
    c.loop-i.invariant

pub loop-i-preserved : goal.loop-i-preserved
loop-i-preserved c = elim c.if-length_between-gt0.branch [
  | then-length_between-gt0 w ↦
      subst (λ m. ArePlaces c.args.n
      (first_of (held_at c.args.starts.now c.args.stops.now) (c.loop-i.i + 1)) m)
      (sym w.maker-is)
      (given_pushed (held_at c.args.starts.now c.args.stops.now) c.args.n c.loop-i.i c.loop-i.i _
      c.loop-i.maker w.push.new.self
      (held-some c.args.starts.now c.args.stops.now c.loop-i.i c.length_between.result
      c.length_between.ensures.length (omega (arith, w.if-length_between-gt0.true)))
      w.push.ensures w.number.ensures.number c.loop-i.invariant)
  | else-length_between-gt0 w ↦
      subst (λ m. ArePlaces c.args.n
      (first_of (held_at c.args.starts.now c.args.stops.now) (c.loop-i.i + 1)) m)
      (sym w.maker-is)
      (given_none (held_at c.args.starts.now c.args.stops.now) c.args.n c.loop-i.i c.loop-i.maker
      (held-none c.args.starts.now c.args.stops.now c.loop-i.i c.length_between.result
      c.length_between.ensures.length (omega (arith, w.if-length_between-gt0.false)))
      c.loop-i.invariant)
]
