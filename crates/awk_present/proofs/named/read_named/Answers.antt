use Rattle.std.proofs.Common.{◌+◌, arith, ap, sym, ◌∙◌, subst}
use Rattle.awk_counts.specs.Counted.{first_of, present_place, present_at}
use Rattle.awk_base.proofs.Results.{none_left}
use Rattle.awk_present.proofs.TakenLanes.{AreTaken, taken_more, taken_same, taken_room}
use Rattle.awk_present.proofs.named.read_named.Goals as goal
use Rattle.awk_present.proofs.named.read_named.Goals.{in-Some, in_default}

pub push-requires-clause-room : goal.push-requires-clause-room
push-requires-clause-room g c =
    taken_room c.args.index.now c.args.lane.now c.args.n c.loop-i.i c.in-Some.place c.loop-i.maker
    c.requires.count (omega (arith, c.loop-i-test.true, c.len-i-end.ensures.len))
    (sym c.option_place_in.ensures.value ∙ c.in-Some.is) c.loop-i.invariant

pub loop-i-preserved : goal.loop-i-preserved
loop-i-preserved g c = elim c.match-option_place_in.branch [
  | in-Some w ↦
      subst (λ m.
      AreTaken c.args.lane.now c.args.n (first_of (present_at c.args.index.now) (c.loop-i.i + 1)) m)
      (sym w.maker-is)
      (taken_more c.args.index.now c.args.lane.now c.args.n c.loop-i.i w.in-Some.place _
      c.loop-i.maker w.push.new.self (sym c.option_place_in.ensures.value ∙ w.in-Some.is)
      w.push.ensures w.at.ensures.number c.loop-i.invariant)
  | in_default w ↦
      subst (λ m.
      AreTaken c.args.lane.now c.args.n (first_of (present_at c.args.index.now) (c.loop-i.i + 1)) m)
      (sym w.maker-is)
      (taken_same c.args.index.now c.args.lane.now c.args.n c.loop-i.i c.loop-i.maker
      (ap present_place (none_left _
      (λ k e. w.in_default.not-Some k (c.option_place_in.ensures.value ∙ e))))
      c.loop-i.invariant)
]
