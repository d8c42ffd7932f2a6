use Rattle.std.proofs.Common.{◌≡◌, ◌+◌, length, ap, ◌∙◌, arith}
use Rattle.std.specs.Prelude.{pos}
use Rattle.awk_lanes.specs.declared.kind.Kind.TheVariants as Kind
use Rattle.awk_lanes.specs.Counted.{before}
use Rattle.awk_lanes.proofs.MadeLanes.{so_far_pushed, made_size}
use Rattle.awk_lanes.proofs.CountedLanes.{before-next, total_passed}
use Rattle.awk_lanes.proofs.counted.offsets_within.Goals as goal

pub returns-then-length-limit : goal.returns-then-length-limit
returns-then-length-limit g c =
    total_passed (g.S.Lengths.length c.args.source.now) c.args.limit c.args.n c.loop-i.i
    c.loop-i.total c.length-length.result (omega (arith, c.loop-i-test.true))
    c.loop-i.invariant.total
    c.length-length.ensures.length (omega (arith, c.if-length-limit.true, c.loop-i.invariant.small))

pub push-requires-in-loop-i-clause-room : goal.push-requires-in-loop-i-clause-room
push-requires-in-loop-i-clause-room g c =
    let e : length c.loop-i.maker.items ≡ c.loop-i.i + 1 =
    made_size (λ j. pos (before (g.S.Lengths.length c.args.source.now) j)) (c.loop-i.i + 1) _
    c.loop-i.invariant.made.items in
    omega (arith, e, c.loop-i.invariant.made.room, c.loop-i-test.true)

pub loop-i-preserved : goal.loop-i-preserved
loop-i-preserved g c =
    let t : c.loop-i.total + c.length-length.result
    ≡ before (g.S.Lengths.length c.args.source.now) (c.loop-i.i + 1) = omega (
      arith,
      before-next (g.S.Lengths.length c.args.source.now) c.loop-i.i,
      c.loop-i.invariant.total,
      c.length-length.ensures.length,
    ) in
    record {
      total = t;
      small = omega (arith, c.if-length-limit.false, c.loop-i.invariant.small);
      made = so_far_pushed Kind.I64 (c.args.n + 1)
          (λ j. pos (before (g.S.Lengths.length c.args.source.now) j)) (c.loop-i.i + 1) _
          c.loop-i.maker c.push-in-loop-i.new.self c.push-in-loop-i.ensures
          (c.number-in-loop-i.ensures.number ∙ ap pos t) c.loop-i.invariant.made;
    }
