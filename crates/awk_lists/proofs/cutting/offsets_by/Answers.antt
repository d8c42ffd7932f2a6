use Rattle.std.proofs.Common.{◌≡◌, ◌+◌, ◌<◌, arith, ap, ◌∙◌}
use Rattle.std.specs.Prelude.{pos}
use Rattle.awk_lanes.specs.Numbers.{int_of, nat_of}
use Rattle.awk_lanes.specs.declared.kind.Kind.TheVariants.{I64}
use Rattle.awk_layout.specs.Typing.{array_items}
use Rattle.awk_layout.specs.Valid.{len}
use Rattle.awk_lanes.proofs.MadeLanes.{so_far_pushed, made_size}
use Rattle.awk_lists.specs.Unflatten.{counted_before}
use Rattle.awk_lists.proofs.Cuts.{counted_next, counted_few}
use Rattle.awk_lists.proofs.cutting.offsets_by.Goals as goal

pub overflow_add-end : goal.overflow_add-end
overflow_add-end g c =
    let i : c.loop-i.i < len c.args.counts.now =
    omega (arith, c.loop-i-test.true, c.len-n.ensures.len) in
    omega (
      arith,
      counted_next c.args.counts.now c.args.lane.now c.requires.counts c.loop-i.i i,
      counted_few (array_items c.args.counts.now) (c.loop-i.i + 1),
      c.loop-i.invariant.end,
      c.count-end.ensures,
      ap nat_of c.at.ensures.number,
      c.requires.fits,
    )

pub number-requires-in-loop-i : goal.number-requires-in-loop-i
number-requires-in-loop-i g c =
    let i : c.loop-i.i < len c.args.counts.now =
    omega (arith, c.loop-i-test.true, c.len-n.ensures.len) in
    omega (
      arith,
      counted_next c.args.counts.now c.args.lane.now c.requires.counts c.loop-i.i i,
      counted_few (array_items c.args.counts.now) (c.loop-i.i + 1),
      c.loop-i.invariant.end,
      c.count-end.ensures,
      ap nat_of c.at.ensures.number,
      c.requires.fits,
    )

pub push-requires-in-loop-i-clause-room : goal.push-requires-in-loop-i-clause-room
push-requires-in-loop-i-clause-room g c =
    omega (
      arith,
      made_size (λ j. pos (counted_before (array_items c.args.counts.now) j))
          (c.loop-i.i + 1) c.loop-i.maker.items c.loop-i.invariant.made.items,
      c.loop-i.invariant.made.room,
      c.loop-i-test.true,
      c.len-n.ensures.len,
    )

pub loop-i-preserved : goal.loop-i-preserved
loop-i-preserved g c =
    let i : c.loop-i.i < len c.args.counts.now =
    omega (arith, c.loop-i-test.true, c.len-n.ensures.len) in
    let end : c.loop-i.end + c.count-end.result
    ≡ counted_before (array_items c.args.counts.now) (c.loop-i.i + 1) =
    omega (
      arith,
      c.loop-i.invariant.end,
      c.count-end.ensures,
      ap nat_of c.at.ensures.number,
      counted_next c.args.counts.now c.args.lane.now c.requires.counts c.loop-i.i i,
    ) in
    record {
      end = end;
      made = so_far_pushed I64 (len c.args.counts.now + 1)
          (λ j. pos (counted_before (array_items c.args.counts.now) j)) (c.loop-i.i + 1)
          (int_of c.number-in-loop-i.result) c.loop-i.maker c.push-in-loop-i.new.self
          c.push-in-loop-i.ensures (c.number-in-loop-i.ensures.number ∙ ap pos end)
          c.loop-i.invariant.made;
    }
