use Rattle.std.proofs.Common.{◌+◌, ◌<◌, arith, ap, sym, ◌∙◌}
use Rattle.awk_types.specs.Value.{int}
use Rattle.awk_lanes.specs.Numbers.{nat_of}
use Rattle.awk_layout.specs.Typing.{array_items}
use Rattle.awk_layout.specs.Valid.{len}
use Rattle.awk_layout.proofs.ArrayItems.{length-array_items}
use Rattle.awk_lists.specs.Unflatten.{is_negative}
use Rattle.awk_lists.proofs.Cuts.{negative_wrong, over_wrong, negative_next, counted_next}
use Rattle.awk_lists.proofs.Cuts.{counted_few, all_added}
use Rattle.awk_lists.proofs.cutting.add_up.Goals as goal

pub returns-then-is_negative : goal.returns-then-is_negative
returns-then-is_negative g c =
    let i : c.loop-i.i < len c.args.counts.now =
    omega (arith, c.loop-i-test.true, c.len-i-end.ensures.len) in
    sym (negative_wrong c.args.counts.now c.args.lane.now c.args.n c.requires c.loop-i.i i
    (ap (λ z. is_negative (int z)) (sym c.at-x.ensures.number)
    ∙ sym c.if-is_negative.ensures))

pub returns-then-count-left : goal.returns-then-count-left
returns-then-count-left g c =
    let i : c.loop-i.i < len c.args.counts.now =
    omega (arith, c.loop-i-test.true, c.len-i-end.ensures.len) in
    let next = counted_next c.args.counts.now c.args.lane.now c.requires c.loop-i.i i in
    let few = counted_few (array_items c.args.counts.now) (c.loop-i.i + 1) in
    sym (over_wrong (array_items c.args.counts.now) c.args.n
    (omega (
      arith,
      next,
      few,
      c.loop-i.invariant.left,
      c.count.ensures,
      ap nat_of c.at-x.ensures.number,
      c.if-count-left.true,
    )))

pub loop-i-preserved : goal.loop-i-preserved
loop-i-preserved g c =
    let i : c.loop-i.i < len c.args.counts.now =
    omega (arith, c.loop-i-test.true, c.len-i-end.ensures.len) in
    let next = counted_next c.args.counts.now c.args.lane.now c.requires c.loop-i.i i in
    record {
      none = negative_next c.args.counts.now c.args.lane.now c.requires c.loop-i.i i
          (ap (λ z. is_negative (int z)) (sym c.at-x.ensures.number)
          ∙ sym c.if-is_negative.ensures) c.loop-i.invariant.none;
      left = omega (
        arith,
        next,
        c.loop-i.invariant.left,
        c.count.ensures,
        c.count-left.ensures,
        ap nat_of c.at-x.ensures.number,
        c.if-count-left.false,
      );
    }

pub returns : goal.returns
returns g c =
    all_added (array_items c.args.counts.now) c.args.n c.loop-i.left c.loop-i.i
    (omega (
      arith,
      length-array_items c.args.counts.now,
      c.loop-i-test.false,
      c.len-i-end.ensures.len,
    )) c.loop-i.invariant.none c.loop-i.invariant.left
