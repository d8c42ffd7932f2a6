use Rattle.std.proofs.Common.{◌+◌, ◌<◌, arith}
use Rattle.awk_lanes.specs.Numbers.{int_of}
use Rattle.awk_layout.specs.Laws.{len-fits}
use Rattle.awk_layout.specs.Typing.{array_items}
use Rattle.awk_layout.specs.Valid.{len}
use Rattle.awk_select.specs.Kept.{kept}
use Rattle.awk_select.proofs.PickedPlaces.{mask-count, mask-few, count-whole}
use Rattle.awk_select.proofs.SieveLaws.{length-kept}
use Rattle.awk_select.proofs.masks.count.Goals as goal

pub overflow_add-count : goal.overflow_add-count
overflow_add-count g c =
    let i : c.loop-i.i < len c.args.m.now = omega
    (arith, c.loop-i-test.true, c.len-i-end.ensures.len) in
    omega (
      arith,
      c.one_if-count.ensures,
      length-kept c.mark_at.result.keep (int_of c.mark_at.result.number),
      mask-count c.args.m.now c.loop-i.i
          (kept c.mark_at.result.keep (int_of c.mark_at.result.number)) i c.mark_at.ensures.numbers,
      mask-few (array_items c.args.m.now) (c.loop-i.i + 1),
      c.loop-i.invariant,
      i,
      len-fits c.args.m.now c.len-i-end.ensures.valid,
    )

pub loop-i-preserved : goal.loop-i-preserved
loop-i-preserved g c =
    let i : c.loop-i.i < len c.args.m.now = omega
    (arith, c.loop-i-test.true, c.len-i-end.ensures.len) in
    omega (
      arith,
      c.one_if-count.ensures,
      length-kept c.mark_at.result.keep (int_of c.mark_at.result.number),
      mask-count c.args.m.now c.loop-i.i
          (kept c.mark_at.result.keep (int_of c.mark_at.result.number)) i c.mark_at.ensures.numbers,
      c.loop-i.invariant,
    )

pub returns : goal.returns
returns g c =
    count-whole c.args.m.now c.loop-i.i c.loop-i.count
    (omega (arith, c.loop-i-test.false, c.loop-i.auto, c.len-i-end.ensures.len)) c.loop-i.invariant
