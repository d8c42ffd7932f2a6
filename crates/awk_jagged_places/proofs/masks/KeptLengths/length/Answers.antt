use Rattle.std.specs.Prelude.{◌+◌}
use Rattle.std.proofs.Common.{◌≡◌, arith}
use Rattle.awk_lanes.specs.Numbers.{int_of}
use Rattle.awk_select.specs.Kept.{kept}
use Rattle.awk_jagged_places.specs.Leaves.{mask_at}
use Rattle.awk_select.proofs.SieveLaws.{length-kept}
use Rattle.awk_jagged_places.proofs.MaskLaws.{length-more, few_first}
use Rattle.awk_jagged_places.proofs.masks.KeptLengths.length.Goals as goal

pub overflow_add-count : goal.overflow_add-count
overflow_add-count g c =
    let z : kept c.mark.result.keep (int_of c.mark.result.number)
    ≡ mask_at c.args.self.now.xs.now c.args.self.now.ws.now c.args.i c.loop-k.k =
    rw (c.span_of-from.ensures.start, c.span_of-by.ensures.start) at c.mark.ensures.numbers in
    omega (
      arith,
      c.one_if-count.ensures,
      length-kept c.mark.result.keep (int_of c.mark.result.number),
      length-more c.args.self.now.xs.now c.args.self.now.ws.now c.args.i c.loop-k.k
          (kept c.mark.result.keep (int_of c.mark.result.number)) z,
      few_first c.args.self.now.xs.now c.args.self.now.ws.now c.args.i (c.loop-k.k + 1),
      c.loop-k.invariant,
      c.loop-k-test.true,
    )

pub loop-k-preserved : goal.loop-k-preserved
loop-k-preserved g c =
    let z : kept c.mark.result.keep (int_of c.mark.result.number)
    ≡ mask_at c.args.self.now.xs.now c.args.self.now.ws.now c.args.i c.loop-k.k =
    rw (c.span_of-from.ensures.start, c.span_of-by.ensures.start) at c.mark.ensures.numbers in
    omega (
      arith,
      c.one_if-count.ensures,
      length-kept c.mark.result.keep (int_of c.mark.result.number),
      length-more c.args.self.now.xs.now c.args.self.now.ws.now c.args.i c.loop-k.k
          (kept c.mark.result.keep (int_of c.mark.result.number)) z,
      c.loop-k.invariant,
    )
