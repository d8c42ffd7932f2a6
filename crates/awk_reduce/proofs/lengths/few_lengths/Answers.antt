use Rattle.std.proofs.Common.{ap, ◌∙◌, arith}
use Rattle.std.specs.Prelude.{pos}
use Rattle.awk_lanes.specs.Numbers.{int_of}
use Rattle.awk_lanes.specs.declared.kind.Kind.TheVariants.{I64}
use Rattle.awk_lanes.proofs.CountedLanes.{before-next}
use Rattle.awk_lanes.proofs.MadeLanes.{so_far_pushed}
use Rattle.awk_parts.specs.Spans.{span_count, span_size}
use Rattle.awk_reduce.proofs.lengths.few_lengths.Goals as goal

pub loop-i-preserved : goal.loop-i-preserved
loop-i-preserved c =
    let p = c.args.spans.now in
    let i = c.loop-i.i in
    let short = c.requires.short i c.loop-i-test.true in
    record {
      total =
          omega (
            arith,
            before-next (span_size p) i,
            c.loop-i.invariant.total,
            c.span_length-length.ensures.length,
          );
      few = omega (arith, c.loop-i.invariant.few, c.span_length-length.ensures.length, short);
      made = so_far_pushed I64 (span_count p) (λ j. pos (span_size p j)) i (int_of c.number.result)
          c.loop-i.maker c.push.new.self c.push.ensures
          (c.number.ensures.number ∙ ap pos c.span_length-length.ensures.length)
          c.loop-i.invariant.made;
    }
