use Rattle.std.proofs.Common.{◌≡◌, ◌+◌, length, arith, ap, ◌∙◌}
use Rattle.std.specs.Prelude.{pos}
use Rattle.awk_lanes.specs.Numbers.{int_of}
use Rattle.awk_lanes.specs.Places.{size_of}
use Rattle.awk_lanes.specs.declared.kind.Kind.TheVariants.{I64}
use Rattle.awk_counts.specs.Counted.{first_of, present_at}
use Rattle.awk_counts.proofs.FirstPlaces.{length-first_of, present-few}
use Rattle.awk_lanes.proofs.MadeLanes.{so_far_pushed, made_size}
use Rattle.awk_counts.proofs.presence.counts_of.Goals as goal

pub overflow_add-count : goal.overflow_add-count
overflow_add-count c =
    omega (
      arith,
      present-few c.args.index.now (c.loop-i.i + 1),
      length-first_of (present_at c.args.index.now) c.loop-i.i,
      c.loop-i.invariant.count,
      c.one_if_place-count.ensures,
      c.loop-i-test.true,
      c.requires.fits,
    )

pub number-requires-in-loop-i : goal.number-requires-in-loop-i
number-requires-in-loop-i c =
    omega (
      arith,
      present-few c.args.index.now (c.loop-i.i + 1),
      length-first_of (present_at c.args.index.now) c.loop-i.i,
      c.loop-i.invariant.count,
      c.one_if_place-count.ensures,
      c.loop-i-test.true,
      c.requires.fits,
    )

pub push-requires-in-loop-i-clause-room : goal.push-requires-in-loop-i-clause-room
push-requires-in-loop-i-clause-room c =
    omega (
      arith,
      made_size (λ j. pos (length (first_of (present_at c.args.index.now) j)))
          (c.loop-i.i + 1) c.loop-i.maker.items c.loop-i.invariant.made.items,
      c.loop-i.invariant.made.room,
      c.loop-i-test.true,
    )

pub loop-i-preserved : goal.loop-i-preserved
loop-i-preserved c =
    let count : c.loop-i.count + c.one_if_place-count.result
    ≡ length (first_of (present_at c.args.index.now) (c.loop-i.i + 1)) =
    omega (
      arith,
      length-first_of (present_at c.args.index.now) c.loop-i.i,
      c.loop-i.invariant.count,
      c.one_if_place-count.ensures,
    ) in
    record {
      count = count;
      made = so_far_pushed I64 (size_of c.args.index.now + 1)
          (λ j. pos (length (first_of (present_at c.args.index.now) j))) (c.loop-i.i + 1)
          (int_of c.number-in-loop-i.result) c.loop-i.maker c.push-in-loop-i.new.self
          c.push-in-loop-i.ensures (c.number-in-loop-i.ensures.number ∙ ap pos count)
          c.loop-i.invariant.made;
    }
