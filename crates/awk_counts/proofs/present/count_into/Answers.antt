use Rattle.std.proofs.Common.{◌+◌, length, arith, ap, sym, subst, ◌∙◌}
use Rattle.awk_lanes.specs.Numbers.{int_of}
use Rattle.awk_lanes.specs.Places.{size_of, option_place_at}
use Rattle.awk_lanes.proofs.MadeLanes.{so_far_pushed}
use Rattle.awk_counts.specs.Counted.{count_or_null, present_place, present_at}
use Rattle.awk_counts.specs.Narrow.{HoldsCounts}
use Rattle.awk_counts.proofs.CountLaws.{count_held, fewer_held}
use Rattle.awk_counts.proofs.FirstPlaces.{length-first_of, present-few}
use Rattle.awk_counts.proofs.present.count_into.Goals as goal

pub loop-i-preserved : goal.loop-i-preserved
loop-i-preserved g c = record {
  next =
      omega (
        arith,
        length-first_of (present_at (g.P.OptionIndex.lane c.args.index.now)) c.loop-i.i,
        c.loop-i.invariant.next,
        c.one_if-next.ensures,
        ap (λ o. length (present_place o))
            c.place-place.ensures,
      );
  held =
      subst (HoldsCounts (size_of (g.P.OptionIndex.lane c.args.index.now)))
      (sym c.put.ensures.kind) c.loop-i.invariant.held;
  made =
      so_far_pushed _ _ _ c.loop-i.i (int_of c.next_number.result)
      (g.M.NumberMaker.making c.loop-i.maker)
      (g.M.NumberMaker.making c.put.new.self) c.put.ensures.number
      (c.next_number.ensures.number
      ∙ ap (count_or_null c.loop-i.next) c.place-place.ensures
      ∙ ap
      (λ n. count_or_null n (option_place_at (g.P.OptionIndex.lane c.args.index.now) c.loop-i.i))
      c.loop-i.invariant.next)
      c.loop-i.invariant.made;
}

pub next_number-requires : goal.next_number-requires
next_number-requires g c = record {
  small =
      omega (
        arith,
        present-few (g.P.OptionIndex.lane c.args.index.now) c.loop-i.i,
        c.loop-i.invariant.next,
        c.loop-i-test.true,
        c.size-n.ensures,
        c.requires.small,
      );
}

pub put-requires-clause-kind : goal.put-requires-clause-kind
put-requires-clause-kind g c =
    count_held (g.M.NumberMaker.kind c.loop-i.maker) c.loop-i.next c.place-place.result
    c.next_number.result
    (fewer_held (g.M.NumberMaker.kind c.loop-i.maker) c.loop-i.next
    (size_of (g.P.OptionIndex.lane c.args.index.now))
    (omega (
      arith,
      present-few (g.P.OptionIndex.lane c.args.index.now) c.loop-i.i,
      c.loop-i.invariant.next,
      c.loop-i-test.true,
      c.size-n.ensures,
    ))
    c.loop-i.invariant.held)
    c.next_number.ensures.kind c.next_number.ensures.number

pub overflow_add-next : goal.overflow_add-next
overflow_add-next g c =
    omega (
      arith,
      present-few (g.P.OptionIndex.lane c.args.index.now) (c.loop-i.i + 1),
      length-first_of
          (present_at (g.P.OptionIndex.lane c.args.index.now)) c.loop-i.i,
      c.loop-i.invariant.next,
      c.one_if-next.ensures,
      ap
          (λ o. length (present_place o)) c.place-place.ensures,
      c.loop-i-test.true,
      c.size-n.ensures,
      c.requires.small,
    )
