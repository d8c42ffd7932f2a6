use Rattle.std.proofs.Common.{◌<◌, None, Some, arith, subst, ◌∙◌}
use Rattle.awk_types.specs.ItemLimit.{item_limit}
use Rattle.awk_lanes.specs.Counted.{AreOffsetsBy}
use Rattle.awk_lanes.specs.Places.{size_of}
use Rattle.awk_places.specs.Slots.{tuple_count}
use Rattle.awk_combi.proofs.SpanLaws.{made_places, made_size, made_counts, made_offsets, made_slots}
use Rattle.awk_combi.proofs.slots.tuple_places.Goals as goal

pub rising_offsets-requires-clause-places : goal.rising_offsets-requires-clause-places
rising_offsets-requires-clause-places g c =
    made_places c.args.places c.args.rising.replacement c.args.rising.slots
    c.args.lists.now.starts c.args.lists.now.stops c.in_ok-firsts.firsts c.in_ok-ends.ends
    c.in_ok-firsts.ensures c.in_ok-ends.ensures

pub rising_offsets-requires-clause-fits : goal.rising_offsets-requires-clause-fits
rising_offsets-requires-clause-fits g c =
    omega (
      arith,
      made_size c.args.places c.args.rising.replacement c.args.rising.slots
          c.args.lists.now.starts c.args.lists.now.stops c.in_ok-firsts.firsts c.in_ok-ends.ends
          c.in_ok-firsts.ensures c.in_ok-ends.ensures,
      c.len.ensures.len,
      c.len.ensures.fits,
    )

pub rising_lanes-requires-clause-places : goal.rising_lanes-requires-clause-places
rising_lanes-requires-clause-places g c =
    made_places c.args.places c.args.rising.replacement c.args.rising.slots
    c.args.lists.now.starts c.args.lists.now.stops c.in_ok-firsts.firsts c.in_ok-ends.ends
    c.in_ok-firsts.ensures c.in_ok-ends.ensures

pub returns-in-None : goal.returns-in-None
returns-in-None g c =
    let t : AreOffsetsBy item_limit (tuple_count c.args.rising.replacement c.args.rising.slots
    c.in_ok-firsts.firsts c.in_ok-ends.ends) (size_of c.in_ok-firsts.firsts) None =
    rw c.in-None.is at c.in_ok-rising_offsets.ensures in
    subst (λ n. item_limit < n) (made_counts c.args.places c.args.rising.replacement
    c.args.rising.slots c.args.lists.now.starts c.args.lists.now.stops c.in_ok-firsts.firsts
    c.in_ok-ends.ends c.in_ok-firsts.ensures c.in_ok-ends.ensures) t

pub returns-in_ok-lanes-in-Some : goal.returns-in_ok-lanes-in-Some
returns-in_ok-lanes-in-Some g c =
    let t : AreOffsetsBy item_limit (tuple_count c.args.rising.replacement c.args.rising.slots
    c.in_ok-firsts.firsts c.in_ok-ends.ends) (size_of c.in_ok-firsts.firsts)
    (Some c.in-Some.offsets) = rw c.in-Some.is at c.in_ok-rising_offsets.ensures in
    let e = t.0 ∙ made_counts c.args.places c.args.rising.replacement c.args.rising.slots
    c.args.lists.now.starts c.args.lists.now.stops c.in_ok-firsts.firsts c.in_ok-ends.ends
    c.in_ok-firsts.ensures c.in_ok-ends.ensures in (
      e,
      omega (arith, t.0, t.1),
      t.2 ∙ made_offsets c.args.places c.args.rising.replacement c.args.rising.slots
          c.args.lists.now.starts c.args.lists.now.stops c.in_ok-firsts.firsts c.in_ok-ends.ends
          c.in_ok-firsts.ensures c.in_ok-ends.ensures,
      c.in_ok-lanes-in-Some.ensures
          ∙ made_slots c.args.places c.args.rising.replacement c.args.rising.slots
          c.args.lists.now.starts c.args.lists.now.stops c.in_ok-firsts.firsts c.in_ok-ends.ends
          c.in_ok-firsts.ensures c.in_ok-ends.ensures,
    )
