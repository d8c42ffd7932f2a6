use Rattle.std.proofs.Common.{length, Some, None, arith, ap, sym, ◌∙◌, subst}
use Rattle.awk_types.specs.Simple.{is_option}
use Rattle.awk_types.specs.View.{typ_of}
use Rattle.awk_lanes.specs.Places.{IsIndex, IsOptionalIndex}
use Rattle.awk_layout.specs.Typing.{array_type, array_items}
use Rattle.awk_layout.proofs.ArrayItems.{length-array_items}
use Rattle.awk_select.specs.Cells.{AreTaken}
use Rattle.awk_select.specs.Picks.{take_places}
use Rattle.awk_select.proofs.PickAnswers.{take-outside, take-size, take-said}
use Rattle.awk_select.proofs.PickedPlaces.{take-lane, optional-lane, index-lane, take_places-below}
use Rattle.awk_select.proofs.PickedPlaces.{take_places-there}
use Rattle.awk_select.proofs.indexes.taken_items.Goals as goal

pub returns-then-not-are_inside : goal.returns-then-not-are_inside
returns-then-not-are_inside g c = record {
  answer =
      take-outside (length (array_items c.args.x.now)) c.len-n.result (array_items c.args.ix.now) _
      (c.len-n.ensures.len ∙ sym (length-array_items c.args.x.now))
      (sym c.if-not-are_inside.ensures);
}

pub returns-then-len-gt-ITEM_LIMIT : goal.returns-then-len-gt-ITEM_LIMIT
returns-then-len-gt-ITEM_LIMIT g c = record {
  answer =
      take-size (length (array_items c.args.x.now)) c.len-n.result c.len.result
      (array_items c.args.ix.now) _
      (c.len-n.ensures.len ∙ sym (length-array_items c.args.x.now))
      (sym c.if-not-are_inside.ensures)
      (c.len.ensures.len ∙ sym (length-array_items c.args.ix.now))
      (omega (arith, c.if-len-gt-ITEM_LIMIT.true));
}

pub returns-in-None : goal.returns-in-None
returns-in-None g c =
    let outside : AreTaken c.len-n.result c.args.ix.now None =
    rw c.in-None.is at c.in_ok-take_lane.ensures in
    record {
      answer =
          take-outside (length (array_items c.args.x.now)) c.len-n.result
          (array_items c.args.ix.now) _
          (c.len-n.ensures.len ∙ sym (length-array_items c.args.x.now)) outside;
    }

pub pick-requires-clause-places : goal.pick-requires-clause-places
pick-requires-clause-places g c =
    let taken : AreTaken c.len-n.result c.args.ix.now (Some c.in-Some.places) =
    rw c.in-Some.is at c.in_ok-take_lane.ensures in
    subst (IsOptionalIndex c.in-Some.places) c.len-n.ensures.len
    (optional-lane c.len-n.result (take_places c.len-n.result (array_items c.args.ix.now))
    c.in-Some.places
    (take-lane c.len-n.result c.args.ix.now c.in-Some.places taken.1)
    (take_places-below c.len-n.result (array_items c.args.ix.now)))

pub pick-requires-clause-present : goal.pick-requires-clause-present
pick-requires-clause-present g c = λ plain.
    let taken : AreTaken c.len-n.result c.args.ix.now (Some c.in-Some.places) =
    rw c.in-Some.is at c.in_ok-take_lane.ensures in
    subst (IsIndex c.in-Some.places) c.len-n.ensures.len
    (index-lane c.len-n.result (take_places c.len-n.result (array_items c.args.ix.now))
    c.in-Some.places
    (take-lane c.len-n.result c.args.ix.now c.in-Some.places taken.1)
    (take_places-there c.len-n.result (array_type c.args.ix.now) (array_items c.args.ix.now)
    c.requires.index
    (ap is_option (sym c.typ.ensures.typ) ∙ plain) c.len.ensures.items taken.0))

pub returns-in-Some : goal.returns-in-Some
returns-in-Some g c =
    let taken : AreTaken c.len-n.result c.args.ix.now (Some c.in-Some.places) =
    rw c.in-Some.is at c.in_ok-take_lane.ensures in
    record {
      answer =
          take-said c.args.x.now c.args.ix.now c.in-Some.places (typ_of c.typ.result.now)
          c.len-n.result c.len.result c.pick.result
          c.typ.ensures.typ (c.len-n.ensures.len ∙ sym (length-array_items c.args.x.now))
          taken.1 taken.0 (c.len.ensures.len ∙ sym (length-array_items c.args.ix.now))
          (omega (arith, c.if-len-gt-ITEM_LIMIT.false)) c.pick.ensures.answer;
    }
