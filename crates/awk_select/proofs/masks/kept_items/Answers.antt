use Rattle.std.proofs.Common.{arith, ap, sym, ◌∙◌}
use Rattle.awk_types.specs.Simple.{is_option}
use Rattle.awk_types.specs.View.{typ_of}
use Rattle.awk_layout.specs.Typing.{array_type, array_items}
use Rattle.awk_layout.specs.Valid.{len}
use Rattle.awk_layout.proofs.ArrayItems.{length-array_items}
use Rattle.awk_select.specs.Picks.{mask_places}
use Rattle.awk_select.proofs.PickAnswers.{mask-said}
use Rattle.awk_select.proofs.PickedPlaces.{optional-lane, index-lane, mask_places-below}
use Rattle.awk_select.proofs.PickedPlaces.{mask_places-there}
use Rattle.awk_select.proofs.masks.kept_items.Goals as goal

pub pick-requires-clause-places : goal.pick-requires-clause-places
pick-requires-clause-places g c =
    optional-lane (len c.args.x.now) (mask_places (array_items c.args.m.now)) c.in_ok-places.places
    c.in_ok-places.ensures.lane
    (mask_places-below (len c.args.x.now) (array_items c.args.m.now)
    (length-array_items c.args.m.now ∙ sym c.requires.lengths))

pub pick-requires-clause-present : goal.pick-requires-clause-present
pick-requires-clause-present g c = λ plain.
    index-lane (len c.args.x.now) (mask_places (array_items c.args.m.now)) c.in_ok-places.places
    c.in_ok-places.ensures.lane
    (mask_places-there (len c.args.x.now) (array_type c.args.m.now) (array_items c.args.m.now)
    (length-array_items c.args.m.now ∙ sym c.requires.lengths) c.requires.mask
    (ap is_option (sym c.typ.ensures.typ) ∙ plain) c.len.ensures.items)

pub returns : goal.returns
returns g c = record {
  answer =
      mask-said c.args.x.now c.args.m.now c.in_ok-places.places (typ_of c.typ.result.now)
      c.count-n.result c.pick.result
      c.typ.ensures.typ c.in_ok-places.ensures.lane c.count-n.ensures
      (omega (arith, c.if-n-gt-ITEM_LIMIT.false)) c.pick.ensures.answer;
}
