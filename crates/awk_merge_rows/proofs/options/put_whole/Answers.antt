use Rattle.std.proofs.Common.{◌+◌, ◌<◌, arith, ap, ◌∙◌}
use Rattle.std.specs.Prelude.{◌^◌}
use Rattle.awk_layout.specs.Valid.{len}
use Rattle.awk_unify.specs.View.{lift_of}
use Rattle.awk_lanes.specs.Making.{with_items}
use Rattle.awk_merge_rows.specs.Present.{places_on}
use Rattle.awk_merge_sides.specs.Sides.{sides_of, with_side}
use Rattle.awk_merge_rows.proofs.OptionLaws.{pushed_room, whole_put}
use Rattle.awk_merge_rows.proofs.options.put_whole.Goals as goal

pub put_places-requires-clause-small : goal.put_places-requires-clause-small
put_places-requires-clause-small c =
    let room : c.total-first.result + len c.in_ok-copy.field-0 < 2 ^ 63 =
    pushed_room (sides_of c.args.present.now) (sides_of c.push.new.self) c.push.new.self.total
    c.total-first.result c.in_ok-copy.field-0 (lift_of c.args.side.now.lift)
    c.in_ok-push.ensures.sides (c.total-first.ensures ∙ c.requires.counted.total)
    c.in_ok-push.ensures.counted.total c.in_ok-push.ensures.counted.fits in
    omega (arith, room, c.len-n.ensures.len, ap len c.in_ok-copy.ensures)

pub returns-clause-put : goal.returns-clause-put
returns-clause-put c =
    whole_put c.args.side.now.column (lift_of c.args.side.now.lift) (sides_of c.args.present.now)
    (sides_of c.push.new.self) c.args.maker.now c.put_places.new.maker c.total-first.result
    c.requires.whole
    (c.in_ok-push.ensures.sides
    ∙ ap (λ x. with_side (sides_of c.args.present.now) x (lift_of c.args.side.now.lift))
    c.in_ok-copy.ensures)
    (c.total-first.ensures ∙ c.requires.counted.total)
    (c.put_places.ensures
    ∙ ap (λ n. with_items c.args.maker.now (places_on c.total-first.result n)) c.len-n.ensures.len)
