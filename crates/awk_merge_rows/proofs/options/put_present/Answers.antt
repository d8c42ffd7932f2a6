use Rattle.std.proofs.Common.{◌+◌, ◌<◌, arith, ◌∙◌}
use Rattle.std.specs.Prelude.{◌^◌}
use Rattle.awk_layout.specs.Valid.{len}
use Rattle.awk_unify.specs.View.{lift_of}
use Rattle.awk_merge_sides.specs.Sides.{sides_of}
use Rattle.awk_merge_rows.proofs.OptionLaws.{index_more, pushed_room, present_put}
use Rattle.awk_merge_rows.proofs.options.put_present.Goals as goal

pub put_index-requires-clause-places : goal.put_index-requires-clause-places
put_index-requires-clause-places g c =
    let room : c.total-first.result + len c.args.content < 2 ^ 63 =
    pushed_room (sides_of c.args.present.now) (sides_of c.push.new.self) c.push.new.self.total
    c.total-first.result c.args.content (lift_of c.args.side.now.lift) c.in_ok-push.ensures.sides
    (c.total-first.ensures ∙ c.requires.counted.total) c.in_ok-push.ensures.counted.total
    c.in_ok-push.ensures.counted.fits in
    index_more c.args.index.now (len c.args.content) _ (omega (arith, room)) c.requires.opens.index

pub returns-clause-put : goal.returns-clause-put
returns-clause-put g c =
    present_put c.args.side.now.column c.args.content (lift_of c.args.side.now.lift)
    c.args.index.now (sides_of c.args.present.now) (sides_of c.push.new.self) c.args.maker.now
    c.put_index.new.maker c.total-first.result c.requires.simple c.requires.opens
    c.in_ok-push.ensures.sides (c.total-first.ensures ∙ c.requires.counted.total)
    c.put_index.ensures
