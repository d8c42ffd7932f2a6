use Rattle.std.proofs.Common.{◌≡◌, ◌++◌, ◌∙◌, ap, sym, subst, map, pos, arith}
use Rattle.awk_lanes.specs.Places.{place_at}
use Rattle.awk_sorting.specs.Cells.{cells_of_part}
use Rattle.awk_sorting.specs.Order.{order}
use Rattle.awk_sorting.proofs.CellLaws.{AreOrdered, ordered_more, ordered_lane}
use Rattle.awk_sorting.proofs.PartLaws.{part_before}
use Rattle.awk_sorting.proofs.places.places_by.Goals as goal

pub loop-i-preserved : goal.loop-i-preserved
loop-i-preserved g c =
    let r = c.args.ranks.now in
    let o = c.args.offsets.now in
    let i = c.loop-i.i in
    let lane = g.R.Row.lane r.row.now in
    let index = g.R.Row.index r.row.now in
    let was = c.loop-i.maker.items in
    let now = c.push_order.new.maker.items in
    let made : now ≡ was ++ map pos (order r.up (cells_of_part lane index o i)) =
    rw (← c.offset_at-start.ensures, ← c.offset_at-stop.ensures) c.in_ok-push_order.ensures.items in
    record {
      kind = c.in_ok-push_order.ensures.kind;
      room = c.in_ok-push_order.ensures.room ∙ c.loop-i.invariant.room;
      items = ordered_more r.up lane index o i was now
          (part_before o c.args.n (place_at o c.args.n) i c.requires.ready.rising (omega arith))
          (c.requires.ready.rising.ordered i (omega arith)) c.loop-i.invariant.items made;
    }

pub returns : goal.returns
returns g c =
    let r = c.args.ranks.now in
    let o = c.args.offsets.now in
    let lane = g.R.Row.lane r.row.now in
    let index = g.R.Row.index r.row.now in
    let end : c.loop-i.i ≡ c.args.n = omega arith in
    ordered_lane r.up lane index o c.args.n c.finish.result
    (ap (λ x. x.kind) c.finish.ensures)
    (subst (AreOrdered r.up lane index o c.args.n) (sym (ap (λ x. x.items) c.finish.ensures))
    (subst (λ m. AreOrdered r.up lane index o m c.loop-i.maker.items) end
    c.loop-i.invariant.items))
