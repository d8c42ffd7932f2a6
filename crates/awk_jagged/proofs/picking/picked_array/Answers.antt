use Rattle.std.specs.Prelude.{Ok}
use Rattle.std.proofs.Common.{◌≡◌}
use Rattle.awk_types.specs.Faults.{fault_told}
use Rattle.awk_types.specs.Gives.{Told}
use Rattle.awk_layout.specs.Typing.{array_type, array_items}
use Rattle.awk_jagged.specs.Judged.{judged_pick}
use Rattle.awk_jagged.proofs.FinalLaws.{are-judged, whole-judged, types-fault}
use Rattle.awk_jagged.proofs.picking.picked_array.Goals as goal

pub returns-in-Err : goal.returns-in-Err
returns-in-Err g c =
    let h : Told (fault_told c.in-Err.why)
    (judged_pick (array_type c.args.ix.now) (array_type c.args.x.now)) =
    rw (c.in-Err.is, c.typ.ensures.typ, c.typ-2.ensures.typ) at c.judged.ensures in
    types-fault (array_type c.args.ix.now) (array_type c.args.x.now) (array_items c.args.x.now)
    (array_items c.args.ix.now) (fault_told c.in-Err.why) h

pub answer_of-requires-clause-judged : goal.answer_of-requires-clause-judged
answer_of-requires-clause-judged g c =
    let e : judged_pick (array_type c.args.ix.now) (array_type c.args.x.now) ≡ Ok (tt {0}) =
    rw (c.in_default.is, c.typ.ensures.typ, c.typ-2.ensures.typ) at c.judged.ensures in
    whole-judged c.args.x.now c.args.ix.now c.in_ok-xs.xs c.in_ok-ws.ws c.in_ok-xs.ensures
    c.in_ok-ws.ensures (are-judged (array_type c.args.ix.now) (array_type c.args.x.now) e)
