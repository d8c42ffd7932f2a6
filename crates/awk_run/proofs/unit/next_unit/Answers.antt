use Rattle.awk_framing.specs.Framing.{session_framing}
use Rattle.awk_units.proofs.UnitParts.{takes_both, takes_line_alone}
use Rattle.awk_run.proofs.unit.next_unit.Goals as goal

pub returns-in-Ok-raw-clause-unit : goal.returns-in-Ok-raw-clause-unit
returns-in-Ok-raw-clause-unit g c =
    let n = rw c.in-Ok-Some.field-0-is at c.in-Ok-Some.ensures.line in
    let needs = rw c.deref.ensures.value at c.in-Ok.ensures in
    takes_both session_framing c.args.engine.now.reading g.S.Source.left g.S.Source.gave
    c.in-Ok-Some.line c.in-Ok-raw.raw n needs.0 needs.1 c.in-Ok-raw.ensures.bytes
    c.in-Ok-raw.ensures.ended

pub returns-in-Err-raw-clause-unit : goal.returns-in-Err-raw-clause-unit
returns-in-Err-raw-clause-unit g c =
    let n = rw c.in-Ok-Some.field-0-is at c.in-Ok-Some.ensures.line in
    let needs = rw c.deref.ensures.value at c.in-Ok.ensures in
    takes_line_alone session_framing c.args.engine.now.reading g.S.Source.left g.S.Source.gave
    g.S.Source.is_ended c.in-Ok-Some.line c.in-Err-raw.fault n needs.0 needs.1
    c.in-Err-raw.ensures.bytes
    (λ e. let z = (c.in-Ok-Some.ensures.ended e).0 in
    absurd (cc)) c.in-Ok-Some.ensures.told (λ e. (c.in-Err-raw.ensures.ended e).1)
    c.in-Err-raw.ensures.failed
