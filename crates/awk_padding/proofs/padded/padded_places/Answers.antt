-- One list has its places in order, and -1 past its end.
use Rattle.std.proofs.Common.{◌≡◌, arith, subst}
use Rattle.std.specs.Prelude.{IfOk}
use Rattle.awk_lanes.specs.Places.{size_of}
use Rattle.awk_padding.proofs.PadGiven.{padded-one}
use Rattle.awk_padding.proofs.padded.padded_places.Goals as goal

pub span_of-span-requires : goal.span_of-span-requires
span_of-span-requires g c = omega (arith, c.if-n-eq1.true, c.len-n.ensures.len)

pub returns-then-n-eq1 : goal.returns-then-n-eq1
returns-then-n-eq1 g c =
    let p = c.args.padded.now.padding in
    let l = c.args.padded.now.lists.now in
    let one : size_of l.starts ≡ 1 = omega (arith, c.if-n-eq1.true, c.len-n.ensures.len) in
    subst (λ v. IfOk c.run_lane.result (λ r. r ≡ v))
    (padded-one p.size p.clip l.starts l.stops c.args.total c.span_of-span.result.start
    c.span_of-span.result.length one c.requires c.span_of-span.ensures.start
    c.span_of-span.ensures.length)
    c.run_lane.ensures

pub places_of-requires-clause-total : goal.places_of-requires-clause-total
places_of-requires-clause-total g c = rw c.len-n.ensures.len c.requires

pub returns : goal.returns
returns g c = rw (← c.len-n.ensures.len) c.places_of.ensures
