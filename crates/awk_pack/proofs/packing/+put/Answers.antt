use Rattle.std.proofs.Common.{◌≡◌, true, Err, arith, rules}
use Rattle.awk_layout.specs.Typing.{array_type, array_items}
use Rattle.awk_pack.specs.Canon.{is_too_large}
use Rattle.awk_pack.proofs.LeftLaws.{left_next, left_below, left_large}
use Rattle.awk_pack.proofs.SizeLaws.{size_on}
use Rattle.awk_pack.proofs.packing.+put.Goals as goal

pub put_lanes-requires : goal.put_lanes-requires
put_lanes-requires g t c κs within =
    let below = left_below (array_type c.args.x.now) (array_items c.args.x.now) c.args.lanes.now
    c.loop-i.lanes c.in_ok-inner.inner c.loop-i.i c.get.result.now c.get.ensures
    c.loop-i.invariant in
    search rules

pub returns-in_err-put_lanes-clause-size : goal.returns-in_err-put_lanes-clause-size
returns-in_err-put_lanes-clause-size g t c =
    let e = c.in_err-put_lanes.field-0.0 in
    let failed : c.from_residual-in_err-put_lanes.result ≡ Err e = grind arith in
    size_on c.from_residual-in_err-put_lanes.result e
    (is_too_large (array_type c.get.result.now) (array_items c.get.result.now) ≡ true)
    (is_too_large (array_type c.args.x.now) (array_items c.args.x.now) ≡ true) failed
    c.in_err-put_lanes.ensures.size
    (λ large. left_large (array_type c.args.x.now) (array_items c.args.x.now) c.args.lanes.now
    c.loop-i.lanes c.in_ok-inner.inner c.loop-i.i c.get.result.now c.get.ensures c.loop-i.invariant
    large)

pub loop-i-preserved : goal.loop-i-preserved
loop-i-preserved g t c =
    left_next (array_type c.args.x.now) (array_items c.args.x.now) c.args.lanes.now c.loop-i.lanes
    c.put_lanes.new.lanes c.in_ok-inner.inner c.loop-i.i c.get.result.now c.get.ensures
    c.loop-i.invariant c.in_ok-put_lanes.ensures.put
