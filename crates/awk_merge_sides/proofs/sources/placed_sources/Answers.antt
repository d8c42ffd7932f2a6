-- From the last part to the first.
use Rattle.std.proofs.Common.{◌+◌, ◌-◌, arith}
use Rattle.awk_unify.specs.View.{lifts_of}
use Rattle.awk_merge_sides.proofs.LiftLaws.{sources_back, sources_end, sources_start}
use Rattle.awk_merge_sides.proofs.sources.placed_sources.Goals as goal

pub loop-i-init : goal.loop-i-init
loop-i-init c =
    sources_start c.args.n (c.min-many.result - 0) c.args.places.now (lifts_of c.args.parts.now)
    c.in_ok-sources.sources.items
    (omega (arith, c.min-many.ensures, c.len.ensures, c.len-2.ensures)) c.in_ok-sources.ensures

pub loop-i-preserved : goal.loop-i-preserved
loop-i-preserved c =
    sources_back c.args.n (c.min-many.result - 1 - c.loop-i.i) (c.min-many.result - c.loop-i.i)
    (c.min-many.result - (c.loop-i.i + 1)) c.get.result c.args.places.now
    (lifts_of c.args.parts.now) c.loop-i.sources.items c.put_source.new.sources.items
    (omega (arith, c.loop-i-test.true)) (omega (arith, c.loop-i-test.true)) c.get.ensures
    (omega (arith, c.loop-i-test.true, c.min-many.ensures, c.len-2.ensures))
    c.put_source.ensures.long c.put_source.ensures.put c.loop-i.invariant

pub returns : goal.returns
returns c =
    sources_end c.args.n _ c.args.places.now (lifts_of c.args.parts.now) c.loop-i.sources.items
    (omega (arith, c.loop-i-test.false, c.loop-i.auto.i-end)) c.loop-i.invariant
