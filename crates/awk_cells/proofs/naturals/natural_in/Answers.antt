use Rattle.std.proofs.Common.{◌<◌, ◌≤◌, map, length, arith}
use Rattle.std.specs.Prelude.{pos}
use Rattle.std.proofs.lemmas.List.{length-map}
use Rattle.awk_lanes.specs.Numbers.{number}
use Rattle.awk_lanes.specs.declared.kind.Kind.TheVariants as Kind
use Rattle.awk_numbers.proofs.ExtremeLaws.{first_alone}
use Rattle.awk_cells.proofs.ExtremeLaws.{number_more}
use Rattle.awk_cells.proofs.ExtremeParts.{extreme_read}
use Rattle.awk_cells.proofs.naturals.natural_in.Goals as goal

pub loop-i-init : goal.loop-i-init
loop-i-init g c =
    let gs = c.args.groups.now in
    let zs = map (number Kind.U64) gs in
    let some : 0 < length zs = omega (arith, c.requires.some, length-map gs (number Kind.U64)) in (
      0,
      first_alone g.S.Side.how zs (pos c.natural_at-best.result) some c.natural_at-best.ensures,
    )

pub loop-i-preserved : goal.loop-i-preserved
loop-i-preserved g c =
    let how = g.S.Side.how in
    let gs = c.args.groups.now in
    let zs = map (number Kind.U64) gs in
    let i = c.loop-i.i in
    let inside : i < length zs =
    omega (arith, c.loop-i-test.true, length-map gs (number Kind.U64)) in
    number_more how zs i (pos c.loop-i.best) (pos c.natural_at.result) (pos c.better-best.result)
    c.better-best.ensures inside c.natural_at.ensures c.loop-i.invariant

pub returns : goal.returns
returns g c =
    let gs = c.args.groups.now in
    let zs = map (number Kind.U64) gs in
    let end : length zs ≤ c.loop-i.i =
    omega (arith, c.loop-i-test.false, length-map gs (number Kind.U64)) in
    extreme_read g.S.Side.how zs c.loop-i.i (pos c.loop-i.best) end c.loop-i.invariant
