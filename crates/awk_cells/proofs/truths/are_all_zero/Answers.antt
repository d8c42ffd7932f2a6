use Rattle.std.proofs.Common.{◌<◌, ◌≤◌, length, map, ap, ◌∙◌, arith}
use Rattle.std.specs.Prelude.{pos, not}
use Rattle.std.specs.List.{list_any}
use Rattle.std.proofs.lemmas.List.{length-map, take_all}
use Rattle.awk_lanes.specs.Numbers.{is_nonzero}
use Rattle.awk_cells.proofs.TruthLaws.{none_more}
use Rattle.awk_cells.proofs.truths.are_all_zero.Goals as goal

pub loop-i-preserved : goal.loop-i-preserved
loop-i-preserved g c =
    let f = g.C.Cell.number in
    let gs = c.args.groups.now in
    let i = c.loop-i.i in
    let inside : i < length (map f gs) = omega (arith, c.loop-i-test.true, length-map gs f) in
    record {
      so_far = none_more is_nonzero (map f gs) i (pos 0) inside c.both-zero.ensures
          c.loop-i.invariant.so_far c.is_zero_at.ensures;
    }

pub returns : goal.returns
returns g c =
    let f = g.C.Cell.number in
    let gs = c.args.groups.now in
    let end : length (map f gs) ≤ c.loop-i.i =
    omega (arith, c.loop-i-test.false, length-map gs f) in
    c.loop-i.invariant.so_far
    ∙ ap (λ zs. not (list_any is_nonzero zs)) (take_all c.loop-i.i (map f gs) end)
