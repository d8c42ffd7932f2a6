use Rattle.std.proofs.Common.{◌≡◌, ◌+◌, ◌≤◌, ◌++◌, map, take, length, sym, subst, arith}
use Rattle.std.proofs.Common.{rules}
use Rattle.std.specs.Prelude.{FitsSigned}
use Rattle.std.specs.Int.{w32, cast_signed as to_z, cast_unsigned as of_z}
use Rattle.std.specs.List.{flat_map}
use Rattle.std.proofs.lemmas.Int.{to_z-of_z}
use Rattle.std.proofs.lemmas.List.{take_all}
use Rattle.awk_cells.specs.Extremes.{IsExtreme}
use Rattle.awk_cells.proofs.BlockLaws.{mapped_more}
use Rattle.awk_cells.proofs.ExtremeParts.{extreme_both}
use Rattle.awk_cells.proofs.short.short_in_blocks.Goals as goal

pub loop-i-preserved : goal.loop-i-preserved
loop-i-preserved g c =
    let how = g.S.Side.how in
    let f = g.C.Cell.number in
    let bs = c.args.blocks.now in
    let i = c.loop-i.i in
    let block = c.index-blocks-i.result in
    let front = map f (flat_map (λ b. b) (take i bs)) in
    let more = map f (flat_map (λ b. b) (take (i + 1) bs)) in
    let old = to_z w32 c.loop-i.best-bits in
    let next = c.short_in.result in
    let new = c.better-best.result in
    let here : FitsSigned w32 next = search rules in
    let fits : FitsSigned w32 new = search rules in
    let one : IsExtreme how (map f block) (to_z w32 (of_z w32 next)) =
    subst (IsExtreme how (map f block)) (sym (to_z-of_z w32 next here)) c.short_in.ensures in
    record {
      extreme = λ zs h.
          let whole : (zs ++ front) ++ map f block ≡ zs ++ more =
          mapped_more f zs bs i block c.loop-i-test.true c.index-blocks-i.is in
          let both : IsExtreme how ((zs ++ front) ++ map f block) new =
          extreme_both how (zs ++ front) (map f block) old (to_z w32 (of_z w32 next)) new
          c.better-best.ensures (c.loop-i.invariant.extreme zs h) one in
          subst (IsExtreme how (zs ++ more)) (sym (to_z-of_z w32 new fits))
          (subst (λ xs. IsExtreme how xs new) whole both);
    }

pub returns : goal.returns
returns g c = λ zs h.
    let how = g.S.Side.how in
    let bs = c.args.blocks.now in
    let i = c.loop-i.i in
    let best = to_z w32 c.loop-i.best-bits in
    let first : IsExtreme how zs (to_z w32 (of_z w32 c.args.first)) =
    subst (IsExtreme how zs) (sym (to_z-of_z w32 c.args.first c.ranges.first)) h in
    let end : length bs ≤ i = omega (arith, c.loop-i-test.false) in
    subst (λ ks. IsExtreme how (zs ++ map g.C.Cell.number (flat_map (λ b. b) ks)) best)
    (take_all i bs end) (c.loop-i.invariant.extreme zs first)
