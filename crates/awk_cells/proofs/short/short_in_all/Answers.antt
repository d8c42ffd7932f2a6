use Rattle.std.proofs.Common.{◌≡◌, ◌-◌, ◌*◌, ◌/◌, ◌≤◌, ◌++◌, map, take, drop, length, ap, ap₂}
use Rattle.std.proofs.Common.{sym, ◌∙◌, subst, arith, rules}
use Rattle.std.specs.Prelude.{FitsSigned}
use Rattle.std.specs.Int.{w32, cast_signed as to_z, cast_unsigned as of_z}
use Rattle.std.specs.List.{flat_map}
use Rattle.std.proofs.lemmas.Int.{to_z-of_z}
use Rattle.std.proofs.lemmas.List.{take-map, drop-map, length-map}
use Rattle.awk_cells.specs.Extremes.{IsExtreme}
use Rattle.awk_cells.proofs.ExtremeParts.{extreme_found, extreme_parts}
use Rattle.awk_cells.proofs.short.short_in_all.Goals as goal

pub returns-then-not-has_blocks : goal.returns-then-not-has_blocks
returns-then-not-has_blocks g c =
    let how = g.S.Side.how in
    let zs = map g.C.Cell.number c.args.groups.now in
    let y = c.short_in.result in
    let fits : FitsSigned w32 y = search rules in
    to_z-of_z w32 y fits ∙ extreme_found how zs y c.short_in.ensures

pub returns : goal.returns
returns g c =
    let how = g.S.Side.how in
    let f = g.C.Cell.number in
    let gs = c.args.groups.now in
    let zs = map f gs in
    let n = length gs / 8 * 8 in
    let m = length gs - 8 in
    let front = flat_map (λ b. b) c.eights_of.result.0.now in
    let last = c.eights_of.result.1.now in
    let x = c.short_in-2.result in
    let y = c.short_in_blocks.result in
    let one : FitsSigned w32 x = search rules in
    let fits : FitsSigned w32 y = search rules in
    let of_last : IsExtreme how (map f last) (to_z w32 (of_z w32 x)) =
    subst (IsExtreme how (map f last)) (sym (to_z-of_z w32 x one)) c.short_in-2.ensures in
    let same : map f last ++ map f front ≡ drop m zs ++ take n zs =
    ap₂ (λ us vs. us ++ vs)
    (ap (map f) c.eights_of.ensures.last ∙ sym (drop-map f m gs))
    (ap (map f) c.eights_of.ensures.front ∙ sym (take-map f n gs)) in
    let parts : IsExtreme how (drop m zs ++ take n zs) y =
    subst (λ us. IsExtreme how us y) same (c.short_in_blocks.ensures (map f last) of_last) in
    let over : m ≤ n = omega arith in
    let within : n ≤ length zs = omega (arith, length-map gs f) in
    to_z-of_z w32 y fits
    ∙ extreme_found how zs y (extreme_parts how zs n m over within y parts)
