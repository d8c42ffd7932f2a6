use Rattle.std.proofs.Common.{◌-◌, ◌+◌, ◌<◌, ◌≤◌, length, get_or, arith, sym, ap, ap₂, ◌∙◌, w64}
use Rattle.std.specs.Prelude.{pos, int_lt}
use Rattle.std.specs.Int.{cast_signed as to_z}
use Rattle.std.proofs.lemmas.Int.{to_z-of_z}
use Rattle.awk_simd.proofs.Masks.{loaded, length-loaded, zero_from}
use Rattle.awk_simd.proofs.Lanes.{below, no_mark, lane_at}
use Rattle.awk_simd.proofs.blocks.some_less.Goals as goal

pub returns : goal.returns
returns c = λ h k p q.
    let at = c.args.at in
    let xs = c.args.xs.now in
    let ys = c.args.ys.now in
    let x = get_or xs k (pos 0) in
    let y = get_or ys k (pos 0) in
    let rx = c.requires.room in
    let ry : at + 8 ≤ length ys = omega (arith, rx, c.requires.ys) in
    let j : k - at < 8 = omega arith in
    let fx = to_z-of_z w64 x (c.requires.known_x k (omega (arith, rx))) in
    let fy = to_z-of_z w64 y (c.requires.known_y k (omega (arith, ry))) in
    ap₂ int_lt (sym (ap (to_z w64) (lane_at ys at k ry p q) ∙ fy))
    (sym (ap (to_z w64) (lane_at xs at k rx p q) ∙ fx))
    ∙ no_mark below (loaded at ys) (loaded at xs) (k - at) (length-loaded at ys ry)
    (length-loaded at xs rx) j (zero_from _ h)
