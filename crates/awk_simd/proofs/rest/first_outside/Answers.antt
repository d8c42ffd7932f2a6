use Rattle.std.proofs.Common.{◌+◌, sym, ap, ◌∙◌, w64}
use Rattle.std.specs.Prelude.{pos, position}
use Rattle.std.specs.Option.{option_map}
use Rattle.std.proofs.lemmas.Int.{to_z-of_z}
use Rattle.awk_kernels.specs.Kernels.{is_outside}
use Rattle.awk_simd.proofs.Rests.{rest_is, position_later}
use Rattle.awk_simd.proofs.rest.first_outside.Goals as goal

pub returns-in-Some : goal.returns-in-Some
returns-in-Some c =
    let xs = c.args.xs.now in
    let n = c.args.passed in
    let test = is_outside c.args.lo c.args.hi in
    let e = rw
    (to_z-of_z w64 c.args.lo c.ranges.lo, to_z-of_z w64 c.args.hi c.ranges.hi)
    at c.first_outside.ensures in
    ap (option_map (λ i. n + i)) (sym c.in-Some.is ∙ e ∙ ap (position test) (rest_is n xs))
    ∙ sym (position_later test xs n (pos 0) c.requires.within c.requires.passed)

pub returns-in-None : goal.returns-in-None
returns-in-None c =
    let xs = c.args.xs.now in
    let n = c.args.passed in
    let test = is_outside c.args.lo c.args.hi in
    let e = rw
    (to_z-of_z w64 c.args.lo c.ranges.lo, to_z-of_z w64 c.args.hi c.ranges.hi)
    at c.first_outside.ensures in
    ap (option_map (λ i. n + i)) (sym c.in-None.is ∙ e ∙ ap (position test) (rest_is n xs))
    ∙ sym (position_later test xs n (pos 0) c.requires.within c.requires.passed)
