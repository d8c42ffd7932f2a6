use Rattle.std.proofs.Common.{ap₂, ◌∙◌, arith}
use Rattle.std.specs.Int.{from_bool}
use Rattle.awk_kernels.specs.Operations.{holds}
use Rattle.awk_kernels.specs.Kernels.{compared}
use Rattle.awk_kernels.proofs.PlaceLaws.{length-compared}
use Rattle.awk_simd.proofs.Rests.{rest_is, all_made, zip2-drop}
use Rattle.awk_simd.proofs.rest.compare.Goals as goal

pub returns : goal.returns
returns c =
    let a = c.args.a.now in
    let b = c.args.b.now in
    let n = c.args.made in
    let size = length-compared c.args.how a b c.requires.b in
    all_made (compared c.args.how a b) c.args.out.now c.compare_i64.new.out n 0
    (omega (arith, size, c.requires.within)) (omega (arith, size, c.requires.out)) c.requires.made
    (c.compare_i64.ensures ∙ ap₂ (compared c.args.how) (rest_is n a) (rest_is n b)
    ∙ zip2-drop (λ x y. from_bool (holds c.args.how x y)) n a b c.requires.b)
