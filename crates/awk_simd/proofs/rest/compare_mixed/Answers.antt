use Rattle.std.proofs.Common.{map, sym, ap, ap₂, ◌∙◌, arith, drop}
use Rattle.std.specs.Prelude.{pos}
use Rattle.std.specs.Int.{from_bool}
use Rattle.std.proofs.lemmas.List.{drop-map, length-map}
use Rattle.awk_kernels.specs.Operations.{holds}
use Rattle.awk_kernels.specs.Kernels.{compared}
use Rattle.awk_kernels.proofs.PlaceLaws.{length-compared-mixed}
use Rattle.awk_simd.proofs.Rests.{rest_is, all_made, zip2-drop}
use Rattle.awk_simd.proofs.rest.compare_mixed.Goals as goal

pub returns : goal.returns
returns c =
    let a = c.args.a.now in
    let b = c.args.b.now in
    let n = c.args.made in
    let how = c.args.how in
    let size = length-compared-mixed how a b c.requires.b in
    all_made (compared how a (map pos b)) c.args.out.now c.compare_mixed.new.out n 0
    (omega (arith, size, c.requires.within)) (omega (arith, size, c.requires.out)) c.requires.made
    (c.compare_mixed.ensures
    ∙ ap₂ (λ s t. compared how s (map pos t)) (rest_is n a) (rest_is n b)
    ∙ ap (compared how (drop n a)) (sym (drop-map pos n b))
    ∙ zip2-drop (λ x y. from_bool (holds how x y)) n a (map pos b)
    (length-map b pos ∙ c.requires.b))
