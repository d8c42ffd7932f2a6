use Rattle.std.proofs.Common.{map, sym, ap₂, ◌∙◌, arith}
use Rattle.std.specs.Prelude.{pos}
use Rattle.std.specs.Int.{from_bool}
use Rattle.std.proofs.lemmas.List.{drop-map, length-map}
use Rattle.awk_kernels.specs.Operations.{holds}
use Rattle.awk_kernels.specs.Kernels.{compared}
use Rattle.awk_kernels.proofs.PlaceLaws.{length-compared-nat}
use Rattle.awk_simd.proofs.Rests.{rest_is, all_made, zip2-drop}
use Rattle.awk_simd.proofs.rest.compare_nat.Goals as goal

pub returns : goal.returns
returns c =
    let a = c.args.a.now in
    let b = c.args.b.now in
    let n = c.args.made in
    let how = c.args.how in
    let size = length-compared-nat how a b c.requires.b in
    all_made (compared how (map pos a) (map pos b)) c.args.out.now c.compare_u64.new.out n 0
    (omega (arith, size, c.requires.within)) (omega (arith, size, c.requires.out)) c.requires.made
    (c.compare_u64.ensures
    ∙ ap₂ (λ s t. compared how (map pos s) (map pos t)) (rest_is n a) (rest_is n b)
    ∙ ap₂ (compared how) (sym (drop-map pos n a)) (sym (drop-map pos n b))
    ∙ zip2-drop (λ x y. from_bool (holds how x y)) n (map pos a) (map pos b)
    (length-map b pos ∙ c.requires.b ∙ sym (length-map a pos)))
