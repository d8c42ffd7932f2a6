use Rattle.std.proofs.Common.{◌≡◌, ◌<◌, ◌%◌, ap, ◌∙◌, arith, rules}
use Rattle.std.specs.Prelude.{FitsSigned, bit_and, unsigned_abs}
use Rattle.std.specs.Int.{w64, cast_signed as to_z, cast_unsigned as of_z}
use Rattle.std.proofs.lemmas.Int.{to_z_pos}
use Rattle.std.proofs.lemmas.Nat.{and_mask}
use Rattle.awk_cells.proofs.PackedLaws.{place_held}
use Rattle.awk_cells.proofs.short_places.place_in.Goals as goal

pub returns : goal.returns
returns c z p l e =
    let q = c.args.packed in
    let n = of_z w64 q in
    let fits : FitsSigned w64 q = search rules in
    let low : bit_and n 4294967295 ≡ n % 4294967296 = and_mask n 32 in
    let small : n % 4294967296 < 9223372036854775808 = omega arith in
    ap (λ k. unsigned_abs (to_z w64 k)) low
    ∙ ap unsigned_abs (to_z_pos w64 (n % 4294967296) small)
    ∙ place_held q z p fits l e
