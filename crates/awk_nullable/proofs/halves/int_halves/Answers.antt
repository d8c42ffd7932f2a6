use Rattle.std.proofs.Common.{◌≡◌, ◌<◌, ◌≤◌, ◌%◌, ap, ap₂, sym, ◌∙◌, subst, arith}
use Rattle.std.specs.Prelude.{pos, ◌+ℤ◌, ◌*ℤ◌, FitsSigned, bit_and, unsigned_abs}
use Rattle.std.specs.Int.{int_shr, w64, cast_signed as to_z, cast_unsigned as of_z}
use Rattle.std.proofs.lemmas.Int.{to_z-of_z, to_z_pos}
use Rattle.std.proofs.lemmas.Nat.{and_mask}
use Rattle.awk_nullable.proofs.HalvesLaws.{halves_whole, high_near, near_fits}
use Rattle.awk_nullable.proofs.halves.int_halves.Goals as goal

pub returns : goal.returns
returns c =
    let z = c.args.z in
    let n = of_z w64 z in
    let fits : FitsSigned w64 z = c.ranges.z in
    let k = int_shr z 32 in
    let m = n % 4294967296 in
    let near : unsigned_abs k ≤ 4294967296 = high_near z fits in
    let high : to_z w64 (of_z w64 (int_shr (to_z w64 (of_z w64 z)) 32)) ≡ k =
    ap (λ y. to_z w64 (of_z w64 (int_shr y 32))) (to_z-of_z w64 z fits)
    ∙ to_z-of_z w64 k (near_fits k near) in
    let mask : bit_and n 4294967295 ≡ m = and_mask n 32 in
    let small : m < 9223372036854775808 = omega arith in
    let few : m ≤ 4294967296 = omega arith in
    let low : to_z w64 (bit_and n 4294967295) ≡ pos m = ap (to_z w64) mask ∙ to_z_pos w64 m small in
    record {
      whole = ap₂ (λ a b. a +ℤ b *ℤ pos 4294967296) low high ∙ halves_whole z fits;
      high = subst (λ y. unsigned_abs y ≤ 4294967296) (sym high) near;
      low = subst (λ y. unsigned_abs y ≤ 4294967296) (sym low) few;
    }
