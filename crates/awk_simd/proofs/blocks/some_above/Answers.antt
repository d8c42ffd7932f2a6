use Rattle.std.proofs.Common.{get_or, arith, w64}
use Rattle.std.specs.Prelude.{pos, int_lt, FitsSigned}
use Rattle.std.specs.Int.{cast_signed as to_z, cast_unsigned as of_z}
use Rattle.std.proofs.lemmas.Int.{to_z-of_z}
use Rattle.awk_simd.proofs.Masks.{none_set_left, zero_from}
use Rattle.awk_simd.proofs.blocks.some_above.Goals as goal

pub returns : goal.returns
returns c = λ h k p q.
    let fx : FitsSigned w64 (get_or c.args.xs.now k (pos 0)) = c.requires.known k
    (omega (arith, c.requires.room)) in
    let e = none_set_left (λ a b. int_lt (to_z w64 a) (to_z w64 b))
    (of_z w64 c.args.bound) c.args.xs.now c.args.at c.requires.room (zero_from _ h) k p q in
    simp (
      to_z-of_z w64
          (get_or c.args.xs.now k (pos 0)) fx,
      to_z-of_z w64 c.args.bound c.ranges.bound,
    ) at e
