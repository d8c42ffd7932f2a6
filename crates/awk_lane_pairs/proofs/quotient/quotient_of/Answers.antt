use Rattle.std.proofs.Common.{sym, subst, w32}
use Rattle.std.specs.Prelude.{pos, ◌≤ℤ◌}
use Rattle.std.proofs.lemmas.Int.{to_z-of_z}
use Rattle.awk_lane_pairs.proofs.quotient.quotient_of.Goals as goal

pub divided-requires : goal.divided-requires
divided-requires c =
    subst (λ y. pos 1 ≤ℤ y) (sym (to_z-of_z w32 c.args.y c.ranges.y)) c.requires
