use Rattle.std.proofs.Common.{◌∙◌, ap₂, rules, w32}
use Rattle.std.specs.Prelude.{FitsSigned}
use Rattle.std.specs.Int.{int_div_euclid}
use Rattle.std.proofs.lemmas.Int.{to_z-of_z}
use Rattle.awk_lane_pairs.proofs.QuotientLaws.{floor_pos}
use Rattle.awk_lane_pairs.proofs.quotient.divided.Goals as goal

pub returns : goal.returns
returns c =
    let q = c.div_euclid.result in
    let fits : FitsSigned w32 q = search rules in
    to_z-of_z w32 q fits ∙ c.div_euclid.ensures
    ∙ ap₂ int_div_euclid (to_z-of_z w32 c.args.x c.ranges.x) (to_z-of_z w32 c.args.y c.ranges.y)
    ∙ floor_pos c.args.x c.args.y c.requires
