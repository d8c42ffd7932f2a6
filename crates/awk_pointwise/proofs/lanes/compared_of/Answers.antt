use Rattle.std.proofs.Common.{◌≡◌, rules}
use Rattle.awk_lanes.specs.declared.kind.Kind.TheVariants as kind
use Rattle.awk_pointwise.proofs.LaneLaws.{compared_two}
use Rattle.awk_pointwise.proofs.lanes.compared_of.Goals as goal

pub returns : goal.returns
returns g c =
    let how = c.args.how in
    let a = c.args.a.now in
    let b = c.args.b.now in
    let other : a.kind ≡ kind.Bool → ⊥ = search rules in
    let kinds : b.kind ≡ a.kind = search rules in
    compared_two how a b c.in_ok-lane.lane other kinds c.in_ok-lane.ensures
