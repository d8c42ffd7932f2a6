-- The number at a place lies within the bytes, and is that of the view.
use Rattle.std.proofs.Common.{sym, ap, ◌∙◌, arith}
use Rattle.std.proofs.lemmas.Nat.{row_fits}
use Rattle.awk_lanes.specs.Column.{Column}
use Rattle.awk_lanes.specs.Numbers.{width, element}
use Rattle.awk_lanes.specs.Places.{at}
use Rattle.awk_lanes.proofs.NumberParts.{opened, get_or-numbers}
use Rattle.awk_lanes.proofs.byte_lane.ByteLane.at.Goals as goal

pub item-requires : goal.item-requires
item-requires g c =
    let o = opened _ _ _ _ c.self.view_is in
    let f = row_fits c.args.i (width c.self.inside.kind) c.self.inside.count
    (width c.self.inside.kind) (omega arith) (omega arith) in
    omega (arith, c.self.invariant.0)

pub returns-clause-number : goal.returns-clause-number
returns-clause-number g c =
    let o = opened _ _ _ _ c.self.view_is in
    c.item.ensures.number
    ∙ ap (element c.self.inside.kind) (sym (get_or-numbers c.self.inside.kind c.self.inside.count
    c.self.inside.bytes.now c.args.i (omega arith)))
    ∙ ap (λ (v : Column). at v c.args.i) c.self.view_is
