-- The number at a place lies within the bytes, and is that of the view.
use Rattle.std.proofs.Common.{rules, FitsSigned, w64, sym, ap, ◌∙◌, drop, ◌*◌, arith}
use Rattle.std.proofs.lemmas.Int.{to_z-of_z}
use Rattle.awk_lanes.specs.Column.{Column}
use Rattle.awk_lanes.specs.Numbers.{width, element, number}
use Rattle.awk_lanes.specs.Places.{at}
use Rattle.awk_lanes.proofs.NumberParts.{opened, get_or-numbers}
use Rattle.awk_lanes.proofs.byte_lane.ByteLane.wide_at.Goals as goal

pub wide_item-requires : goal.wide_item-requires
wide_item-requires g c =
    let o = opened _ _ _ _ c.self.view_is in
    let k = ap width (o.kind ∙ c.requires.kind) in
    let size = ap (λ w. c.self.inside.count * w) (sym k) ∙ c.self.invariant.0 in
    omega (arith, size, o.count, c.requires.within)

pub returns-clause-value : goal.returns-clause-value
returns-clause-value g c =
    let o = opened _ _ _ _ c.self.view_is in
    let e = o.kind ∙ c.requires.kind in
    let f : FitsSigned w64 c.wide_item.result = search rules in
    to_z-of_z w64 c.wide_item.result f ∙ c.wide_item.ensures
    ∙ sym (ap (λ k. element k (number k (drop (c.args.i * width k) c.self.inside.bytes.now))) e)
    ∙ ap (element c.self.inside.kind) (sym (get_or-numbers c.self.inside.kind c.self.inside.count
    c.self.inside.bytes.now c.args.i (omega (arith, o.count, c.requires.within))))
    ∙ ap (λ (v : Column). at v c.args.i) c.self.view_is
