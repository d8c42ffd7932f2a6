-- One group more.
use Rattle.std.proofs.Common.{[], ◌∷◌, ap, arith, sym, ◌∙◌, length, take}
use Rattle.std.proofs.lemmas.List.{length-append}
use Rattle.std.specs.Int.{cast_unsigned, w64}
use Rattle.awk_lanes.specs.Numbers.{int_of}
use Rattle.awk_lanes.specs.Words.{low_bytes}
use Rattle.awk_lanes.proofs.RowLaws.{in_range}
use Rattle.awk_lanes.proofs.IndexLaws.{kind_groups-more}
use Rattle.awk_lanes.proofs.group_maker.GroupMaker.push.Goals as goal

pub invariant_of-self : goal.invariant_of-self
invariant_of-self g c =
    let kind = g.T.NumberType.kind in
    let z = int_of c.args.x in
    let old = c.self.invariant in
    let h = kind_groups-more kind c.self.inside.groups.items c.push_reserved.new.self.items
    c.first_bytes.result z (in_range kind c.args.x c.requires.kind)
    (c.first_bytes.ensures ∙ ap (take g.row.W) c.bytes.ensures
    ∙ ap (λ w. low_bytes w (cast_unsigned w64 z)) (sym old.0))
    c.push_reserved.ensures.items (old.2, old.3) in (
      old.0,
      omega (
        arith,
        c.push_reserved.ensures.len,
        old.1,
        ap length c.push_reserved.ensures.items,
        length-append c.self.inside.groups.items (c.first_bytes.result ∷ []),
      ),
      h.0,
      h.1,
    )
