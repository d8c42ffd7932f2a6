use Rattle.std.proofs.Common.{◌<◌, ◌∙◌, ap, sym, arith, length, w64}
use Rattle.std.proofs.lemmas.Int.{ints, to_z-of_z}
use Rattle.awk_lanes.specs.Column.{Column}
use Rattle.awk_lanes.specs.Places.{size_of, at}
use Rattle.awk_gather.specs.Peeled.{if_shown}
use Rattle.awk_open.proofs.MaskLanes.{size-mask_lane, at-mask_lane}
use Rattle.awk_open.proofs.masks.MaskIndex.place_number.Goals as goal

pub is_shown-requires : goal.is_shown-requires
is_shown-requires c =
    let x = c.self.inside in
    omega (arith, c.requires, size-mask_lane x.bytes.now x.valid_when, ap size_of c.self.view_is)

pub if_shown-requires : goal.if_shown-requires
if_shown-requires c =
    let x = c.self.inside in
    omega (
      arith,
      c.requires,
      size-mask_lane x.bytes.now x.valid_when,
      ap size_of c.self.view_is,
      c.self.invariant,
    )

pub returns : goal.returns
returns c =
    let x = c.self.inside in
    let l : c.args.i < length x.bytes.now = omega (
      arith,
      c.requires,
      size-mask_lane x.bytes.now x.valid_when,
      ap size_of c.self.view_is,
    ) in
    to_z-of_z w64 c.if_shown.result (omega (arith, ints, c.if_shown.type_inv))
    ∙ c.if_shown.ensures
    ∙ ap (λ b. if_shown b c.args.i) c.is_shown.ensures
    ∙ sym (at-mask_lane x.bytes.now x.valid_when c.args.i l)
    ∙ ap (λ (q : Column). at q c.args.i) c.self.view_is
