use Rattle.std.specs.Prelude.{length, ◌<◌, ◌^◌}
use Rattle.std.proofs.Common.{◌≡◌, ap, ap₂, sym, ◌∙◌, subst}
use Rattle.awk_lanes.specs.Column.{Column}
use Rattle.awk_lanes.specs.Made.{lane_of}
use Rattle.awk_lanes.specs.Places.{size_of, IsOptionalIndex}
use Rattle.awk_lanes.specs.declared.kind.Kind.TheVariants.{I64}
use Rattle.awk_layout.specs.Typing.{array_type}
use Rattle.awk_open.specs.Opened.{IsOpened}
use Rattle.awk_open.specs.declared.opening.Opened.TheVariants.{Option as Optional}
use Rattle.awk_open.proofs.OnlyKinds.{only_option}
use Rattle.awk_lanes.proofs.PlaceLaws.{option-index}
use Rattle.awk_mask_pairs.specs.MaskTypes.{is_innermost}
use Rattle.awk_mask.specs.MaskLeaves.{AreKept, there_lane, there_place, truths_in}
use Rattle.awk_mask.proofs.MaskLeaves.{size-truths_in, there_kept, there_ready}
use Rattle.awk_mask.proofs.mask_leaves.places_there.Goals as goal

pub unreachable-requires : goal.unreachable-requires
unreachable-requires g c =
    only_option (array_type c.args.m.now) c.in_ok-index.field-0 c.in_ok-index.ensures.opened.kind
    c.requires.option c.in_default.not-Option

pub truths_of-requires : goal.truths_of-requires
truths_of-requires g c =
    let o : IsOpened c.args.m.now (Optional c.in-Option.index c.in-Option.content) =
    rw c.in-Option.is at c.in_ok-index.ensures.opened in
    record { mask = sym (ap is_innermost o.kind) ∙ c.requires.mask }

pub index_of-requires : goal.index_of-requires
index_of-requires g c =
    let o : IsOpened c.args.m.now (Optional c.in-Option.index c.in-Option.content) =
    rw c.in-Option.is at c.in_ok-index.ensures.opened in
    option-index c.in-Option.index.kind o.valid.1.kind

pub made_lane-requires-clause-ready : goal.made_lane-requires-clause-ready
made_lane-requires-clause-ready g c =
    let o : IsOpened c.args.m.now (Optional c.in-Option.index c.in-Option.content) =
    rw c.in-Option.is at c.in_ok-index.ensures.opened in
    let n : length c.truth_bytes-bytes.result.now
    ≡ size_of c.in_ok-truths-in-Option.truths =
    size-truths_in c.truth_bytes-bytes.result.now c.in_ok-truths-in-Option.truths
    c.truth_bytes-bytes.ensures in
    subst (λ (j : Column). IsOptionalIndex j (length c.truth_bytes-bytes.result.now)
    × (size_of j < 2 ^ 63)) (sym c.in_ok-there-in-Option.ensures) (
      there_ready c.in-Option.content c.in-Option.index c.in_ok-truths-in-Option.truths
          (length c.truth_bytes-bytes.result.now) c.in_ok-truths-in-Option.ensures n
          o.valid.1,
      o.valid.0,
    )

pub returns : goal.returns
returns g c =
    let o : IsOpened c.args.m.now (Optional c.in-Option.index c.in-Option.content) =
    rw c.in-Option.is at c.in_ok-index.ensures.opened in
    let lane : c.in_ok-places-in-Option.places
    ≡ there_lane c.in-Option.index c.in_ok-truths-in-Option.truths c.args.keep =
    c.in_ok-places-in-Option.ensures.lane
    ∙ ap₂ (λ n (j : Column). lane_of I64 n
    (there_place j (truths_in c.truth_bytes-bytes.result.now) c.args.keep))
    (c.len.ensures.len ∙ ap size_of c.in_ok-there-in-Option.ensures)
    c.in_ok-there-in-Option.ensures
    ∙ ap (λ t. there_lane c.in-Option.index t c.args.keep)
    c.truth_bytes-bytes.ensures in
    subst (AreKept c.args.m.now c.args.keep) (sym lane)
    (there_kept c.args.m.now c.in-Option.content c.in-Option.index
    c.in_ok-truths-in-Option.truths c.args.keep o c.in_ok-truths-in-Option.ensures)
