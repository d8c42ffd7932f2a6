use Rattle.std.proofs.Common.{◌≡◌, ap, sym, subst, ◌∙◌}
use Rattle.std.proofs.lemmas.Result.{IfOk-weaker}
use Rattle.awk_lanes.specs.declared.kind.Kind.TheVariants.{I64}
use Rattle.awk_lanes.specs.Column.{Column}
use Rattle.awk_lanes.specs.Made.{lane_of}
use Rattle.awk_lanes.specs.Places.{size_of, IsOptionalIndex}
use Rattle.awk_layout.specs.Valid.{len}
use Rattle.awk_gather.specs.Peeled.{byte_index, IsPeeled}
use Rattle.awk_open.proofs.MaskLanes.{made_index}
use Rattle.awk_open.proofs.whole_index.peel_mask.Goals as goal

pub peel-requires-clause-kind : goal.peel-requires-clause-kind
peel-requires-clause-kind g c = ap (λ (q : Column). q.kind) c.in_ok-index.ensures.lane

pub peel-requires-clause-index : goal.peel-requires-clause-index
peel-requires-clause-index g c =
    let there = byte_index c.args.mask.now c.args.valid_when in
    let e : c.in_ok-index.index ≡ lane_of I64 (size_of c.args.mask.now) there =
    made_index c.args.mask.now c.mask_index-places.result c.in_ok-index.index c.args.valid_when
    c.size.result c.mask_index-places.ensures c.size.ensures c.in_ok-index.ensures.lane in
    subst (λ (q : Column). IsOptionalIndex q (len c.args.content.now)) (sym e) c.requires.index

pub returns : goal.returns
returns g c =
    let there = byte_index c.args.mask.now c.args.valid_when in
    let e : c.in_ok-index.index ≡ lane_of I64 (size_of c.args.mask.now) there =
    made_index c.args.mask.now c.mask_index-places.result c.in_ok-index.index c.args.valid_when
    c.size.result c.mask_index-places.ensures c.size.ensures c.in_ok-index.ensures.lane in
    record {
      peeled = IfOk-weaker c.peel.result _ _
          (λ r h. subst (λ (q : Column). IsPeeled c.args.content.now q r.index r.content) e h)
          c.peel.ensures.peeled;
    }
