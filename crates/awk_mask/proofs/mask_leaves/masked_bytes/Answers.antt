use Rattle.std.proofs.Common.{◌≡◌, arith, ap, sym, ◌∙◌, subst}
use Rattle.awk_layout.specs.Layout.{byte_masked}
use Rattle.awk_layout.specs.Typing.{array_type}
use Rattle.awk_layout.specs.Valid.{len}
use Rattle.awk_gather.specs.Peeled.{IsPickedOpt}
use Rattle.awk_mask.specs.MaskLeaves.{kept_lane, IsLow}
use Rattle.awk_mask.proofs.MaskBytes.{bare_innermost, mask_picked, mask_size}
use Rattle.awk_mask.proofs.MaskLeaves.{kept_mask, truths_kept}
use Rattle.awk_mask.proofs.mask_leaves.masked_bytes.Goals as goal

pub byte_masked-node-requires-clause-length : goal.byte_masked-node-requires-clause-length
byte_masked-node-requires-clause-length g c =
    omega (
      arith,
      mask_size c.in_ok-truths.truths c.new-mask.result c.truth_bytes.result.now
          c.truth_bytes.ensures c.new-mask.ensures.kind c.new-mask.ensures.items,
      c.in_ok-truths.ensures.fits,
    )

pub byte_masked-node-requires-clause-valid : goal.byte_masked-node-requires-clause-valid
byte_masked-node-requires-clause-valid g c =
    let content : c.in_ok-content.content.value ≡ c.args.x.now =
    c.in_ok-content.ensures.ok ∙ c.in_ok-copy.ensures ∙ c.node.ensures in
    record {
      kind = c.new-mask.ensures.kind;
      reach = omega (
        arith,
        mask_size c.in_ok-truths.truths c.new-mask.result c.truth_bytes.result.now
            c.truth_bytes.ensures c.new-mask.ensures.kind c.new-mask.ensures.items,
        c.in_ok-truths.ensures.size,
        c.requires.lengths,
        ap len content,
      );
    }

pub returns : goal.returns
returns g c =
    let truths = c.in_ok-truths.truths in
    let mask = c.new-mask.result in
    let content : c.in_ok-content.content.value ≡ c.args.x.now =
    c.in_ok-content.ensures.ok ∙ c.in_ok-copy.ensures ∙ c.node.ensures in
    let node : c.byte_masked-node.result ≡ byte_masked mask c.args.keep c.args.x.now =
    c.byte_masked-node.ensures.node ∙ ap (byte_masked mask c.args.keep) content in
    let picked : IsPickedOpt c.args.x.now (kept_lane truths c.args.keep) c.byte_masked-node.result =
    subst (IsPickedOpt c.args.x.now (kept_lane truths c.args.keep)) (sym node)
    (mask_picked truths mask c.truth_bytes.result.now c.truth_bytes.ensures
    c.new-mask.ensures.kind c.new-mask.ensures.items c.args.x.now c.args.keep) in
    record {
      items = kept_mask c.args.x.now c.args.m.now c.byte_masked-node.result c.args.keep
          (kept_lane truths c.args.keep) c.len-2.ensures.valid c.len.ensures.items
          (bare_innermost (array_type c.args.m.now) c.requires.mask) c.requires.lengths
          (truths_kept c.args.m.now c.args.keep truths c.in_ok-truths.ensures) picked;
      low = subst IsLow (sym node) c.requires.items;
    }
