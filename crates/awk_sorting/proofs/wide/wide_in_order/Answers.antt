use Rattle.std.proofs.Common.{◌∙◌, subst}
use Rattle.awk_parts.specs.Parts.{AreRising}
use Rattle.awk_sorting.proofs.GroupLaws.{length-eights, sorts_eights}
use Rattle.awk_sorting.proofs.wide.wide_in_order.Goals as goal

pub sort_slice_parts-requires : goal.sort_slice_parts-requires
sort_slice_parts-requires g c = record {
  rising =
      subst (AreRising c.args.offsets.now c.args.n)
      (length-eights c.args.lane.now c.in_ok-bytes.bytes.now c.requires.kind
      c.in_ok-bytes.ensures.size
      c.in_ok-bytes.ensures.numbers c.in_ok-sorted.sorted.now
      (c.in_ok-sorted.ensures ∙ c.as_chunks.ensures.front))
      c.requires.rising;
}

pub returns : goal.returns
returns g c =
    sorts_eights c.args.lane.now c.in_ok-bytes.bytes.now c.requires.kind c.in_ok-bytes.ensures.size
    c.in_ok-bytes.ensures.numbers c.in_ok-sorted.sorted.now
    (c.in_ok-sorted.ensures ∙ c.as_chunks.ensures.front) c.args.up c.args.offsets.now c.args.n
    c.sort_slice_parts.new.numbers c.as_flattened.result.now c.new.result
    c.sort_slice_parts.ensures c.as_flattened.ensures.value c.as_flattened.ensures.len
    c.new.ensures.kind c.new.ensures.items
