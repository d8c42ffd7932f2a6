use Rattle.std.proofs.Common.{ap, ◌∙◌}
use Rattle.std.specs.Prelude.{pos}
use Rattle.awk_lanes.specs.declared.kind.Kind.TheVariants.{I64}
use Rattle.awk_lanes.specs.Made.{lane_of}
use Rattle.awk_spread.proofs.PlainNodes.{spread_kept}
use Rattle.awk_spread.proofs.spread.keep_one.Goals as goal

pub returns : goal.returns
returns c = record {
  spread =
      spread_kept c.args.x.now c.in_ok-content.content c.args.index c.in_ok-tags.tags
      c.in_ok-contents.contents c.requires.plain c.requires.kind c.requires.index
      (c.in_ok-tags.ensures.lane ∙ ap (λ n. lane_of I64 n (λ j. pos 0)) c.len.ensures.len)
      c.in_ok-content.ensures c.in_ok-contents.ensures;
}
