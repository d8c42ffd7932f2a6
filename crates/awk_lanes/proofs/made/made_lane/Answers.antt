-- The bytes are read as the numbers.
use Rattle.std.proofs.Common.{◌∙◌, ap, subst}
use Rattle.awk_lanes.specs.Numbers.{numbers}
use Rattle.awk_lanes.specs.Words.{column, AreOf}
use Rattle.awk_lanes.proofs.RowLaws.{numbers-low_row}
use Rattle.awk_lanes.proofs.made.made_lane.Goals as goal

pub returns : goal.returns
returns g c = record {
  lane = c.whole.ensures
      ∙ ap (column c.args.kind) (ap (numbers c.args.kind c.args.n) c.in_ok-bytes.ensures.bytes
      ∙ numbers-low_row c.args.kind c.args.n (g.S.Numbers.at c.args.source.now)
      (subst (λ k. AreOf k c.args.n (g.S.Numbers.at c.args.source.now)) c.requires.kind
      c.in_ok-bytes.ensures.numbers));
}
