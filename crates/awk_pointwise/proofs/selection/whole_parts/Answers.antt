use Rattle.std.proofs.Common.{◌∙◌}
use Rattle.awk_pointwise.specs.Selection.{IsMask, IsWhole}
use Rattle.awk_pointwise.proofs.selection.whole_parts.Goals as goal

pub returns : goal.returns
returns c =
    let side : IsWhole c.args.condition.now c.in_ok-condition.condition.now =
    c.in_ok-condition.ensures in
    let truths : IsMask c.in_ok-condition.condition.now c.in_ok-mask.mask.now =
    c.in_ok-mask.ensures in
    record {
      kind = truths.kind;
      typ = side.typ ∙ truths.typ;
      values = λ n. side.values n ∙ truths.values n;
      size = λ n h. truths.size n (side.side n h);
      first = c.in_ok-x.ensures;
      second = c.in_ok-y.ensures;
    }
