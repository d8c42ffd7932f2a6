use Rattle.std.proofs.Common.{◌+◌, ◌*◌, ◌≤◌, length, ap, sym, ◌∙◌, subst, arith}
use Rattle.awk_json.proofs.Joins.{puts_same}
use Rattle.awk_layout.specs.Layout.{height}
use Rattle.awk_text.specs.ArrayText.{array_text}
use Rattle.awk_text.specs.LayoutText.{span_text}
use Rattle.awk_text.proofs.ArrayTexts.{array_text-span}
use Rattle.awk_text.proofs.array.write_array.Goals as goal

pub returns-clause-bytes : goal.returns-clause-bytes
returns-clause-bytes g c =
    let y = c.node-node.result.now in
    let whole = array_text-span y c.len.ensures.valid c.len.ensures.numbered
    ∙ ap (span_text y 0) (sym c.len.ensures.len) in
    puts_same _ (ap array_text (sym c.node-node.ensures) ∙ whole) c.write_list.ensures.bytes

pub returns-clause-cost : goal.returns-clause-cost
returns-clause-cost g c =
    let y = c.node-node.result.now in
    let whole = array_text-span y c.len.ensures.valid c.len.ensures.numbered
    ∙ ap (span_text y 0) (sym c.len.ensures.len) in
    let put =
    subst (λ text. c.write_list.new.steps ≤ c.args.steps.now + 2 * (height y * length text))
    (sym whole) c.write_list.ensures.cost in
    let same =
    subst (λ z. c.write_list.new.steps ≤ c.args.steps.now + 2
    * (height z * length (array_text z))) c.node-node.ensures put in
    omega (arith, same)
