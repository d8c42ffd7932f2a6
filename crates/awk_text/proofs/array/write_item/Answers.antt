use Rattle.std.proofs.Common.{◌<◌, ◌+◌, ◌*◌, ◌≤◌, length, ap, sym, ◌∙◌, subst}
use Rattle.awk_json.proofs.Joins.{puts_same}
use Rattle.awk_layout.specs.Layout.{height}
use Rattle.awk_layout.specs.Valid.{len}
use Rattle.awk_text.specs.ArrayText.{item_text}
use Rattle.awk_text.proofs.ArrayTexts.{item_text-layout}
use Rattle.awk_text.proofs.array.write_item.Goals as goal

pub returns-clause-bytes : goal.returns-clause-bytes
returns-clause-bytes g c =
    let within : c.args.i < len c.node-node.result.now = rw c.node-node.ensures c.requires.within in
    let same = item_text-layout c.node-node.result.now c.args.i c.len.ensures.valid
    c.len.ensures.numbered within in
    puts_same _ (ap (λ z. item_text z c.args.i) (sym c.node-node.ensures) ∙ same)
    c.write_node.ensures.bytes

pub returns-clause-cost : goal.returns-clause-cost
returns-clause-cost g c =
    let y = c.node-node.result.now in
    let within : c.args.i < len y = rw c.node-node.ensures c.requires.within in
    let same = item_text-layout y c.args.i c.len.ensures.valid c.len.ensures.numbered within in
    let put =
    subst (λ text. c.write_node.new.steps ≤ c.args.steps.now + 2 * (height y * length text))
    (sym same) c.write_node.ensures.cost in
    subst (λ z. c.write_node.new.steps ≤ c.args.steps.now + 2
    * (height z * length (item_text z c.args.i))) c.node-node.ensures put
