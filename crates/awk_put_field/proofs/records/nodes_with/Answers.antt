use Rattle.std.proofs.Common.{◌≡◌, ◌<◌, ◌≤◌, ◌++◌, ◌∷◌, [], ◌∙◌, ap, arith, length}
use Rattle.awk_put_field.proofs.PutLaws.{nodes_step, nodes_all, nodes_last}
use Rattle.awk_put_field.proofs.records.nodes_with.Goals as goal
use Rattle.awk_put_field.proofs.records.nodes_with.Goals.{else-place-len}
use Rattle.awk_put_field.proofs.records.nodes_with.Goals.{then-place-len+in_ok-copy-2+in_ok-push-2}

pub loop-i-preserved : goal.loop-i-preserved
loop-i-preserved c =
    let ys = c.args.columns.now in
    let within : c.loop-i.i < length ys = omega (arith, c.loop-i-test.true, c.len-i-end.ensures) in
    nodes_step c.args.place c.loop-i.i c.args.column.now c.in_ok-copy.field-0 ys c.loop-i.nodes
    c.push.new.self within (c.in_ok-copy.ensures ∙ c.node.ensures ∙ c.column_at-kept.ensures)
    c.in_ok-push.ensures.ok c.loop-i.invariant

pub returns : goal.returns
returns c =
    let k = c.args.place in
    let x = c.args.column.now in
    let ys = c.args.columns.now in
    let all : length ys ≤ c.loop-i.i = omega (arith, c.loop-i-test.false, c.len-i-end.ensures) in
    elim c.if-place-len.branch [
      | then-place-len+in_ok-copy-2+in_ok-push-2 w ↦
          let end : c.loop-i.i ≡ length ys =
          omega (arith, all, c.loop-i.auto.i-end, c.len-i-end.ensures) in
          let last : length ys ≤ k = grind (arith, w.if-place-len.true, c.len.ensures) in
          let item : w.in_ok-copy-2.field-0 ≡ x =
          w.in_ok-copy-2.ensures ∙ w.node-then-place-len.ensures in
          nodes_last k c.loop-i.i x ys c.loop-i.nodes c.if-place-len.nodes end last
          (w.nodes-is ∙ w.in_ok-push-2.ensures.ok ∙ ap (λ z. c.loop-i.nodes ++ z ∷ []) item)
          c.loop-i.invariant
      | else-place-len w ↦
          let among : k < length ys = grind (arith, w.if-place-len.false, c.len.ensures) in
          nodes_all k c.loop-i.i x ys c.if-place-len.nodes all among
          (w.nodes-is ∙ c.loop-i.invariant)
    ]
