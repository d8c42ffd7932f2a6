-- A NumpyArray has no contents.
use Rattle.std.proofs.Common.{sym, ap, refl}
use Rattle.awk_types.proofs.RefusalLaws.{refused_or-Ok}
use Rattle.awk_form.specs.FormTree.{numpy}
use Rattle.awk_valid.specs.Broken.{node_break}
use Rattle.awk_valid.specs.Walked.{given, container_in}
use Rattle.awk_valid.specs.Loaded.{layout_of}
use Rattle.awk_valid.specs.Loading.{told}
use Rattle.awk_valid.specs.declared.own.Own.TheVariants.{Whole}
use Rattle.awk_valid.proofs.PartLaws.{part-fails, part-made, told-node, own-none}
use Rattle.awk_valid.proofs.parts.numbers.Goals as goal

pub returns-in_err-node-clause-answer : goal.returns-in_err-node-clause-answer
returns-in_err-node-clause-answer g c node =
    let e = c.in_err-node.field-0.0 in
    let t = given c.args.reader.now.big c.args.store.now.held in
    part-fails (numpy c.args.key.now c.args.prim c.args.inner.now) node c.args.n t
    c.from_residual.result e c.from_residual.ensures.1
    (told-node (told e) (numpy c.args.key.now c.args.prim c.args.inner.now) node c.args.n t
    (layout_of (numpy c.args.key.now c.args.prim c.args.inner.now) c.args.n (container_in t))
    (c.in_err-node.ensures.answer node))

pub returns-clause-answer : goal.returns-clause-answer
returns-clause-answer g c node =
    let t = given c.args.reader.now.big c.args.store.now.held in
    let said =
    refused_or-Ok
    (node_break (numpy c.args.key.now c.args.prim c.args.inner.now) node c.args.n (container_in t))
    (layout_of (numpy c.args.key.now c.args.prim c.args.inner.now) c.args.n (container_in t))
    c.in_ok-node.node (c.in_ok-node.ensures.answer node) in
    part-made (numpy c.args.key.now c.args.prim c.args.inner.now) node c.args.n t
    (Whole c.in_ok-node.node) c.new.result
    (own-none (numpy c.args.key.now c.args.prim c.args.inner.now) node c.args.n (container_in t)
    said.0 refl)
    (ap Whole said.1) (sym c.new.ensures.items)
