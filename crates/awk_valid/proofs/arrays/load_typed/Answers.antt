-- The walk is judged; the array has the type of its form.
use Rattle.std.proofs.Common.{◌≡◌, ◌≤◌, Ok, arith, ap, sym, ◌∙◌, subst}
use Rattle.awk_types.specs.Datum.{arr}
use Rattle.awk_types.specs.Simple.{simple}
use Rattle.awk_layout.specs.Layout.{weight, height}
use Rattle.awk_layout.specs.Typing.{array_type, array_items}
use Rattle.awk_layout.specs.Valid.{len}
use Rattle.awk_form.specs.FormType.{type_of}
use Rattle.awk_form.specs.View.{form_of}
use Rattle.awk_valid.specs.Denote.{denote, denoting}
use Rattle.awk_valid.specs.Loaded.{layout_of}
use Rattle.awk_valid.specs.Loading.{told, loading}
use Rattle.awk_form.specs.Measures as extent
use Rattle.awk_valid.proofs.FaultLaws.{Gives-fails}
use Rattle.awk_valid.proofs.LoadLaws.{load_walk, load_made, load_typ, load_typed, load_length}
use Rattle.awk_valid.proofs.LoadLaws.{load_size, load_cost}
use Rattle.awk_valid.specs.Walked.{given, container_in}
use Rattle.awk_valid.proofs.DenoteLaws.{made-denoted}
use Rattle.awk_valid.proofs.arrays.load_typed.Goals as goal

pub returns-in_err-node-clause-answer : goal.returns-in_err-node-clause-answer
returns-in_err-node-clause-answer g c =
    let e = c.in_err-node.field-0.0 in
    let f = form_of c.args.form.now in
    let t = given c.args.reader.now.big c.args.store.now.held in
    Gives-fails (λ x. x) c.from_residual.result e (loading f c.args.n (container_in t))
    c.from_residual.ensures.1
    (load_walk (told e) f c.args.n t _ (layout_of f c.args.n (container_in t)) c.requires.typ
    c.in_err-node.ensures.answer)

pub returns-in_err-node-clause-denoted : goal.returns-in_err-node-clause-denoted
returns-in_err-node-clause-denoted g c =
    let e = c.in_err-node.field-0.0 in
    let f = form_of c.args.form.now in
    let t = given c.args.reader.now.big c.args.store.now.held in
    Gives-fails (λ x. arr (array_type x) (array_items x)) c.from_residual.result e
    (denoting f c.args.n (container_in t)) c.from_residual.ensures.1
    (load_walk (told e) f c.args.n t _ (denote f c.args.n (container_in t)) c.requires.typ
    c.in_err-node.ensures.answer)

pub returns-in_err-node-clause-cost : goal.returns-in_err-node-clause-cost
returns-in_err-node-clause-cost g c =
    omega (
      arith,
      load_cost (extent.width (form_of c.args.form.now)) (given c.args.reader.now.big
          c.args.store.now.held),
      c.in_err-node.ensures.cost,
    )

pub with_type-requires : goal.with_type-requires
with_type-requires g c =
    load_typed
    (form_of c.args.form.now) c.args.n (given c.args.reader.now.big c.args.store.now.held) _
    c.in_ok-node.node
    c.requires.lawful c.requires.typ c.in_ok-node.ensures.answer

pub returns-clause-answer : goal.returns-clause-answer
returns-clause-answer g c =
    load_made
    (form_of c.args.form.now) c.args.n (given c.args.reader.now.big c.args.store.now.held) _
    c.in_ok-node.node
    c.requires.typ c.in_ok-node.ensures.answer ∙ ap Ok (sym c.with_type.ensures)

pub returns-clause-denoted : goal.returns-clause-denoted
returns-clause-denoted g c =
    made-denoted (form_of c.args.form.now) c.args.n (container_in
    (given c.args.reader.now.big c.args.store.now.held)) _
    (load_made
    (form_of c.args.form.now) c.args.n (given c.args.reader.now.big c.args.store.now.held) _
    c.in_ok-node.node
    c.requires.typ c.in_ok-node.ensures.answer ∙ ap Ok (sym c.with_type.ensures))

pub returns-clause-typ : goal.returns-clause-typ
returns-clause-typ g c =
    subst (λ x. array_type x ≡ simple (type_of (form_of c.args.form.now))) (sym c.with_type.ensures)
    (load_typ
    (form_of c.args.form.now) c.args.n (given c.args.reader.now.big c.args.store.now.held)
    c.in_ok-node.node
    c.in_ok-node.ensures.answer)

pub returns-clause-length : goal.returns-clause-length
returns-clause-length g c =
    subst (λ x. len x ≡ c.args.n) (sym c.with_type.ensures)
    (load_length
    (form_of c.args.form.now) c.args.n (given c.args.reader.now.big c.args.store.now.held)
    c.in_ok-node.node
    c.requires.lawful c.in_ok-node.ensures.answer)

pub returns-clause-nodes : goal.returns-clause-nodes
returns-clause-nodes g c =
    let size =
    load_size
    (form_of c.args.form.now) c.args.n (given c.args.reader.now.big c.args.store.now.held)
    c.in_ok-node.node
    c.in_ok-node.ensures.answer in
    subst (λ x. weight x ≤ extent.width (form_of c.args.form.now)) (sym c.with_type.ensures)
    (omega (arith, size.0))

pub returns-clause-height : goal.returns-clause-height
returns-clause-height g c =
    let size =
    load_size
    (form_of c.args.form.now) c.args.n (given c.args.reader.now.big c.args.store.now.held)
    c.in_ok-node.node
    c.in_ok-node.ensures.answer in
    subst (λ x. height x ≤ extent.height (form_of c.args.form.now)) (sym c.with_type.ensures)
    (omega (arith, size.1))

pub returns-clause-cost : goal.returns-clause-cost
returns-clause-cost g c =
    omega (
      arith,
      load_cost (extent.width (form_of c.args.form.now)) (given c.args.reader.now.big
          c.args.store.now.held),
      c.in_ok-node.ensures.cost,
    )
