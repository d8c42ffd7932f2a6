-- The limit of the type comes first.
use Rattle.awk_types.specs.Datum.{arr}
use Rattle.awk_layout.specs.Typing.{array_type, array_items}
use Rattle.awk_form.specs.View.{form_of}
use Rattle.awk_valid.specs.Container.{container_of}
use Rattle.awk_valid.specs.Denote.{denote, denoting}
use Rattle.awk_valid.specs.Loaded.{layout_of}
use Rattle.awk_valid.specs.Loading.{fault_of, loading}
use Rattle.awk_valid.proofs.FaultLaws.{Gives-fails}
use Rattle.awk_valid.proofs.LoadLaws.{load_type}
use Rattle.awk_valid.proofs.arrays.load.Goals as goal

pub returns-in_err-typ-clause-answer : goal.returns-in_err-typ-clause-answer
returns-in_err-typ-clause-answer g c =
    let e = c.in_err-typ.field-0.0 in
    let f = form_of c.args.form.now in
    let b = container_of c.args.big c.args.store.now.held in
    Gives-fails (λ x. x) c.from_residual.result (fault_of e) (loading f c.args.n b)
    c.from_residual.ensures.1
    (load_type e f c.args.n b (layout_of f c.args.n b) c.in_err-typ.ensures)

pub returns-in_err-typ-clause-denoted : goal.returns-in_err-typ-clause-denoted
returns-in_err-typ-clause-denoted g c =
    let e = c.in_err-typ.field-0.0 in
    let f = form_of c.args.form.now in
    let b = container_of c.args.big c.args.store.now.held in
    Gives-fails (λ x. arr (array_type x) (array_items x)) c.from_residual.result (fault_of e)
    (denoting f c.args.n b) c.from_residual.ensures.1
    (load_type e f c.args.n b (denote f c.args.n b) c.in_err-typ.ensures)
