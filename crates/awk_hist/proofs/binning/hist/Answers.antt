use Rattle.std.proofs.Common.{sym, ◌∙◌, subst}
use Rattle.std.specs.Prelude.{IfOk}
use Rattle.awk_types.specs.Faults.{fault_told}
use Rattle.awk_types.specs.Gives.{Gives}
use Rattle.awk_layout.specs.Datum.{datum_of}
use Rattle.awk_hist.specs.Hist.{hist_of}
use Rattle.awk_hist.specs.HistEach.{histogram}
use Rattle.awk_hist.specs.Totals.{CountsAll}
use Rattle.awk_hist.proofs.TotalLaws.{all_once}
use Rattle.awk_hist.proofs.binning.hist.Goals as goal

pub returns-clause-answer : goal.returns-clause-answer
returns-clause-answer g c =
    let d = datum_of c.args.x.now in
    let said : Gives datum_of fault_told c.hist_all.result (hist_of c.args.edges.now d) =
    subst (λ es. Gives datum_of fault_told c.hist_all.result (hist_of es d))
    (c.deref-else-each.ensures.value ∙ c.in_ok-edges.ensures) c.hist_all.ensures.answer in
    subst (λ b. Gives datum_of fault_told c.hist_all.result (histogram c.args.edges.now b d))
    (sym c.if-each.false) said

pub returns-clause-counted : goal.returns-clause-counted
returns-clause-counted g c =
    let d = datum_of c.args.x.now in
    let said : Gives datum_of fault_told c.hist_all.result (hist_of c.args.edges.now d) =
    subst (λ es. Gives datum_of fault_told c.hist_all.result (hist_of es d))
    (c.deref-else-each.ensures.value ∙ c.in_ok-edges.ensures) c.hist_all.ensures.answer in
    subst (λ b. IfOk c.hist_all.result (λ made. CountsAll b d (datum_of made)))
    (sym c.if-each.false)
    (all_once c.args.edges.now c.requires.edges d c.hist_all.result said)
