use Rattle.std.proofs.Common.{length, sym, subst}
use Rattle.std.specs.Prelude.{IfOk}
use Rattle.awk_lengths.specs.LineBytes.{HasBytes}
use Rattle.awk_lengths.proofs.LineLaws.{line_said-bytes}
use Rattle.awk_session.specs.StateView.{stands}
use Rattle.awk_session.proofs.CostLaws.{line_in-said}
use Rattle.awk_session.proofs.StepLaws.{step-line}
use Rattle.awk_session.proofs.line.answer_line.Goals as goal

pub returns-in-Ok-clause-leaves : goal.returns-in-Ok-clause-leaves
returns-in-Ok-clause-leaves g c =
    let unit = c.args.unit.now in
    rw (
      step-line (stands c.args.state.now) unit.line.now unit.raw.now c.requires.not_blank,
      sym c.in-Ok.ensures.said,
    ) c.answer.ensures.leaves

pub returns-in-Ok-clause-binds : goal.returns-in-Ok-clause-binds
returns-in-Ok-clause-binds g c =
    let unit = c.args.unit.now in
    rw (
      step-line (stands c.args.state.now) unit.line.now unit.raw.now c.requires.not_blank,
      line_in-said c.args.state.now.reading unit.line.now c.requires.not_blank,
      sym c.in-Ok.ensures.said,
    ) c.answer.ensures.binds

pub returns-in-Ok-clause-cost : goal.returns-in-Ok-clause-cost
returns-in-Ok-clause-cost g c =
    let unit = c.args.unit.now in
    let r = c.args.state.now.reading in
    let texts = subst (λ z. IfOk z (HasBytes (length unit.line.now))) (sym c.in-Ok.ensures.said)
    (line_said-bytes r unit.line.now) in
    rw (
      step-line (stands c.args.state.now) unit.line.now unit.raw.now c.requires.not_blank,
      line_in-said r unit.line.now c.requires.not_blank,
      sym c.in-Ok.ensures.said,
    ) (c.answer.ensures.cost (length unit.line.now) texts)
