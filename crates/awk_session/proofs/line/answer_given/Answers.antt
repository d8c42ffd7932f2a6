use Rattle.std.proofs.Common.{length, sym, subst}
use Rattle.std.specs.Prelude.{IfOk}
use Rattle.awk_lengths.specs.LineBytes.{HasBytes}
use Rattle.awk_lengths.proofs.LineLaws.{line_said-bytes}
use Rattle.awk_session.specs.StateView.{stands}
use Rattle.awk_session.proofs.CostLaws.{line_in-said}
use Rattle.awk_session.proofs.StepLaws.{step-line}
use Rattle.awk_session.proofs.line.answer_given.Goals as goal

pub returns-in-Ok-clause-leaves : goal.returns-in-Ok-clause-leaves
returns-in-Ok-clause-leaves g c =
    let line = c.args.line.memory.items in
    let said = rw c.as_slice.ensures.value at c.in-Ok.ensures.said in
    rw (
      step-line (stands c.args.state.now) line c.args.raw.now c.requires.not_blank,
      sym said,
    ) c.answer.ensures.leaves

pub returns-in-Ok-clause-binds : goal.returns-in-Ok-clause-binds
returns-in-Ok-clause-binds g c =
    let line = c.args.line.memory.items in
    let said = rw c.as_slice.ensures.value at c.in-Ok.ensures.said in
    rw (
      step-line (stands c.args.state.now) line c.args.raw.now c.requires.not_blank,
      line_in-said c.args.state.now.reading line c.requires.not_blank,
      sym said,
    ) c.answer.ensures.binds

pub returns-in-Ok-clause-cost : goal.returns-in-Ok-clause-cost
returns-in-Ok-clause-cost g c =
    let line = c.args.line.memory.items in
    let said = rw c.as_slice.ensures.value at c.in-Ok.ensures.said in
    let r = c.args.state.now.reading in
    let texts = subst (λ z. IfOk z (HasBytes (length line))) (sym said) (line_said-bytes r line) in
    rw (
      step-line (stands c.args.state.now) line c.args.raw.now c.requires.not_blank,
      line_in-said r line c.requires.not_blank,
      sym said,
    ) (c.answer.ensures.cost (length line) texts)
