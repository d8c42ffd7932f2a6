use Rattle.std.proofs.Common.{refl, sym, arith}
use Rattle.awk_edge.proofs.Known.{Appends-none}
use Rattle.awk_session.specs.State.{denoted_state}
use Rattle.awk_session.proofs.CostLaws.{line_in-blank}
use Rattle.awk_session.proofs.StepLaws.{step-blank}
use Rattle.awk_run.proofs.run.answer.Goals as goal

pub returns-then-is_blank-clause-answers : goal.returns-then-is_blank-clause-answers
returns-then-is_blank-clause-answers g c =
    let blank = rw c.deref.ensures.value at c.if-is_blank.ensures in
    let e = step-blank (denoted_state c.args.engine.now) c.args.unit.line.items
    c.args.unit.raw.items (sym blank) in
    record {
      appends = rw e (Appends-none _);
      held = c.requires.empty;
      is_open = c.requires.open;
      state = rw e refl;
      fault = rw e refl;
    }

pub returns-then-is_blank-clause-binds : goal.returns-then-is_blank-clause-binds
returns-then-is_blank-clause-binds g c =
    let blank = rw c.deref.ensures.value at c.if-is_blank.ensures in
    rw (line_in-blank c.args.engine.now.reading c.args.unit.line.items (sym blank)) refl

pub returns-then-is_blank-clause-cost : goal.returns-then-is_blank-clause-cost
returns-then-is_blank-clause-cost g c =
    let blank = rw c.deref.ensures.value at c.if-is_blank.ensures in
    rw (line_in-blank c.args.engine.now.reading c.args.unit.line.items (sym blank))
    (λ plain arrays. omega arith)
