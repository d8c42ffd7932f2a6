use Rattle.std.proofs.Common.{◌+◌, ◌++◌, [], ◌∷◌, length, ap, sym, ◌∙◌, subst}
use Rattle.std.specs.Result.{result_ok}
use Rattle.awk_eval.specs.Variables.{Environment}
use Rattle.awk_answer.specs.Answer.{answer_text}
use Rattle.awk_framing.specs.Framing.{reading_behind}
use Rattle.awk_framing.specs.ReadView.{read_view}
use Rattle.awk_session.specs.Replies.{Reply, reply, step_of, step_read}
use Rattle.awk_session.specs.Spending.{TakesCost}
use Rattle.awk_session.specs.State.{State}
use Rattle.awk_session.specs.StateView.{stands}
use Rattle.awk_session.proofs.CostLaws.{read-bytes, Takes-answered, Takes-unanswered}
use Rattle.awk_session.proofs.line.answer.Goals as goal

pub returns-in-Ok-clause-leaves : goal.returns-in-Ok-clause-leaves
returns-in-Ok-clause-leaves g c =
    let b = c.in-Err-send.ensures.bytes in
    let r = reading_behind c.args.state.now.reading (read_view c.args.read.now) in
    record {
      breaks = record {
        gone = b.gone;
        rest = b.rest;
        appends = b.appends;
        all = ap (λ (z : Reply). c.args.out.now.held ++ (answer_text z.answer ++ 10 ∷ []))
            c.in-Ok.ensures.reply ∙ b.all;
      };
      is_open = b.is_open;
      state = rw c.reading_behind-state.ensures
          (ap (λ (z : Reply).
          let s : State Environment = record { reading = r; variables = z.after } in s)
          (sym c.in-Ok.ensures.reply));
    }

pub returns-in-Ok-send-clause-cost : goal.returns-in-Ok-send-clause-cost
returns-in-Ok-send-clause-cost g c = λ n bytes.
    let line = result_ok (read_view c.args.read.now) in
    let r = reading_behind c.args.state.now.reading (read_view c.args.read.now) in
    subst (λ (z : Reply). TakesCost c.args.state.now.env line (n + length c.args.raw.now)
    (step_of r z).answer c.args.steps.now c.send.new.steps) (sym c.in-Ok.ensures.reply)
    (Takes-answered c.args.state.now.env line n (length c.args.raw.now) c.in-Ok.answer
    c.args.steps.now c.reply.new.steps c.send.new.steps c.reply.ensures.cost c.in-Ok.ensures.shows
    c.send.ensures.cost (read-bytes n (read_view c.args.read.now) bytes))

pub returns-in-Ok-clause-cost : goal.returns-in-Ok-clause-cost
returns-in-Ok-clause-cost g c = λ n bytes.
    let line = result_ok (read_view c.args.read.now) in
    let r = reading_behind c.args.state.now.reading (read_view c.args.read.now) in
    subst (λ (z : Reply). TakesCost c.args.state.now.env line (n + length c.args.raw.now)
    (step_of r z).answer c.args.steps.now c.send.new.steps) (sym c.in-Ok.ensures.reply)
    (Takes-answered c.args.state.now.env line n (length c.args.raw.now) c.in-Ok.answer
    c.args.steps.now c.reply.new.steps c.send.new.steps c.reply.ensures.cost c.in-Ok.ensures.shows
    c.send.ensures.cost (read-bytes n (read_view c.args.read.now) bytes))

pub returns-clause-cost : goal.returns-clause-cost
returns-clause-cost g c = λ n bytes.
    Takes-unanswered c.args.state.now.env (result_ok (read_view c.args.read.now)) n
    (length c.args.raw.now)
    (step_read (stands c.args.state.now) (read_view c.args.read.now) c.args.raw.now).answer
    c.args.steps.now c.reply.new.steps c.reply.ensures.cost
    (read-bytes n (read_view c.args.read.now) bytes)
