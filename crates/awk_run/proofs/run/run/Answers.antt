use Rattle.std.proofs.Common.{◌≡◌, false, refl, ap, arith, [], ◌∷◌, ◌++◌, IsTrue, inr}
use Rattle.std.proofs.lemmas.Bool.{false_from_ne_true}
use Rattle.awk_query.specs.declared.reading.Reading.TheVariants.{First}
use Rattle.awk_framing.specs.Framing.{session_framing, raw_asked}
use Rattle.awk_session.proofs.SpendLaws.{spend_more}
use Rattle.awk_run.proofs.Progress.{at_start, reading_now, answer_unit}
use Rattle.awk_run.proofs.Counts.{still_flushed, still_told}
use Rattle.awk_run.proofs.Ends.{none_left, ends_fine, ends_faults, ends_read, ends_large, ends_many}
use Rattle.awk_run.proofs.Ends.{ends_memory, ends_unanswered, ends_broken}
use Rattle.awk_run.proofs.Spends.{spends_between, spends_within}
use Rattle.awk_units.proofs.UnitsTaken.{take_next, unit_from}
use Rattle.awk_run.proofs.run.run.Goals as goal

pub returns-in-Err-Read-clause-session : goal.returns-in-Err-Read-clause-session
returns-in-Err-Read-clause-session g c =
    let s = c.loop-unit.invariant.so_far in
    let n = rw c.in-Err-Read.field-0-is at c.in-Err-Read.ensures.unit in
    let open_still : c.loop-unit.lines.is_ended ≡ false = false_from_ne_true _ (λ e. let z =
    (c.in-Err-Read.ensures.ended e).0 in absurd (cc)) in
    ends_read c.loop-unit.engine.reading n.given s.units s.answers open_still
    (reading_now c.loop-unit.engine s.answers) n.answer n.consumes s.spent

pub returns-in-Err-NoMemory-clause-session : goal.returns-in-Err-NoMemory-clause-session
returns-in-Err-NoMemory-clause-session g c =
    let s = c.loop-unit.invariant.so_far in
    let n = c.in-Err-NoMemory.ensures.unit in
    let open_still : c.loop-unit.lines.is_ended ≡ false = false_from_ne_true _ (λ e. let z =
    (c.in-Err-NoMemory.ensures.ended e).0 in absurd (cc)) in
    ends_memory n.given s.units s.answers open_still n.consumes s.spent

pub returns-in-Err-LineTooLong-clause-session : goal.returns-in-Err-LineTooLong-clause-session
returns-in-Err-LineTooLong-clause-session g c =
    let s = c.loop-unit.invariant.so_far in
    let n = rw c.in-Err-LineTooLong.field-0-is at c.in-Err-LineTooLong.ensures.unit in
    let open_still : c.loop-unit.lines.is_ended ≡ false = false_from_ne_true _ (λ e. let z =
    (c.in-Err-LineTooLong.ensures.ended e).0 in absurd (cc)) in
    ends_large c.loop-unit.engine.reading n.given s.units s.answers open_still
    (reading_now c.loop-unit.engine s.answers) n.answer n.consumes s.spent

pub returns-in-Err-TooManyLines-clause-session : goal.returns-in-Err-TooManyLines-clause-session
returns-in-Err-TooManyLines-clause-session g c =
    let s = c.loop-unit.invariant.so_far in
    let n = rw c.in-Err-TooManyLines.field-0-is at c.in-Err-TooManyLines.ensures.unit in
    let open_still : c.loop-unit.lines.is_ended ≡ false = false_from_ne_true _ (λ e. let z =
    (c.in-Err-TooManyLines.ensures.ended e).0 in absurd (cc)) in
    ends_many n.given s.units s.answers open_still n.answer n.consumes s.spent

pub returns-then-any_fault-clause-session : goal.returns-then-any_fault-clause-session
returns-then-any_fault-clause-session g c =
    let s = c.loop-unit.invariant.so_far in
    let n = rw c.in-Ok-None.field-0-is at c.in-Ok-None.ensures.unit in
    ends_faults s.answers (none_left s.units n.answer n.consumes (λ e. ap g.S.Source.left
    (c.in-Ok-None.ensures.ended e).1) _ refl) c.if-any_fault.true s.spent

pub returns-in-Ok-None-clause-session : goal.returns-in-Ok-None-clause-session
returns-in-Ok-None-clause-session g c =
    let s = c.loop-unit.invariant.so_far in
    let n = rw c.in-Ok-None.field-0-is at c.in-Ok-None.ensures.unit in
    ends_fine s.answers (none_left s.units n.answer n.consumes (λ e. ap g.S.Source.left
    (c.in-Ok-None.ensures.ended e).1) _ refl) c.if-any_fault.false s.spent

pub returns-in-Err-Write-clause-session : goal.returns-in-Err-Write-clause-session
returns-in-Err-Write-clause-session g c =
    let s = c.loop-unit.invariant.so_far in
    let n = rw c.in-Ok-Some.field-0-is at c.in-Ok-Some.ensures.unit in
    let r = c.loop-unit.engine.reading in
    let same = reading_now c.loop-unit.engine s.answers in
    let open_still : c.loop-unit.lines.is_ended ≡ false = false_from_ne_true _ (λ e. let z =
    (c.in-Ok-Some.ensures.ended e).0 in absurd (cc)) in
    let u = unit_from n.answer.mid (raw_asked r c.in-Ok-Some.unit.line.items)
    c.in-Ok-Some.unit.line.items c.in-Ok-Some.unit.raw.items in
    let taken = take_next session_framing First r s.units open_still same n.answer in
    let b = rw c.in-Err-Write.field-0-is at c.in-Err-Write.ensures.answers in
    ends_broken u taken s.answers b c.in-Err-Write.ensures.unflushed c.in-Err-Write.ensures.some
    s.spent c.answer.ensures.cost

pub returns-in-Err-NoMemory-answer-clause-session
    : goal.returns-in-Err-NoMemory-answer-clause-session
returns-in-Err-NoMemory-answer-clause-session g c =
    let s = c.loop-unit.invariant.so_far in
    let n = rw c.in-Ok-Some.field-0-is at c.in-Ok-Some.ensures.unit in
    let r = c.loop-unit.engine.reading in
    let same = reading_now c.loop-unit.engine s.answers in
    let open_still : c.loop-unit.lines.is_ended ≡ false = false_from_ne_true _ (λ e. let z =
    (c.in-Ok-Some.ensures.ended e).0 in absurd (cc)) in
    let u = unit_from n.answer.mid (raw_asked r c.in-Ok-Some.unit.line.items)
    c.in-Ok-Some.unit.line.items c.in-Ok-Some.unit.raw.items in
    let taken = take_next session_framing First r s.units open_still same n.answer in
    let b = rw c.in-Err-NoMemory-answer.field-0-is at c.in-Err-NoMemory-answer.ensures.answers in
    ends_unanswered u taken s.answers b c.in-Err-NoMemory-answer.ensures.unflushed s.spent
    c.answer.ensures.cost

pub returns-in-Err-Read-clause-cost : goal.returns-in-Err-Read-clause-cost
returns-in-Err-Read-clause-cost g c =
    let s = c.loop-unit.invariant.so_far in
    spends_between s.units s.spent

pub returns-in-Err-NoMemory-clause-cost : goal.returns-in-Err-NoMemory-clause-cost
returns-in-Err-NoMemory-clause-cost g c =
    let s = c.loop-unit.invariant.so_far in
    spends_between s.units s.spent

pub returns-in-Err-LineTooLong-clause-cost : goal.returns-in-Err-LineTooLong-clause-cost
returns-in-Err-LineTooLong-clause-cost g c =
    let s = c.loop-unit.invariant.so_far in
    spends_between s.units s.spent

pub returns-in-Err-TooManyLines-clause-cost : goal.returns-in-Err-TooManyLines-clause-cost
returns-in-Err-TooManyLines-clause-cost g c =
    let s = c.loop-unit.invariant.so_far in
    spends_between s.units s.spent

pub returns-then-any_fault-clause-cost : goal.returns-then-any_fault-clause-cost
returns-then-any_fault-clause-cost g c =
    let s = c.loop-unit.invariant.so_far in
    spends_between s.units s.spent

pub returns-in-Ok-None-clause-cost : goal.returns-in-Ok-None-clause-cost
returns-in-Ok-None-clause-cost g c =
    let s = c.loop-unit.invariant.so_far in
    spends_between s.units s.spent

pub returns-in-Err-Write-clause-cost : goal.returns-in-Err-Write-clause-cost
returns-in-Err-Write-clause-cost g c =
    let s = c.loop-unit.invariant.so_far in
    let n = rw c.in-Ok-Some.field-0-is at c.in-Ok-Some.ensures.unit in
    let r = c.loop-unit.engine.reading in
    let same = reading_now c.loop-unit.engine s.answers in
    let open_still : c.loop-unit.lines.is_ended ≡ false = false_from_ne_true _ (λ e. let z =
    (c.in-Ok-Some.ensures.ended e).0 in absurd (cc)) in
    let u = unit_from n.answer.mid (raw_asked r c.in-Ok-Some.unit.line.items)
    c.in-Ok-Some.unit.line.items c.in-Ok-Some.unit.raw.items in
    let taken = take_next session_framing First r s.units open_still same n.answer in
    spends_within u s.spent taken c.answer.ensures.cost

pub returns-in-Err-NoMemory-answer-clause-cost : goal.returns-in-Err-NoMemory-answer-clause-cost
returns-in-Err-NoMemory-answer-clause-cost g c =
    let s = c.loop-unit.invariant.so_far in
    let n = rw c.in-Ok-Some.field-0-is at c.in-Ok-Some.ensures.unit in
    let r = c.loop-unit.engine.reading in
    let same = reading_now c.loop-unit.engine s.answers in
    let open_still : c.loop-unit.lines.is_ended ≡ false = false_from_ne_true _ (λ e. let z =
    (c.in-Ok-Some.ensures.ended e).0 in absurd (cc)) in
    let u = unit_from n.answer.mid (raw_asked r c.in-Ok-Some.unit.line.items)
    c.in-Ok-Some.unit.line.items c.in-Ok-Some.unit.raw.items in
    let taken = take_next session_framing First r s.units open_still same n.answer in
    spends_within u s.spent taken c.answer.ensures.cost

pub loop-unit-preserved : goal.loop-unit-preserved
loop-unit-preserved g c =
    let s = c.loop-unit.invariant.so_far in
    let n = rw c.in-Ok-Some.field-0-is at c.in-Ok-Some.ensures.unit in
    let r = c.loop-unit.engine.reading in
    let same = reading_now c.loop-unit.engine s.answers in
    let open_still : c.loop-unit.lines.is_ended ≡ false = false_from_ne_true _ (λ e. let z =
    (c.in-Ok-Some.ensures.ended e).0 in absurd (cc)) in
    let u = unit_from n.answer.mid (raw_asked r c.in-Ok-Some.unit.line.items)
    c.in-Ok-Some.unit.line.items c.in-Ok-Some.unit.raw.items in
    let taken = take_next session_framing First r s.units open_still same n.answer in
    let i = c.in-Ok.ensures.answers in
    record {
      so_far = record {
        taken = s.taken ++ u ∷ [];
        units = taken;
        answers = rw c.either-any_fault.ensures (answer_unit u s.answers i c.in-Ok.ensures.flushes);
        spent = spend_more s.taken u s.spent c.answer.ensures.cost c.in-Ok.ensures.binds i.state;
      };
      flushed = still_flushed (λ sink. IsTrue (g.K.Sink.flushed sink)) c.in-Ok.ensures.flushed
          c.loop-unit.invariant.flushed;
      told = still_told g.S.Source.is_ended c.loop-unit.lines.is_ended c.in-Ok-Some.ensures.told
          (λ e. (c.in-Ok-Some.ensures.ended e).1) c.loop-unit.invariant.told;
      read_later = omega (arith, c.loop-unit.invariant.read_later, c.in-Ok-Some.ensures.later);
      write_later = omega (arith, c.loop-unit.invariant.write_later, c.in-Ok.ensures.later);
    }

pub loop-unit-init : goal.loop-unit-init
loop-unit-init g c = record {
  so_far = rw (c.new-lines.ensures, c.new-out.ensures, c.new-engine.ensures) (at_start _ _ _ _);
  flushed = inr refl;
  told = rw c.new-lines.ensures (λ e. absurd (cc));
  read_later = omega arith;
  write_later = omega arith;
}

pub returns-then-any_fault-clause-ended : goal.returns-then-any_fault-clause-ended
returns-then-any_fault-clause-ended g c = λ complete.
    let n = rw c.in-Ok-None.field-0-is at c.in-Ok-None.ensures.unit in
    still_told g.S.Source.is_ended c.loop-unit.lines.is_ended c.in-Ok-None.ensures.told
    (λ e. (c.in-Ok-None.ensures.ended e).1) c.loop-unit.invariant.told n.answer.is_ended

pub returns-in-Ok-None-clause-ended : goal.returns-in-Ok-None-clause-ended
returns-in-Ok-None-clause-ended g c = λ complete.
    let n = rw c.in-Ok-None.field-0-is at c.in-Ok-None.ensures.unit in
    still_told g.S.Source.is_ended c.loop-unit.lines.is_ended c.in-Ok-None.ensures.told
    (λ e. (c.in-Ok-None.ensures.ended e).1) c.loop-unit.invariant.told n.answer.is_ended
