-- How a session ends.
use Rattle.std.proofs.Common.{◌≡◌, ◌≢◌, ◌⊎◌, inl, inr, ℕ, ◌-◌, Bool, true, false, List, [], ◌∷◌}
use Rattle.std.proofs.Common.{◌++◌, length, refl, ap, sym, ◌∙◌, subst, Option, append_assoc}
use Rattle.std.proofs.Common.{append-nil}
use Rattle.std.specs.Io.KnownBytes.{Consumes, Appends}
use Rattle.awk_edge.specs.Lines.{lines_limit}
use Rattle.awk_edge.specs.Reading as edge
use Rattle.awk_edge.specs.Pending.{Pending}
use Rattle.awk_edge.specs.Next.{HasNone, FailsToRead, IsTooLong}
use Rattle.awk_edge.specs.Units.{Framed, units, whole_units, read_after}
use Rattle.awk_edge.proofs.Known.{Consumes-both, Appends-both}
use Rattle.awk_edge.proofs.UnitLimitLaws.{IsWithinUnits-large, IsWithinUnits-many}
use Rattle.awk_query.specs.declared.reading.Reading as query
use Rattle.awk_query.specs.declared.reading.Reading.TheVariants.{First}
use Rattle.awk_eval.specs.Variables.{Environment, Variables}
use Rattle.awk_framing.specs.Framing.{is_blank, session_framing, session_units, ended_session}
use Rattle.awk_session.specs.Leaves.{Breaks}
use Rattle.awk_session.specs.Replies.{unit_step, answers, has_fault}
use Rattle.awk_units.specs.Runs.{state_after, answer_bytes}
use Rattle.awk_session.specs.State.{State, at_start}
use Rattle.awk_units.proofs.Runs.{texts_push}
use Rattle.awk_session.proofs.SpendLaws.{MaySpend, UnitTakes, spends, spends_in}
use Rattle.awk_run.specs.Flushes.{fronts, Flushes}
use Rattle.awk_run.specs.Session.{Session, MayBeAnswered, IsWhole, IsWithin}
use Rattle.awk_units.specs.Taking.{CutsRaw, AsksTooMuch}
use Rattle.awk_run.specs.declared.run.Status.TheVariants.{Fine, Faults, Read, Write, Memory}
use Rattle.awk_run.specs.declared.run.Status.TheVariants.{LineTooLong, TooManyLines}
use Rattle.awk_run.proofs.Counts.{answered, answered_as, not_all}
use Rattle.awk_run.proofs.Progress.{AreTaken, Answered}
use Rattle.awk_run.proofs.Spends.{given_first}
use Rattle.awk_units.proofs.UnitProgress.{IsDone}
use Rattle.awk_units.proofs.UnitsStop as stops
use Rattle.awk_units.proofs.UnitsTaken as reads

-- the source has nothing left, and all its units were taken
pub record IsTakenAll (left0 left : Option (List ℕ)) (taken : List Framed) : Type 0 where
  pub given : List ℕ
  pub consumes : Consumes left0 left given
  pub done : IsDone session_framing First left given taken
  pub within : IsWithin given

pub none_left : {left0 left1 left2 : Option (List ℕ)} {old new : edge.Reading} {given : List ℕ}
    {taken : List Framed} → AreTaken left0 left1 old taken → HasNone left2 old new given
    → Consumes left1 left2 given → (old.is_ended ≡ true → left2 ≡ left1) → (b : Bool)
    → old.is_ended ≡ b → IsTakenAll left0 left2 taken
none_left {given = given} t n consumes same false e =
    let d = reads.none_left session_framing First t n e in
    record {
      given = t.given ++ given;
      consumes = Consumes-both _ _ _ t.given given t.reads consumes;
      done = d;
      within = reads.done_within session_framing First t d;
    }
none_left {left0 = left0} {left2 = left2} {taken = taken} t n consumes same true e =
    let d = t.done e in
    record {
      given = t.given;
      consumes = subst (λ l. Consumes left0 l t.given) (sym (same e)) t.reads;
      done = subst (λ l. IsDone session_framing First l t.given taken) (sym (same e)) d;
      within = reads.done_within session_framing First t d;
    }

-- no answer is a fault, or some is
whole : {left0 written0 written : Option (List ℕ)} {flushes0 flushes : List (Option (List ℕ))}
    {out : Pending} {state : State Environment} {any fault : Bool} {taken : List Framed}
    {left1 : Option (List ℕ)} → (a : Answered written0 written flushes0 flushes out state any taken)
    → (d : IsTakenAll left0 left1 taken) → any ≡ fault
    → IsWhole left1 d.given (answers taken) (fronts (answers taken)) fault
whole {taken = taken} a d e = record {
  at_end = d.done.at_end;
  within = d.within;
  answers = answered_as taken (session_units d.given) d.done.units;
  faults = ap has_fault d.done.units ∙ sym a.fault ∙ e;
}

pub ends_fine : {left0 left2 written0 written : Option (List ℕ)} {flushes0 flushes : List
    (Option (List ℕ))} {out : Pending} {state : State Environment} {any : Bool}
    {taken : List Framed} {steps0 steps1 : ℕ} {now : State Variables}
    → (a : Answered written0 written flushes0 flushes out state any taken)
    → (d : IsTakenAll left0 left2 taken) → any ≡ false → MaySpend steps0 steps1 now taken
    → Session left0 left2 written0 written flushes0 flushes steps0 steps1 Fine
ends_fine {taken = taken} a d e spent = record {
  given = d.given;
  written = answers taken;
  flushed = fronts (answers taken);
  reads = d.consumes;
  writes = a.writes;
  flushes = a.flushed;
  says = whole a d e;
  large = λ h _. absurd (IsWithinUnits-large session_framing First d.given d.within h);
  many = λ h. absurd (IsWithinUnits-many session_framing First d.given d.within h);
  last = λ h _. absurd (IsWithinUnits-large session_framing First d.given d.within h);
  whole = λ _ _ _. inl (inl refl);
  cost = λ plain. spends taken [] (session_units d.given) spent (d.done.units
      ∙ sym (append-nil taken)) plain;
}

pub ends_faults : {left0 left2 written0 written : Option (List ℕ)} {flushes0 flushes : List
    (Option (List ℕ))} {out : Pending} {state : State Environment} {any : Bool}
    {taken : List Framed} {steps0 steps1 : ℕ} {now : State Variables}
    → (a : Answered written0 written flushes0 flushes out state any taken)
    → (d : IsTakenAll left0 left2 taken) → any ≡ true → MaySpend steps0 steps1 now taken
    → Session left0 left2 written0 written flushes0 flushes steps0 steps1 Faults
ends_faults {taken = taken} a d e spent = record {
  given = d.given;
  written = answers taken;
  flushed = fronts (answers taken);
  reads = d.consumes;
  writes = a.writes;
  flushes = a.flushed;
  says = whole a d e;
  large = λ h _. absurd (IsWithinUnits-large session_framing First d.given d.within h);
  many = λ h. absurd (IsWithinUnits-many session_framing First d.given d.within h);
  last = λ h _. absurd (IsWithinUnits-large session_framing First d.given d.within h);
  whole = λ _ _ _. inl (inr refl);
  cost = λ plain. spends taken [] (session_units d.given) spent (d.done.units
      ∙ sym (append-nil taken)) plain;
}

-- reading failed in the midst of a line, or of its raw bytes
pub ends_read : {left0 left1 left2 written0 written : Option (List ℕ)} {flushes0 flushes : List
    (Option (List ℕ))} {reading : edge.Reading} {out : Pending} {state : State Environment}
    {any : Bool} {taken : List Framed} {steps0 steps1 : ℕ} {now : State Variables}
    → (r : query.Reading) (given : List ℕ) (t : AreTaken left0 left1 reading taken)
    → (a : Answered written0 written flushes0 flushes out state any taken)
    → reading.is_ended ≡ false → r ≡ read_after session_framing First taken
    → FailsToRead reading (reading.held ++ given) ⊎ CutsRaw session_framing r reading given
    → Consumes left1 left2 given → MaySpend steps0 steps1 now taken
    → Session left0 left2 written0 written flushes0 flushes steps0 steps1 Read
ends_read {reading = reading} {taken = taken} r given t a o same (inl f) consumes spent = record {
  given = t.given ++ given;
  written = answers taken;
  flushed = fronts (answers taken);
  reads = Consumes-both _ _ _ t.given given t.reads consumes;
  writes = a.writes;
  flushes = a.flushed;
  says = answered_as taken (ended_session (t.given ++ given)) (reads.read_ended session_framing
      First given t o f);
  large = λ h good. absurd (stops.read_not_large session_framing First given t o f h good);
  many = λ h. absurd (stops.read_not_many session_framing First given t o f h);
  last = λ _ _. inr (inl refl);
  whole = λ _ _ _. inr (inl refl);
  cost = λ plain. spends taken (units session_framing (read_after session_framing First taken)
      (reading.held ++ given)) (session_units (t.given ++ given)) spent (stops.units_still
      session_framing First given t o) plain;
}
ends_read {reading = reading} {taken = taken} r given t a o same (inr c) consumes spent = record {
  given = t.given ++ given;
  written = answers taken;
  flushed = fronts (answers taken);
  reads = Consumes-both _ _ _ t.given given t.reads consumes;
  writes = a.writes;
  flushes = a.flushed;
  says = answered_as taken (ended_session (t.given ++ given)) (stops.cuts_ended session_framing
      First r t o same c);
  large = λ h _. absurd (stops.cut_not_large session_framing First r t o same c h);
  many = λ h. absurd (stops.cut_not_many session_framing First r t o same c h);
  last = λ _ _. inr (inl refl);
  whole = λ _ _ _. inr (inl refl);
  cost = λ plain. spends taken (units session_framing (read_after session_framing First taken)
      (reading.held ++ given)) (session_units (t.given ++ given)) spent (stops.units_still
      session_framing First given t o) plain;
}

-- a line is too long, or asks for too many raw bytes
pub ends_large : {left0 left1 left2 written0 written : Option (List ℕ)} {flushes0 flushes : List
    (Option (List ℕ))} {reading : edge.Reading} {out : Pending} {state : State Environment}
    {any : Bool} {taken : List Framed} {steps0 steps1 : ℕ} {now : State Variables}
    → (r : query.Reading) (given : List ℕ) (t : AreTaken left0 left1 reading taken)
    → (a : Answered written0 written flushes0 flushes out state any taken)
    → reading.is_ended ≡ false → r ≡ read_after session_framing First taken
    → IsTooLong reading (reading.held ++ given) ⊎ AsksTooMuch session_framing r left2 reading given
    → Consumes left1 left2 given → MaySpend steps0 steps1 now taken
    → Session left0 left2 written0 written flushes0 flushes steps0 steps1 LineTooLong
ends_large {reading = reading} {taken = taken} r given t a o same f consumes spent =
    let l = stops.large_now session_framing First r t o same f in
    record {
      given = t.given ++ given;
      written = answers taken;
      flushed = fronts (answers taken);
      reads = Consumes-both _ _ _ t.given given t.reads consumes;
      writes = a.writes;
      flushes = a.flushed;
      says = (
        answered_as taken (ended_session (t.given ++ given)) l.ended,
        record {
          unit = l.unit;
          settled = l.settled;
        },
      );
      large = λ _ _. inl refl;
      many = λ h. absurd (stops.large_or_many session_framing First (t.given ++ given) l.unit h);
      last = λ _ _. inl refl;
      whole = λ _ w _. absurd (IsWithinUnits-large session_framing First (t.given ++ given) w
          l.unit);
      cost = λ plain. spends taken (units session_framing (read_after session_framing First taken)
          (reading.held ++ given)) (session_units (t.given ++ given)) spent (stops.units_still
          session_framing First given t o) plain;
    }

-- there are too many units
pub ends_many : {left0 left1 left2 written0 written : Option (List ℕ)} {flushes0 flushes : List
    (Option (List ℕ))} {reading : edge.Reading} {out : Pending} {state : State Environment}
    {any : Bool} {taken : List Framed} {steps0 steps1 : ℕ} {now : State Variables}
    → (given : List ℕ) (t : AreTaken left0 left1 reading taken)
    → (a : Answered written0 written flushes0 flushes out state any taken)
    → reading.is_ended ≡ false
    → (reading.taken ≡ lines_limit) × (reading.held ++ given ≢ []) → Consumes left1 left2 given
    → MaySpend steps0 steps1 now taken
    → Session left0 left2 written0 written flushes0 flushes steps0 steps1 TooManyLines
ends_many {reading = reading} {taken = taken} given t a o f consumes spent =
    let m = stops.many_now session_framing First given t o f in
    record {
      given = t.given ++ given;
      written = answers taken;
      flushed = fronts (answers taken);
      reads = Consumes-both _ _ _ t.given given t.reads consumes;
      writes = a.writes;
      flushes = a.flushed;
      says = (answered_as taken (ended_session (t.given ++ given)) m.ended, m.units);
      large = λ h _. absurd (stops.large_or_many session_framing First (t.given ++ given) h
          m.units);
      many = λ _. inl refl;
      last = λ h _. absurd (stops.large_or_many session_framing First (t.given ++ given) h m.units);
      whole = λ _ w _. absurd (IsWithinUnits-many session_framing First (t.given ++ given) w
          m.units);
      cost = λ plain. spends taken (units session_framing (read_after session_framing First taken)
          (reading.held ++ given)) (session_units (t.given ++ given)) spent (stops.units_still
          session_framing First given t o) plain;
    }

-- memory was wanting in the midst of a unit
pub ends_memory : {left0 left1 left2 written0 written : Option (List ℕ)} {flushes0 flushes : List
    (Option (List ℕ))} {reading : edge.Reading} {out : Pending} {state : State Environment}
    {any : Bool} {taken : List Framed} {steps0 steps1 : ℕ} {now : State Variables}
    → (given : List ℕ) (t : AreTaken left0 left1 reading taken)
    → (a : Answered written0 written flushes0 flushes out state any taken)
    → reading.is_ended ≡ false → Consumes left1 left2 given → MaySpend steps0 steps1 now taken
    → Session left0 left2 written0 written flushes0 flushes steps0 steps1 Memory
ends_memory {reading = reading} {taken = taken} given t a o consumes spent = record {
  given = t.given ++ given;
  written = answers taken;
  flushed = fronts (answers taken);
  reads = Consumes-both _ _ _ t.given given t.reads consumes;
  writes = a.writes;
  flushes = a.flushed;
  says = record {
    front = taken;
    rest = whole_units (lines_limit - length taken) (units session_framing
        (read_after session_framing First taken) (reading.held ++ given));
    units = inl (sym (stops.ended_still session_framing First given t o));
    answers = answered taken;
  };
  large = λ _ _. inr (inl refl);
  many = λ _. inr (inl refl);
  last = λ _ _. inr (inr (inl refl));
  whole = λ _ _ _. inr (inr refl);
  cost = λ plain. spends taken (units session_framing (read_after session_framing First taken)
      (reading.held ++ given)) (session_units (t.given ++ given)) spent (stops.units_still
      session_framing First given t o) plain;
}

-- memory was wanting for an answer
pub ends_unanswered : {left0 left written0 written1 written2 : Option (List ℕ)} {flushes0 flushes1
    flushes2 : List (Option (List ℕ))} {reading : edge.Reading} {out : Pending}
    {state : State Environment} {any : Bool} {taken : List Framed} {steps0 steps1 steps2 : ℕ}
    {now : State Variables} → (u : Framed) (t : AreTaken left0 left reading (taken ++ u ∷ []))
    → (a : Answered written0 written1 flushes0 flushes1 out state any taken)
    → Appends written1 written2 [] → flushes2 ≡ flushes1 → MaySpend steps0 steps1 now taken
    → UnitTakes now u steps1 steps2
    → Session left0 left written0 written2 flushes0 flushes2 steps0 steps2 Memory
ends_unanswered {left = left} {written0 = written0} {written2 = written2} {flushes0 =
    flushes0} {taken = taken} u t a none same spent takes =
    let m = reads.may_be_answered session_framing First t _ refl in
    let g = given_first t _ refl in
    record {
      given = t.given;
      written = answers taken;
      flushed = fronts (answers taken);
      reads = t.reads;
      writes = subst (λ z. Appends written0 written2 z) (append-nil (answers taken))
          (Appends-both _ _ _ (answers taken) [] a.writes none);
      flushes = subst (λ z. Flushes written0 flushes0 z (fronts (answers taken))) (sym same)
          a.flushed;
      says = record {
        front = taken;
        rest = u ∷ m.0;
        units = subst (λ z. MayBeAnswered left t.given z) (append_assoc taken (u ∷ []) m.0) m.1;
        answers = answered taken;
      };
      large = λ _ _. inr (inl refl);
      many = λ _. inr (inl refl);
      last = λ _ _. inr (inr (inl refl));
      whole = λ _ _ _. inr (inr refl);
      cost = λ plain. spends_in taken u g.more (session_units t.given) spent takes g.all plain;
    }

-- the sink failed in an answer
pub ends_broken : {left0 left written0 written1 written2 : Option (List ℕ)} {flushes0 flushes1
    flushes2 : List (Option (List ℕ))} {reading : edge.Reading} {out : Pending}
    {state : State Environment} {any : Bool} {taken : List Framed} {steps0 steps1 steps2 : ℕ}
    {now : State Variables} → (u : Framed) (t : AreTaken left0 left reading (taken ++ u ∷ []))
    → (a : Answered written0 written1 flushes0 flushes1 out state any taken)
    → Breaks written1 written2 (answer_bytes (unit_step state u).answer) → flushes2 ≡ flushes1
    → is_blank u.line ≡ false → MaySpend steps0 steps1 now taken → UnitTakes now u steps1 steps2
    → Session left0 left written0 written2 flushes0 flushes2 steps0 steps2 Write
ends_broken {left = left} {written0 = written0} {flushes0 = flushes0} {state = state} {taken =
    taken} u t a b same some spent takes =
    let m = reads.may_be_answered session_framing First t _ refl in
    let g = given_first t _ refl in
    let here : answer_bytes (unit_step (state_after unit_step at_start taken) u).answer ≡ b.gone ++
    b.rest = ap (λ s. answer_bytes (unit_step s u).answer) (sym a.state) ∙ b.all in
    let first : answers (taken ++ u ∷ []) ≡ (answers taken ++ b.gone) ++ b.rest =
    texts_push unit_step at_start taken u ∙ ap (λ z. answers taken ++ z) here
    ∙ sym (append_assoc (answers taken) b.gone b.rest) in
    record {
      given = t.given;
      written = answers taken ++ b.gone;
      flushed = fronts (answers taken);
      reads = t.reads;
      writes = Appends-both _ _ _ (answers taken) b.gone a.writes b.appends;
      flushes = subst (λ z. Flushes written0 flushes0 z (fronts (answers taken))) (sym same)
          a.flushed;
      says = record {
        front = taken;
        unit = u;
        rest = m.0;
        units = subst (λ z. MayBeAnswered left t.given z) (append_assoc taken (u ∷ []) m.0) m.1;
        some = some;
        whole = answers taken;
        part = b.gone;
        after = b.rest;
        first = answered taken;
        bytes = refl;
        next = first;
      };
      large = λ _ _. inr (inr refl);
      many = λ _. inr (inr refl);
      last = λ _ _. inr (inr (inr refl));
      whole = λ _ _ h. absurd (not_all taken u g.more (session_units t.given) (answers taken ++
          b.gone) some g.all h);
      cost = λ plain. spends_in taken u g.more (session_units t.given) spent takes g.all plain;
    }
