-- A made session, whose bytes a source gave that never fails.
use Rattle.std.proofs.Common.{◌≡◌, ◌≤◌, inl, inr, ℕ, ◌+◌, Bool, List, [], ◌∷◌, ◌++◌}
use Rattle.std.proofs.Common.{refl, ap, sym, ◌∙◌, subst, arith, Option, Some, None}
use Rattle.std.proofs.Common.{append_assoc, append-nil, IsTrue, decimal, String}
use Rattle.std.specs.declared.alloc.Global.{Global}
use Rattle.std.specs.Io.KnownBytes.{Appends}
use Rattle.std.proofs.lemmas.Fmt.{decimal_injective}
use Rattle.awk_edge.specs.Causes.{Rose}
use Rattle.awk_edge.specs.Units.{Framed, units}
use Rattle.awk_edge.proofs.Known.{Appends-none}
use Rattle.awk_query.specs.declared.reading.Reading.TheVariants.{First}
use Rattle.awk_made.specs.Session.{session_of}
use Rattle.awk_session.specs.Cost.{are_plain, cost}
use Rattle.awk_framing.specs.Framing.{session_framing, session_units, ended_session}
use Rattle.awk_session.specs.Replies.{answers}
use Rattle.awk_run.specs.Flushes.{fronts}
use Rattle.awk_run.specs.Words.{IsMake}
use Rattle.awk_run.specs.Session.{Session, Says, MadeSession, IsWhole, IsCut}
use Rattle.awk_run.specs.Session.{HasFirstAnswers, AreAnswered, MayBeAnswered, IsComplete, IsWithin}
use Rattle.awk_run.specs.declared.run.Status.{Status}
use Rattle.awk_run.specs.declared.run.Status.TheVariants.{Fine, Faults, Words, Read, Write, Memory}
use Rattle.awk_run.specs.declared.run.Status.TheVariants.{LineTooLong, TooManyLines}
use Rattle.awk_run.proofs.Complete.{large_in_front, many_in_front}
use Rattle.awk_run.proofs.Counts.{answered, not_all}
use Rattle.awk_units.proofs.UnitEnds.{ended-front}

-- what may be answered of what was given is the front of what may be answered of all
record MayMore (made : List ℕ) (ls : List Framed) : Type 0 where
  pub more : List Framed
  pub may : MayBeAnswered (Some []) made (ls ++ more)

may_more : (made given rest : List ℕ) (ls : List Framed) → made ≡ given ++ rest
    → MayBeAnswered (Some rest) given ls → MayMore made ls
may_more made given rest ls e (inl ended_here) =
    let f = ended-front session_framing First given rest in
    record {
      more = f.more;
      may = inl (ap (λ z. z ++ f.more) ended_here ∙ sym f.all
          ∙ ap ended_session (sym e));
    }
may_more made given rest ls e (inr all) =
    let same : given ≡ made = sym (append-nil given) ∙ ap (λ z. given ++ z) (sym all.1) ∙ sym e in
    record { more = []; may = inr (append-nil ls ∙ all.0 ∙ ap session_units same, refl) }

whole_made : (made given rest written : List ℕ) (flushed : List (List ℕ)) (b : Bool)
    → made ≡ given ++ rest → IsWhole (Some rest) given written flushed b
    → IsWhole (Some []) made written flushed b
whole_made made given rest written flushed b e h =
    let same : given ≡ made = sym (append-nil given) ∙ ap (λ z. given ++ z) (sym h.at_end)
    ∙ sym e in
    subst (λ z. IsWhole (Some []) z written flushed b) same
    (record { at_end = refl; within = h.within; answers = h.answers; faults = h.faults })

first_made : (made given rest written : List ℕ) (flushed : List (List ℕ)) → made ≡ given ++ rest
    → HasFirstAnswers (Some rest) given written flushed
    → HasFirstAnswers (Some []) made written flushed
first_made made given rest written flushed e h =
    let m = may_more made given rest (h.front ++ h.rest) e h.units in
    record {
      front = h.front;
      rest = h.rest ++ m.more;
      units = subst (λ z. MayBeAnswered (Some []) made z) (append_assoc h.front h.rest m.more)
          m.may;
      answers = h.answers;
    }

cut_made : (made given rest written : List ℕ) (flushed : List (List ℕ)) → made ≡ given ++ rest
    → IsCut (Some rest) given written flushed → IsCut (Some []) made written flushed
cut_made made given rest written flushed e h =
    let m = may_more made given rest (h.front ++ h.unit ∷ h.rest) e h.units in
    record {
      front = h.front;
      unit = h.unit;
      rest = h.rest ++ m.more;
      units = subst (λ z. MayBeAnswered (Some []) made z) (append_assoc h.front (h.unit ∷ h.rest)
          m.more) m.may;
      some = h.some;
      whole = h.whole;
      part = h.part;
      after = h.after;
      first = h.first;
      bytes = h.bytes;
      next = h.next;
    }

-- where each unit is whole, all units may be answered
all_units : (made : List ℕ) (us : List Framed) → ended_session made ≡ session_units made
    → MayBeAnswered (Some []) made us → session_units made ≡ us
all_units made us same (inl e) = sym (e ∙ same)
all_units made us same (inr e) = sym e.0

-- a session that is cut was not answered whole
not_whole : (made written : List ℕ) (flushed : List (List ℕ))
    → ended_session made ≡ session_units made → IsCut (Some []) made written flushed
    → AreAnswered (session_units made) written flushed → ⊥
not_whole made written flushed same h whole =
    let noted : flushed ≡ fronts (answers h.front) = h.first.flushes ∙ ap fronts h.first.answers in
    let all : session_units made ≡ (h.front ++ h.unit ∷ []) ++ h.rest =
    all_units made _ same h.units ∙ sym (append_assoc h.front (h.unit ∷ []) h.rest) in
    not_all h.front h.unit h.rest (session_units made) written h.some all
    (subst (λ z. AreAnswered (session_units made) written z) noted whole)

ends_made : (made left1 : List ℕ) {written0 written1 : Option (List ℕ)} {flushes0 flushes1 : List
    (Option (List ℕ))} {steps0 steps1 : ℕ} (status : Status) → IsWithin made
    → ended_session made ≡ session_units made
    → (s : Session (Some made) (Some left1) written0 written1 flushes0 flushes1 steps0 steps1
    status) → (status ≡ Read → ⊥) → (IsTrue (are_plain (session_units made))
    → steps1 ≤ steps0 + cost (session_units made))
    → MadeSession made written0 written1 flushes0 flushes1 steps0 steps1 status
ends_made made left1 Fine w same s r spent = record {
  written = s.written;
  flushed = s.flushed;
  writes = s.writes;
  flushes = s.flushes;
  says =
      whole_made made s.given left1 s.written s.flushed _ s.reads s.says;
  ends = tt;
  whole =
      λ _. inl (inl refl);
  cost = spent;
}
ends_made made left1 Faults w same s r spent = record {
  written = s.written;
  flushed = s.flushed;
  writes = s.writes;
  flushes = s.flushes;
  says =
      whole_made made s.given left1 s.written s.flushed _ s.reads s.says;
  ends = tt;
  whole =
      λ _. inl (inr refl);
  cost = spent;
}
ends_made made left1 Words w same s r spent = absurd s.says
ends_made made left1 Read w same s r spent = absurd (r refl)
ends_made made left1 Write w same s r spent =
    let cut = cut_made made s.given left1 s.written s.flushed s.reads s.says in
    record {
      written = s.written;
      flushed = s.flushed;
      writes = s.writes;
      flushes = s.flushes;
      says = cut;
      ends = tt;
      whole = λ h. absurd (not_whole made s.written s.flushed same cut h);
      cost = spent;
    }
ends_made made left1 Memory w same s r spent = record {
  written = s.written;
  flushed = s.flushed;
  writes = s.writes;
  flushes = s.flushes;
  says =
      first_made made s.given left1 s.written s.flushed s.reads s.says;
  ends = tt;
  whole =
      λ _. inr refl;
  cost = spent;
}
ends_made made left1 LineTooLong w same s r spent =
    absurd (large_in_front (Some left1) made s.given s.reads w s.says.1.unit s.says.1.settled)
ends_made made left1 TooManyLines w same s r spent =
    absurd (many_in_front (Some left1) made s.given s.reads w s.says.1)

-- of the same bytes it says the same
pub made_as : {made1 made2 : List ℕ} {written0 written1 : Option (List ℕ)} {flushes0 flushes1 : List
    (Option (List ℕ))} {steps0 steps1 : ℕ} (status : Status) → made1 ≡ made2
    → MadeSession made1 written0 written1 flushes0 flushes1 steps0 steps1 status
    → MadeSession made2 written0 written1 flushes0 flushes1 steps0 steps1 status
made_as {written0 = written0} {written1 = written1} {flushes0 = flushes0} {flushes1 =
    flushes1} {steps0 = steps0} {steps1 = steps1} status e s =
    subst (λ z. MadeSession z written0 written1 flushes0 flushes1 steps0 steps1 status) e s

pub made_session : (made : List ℕ) {left0 left1 written0 written1 : Option (List ℕ)}
    {flushes0 flushes1 : List (Option (List ℕ))} {steps0 steps1 : ℕ} (status : Status)
    → left0 ≡ Some made → IsWithin made → ended_session made ≡ session_units made
    → (s : Session left0 left1 written0 written1 flushes0 flushes1 steps0 steps1 status)
    → (status ≡ Read → ⊥) → (IsTrue (are_plain (session_units made))
    → steps1 ≤ steps0 + cost (session_units made))
    → MadeSession made written0 written1 flushes0 flushes1 steps0 steps1 status
made_session made {left0 = None} {left1 = left1} status e w same s r spent = absurd (cc)
made_session made {left0 = Some all} {left1 = None} status e w same s r spent = absurd s.reads
made_session made {left0 = Some all} {left1 = Some left1} {written0 = written0} {written1 =
    written1} {flushes0 = flushes0} {flushes1 = flushes1} {steps0 = steps0} {steps1 =
    steps1} status e w same s r spent =
    let it : all ≡ made = cc in
    ends_made made left1 status w same (subst (λ z. Session (Some z) (Some left1) written0 written1
    flushes0 flushes1 steps0 steps1 status) it s) r spent

-- memory was wanting for the session itself
pub made_nothing : (made : List ℕ) (written : Option (List ℕ)) (flushes : List (Option (List ℕ)))
    (steps : ℕ) → MadeSession made written written flushes flushes steps steps Memory
made_nothing made written flushes steps = record {
  written = [];
  flushed = [];
  writes = Appends-none written;
  flushes = record { notes = []; all = sym (append-nil flushes); are_notes = tt };
  says = record {
    front = [];
    rest = session_units made;
    units = inr (refl, refl);
    answers =
        answered [];
  };
  ends = tt;
  whole = λ _. inr refl;
  cost = λ plain. omega arith;
}

-- a source that never fails has no count that rose
pub never_rose : Rose 0 0 → ⊥
never_rose (inl less) = omega arith
never_rose (inr last) = absurd (omega arith)

written_all : (written0 written1 : Option (List ℕ)) (written before whole : List ℕ)
    → Appends written0 written1 written → written0 ≡ Some before → written ≡ whole
    → written1 ≡ Some (before ++ whole)
written_all None written1 written before whole a e w = absurd (cc)
written_all (Some u) None written before whole a e w = absurd a
written_all (Some u) (Some v) written before whole a e w =
    let same : u ≡ before = cc in
    ap Some (a ∙ ap (λ z. z ++ written) same ∙ ap (λ z. before ++ z) w)

pub made_known : {made : List ℕ} {written0 written1 : Option (List ℕ)} {flushes0 flushes1 : List
    (Option (List ℕ))} {steps0 steps1 : ℕ} (status : Status)
    → (s : MadeSession made written0 written1 flushes0 flushes1 steps0 steps1 status)
    → (before : List ℕ) → written0 ≡ Some before → IsComplete status
    → written1 ≡ Some (before ++ answers (session_units made))
made_known {made = made} status s before e (inl fine) =
    written_all _ _ s.written before _ s.writes e (subst (λ st. Says st (Some []) made s.written
    s.flushed) fine s.says).answers.answers
made_known {made = made} status s before e (inr faults) =
    written_all _ _ s.written before _ s.writes e (subst (λ st. Says st (Some []) made s.written
    s.flushed) faults s.says).answers.answers

-- the words ask for one session
pub same_made : (words : List (String Global)) (s1 e1 s2 e2 : ℕ) → IsMake words s1 e1
    → IsMake words s2 e2 → session_of s1 e1 ≡ session_of s2 e2
same_made words s1 e1 s2 e2 m n =
    let asked = sym m.asked ∙ n.asked in
    let seeds : decimal s1 ≡ decimal s2 = cc in
    let counts : decimal e1 ≡ decimal e2 = cc in
    let seed : s1 ≡ s2 =
    decimal_injective s1 s2 (omega (arith, m.most_seed)) (omega (arith, n.most_seed)) seeds in
    let count : e1 ≡ e2 =
    decimal_injective e1 e2 (omega (arith, m.most_events)) (omega (arith, n.most_events)) counts
    in
    ap (λ z. session_of z e1) seed ∙ ap (session_of s2) count
