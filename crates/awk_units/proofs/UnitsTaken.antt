-- Units that are taken, one after another.
use Rattle.std.proofs.Common.{◌≡◌, ◌≢◌, ◌≤◌, ◌<◌, ◌⊎◌, ◌&&◌, ◌==◌, inl, inr, nat_lt, ℕ, ◌+◌}
use Rattle.std.proofs.Common.{◌-◌, Bool, true, false, cond, not, true≢false, List, [], ◌∷◌}
use Rattle.std.proofs.Common.{◌++◌, length, refl, ap, sym, ◌∙◌, subst, arith, Option, append_assoc}
use Rattle.std.proofs.Common.{append-nil, length-append}
use Rattle.std.proofs.lemmas.Bool.{ne_eqb}
use Rattle.std.specs.Io.KnownBytes.{Consumes}
use Rattle.std.specs.List.{AllByRecursion}
use Rattle.awk_edge.specs.Lines.{Unbroken, line_limit, lines_limit}
use Rattle.awk_edge.specs.Reading.{Reading}
use Rattle.awk_edge.specs.Next.{TakesLine, HasNone, FailsToRead, IsTooLong}
use Rattle.awk_edge.specs.Raw.{TakesBytes}
use Rattle.awk_edge.specs.Units.{raw_limit, Framing, Framed, units, is_whole, is_small, whole_units}
use Rattle.awk_edge.specs.Units.{ended_units, joined_units, IsUnit, AreUnits, read_after}
use Rattle.awk_edge.specs.Units.{first_line}
use Rattle.awk_edge.specs.UnitLimits.{HasLargeUnit, HasTooManyUnits, IsSmall}
use Rattle.awk_edge.specs.UnitLimits.{IsWithinUnits}
use Rattle.awk_edge.proofs.Known.{Consumes-both, Consumes-none}
use Rattle.awk_edge.proofs.UnitLaws.{units-joined, units-nil, units-last, units-cut, ended-joined}
use Rattle.awk_edge.proofs.UnitLaws.{whole_units-nil, whole_units-stop, first_line-line}
use Rattle.awk_units.specs.Taking.{TakesUnit}
use Rattle.awk_units.proofs.UnitProgress.{IsDone, Taken, IsToAnswer}

-- a line that was taken, with its raw bytes
abbrev pub unit_from : Reading → ℕ → List ℕ → List ℕ → Framed
unit_from mid asked line raw = record {
  line = line;
  is_ended = not mid.is_ended;
  asked = asked;
  raw = raw;
}

pub regroup : (given0 given joined held tail : List ℕ) → given0 ≡ joined ++ held
    → held ++ given ≡ tail → given0 ++ given ≡ joined ++ tail
regroup given0 given joined held tail p q = ap (λ z. z ++ given) p ∙ append_assoc joined held given
    ∙ ap (λ z. joined ++ z) q

length_push : (xs : List Framed) (x : Framed) → length (xs ++ x ∷ []) ≡ length xs + 1
length_push xs x = simp length-append

joined_push : (us : List Framed) (u : Framed) (bytes : List ℕ)
    → joined_units (us ++ u ∷ []) ++ bytes ≡ joined_units us ++ (u.line ++ 10 ∷ (u.raw ++ bytes))
joined_push [] u bytes = append_assoc u.line (10 ∷ (u.raw ++ [])) bytes
    ∙ ap (λ z. u.line ++ 10 ∷ z) (append_assoc u.raw [] bytes)
joined_push (v ∷ us) u bytes =
    append_assoc v.line (10 ∷ (v.raw ++ joined_units (us ++ u ∷ []))) bytes
    ∙ ap (λ z. v.line ++ 10 ∷ z) (append_assoc v.raw (joined_units (us ++ u ∷ [])) bytes
    ∙ ap (λ z. v.raw ++ z) (joined_push us u bytes)
    ∙ sym (append_assoc v.raw (joined_units us) (u.line ++ 10 ∷ (u.raw ++ bytes))))
    ∙ sym (append_assoc v.line (10 ∷ (v.raw ++ joined_units us)) (u.line ++ 10 ∷ (u.raw ++ bytes)))

all_push : (us : List Framed) (u : Framed) → AllByRecursion IsSmall us → IsSmall u
    → AllByRecursion IsSmall (us ++ u ∷ [])
all_push [] u a s = (s, tt)
all_push (v ∷ us) u a s = (a.0, all_push us u a.1 s)

-- a line is at least as long as an unbroken start
pub first_longest : (start rest : List ℕ) → Unbroken start
    → length start ≤ length (first_line (start ++ rest))
first_longest [] rest u = omega arith
first_longest (b ∷ start) rest u =
    rw (ne_eqb b 10 u.0) (omega (arith, first_longest start rest u.1))

module _ {R : Type 0} (p : Framing R) (r0 : R) where
  AreUnits_push : (r : R) (us : List Framed) (u : Framed) → AreUnits p r us
      → IsUnit p (read_after p r us) u → AreUnits p r (us ++ u ∷ [])
  AreUnits_push r [] u a h = (h, tt)
  AreUnits_push r (v ∷ us) u a h = (a.0, AreUnits_push (p.after r v.line) us u a.1 h)

  are_small : (r : R) (us : List Framed) → AreUnits p r us → AllByRecursion IsSmall us
  are_small r [] a = tt
  are_small r (u ∷ us) a = (
    record {
      short = a.0.short;
      few =
          a.0.few;
    },
    are_small (p.after r u.line) us a.1,
  )

  -- nothing was taken
  pub at_start : (left : Option (List ℕ)) → Taken p r0 left left (record {
    held = [];
    taken = 0;
    is_open = true;
    is_ended = false;
  }) []
  at_start left = record {
    given = [];
    reads = Consumes-none left;
    count = refl;
    most = omega arith;
    is_open = refl;
    midway = λ _. record { bytes = refl; are_units = tt };
    done = λ e. absurd (cc);
  }

  -- what was read up to a line and its end, and what is held behind it
  pub through_line : {left0 left1 left2 : Option (List ℕ)} {old mid : Reading} {line given : List ℕ}
      {taken : List Framed} → (t : Taken p r0 left0 left1 old taken) → old.is_ended ≡ false
      → TakesLine left2 old mid given line → mid.is_ended ≡ false
      → t.given ++ given ≡ joined_units taken ++ (line ++ 10 ∷ mid.held)
  through_line {old = old} {mid = mid} {line = line} {given = given} {taken = taken} t o n e =
      regroup t.given given (joined_units taken) old.held _ (t.midway o).bytes (n.bytes
      ∙ ap (λ b. line ++ cond b [] (10 ∷ mid.held)) e)

  -- a line and all the raw bytes that it asks for
  pub take_unit : {left0 left1 left2 left3 : Option (List ℕ)} {old mid new : Reading}
      {line given raw more : List ℕ} {taken : List Framed} {n : ℕ}
      → Taken p r0 left0 left1 old taken → old.is_ended ≡ false → TakesLine left2 old mid given line
      → Consumes left1 left2 given → mid.is_ended ≡ false
      → n ≡ p.asked (read_after p r0 taken) line → n ≤ raw_limit
      → TakesBytes left3 mid new more raw n → Consumes left2 left3 more → length raw ≡ n
      → Taken p r0 left0 left3 new (taken ++ unit_from mid n line raw ∷ [])
  take_unit {mid = mid} {new = new} {line = line} {given = given} {raw = raw} {more = more} {taken =
      taken} {n = n} t o l c e asked few b d all =
      let u = unit_from mid n line raw in
      let ended : new.is_ended ≡ false = b.whole all ∙ e in
      let bytes : (t.given ++ given) ++ more ≡ joined_units (taken ++ u ∷ []) ++ new.held =
      ap (λ z. z ++ more) (through_line t o l e)
      ∙ append_assoc (joined_units taken) (line ++ 10 ∷ mid.held) more
      ∙ ap (λ z. joined_units taken ++ z) (append_assoc line (10 ∷ mid.held) more
      ∙ ap (λ z. line ++ 10 ∷ z) b.bytes)
      ∙ sym (joined_push taken u new.held) in
      let is_unit : IsUnit p (read_after p r0 taken) u = record {
        unbroken = l.unbroken;
        is_ended =
            ap not e;
        asked = asked;
        raw = all;
        short = l.short;
        few = few;
      } in
      record {
        given = (t.given ++ given) ++ more;
        reads = Consumes-both _ _ _ (t.given ++ given) more (Consumes-both _ _ _ t.given given
            t.reads c) d;
        count = length_push taken u ∙ ap (λ k. k + 1) t.count ∙ sym l.taken ∙ sym b.taken;
        most = omega (arith, length_push taken u, t.count, l.room);
        is_open = b.is_open;
        midway = λ _. record {
          bytes = bytes;
          are_units =
              AreUnits_push r0 taken u (t.midway o).are_units is_unit;
        };
        done = λ f. absurd (true≢false (sym f ∙ ended));
      }

  -- a line whose raw bytes are not all there
  pub take_cut : {left0 left1 left2 left3 : Option (List ℕ)} {old mid new : Reading}
      {line given raw more : List ℕ} {taken : List Framed} {n : ℕ}
      → Taken p r0 left0 left1 old taken → old.is_ended ≡ false → TakesLine left2 old mid given line
      → Consumes left1 left2 given → mid.is_ended ≡ false
      → n ≡ p.asked (read_after p r0 taken) line → n ≤ raw_limit
      → TakesBytes left3 mid new more raw n → Consumes left2 left3 more → length raw < n
      → Taken p r0 left0 left3 new (taken ++ unit_from mid n line raw ∷ [])
  take_cut {mid = mid} {new = new} {line = line} {given = given} {raw = raw} {more = more} {taken =
      taken} {n = n} t o l c e asked few b d less =
      let u = unit_from mid n line raw in
      let stops = b.fewer less in
      let bytes : (t.given ++ given) ++ more ≡ joined_units taken ++ (line ++ 10 ∷ raw) =
      ap (λ z. z ++ more) (through_line t o l e)
      ∙ append_assoc (joined_units taken) (line ++ 10 ∷ mid.held) more
      ∙ ap (λ z. joined_units taken ++ z) (append_assoc line (10 ∷ mid.held) more
      ∙ ap (λ z. line ++ 10 ∷ z) (b.bytes ∙ ap (λ z. raw ++ z) stops.1 ∙ append-nil raw)) in
      let last = units-cut p (read_after p r0 taken) line raw l.unbroken
      (omega (arith, less, asked)) in
      let same : (let v : Framed = record {
        line = line;
        is_ended = true;
        asked =
            p.asked (read_after p r0 taken) line;
        raw = raw;
      } in v) ≡ u = ap (λ k. let v : Framed =
      record { line = line; is_ended = true; asked = k; raw = raw } in v) (sym asked)
      ∙ ap (λ k. let v : Framed = record { line = line; is_ended = k; asked = n; raw = raw } in
      v) (sym (ap not e)) in
      record {
        given = (t.given ++ given) ++ more;
        reads = Consumes-both _ _ _ (t.given ++ given) more (Consumes-both _ _ _ t.given given
            t.reads c) d;
        count = length_push taken u ∙ ap (λ k. k + 1) t.count ∙ sym l.taken ∙ sym b.taken;
        most = omega (arith, length_push taken u, t.count, l.room);
        is_open = b.is_open;
        midway = λ f. absurd (true≢false (sym stops.0 ∙ f));
        done = λ f. record {
          at_end = b.ended f e;
          units = ap (units p r0) bytes
              ∙ units-joined p r0 taken (line ++ 10 ∷ raw) (t.midway o).are_units
              ∙ ap (λ z. taken ++ z) (last ∙ ap (λ v. v ∷ []) same);
          small = all_push taken u (are_small r0 taken (t.midway o).are_units) (record {
            short =
                l.short;
            few = few;
          });
        };
      }

  -- a last line without an end
  pub take_last : {left0 left1 left2 : Option (List ℕ)} {old mid : Reading} {line given : List ℕ}
      {taken : List Framed} {n : ℕ} → Taken p r0 left0 left1 old taken → old.is_ended ≡ false
      → TakesLine left2 old mid given line → Consumes left1 left2 given → mid.is_ended ≡ true
      → n ≡ p.asked (read_after p r0 taken) line → n ≤ raw_limit
      → Taken p r0 left0 left2 mid (taken ++ unit_from mid n line [] ∷ [])
  take_last {old = old} {mid = mid} {line = line} {given = given} {taken = taken} {n =
      n} t o l c e asked few =
      let u = unit_from mid n line [] in
      let at = l.last e in
      let bytes : t.given ++ given ≡ joined_units taken ++ line =
      regroup t.given given (joined_units taken) old.held _ (t.midway o).bytes (l.bytes
      ∙ ap (λ b. line ++ cond b [] (10 ∷ mid.held)) e ∙ append-nil line) in
      let last = units-last p (read_after p r0 taken) line l.unbroken at.0 in
      let same : (let v : Framed = record {
        line = line;
        is_ended = false;
        asked =
            p.asked (read_after p r0 taken) line;
        raw = [];
      } in v) ≡ u = ap (λ k. let v : Framed =
      record { line = line; is_ended = false; asked = k; raw = [] } in v) (sym asked)
      ∙ ap (λ k. let v : Framed = record { line = line; is_ended = k; asked = n; raw = [] } in
      v) (sym (ap not e)) in
      record {
        given = t.given ++ given;
        reads = Consumes-both _ _ _ t.given given t.reads c;
        count = length_push taken u ∙ ap (λ k. k + 1) t.count ∙ sym l.taken;
        most = omega (arith, length_push taken u, t.count, l.room);
        is_open = l.is_open;
        midway = λ f. absurd (true≢false (sym e ∙ f));
        done = λ f. record {
          at_end = at.2;
          units = ap (units p r0) bytes ∙ units-joined p r0 taken line (t.midway o).are_units
              ∙ ap (λ z. taken ++ z) (last ∙ ap (λ v. v ∷ []) same);
          small = all_push taken u (are_small r0 taken (t.midway o).are_units) (record {
            short =
                l.short;
            few = few;
          });
        };
      }

  -- no further line
  pub none_left : {left0 left1 left2 : Option (List ℕ)} {old new : Reading} {given : List ℕ}
      {taken : List Framed} → (t : Taken p r0 left0 left1 old taken) → HasNone left2 old new given
      → old.is_ended ≡ false → IsDone p r0 left2 (t.given ++ given) taken
  none_left {old = old} {given = given} {taken = taken} t n o = record {
    at_end = n.at_end o;
    units = ap (units p r0) (regroup t.given given (joined_units taken) old.held []
        (t.midway o).bytes n.bytes) ∙ units-joined p r0 taken [] (t.midway o).are_units
        ∙ ap (λ z. taken ++ z) (units-nil p (read_after p r0 taken)) ∙ append-nil taken;
    small = are_small r0 taken (t.midway o).are_units;
  }

  -- all units of a session that was taken to its end are within the limits
  pub done_within : {left0 left1 left2 : Option (List ℕ)} {reading : Reading} {given : List ℕ}
      {taken : List Framed} → (t : Taken p r0 left0 left1 reading taken)
      → IsDone p r0 left2 given taken → IsWithinUnits p r0 given
  done_within t d = record {
    small = subst (AllByRecursion IsSmall) (sym d.units) d.small;
    few =
        rw d.units t.most;
  }

  -- a line was cut short by a fault of the source: no unit more is ended
  pub read_ended : {left0 left1 : Option (List ℕ)} {old : Reading} {taken : List Framed}
      → (given : List ℕ) (t : Taken p r0 left0 left1 old taken) → old.is_ended ≡ false
      → FailsToRead old (old.held ++ given) → ended_units p r0 (t.given ++ given) ≡ taken
  read_ended {old = old} {taken = taken} given t o f =
      ap (ended_units p r0) (regroup t.given given (joined_units taken) old.held (old.held ++ given)
      (t.midway o).bytes refl)
      ∙ ended-joined p r0 taken (old.held ++ given) (t.midway o).are_units t.most
      ∙ ap (λ z. taken ++ z) (rest_ended (old.held ++ given) f.unbroken)
      ∙ append-nil taken
    where
      rest_ended : (bytes : List ℕ) → Unbroken bytes
          → whole_units (lines_limit - length taken) (units p (read_after p r0 taken) bytes) ≡ []
      rest_ended [] u =
          ap (whole_units (lines_limit - length taken)) (units-nil p (read_after p r0 taken))
          ∙ whole_units-nil (lines_limit - length taken)
      rest_ended (b ∷ bytes) u =
          ap (whole_units (lines_limit - length taken)) (units-last p (read_after p r0 taken)
          (b ∷ bytes) u (λ e. absurd (cc)))
          ∙ whole_units-stop (lines_limit - length taken) _ [] refl

  -- so were the raw bytes of a line
  pub raw_ended : {left0 left1 left2 : Option (List ℕ)} {old mid : Reading} {line given : List ℕ}
      {taken : List Framed} → (more : List ℕ) (t : Taken p r0 left0 left1 old taken)
      → old.is_ended ≡ false → TakesLine left2 old mid given line → mid.is_ended ≡ false
      → length (mid.held ++ more) < p.asked (read_after p r0 taken) line
      → ended_units p r0 ((t.given ++ given) ++ more) ≡ taken
  raw_ended {mid = mid} {line = line} {given = given} {taken = taken} more t o l e less =
      let raw = mid.held ++ more in
      let bytes : (t.given ++ given) ++ more ≡ joined_units taken ++ (line ++ 10 ∷ raw) =
      ap (λ z. z ++ more) (through_line t o l e)
      ∙ append_assoc (joined_units taken) (line ++ 10 ∷ mid.held) more
      ∙ ap (λ z. joined_units taken ++ z) (append_assoc line (10 ∷ mid.held) more) in
      ap (ended_units p r0) bytes
      ∙ ended-joined p r0 taken (line ++ 10 ∷ raw) (t.midway o).are_units t.most
      ∙ ap (λ z. taken ++ whole_units (lines_limit - length taken) z)
      (units-cut p (read_after p r0 taken) line raw l.unbroken (omega (arith, less)))
      ∙ ap (λ z. taken ++ z) (whole_units-stop (lines_limit - length taken) _ [] (not_all line raw
      (p.asked (read_after p r0 taken) line) less))
      ∙ append-nil taken
    where
      not_equal : (k m : ℕ) → k < m → (k == m) ≡ false
      not_equal k m h = grind arith

      not_all : (line raw : List ℕ) (m : ℕ) → length raw < m
          → (is_whole (record {
            line = line;
            is_ended = true;
            asked = m;
            raw =
                raw;
          }) && is_small (record {
            line = line;
            is_ended = true;
            asked = m;
            raw =
                raw;
          })) ≡ false
      not_all line raw m h = rw (not_equal (length raw) m h) refl

  -- a line is too long
  unfoldable pub long_line : {left0 left1 : Option (List ℕ)} {old : Reading} {taken : List Framed}
      → (given : List ℕ) (t : Taken p r0 left0 left1 old taken) → old.is_ended ≡ false
      → IsTooLong old (old.held ++ given) → HasLargeUnit p r0 (t.given ++ given)
  long_line {old = old} {taken = taken} given t o f = record {
    taken = taken;
    rest = f.start ++ f.rest;
    all = regroup t.given given (joined_units taken) old.held (f.start ++ f.rest) (t.midway o).bytes
        f.bytes;
    are_units = (t.midway o).are_units;
    room = omega (arith, t.count, f.room);
    some = some_start f.start f.rest f.long;
    large = inl (omega (arith, f.long, longer f.start f.rest f.unbroken));
  }
    where
      some_start : (start rest : List ℕ) → line_limit < length start → start ++ rest ≢ []
      some_start [] rest h e = absurd (omega arith)
      some_start (b ∷ start) rest h e = absurd (cc)

      longer : (start rest : List ℕ) → Unbroken start
          → length start ≤ length (first_line (start ++ rest))
      longer start rest u = first_longest start rest u

  -- a line asks for too many raw bytes
  unfoldable pub large_raw : {left0 left1 left2 : Option (List ℕ)} {old mid : Reading}
      {line given : List ℕ}
      {taken : List Framed} → (t : Taken p r0 left0 left1 old taken) → old.is_ended ≡ false
      → TakesLine left2 old mid given line → mid.is_ended ≡ false
      → raw_limit < p.asked (read_after p r0 taken) line → HasLargeUnit p r0 (t.given ++ given)
  large_raw {mid = mid} {line = line} {taken = taken} t o l e many = record {
    taken = taken;
    rest = line ++ 10 ∷ mid.held;
    all = through_line t o l e;
    are_units = (t.midway o).are_units;
    room = omega (arith, t.count, l.room);
    some = some_end line mid.held;
    large = inr (rw (first_line-line line mid.held l.unbroken) many);
  }
    where
      some_end : (line rest : List ℕ) → line ++ 10 ∷ rest ≢ []
      some_end [] rest e = absurd (cc)
      some_end (b ∷ line) rest e = absurd (cc)

  -- there are too many lines
  unfoldable pub many_lines : {left0 left1 : Option (List ℕ)} {old : Reading} {taken : List Framed}
      → (given : List ℕ) (t : Taken p r0 left0 left1 old taken) → old.is_ended ≡ false
      → (old.taken ≡ lines_limit) × (old.held ++ given ≢ [])
      → HasTooManyUnits p r0 (t.given ++ given)
  many_lines {old = old} {taken = taken} given t o f = record {
    taken = taken;
    rest = old.held ++ given;
    all = regroup t.given given (joined_units taken) old.held (old.held ++ given) (t.midway o).bytes
        refl;
    are_units = (t.midway o).are_units;
    full = t.count ∙ f.0;
    some = f.1;
  }

  -- the units that were taken are the first that may be answered
  pub may_be_answered : {left0 left : Option (List ℕ)} {reading : Reading} {taken : List Framed}
      → (t : Taken p r0 left0 left reading taken) → (b : Bool) → reading.is_ended ≡ b
      → (more : List Framed) × IsToAnswer p r0 left t.given (taken ++ more)
  may_be_answered {reading = reading} {taken = taken} t false e = (
    whole_units (lines_limit - length taken) (units p (read_after p r0 taken) reading.held),
    inl
        (sym (ap (ended_units p r0) (t.midway e).bytes
        ∙ ended-joined p r0 taken reading.held (t.midway e).are_units t.most)),
  )
  may_be_answered {taken = taken} t true e =
      ([], inr (append-nil taken ∙ sym (t.done e).units, (t.done e).at_end))

  -- ---- a unit, by what was taken

  either_way : (m n : ℕ) → m ≤ n → (m < n) ⊎ (m ≡ n)
  either_way m n h = by (nat_lt m n) refl
    where
      by : (b : Bool) → nat_lt m n ≡ b → (m < n) ⊎ (m ≡ n)
      by true e = inl (grind arith)
      by false e = inr (grind arith)

  take_going : {left0 left1 left2 : Option (List ℕ)} {old new : Reading} {given line raw : List ℕ}
      {taken : List Framed} (r : R) → Taken p r0 left0 left1 old taken → old.is_ended ≡ false
      → r ≡ read_after p r0 taken → (n : TakesUnit p r left1 left2 old new given line raw)
      → n.mid.is_ended ≡ false
      → (length raw < p.asked r line) ⊎ (length raw ≡ p.asked r line)
      → Taken p r0 left0 left2 new (taken ++ unit_from n.mid (p.asked r line) line raw ∷ [])
  take_going {line = line} r t o same n e (inl less) =
      take_cut t o n.takes_line n.reads_line e (ap (λ z. p.asked z line) same) n.few n.takes_raw
      n.reads_raw less
  take_going {line = line} r t o same n e (inr all) =
      take_unit t o n.takes_line n.reads_line e (ap (λ z. p.asked z line) same) n.few n.takes_raw
      n.reads_raw all

  take_ended : {left0 left1 left2 : Option (List ℕ)} {old new : Reading} {given line raw : List ℕ}
      {taken : List Framed} (r : R) → Taken p r0 left0 left1 old taken → old.is_ended ≡ false
      → r ≡ read_after p r0 taken → (n : TakesUnit p r left1 left2 old new given line raw)
      → n.mid.is_ended ≡ true
      → Taken p r0 left0 left2 new (taken ++ unit_from n.mid (p.asked r line) line raw ∷ [])
  take_ended {left0 = left0} {left2 = left2} {new = new} {line = line} {raw = raw} {taken =
      taken} r t o same n e =
      let at = n.last e in
      let b = n.takes_raw in
      let u = unit_from n.mid (p.asked r line) line [] in
      let before =
      take_last t o n.takes_line n.reads_line e (ap (λ z. p.asked z line) same) n.few in
      let whole : Taken p r0 left0 left2 new (taken ++ u ∷ []) = record {
        given = before.given;
        reads = subst (λ l. Consumes left0 l before.given) (sym at.2) before.reads;
        count = before.count ∙ sym b.taken;
        most = before.most;
        is_open = b.is_open;
        midway = λ f. absurd (true≢false (sym e ∙ b.more f));
        done = λ f. subst (λ l. IsDone p r0 l before.given (taken ++ u ∷ [])) (sym at.2)
            (before.done e);
      } in
      subst (λ z. Taken p r0 left0 left2 new (taken ++ unit_from n.mid (p.asked r line) line z ∷
      [])) (sym at.0) whole

  pub take_next : {left0 left1 left2 : Option (List ℕ)} {old new : Reading} {given line raw : List
      ℕ} {taken : List Framed} (r : R) → Taken p r0 left0 left1 old taken → old.is_ended ≡ false
      → r ≡ read_after p r0 taken → (n : TakesUnit p r left1 left2 old new given line raw)
      → Taken p r0 left0 left2 new (taken ++ unit_from n.mid (p.asked r line) line raw ∷ [])
  take_next {left0 = left0} {left2 = left2} {new = new} {line = line} {raw = raw} {taken =
      taken} r t o same n = by n.mid.is_ended refl
    where
      by : (b : Bool) → n.mid.is_ended ≡ b
          → Taken p r0 left0 left2 new (taken ++ unit_from n.mid (p.asked r line) line raw ∷ [])
      by true e = take_ended r t o same n e
      by false e =
          take_going r t o same n e (either_way (length raw) (p.asked r line) n.takes_raw.most)
