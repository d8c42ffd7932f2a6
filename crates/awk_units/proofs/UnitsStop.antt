-- Where the reading of a session's units stops, and which limit it passed.
use Rattle.std.proofs.Common.{◌≡◌, ◌≢◌, ◌≤◌, ◌<◌, ◌⊎◌, inl, inr, ℕ, ◌-◌, Bool, true, false}
use Rattle.std.proofs.Common.{cond, true≢false, List, [], ◌∷◌, ◌++◌, length, refl, ap, sym, ◌∙◌}
use Rattle.std.proofs.Common.{subst, arith, Option, append_assoc, append-nil}
use Rattle.std.specs.Io.KnownBytes.{IsAtEnd}
use Rattle.awk_edge.specs.Lines.{Unbroken, line_limit, lines_limit}
use Rattle.awk_edge.specs.Reading.{Reading}
use Rattle.awk_edge.specs.Next.{FailsToRead, IsTooLong}
use Rattle.awk_edge.specs.Units.{raw_limit, Framing, Framed, units, whole_units, ended_units}
use Rattle.awk_edge.specs.Units.{joined_units, read_after, first_line, has_end}
use Rattle.awk_edge.specs.UnitLimits.{HasLargeUnit, IsLargeForGood, HasTooManyUnits}
use Rattle.awk_edge.proofs.UnitLaws.{units-joined, ended-joined, first_line-line, first_line-last}
use Rattle.awk_edge.proofs.UnitLaws.{has_end-line, has_end-last}
use Rattle.awk_edge.proofs.UnitLimitLaws.{ended-large, ended-many}
use Rattle.awk_units.specs.Taking.{CutsRaw, AsksTooMuch}
use Rattle.awk_units.proofs.UnitProgress.{Taken}
use Rattle.awk_units.proofs.UnitsTaken.{regroup, first_longest, raw_ended, read_ended, long_line}
use Rattle.awk_units.proofs.UnitsTaken.{large_raw, many_lines}

module _ {R : Type 0} (p : Framing R) (r0 : R) where
  -- ---- where a run stops

  -- behind the units that were taken
  pub units_still : {left0 left1 : Option (List ℕ)} {old : Reading} {taken : List Framed}
      → (given : List ℕ) (t : Taken p r0 left0 left1 old taken) → old.is_ended ≡ false
      → units p r0 (t.given ++ given) ≡ taken ++ units p (read_after p r0 taken) (old.held ++ given)
  units_still {old = old} {taken = taken} given t o =
      ap (units p r0) (regroup t.given given (joined_units taken) old.held (old.held ++ given)
      (t.midway o).bytes refl)
      ∙ units-joined p r0 taken (old.held ++ given) (t.midway o).are_units

  pub ended_still : {left0 left1 : Option (List ℕ)} {old : Reading} {taken : List Framed}
      → (given : List ℕ) (t : Taken p r0 left0 left1 old taken) → old.is_ended ≡ false
      → ended_units p r0 (t.given ++ given) ≡ taken ++ whole_units (lines_limit - length taken)
      (units p (read_after p r0 taken) (old.held ++ given))
  ended_still {old = old} {taken = taken} given t o =
      ap (ended_units p r0) (regroup t.given given (joined_units taken) old.held (old.held ++ given)
      (t.midway o).bytes refl)
      ∙ ended-joined p r0 taken (old.held ++ given) (t.midway o).are_units t.most

  -- the raw bytes of a line were cut short by a fault of the source
  pub cuts_ended : {left0 left1 : Option (List ℕ)} {old : Reading} {given : List ℕ}
      {taken : List Framed} (r : R) → (t : Taken p r0 left0 left1 old taken) → old.is_ended ≡ false
      → r ≡ read_after p r0 taken → CutsRaw p r old given
      → ended_units p r0 (t.given ++ given) ≡ taken
  cuts_ended r t o same c =
      ap (ended_units p r0) (ap (λ z. t.given ++ z) c.all
      ∙ sym (append_assoc t.given c.first c.more))
      ∙ raw_ended p r0 c.more t o c.takes_line c.going (subst (λ z. length (c.mid.held ++ c.more) <
      p.asked z c.line) same c.fewer)

  -- ---- limits

  cancel : (xs a b : List ℕ) → xs ++ a ≡ xs ++ b → a ≡ b
  cancel [] a b e = e
  cancel (x ∷ xs) a b e = cancel xs a b (cc)

  same_rest : (taken others : List Framed) (rest more : List ℕ) → others ≡ taken
      → joined_units others ++ more ≡ joined_units taken ++ rest → more ≡ rest
  same_rest taken others rest more same e =
      cancel (joined_units taken) more rest (ap (λ us. joined_units us ++ more) (sym same) ∙ e)

  -- a session does not pass both limits
  pub large_or_many : (bytes : List ℕ) → HasLargeUnit p r0 bytes → HasTooManyUnits p r0 bytes → ⊥
  large_or_many bytes h m =
      let one : length h.taken ≡ length m.taken = ap length (sym (ended-large p r0 bytes h)
      ∙ ended-many p r0 bytes m) in
      absurd (omega (arith, one, h.room, m.full))

  rest_of_large : {left0 left1 : Option (List ℕ)} {old : Reading} {taken : List Framed}
      → (given : List ℕ) (t : Taken p r0 left0 left1 old taken) → old.is_ended ≡ false
      → ended_units p r0 (t.given ++ given) ≡ taken → (h : HasLargeUnit p r0 (t.given ++ given))
      → (h.taken ≡ taken) × (h.rest ≡ old.held ++ given)
  rest_of_large {old = old} {taken = taken} given t o ended h =
      let same = sym (ended-large p r0 (t.given ++ given) h) ∙ ended in (
        same,
        same_rest taken h.taken (old.held ++ given) h.rest same (sym h.all
            ∙ regroup t.given given (joined_units taken) old.held (old.held ++ given)
            (t.midway o).bytes refl),
      )

  rest_of_many : {left0 left1 : Option (List ℕ)} {old : Reading} {taken : List Framed}
      → (given : List ℕ) (t : Taken p r0 left0 left1 old taken) → old.is_ended ≡ false
      → ended_units p r0 (t.given ++ given) ≡ taken → (h : HasTooManyUnits p r0 (t.given ++ given))
      → (h.taken ≡ taken) × (h.rest ≡ old.held ++ given)
  rest_of_many {old = old} {taken = taken} given t o ended h =
      let same = sym (ended-many p r0 (t.given ++ given) h) ∙ ended in (
        same,
        same_rest taken h.taken (old.held ++ given) h.rest same (sym h.all
            ∙ regroup t.given given (joined_units taken) old.held (old.held ++ given)
            (t.midway o).bytes refl),
      )

  unbroken_good : (rest : List ℕ) → Unbroken rest → length rest ≤ line_limit → (has_end rest ≡ true)
      ⊎ (line_limit < length (first_line rest)) → ⊥
  unbroken_good rest u short (inl whole) = absurd (true≢false (sym whole ∙ has_end-last rest u))
  unbroken_good rest u short (inr long) =
      absurd (omega (arith, long, short, ap length (first_line-last rest u)))

  -- a line that was cut short passes none
  pub read_not_large : {left0 left1 : Option (List ℕ)} {old : Reading} {taken : List Framed}
      → (given : List ℕ) (t : Taken p r0 left0 left1 old taken) → old.is_ended ≡ false
      → FailsToRead old (old.held ++ given) → (h : HasLargeUnit p r0 (t.given ++ given))
      → IsLargeForGood h → ⊥
  read_not_large {old = old} given t o f h good =
      let at = rest_of_large given t o (read_ended p r0 given t o f) h in
      unbroken_good (old.held ++ given) f.unbroken f.short (subst (λ z. (has_end z ≡ true)
      ⊎ (line_limit < length (first_line z))) at.1 good)

  pub read_not_many : {left0 left1 : Option (List ℕ)} {old : Reading} {taken : List Framed}
      → (given : List ℕ) (t : Taken p r0 left0 left1 old taken) → old.is_ended ≡ false
      → FailsToRead old (old.held ++ given) → HasTooManyUnits p r0 (t.given ++ given) → ⊥
  read_not_many {old = old} given t o f h =
      let at = rest_of_many given t o (read_ended p r0 given t o f) h in
      let room = f.room (λ e. h.some (at.1 ∙ e)) in
      absurd (omega (arith, room, t.count, ap length at.0, h.full))

  -- nor do raw bytes that were
  cut_small : (line rest : List ℕ) (r : R) → Unbroken line → length line ≤ line_limit
      → p.asked r line ≤ raw_limit → (line_limit < length (first_line (line ++ 10 ∷ rest)))
      ⊎ (raw_limit < p.asked r (first_line (line ++ 10 ∷ rest))) → ⊥
  cut_small line rest r u short few (inl long) =
      absurd (omega (arith, long, short, ap length (first_line-line line rest u)))
  cut_small line rest r u short few (inr many) =
      absurd (omega (arith, many, few, ap (p.asked r) (first_line-line line rest u)))

  cut_rest : {old : Reading} {given : List ℕ} (r : R) → (c : CutsRaw p r old given)
      → old.held ++ given ≡ c.line ++ 10 ∷ (c.mid.held ++ c.more)
  cut_rest {old = old} {given = given} r c =
      ap (λ z. old.held ++ z) c.all ∙ sym (append_assoc old.held c.first c.more)
      ∙ ap (λ z. z ++ c.more) (c.takes_line.bytes
      ∙ ap (λ b. c.line ++ cond b [] (10 ∷ c.mid.held)) c.going)
      ∙ append_assoc c.line (10 ∷ c.mid.held) c.more

  pub cut_not_large : {left0 left1 : Option (List ℕ)} {old : Reading} {given : List ℕ}
      {taken : List Framed} (r : R) → (t : Taken p r0 left0 left1 old taken) → old.is_ended ≡ false
      → r ≡ read_after p r0 taken → CutsRaw p r old given → HasLargeUnit p r0 (t.given ++ given) → ⊥
  cut_not_large {given = given} r t o same c h =
      let at = rest_of_large given t o (cuts_ended r t o same c) h in
      let read : read_after p r0 h.taken ≡ r = ap (read_after p r0) at.0 ∙ sym same in
      let large = subst (λ z. (line_limit < length (first_line h.rest))
      ⊎ (raw_limit < p.asked z (first_line h.rest))) read h.large in
      cut_small c.line (c.mid.held ++ c.more) r c.takes_line.unbroken c.takes_line.short c.few
      (subst (λ z. (line_limit < length (first_line z))
      ⊎ (raw_limit < p.asked r (first_line z))) (at.1 ∙ cut_rest r c) large)

  pub cut_not_many : {left0 left1 : Option (List ℕ)} {old : Reading} {given : List ℕ}
      {taken : List Framed} (r : R) → (t : Taken p r0 left0 left1 old taken) → old.is_ended ≡ false
      → r ≡ read_after p r0 taken → CutsRaw p r old given → HasTooManyUnits p r0 (t.given ++ given)
      → ⊥
  cut_not_many {given = given} r t o same c h =
      let at = rest_of_many given t o (cuts_ended r t o same c) h in
      absurd (omega (arith, c.takes_line.room, t.count, ap length at.0, h.full))

  -- a unit is too large, and is known to be
  pub record IsLargeNow (left : Option (List ℕ)) (bytes : List ℕ) (taken : List Framed) : Type 0
    where
      pub unit : HasLargeUnit p r0 bytes
      pub settled : IsLargeForGood unit ⊎ IsAtEnd left
      pub ended : ended_units p r0 bytes ≡ taken

  pub long_now : {left0 left1 left2 : Option (List ℕ)} {old : Reading} {taken : List Framed}
      → (given : List ℕ) (t : Taken p r0 left0 left1 old taken) → old.is_ended ≡ false
      → IsTooLong old (old.held ++ given) → IsLargeNow left2 (t.given ++ given) taken
  unfolding long_line
  long_now given t o f =
      let long : line_limit < length (first_line (f.start ++ f.rest)) =
      omega (arith, f.long, first_longest f.start f.rest f.unbroken) in
      let h = long_line p r0 given t o f in
      record { unit = h; settled = inl (inr long); ended = ended-large p r0 (t.given ++ given) h }

  asked_now : {left0 left1 left2 : Option (List ℕ)} {old : Reading} {given : List ℕ}
      {taken : List Framed} (r : R) → (t : Taken p r0 left0 left1 old taken) → old.is_ended ≡ false
      → r ≡ read_after p r0 taken → (a : AsksTooMuch p r left2 old given) → (b : Bool)
      → a.mid.is_ended ≡ b → IsLargeNow left2 (t.given ++ given) taken
  unfolding large_raw
  asked_now {given = given} r t o same a false e =
      let h = large_raw p r0 t o a.takes_line e (subst (λ z. raw_limit < p.asked z a.line) same
      a.many) in
      record {
        unit = h;
        settled = inl (inl (has_end-line a.line a.mid.held a.takes_line.unbroken));
        ended = ended-large p r0 (t.given ++ given) h;
      }
  asked_now {old = old} {given = given} {taken = taken} r t o same a true e =
      let at = a.takes_line.last e in
      let all : t.given ++ given ≡ joined_units taken ++ a.line =
      regroup t.given given (joined_units taken) old.held _ (t.midway o).bytes
      (a.takes_line.bytes ∙ ap (λ b. a.line ++ cond b [] (10 ∷ a.mid.held)) e
      ∙ append-nil a.line) in
      let many : raw_limit < p.asked (read_after p r0 taken) (first_line a.line) =
      rw (first_line-last a.line a.takes_line.unbroken) (subst (λ z. raw_limit < p.asked z
      a.line) same a.many) in
      let h : HasLargeUnit p r0 (t.given ++ given) = record {
        taken = taken;
        rest = a.line;
        all =
            all;
        are_units = (t.midway o).are_units;
        room = omega (arith, t.count, a.takes_line.room);
        some = at.0;
        large = inr many;
      } in
      record { unit = h; settled = inr at.2; ended = ended-large p r0 (t.given ++ given) h }

  pub large_now : {left0 left1 left2 : Option (List ℕ)} {old : Reading} {given : List ℕ}
      {taken : List Framed} (r : R) → (t : Taken p r0 left0 left1 old taken) → old.is_ended ≡ false
      → r ≡ read_after p r0 taken → IsTooLong old (old.held ++ given)
      ⊎ AsksTooMuch p r left2 old given → IsLargeNow left2 (t.given ++ given) taken
  large_now {given = given} r t o same (inl f) = long_now given t o f
  large_now r t o same (inr a) = asked_now r t o same a a.mid.is_ended refl

  -- there are too many units, and they are known to be
  pub record AreManyNow (bytes : List ℕ) (taken : List Framed) : Type 0 where
    pub units : HasTooManyUnits p r0 bytes
    pub ended : ended_units p r0 bytes ≡ taken

  pub many_now : {left0 left1 : Option (List ℕ)} {old : Reading} {taken : List Framed}
      → (given : List ℕ) (t : Taken p r0 left0 left1 old taken) → old.is_ended ≡ false
      → (old.taken ≡ lines_limit) × (old.held ++ given ≢ []) → AreManyNow (t.given ++ given) taken
  unfolding many_lines
  many_now given t o f =
      let m = many_lines p r0 given t o f in
      record { units = m; ended = ended-many p r0 (t.given ++ given) m }
