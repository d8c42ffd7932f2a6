-- What is whole of a front is whole of the bytes.
use Rattle.std.proofs.Common.{◌≡◌, ◌≤◌, ◌==◌, ◌&&◌, nat_le, ℕ, zero, suc, ◌-◌, Bool, true}
use Rattle.std.proofs.Common.{false, cond, List, [], ◌∷◌, ◌++◌, length, drop, refl, ap, sym}
use Rattle.std.proofs.Common.{◌∙◌, arith, append_assoc, length-drop}
use Rattle.std.proofs.lemmas.List.{take-append-drop}
use Rattle.std.proofs.lemmas.Bool.{and_parts}
use Rattle.awk_base.proofs.Truths.{eq_is, nat_le-true}
use Rattle.awk_edge.specs.Lines.{Unbroken, line_limit, lines_limit}
use Rattle.awk_edge.specs.Units.{raw_limit, Framing, Framed, first_line, has_end, behind_line}
use Rattle.awk_edge.specs.Units.{framed, units, is_whole, is_small, whole_units, ended_units}
use Rattle.awk_edge.specs.Units.{joined_units, IsUnit, AreUnits, read_after}
use Rattle.awk_edge.proofs.UnitLaws.{units-nil, units-first, ended-joined, whole_units-nil}
use Rattle.awk_edge.proofs.UnitLaws.{whole_units-zero, whole_units-stop, length-behind}
use Rattle.awk_edge.proofs.UnitLaws.{whole_units-cons}

-- ---- a first line

first_unbroken : (bytes : List ℕ) → Unbroken (first_line bytes)
first_unbroken [] = tt
first_unbroken (b ∷ bytes) = by (b == 10) refl (first_unbroken bytes)
  where
    by : (t : Bool) → (b == 10) ≡ t → Unbroken (first_line bytes)
        → Unbroken (cond t [] (b ∷ first_line bytes))
    by true e u = tt
    by false e u = (grind arith, u)

-- it stands before its end, and the rest behind
around_end : (bytes : List ℕ) → has_end bytes ≡ true
    → bytes ≡ first_line bytes ++ 10 ∷ behind_line bytes
around_end [] e = absurd (cc)
around_end (b ∷ bytes) e = by (b == 10) refl e (λ h. around_end bytes h)
  where
    by : (t : Bool) → (b == 10) ≡ t → cond t true (has_end bytes) ≡ true
        → (has_end bytes ≡ true → bytes ≡ first_line bytes ++ 10 ∷ behind_line bytes)
        → b ∷ bytes ≡ cond t [] (b ∷ first_line bytes) ++ 10 ∷ cond t bytes (behind_line bytes)
    by true same e f = let ten : b ≡ 10 = grind arith in ap (λ z. z ∷ bytes) ten
    by false same e f = ap (λ z. b ∷ z) (f e)

module _ {R : Type 0} (p : Framing R) where
  -- the whole units within the limits, at most n of them, and the rest
  pub record IsParted (n : ℕ) (r : R) (bytes : List ℕ) : Type 0 where
    pub taken : List Framed
    pub rest : List ℕ
    pub all : bytes ≡ joined_units taken ++ rest
    pub are_units : AreUnits p r taken
    pub most : length taken ≤ n
    pub ended : whole_units n (units p r bytes) ≡ taken

  is_unit : (r : R) (bytes : List ℕ) → (let u = framed (p.asked r (first_line bytes)) bytes in
      (is_whole u && is_small u) ≡ true) → IsUnit p r (framed (p.asked r (first_line bytes)) bytes)
  is_unit r bytes e =
      let u = framed (p.asked r (first_line bytes)) bytes in
      let tests = and_parts (is_whole u) (is_small u) e in
      let whole = and_parts u.is_ended (length u.raw == u.asked) tests.0 in
      let small = and_parts (nat_le (length u.line) line_limit) (nat_le u.asked raw_limit)
      tests.1 in
      record {
        unbroken = first_unbroken bytes;
        is_ended = whole.0;
        asked = refl;
        raw = eq_is (length u.raw) u.asked whole.1;
        short = nat_le-true (length u.line) line_limit small.0;
        few = nat_le-true u.asked raw_limit small.1;
      }

  none_parted : (n : ℕ) (r : R) (bytes : List ℕ) → whole_units n (units p r bytes) ≡ []
      → IsParted n r bytes
  none_parted n r bytes e = record {
    taken = [];
    rest = bytes;
    all = refl;
    are_units = tt;
    most =
        omega arith;
    ended = e;
  }

  one_more : (n : ℕ) (r : R) (b : ℕ) (bytes : List ℕ)
      → (let u = framed (p.asked r (first_line (b ∷ bytes))) (b ∷ bytes) in
      (is_whole u && is_small u) ≡ true)
      → IsParted n (p.after r (first_line (b ∷ bytes))) (drop (p.asked r (first_line (b ∷ bytes)))
      (behind_line (b ∷ bytes))) → IsParted (suc n) r (b ∷ bytes)
  one_more n r b bytes e q =
      let n0 = p.asked r (first_line (b ∷ bytes)) in
      let u = framed n0 (b ∷ bytes) in
      let is = is_unit r (b ∷ bytes) e in
      let behind : behind_line (b ∷ bytes) ≡ u.raw ++ (joined_units q.taken ++ q.rest) =
      sym (take-append-drop n0 (behind_line (b ∷ bytes))) ∙ ap (λ z. u.raw ++ z) q.all in
      record {
        taken = u ∷ q.taken;
        rest = q.rest;
        all = around_end (b ∷ bytes) is.is_ended ∙ ap (λ z. u.line ++ 10 ∷ z) (behind
            ∙ sym (append_assoc u.raw (joined_units q.taken) q.rest))
            ∙ sym (append_assoc u.line (10 ∷ (u.raw ++ joined_units q.taken)) q.rest);
        are_units = (is, q.are_units);
        most = omega (arith, q.most);
        ended = ap (whole_units (suc n)) (units-first p r b bytes) ∙ whole_units-cons n u _ e
            ∙ ap (λ z. u ∷ z) q.ended;
      }

  part_by : (k n : ℕ) (r : R) (b : ℕ) (bytes : List ℕ) → length bytes ≤ k
      → ((q : R) (rest : List ℕ) → length rest ≤ k → IsParted n q rest) → (t : Bool)
      → (let u = framed (p.asked r (first_line (b ∷ bytes))) (b ∷ bytes) in
      (is_whole u && is_small u) ≡ t) → IsParted (suc n) r (b ∷ bytes)
  part_by k n r b bytes h others true e =
      let n0 = p.asked r (first_line (b ∷ bytes)) in
      let few : length (drop n0 (behind_line (b ∷ bytes))) ≤ k =
      omega (arith, length-drop n0 (behind_line (b ∷ bytes)), length-behind b bytes, h) in
      one_more n r b bytes e (others (p.after r (first_line (b ∷ bytes)))
      (drop n0 (behind_line (b ∷ bytes))) few)
  part_by k n r b bytes h others false e =
      none_parted (suc n) r (b ∷ bytes) (ap (whole_units (suc n)) (units-first p r b bytes)
      ∙ whole_units-stop (suc n) (framed (p.asked r (first_line (b ∷ bytes))) (b ∷ bytes)) _ e)

  part : (k n : ℕ) (r : R) (bytes : List ℕ) → length bytes ≤ k → IsParted n r bytes
  part k zero r bytes h = none_parted 0 r bytes (whole_units-zero (units p r bytes))
  part k (suc n) r [] h = none_parted (suc n) r [] (ap (whole_units (suc n)) (units-nil p r)
      ∙ whole_units-nil (suc n))
  part zero (suc n) r (b ∷ bytes) h = absurd (omega arith)
  part (suc k) (suc n) r (b ∷ bytes) h =
      part_by k n r b bytes (omega arith) (λ q rest few. part k n q rest few) _ refl

  -- further units come behind the whole ones of a front
  pub record EndsMore (r : R) (given rest : List ℕ) : Type 0 where
    pub more : List Framed
    pub all : ended_units p r (given ++ rest) ≡ ended_units p r given ++ more

  pub ended-front : (r : R) (given rest : List ℕ) → EndsMore r given rest
  ended-front r given rest =
      let q = part (length given) lines_limit r given (omega arith) in
      let more = whole_units (lines_limit - length q.taken) (units p (read_after p r q.taken)
      (q.rest ++ rest)) in
      record {
        more = more;
        all = ap (λ z. ended_units p r (z ++ rest)) q.all
            ∙ ap (ended_units p r) (append_assoc (joined_units q.taken) q.rest rest)
            ∙ ended-joined p r q.taken (q.rest ++ rest) q.are_units q.most
            ∙ ap (λ z. z ++ more) (sym q.ended);
      }
