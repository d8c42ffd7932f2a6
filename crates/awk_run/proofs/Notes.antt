-- What a sink notes at the ends of answers.
use Rattle.std.proofs.Common.{◌≡◌, ◌==◌, ℕ, suc, ◌+◌, Bool, true, false, cond, List, [], ◌∷◌, ◌++◌}
use Rattle.std.proofs.Common.{length, map, Option, refl, ap, sym, ◌∙◌, subst, arith, append_assoc}
use Rattle.std.proofs.Common.{append-nil}
use Rattle.std.proofs.lemmas.Bool.{ne_eqb}
use Rattle.std.proofs.lemmas.List.Sums.{sum_by-cons}
use Rattle.std.specs.Io.KnownBytes.{Appends}
use Rattle.awk_edge.specs.Lines.{Unbroken}
use Rattle.awk_eval.specs.Variables.{Environment}
use Rattle.awk_framing.specs.Framing.{is_blank}
use Rattle.awk_session.specs.Replies.{step}
use Rattle.awk_units.specs.Runs.{answer_bytes, line_ends}
use Rattle.awk_session.specs.State.{State}
use Rattle.awk_session.proofs.StepLaws.{IsOneLine, step-blank, step-answer}
use Rattle.awk_run.specs.Flushes.{fronts, AreNotes, Flushes}

-- ---- the fronts of a text

behind : (b : ℕ) (xs : List ℕ) (ls ms : List (List ℕ))
    → map (λ z. b ∷ z) (ls ++ map (λ z. xs ++ z) ms) ≡ map (λ z. b ∷ z) ls ++ map
    (λ z. b ∷ (xs ++ z)) ms
behind b xs [] [] = refl
behind b xs [] (m ∷ ms) = ap (λ z. (b ∷ (xs ++ m)) ∷ z) (behind b xs [] ms)
behind b xs (l ∷ ls) ms = ap (λ z. (b ∷ l) ∷ z) (behind b xs ls ms)

map_same : (ls : List (List ℕ)) → map (λ z. z) ls ≡ ls
map_same [] = refl
map_same (l ∷ ls) = ap (λ z. l ∷ z) (map_same ls)

pub fronts-append : (xs ys : List ℕ)
    → fronts (xs ++ ys) ≡ fronts xs ++ map (λ z. xs ++ z) (fronts ys)
fronts-append [] ys = sym (map_same (fronts ys))
fronts-append (b ∷ xs) ys =
    let more : map (λ z. b ∷ z) (fronts (xs ++ ys)) ≡ map (λ z. b ∷ z) (fronts xs) ++ map
    (λ z. b ∷ (xs ++ z)) (fronts ys) = ap (map (λ z. b ∷ z)) (fronts-append xs ys)
    ∙ behind b xs (fronts xs) (fronts ys) in
    by (b == 10) more
  where
    by : (t : Bool)
        → map (λ z. b ∷ z) (fronts (xs ++ ys)) ≡ map (λ z. b ∷ z) (fronts xs) ++ map
        (λ z. b ∷ (xs ++ z)) (fronts ys)
        → cond t ((b ∷ []) ∷ map (λ z. b ∷ z) (fronts (xs ++ ys))) (map (λ z. b ∷ z)
        (fronts (xs ++ ys)))
        ≡ cond t ((b ∷ []) ∷ map (λ z. b ∷ z) (fronts xs)) (map (λ z. b ∷ z) (fronts xs)) ++ map
        (λ z. b ∷ (xs ++ z)) (fronts ys)
    by true more = ap (λ z. (b ∷ []) ∷ z) more
    by false more = more

-- a line has one, all of it
fronts-line : (text : List ℕ) → Unbroken text → fronts (text ++ 10 ∷ []) ≡ (text ++ 10 ∷ []) ∷ []
fronts-line [] u = refl
fronts-line (b ∷ text) u = rw (ne_eqb b 10 u.0) (ap (map (λ z. b ∷ z)) (fronts-line text u.1))

same_length : (b : ℕ) (ls : List (List ℕ)) → length (map (λ z. b ∷ z) ls) ≡ length ls
same_length b [] = refl
same_length b (l ∷ ls) = ap (λ n. suc n) (same_length b ls)

-- there are as many as line ends
pub length-fronts : (bytes : List ℕ) → length (fronts bytes) ≡ line_ends bytes
length-fronts [] = refl
length-fronts (b ∷ bytes) =
    let more : length (map (λ z. b ∷ z) (fronts bytes)) ≡ line_ends bytes =
    same_length b (fronts bytes) ∙ length-fronts bytes in
    by (b == 10) more ∙ sym (sum_by-cons (λ (c : ℕ). cond (c == 10) 1 0) b bytes)
  where
    by : (t : Bool) → length (map (λ z. b ∷ z) (fronts bytes)) ≡ line_ends bytes
        → length (cond t ((b ∷ []) ∷ map (λ z. b ∷ z) (fronts bytes)) (map (λ z. b ∷ z)
        (fronts bytes))) ≡ cond t 1 0 + line_ends bytes
    by true more = omega (arith, more)
    by false more = omega (arith, more)

-- ---- a note more

AreNotes_push : (written0 : Option (List ℕ)) (notes : List (Option (List ℕ)))
    (mark : Option (List ℕ)) (texts : List (List ℕ)) (text : List ℕ) → AreNotes written0 notes texts
    → Appends written0 mark text → AreNotes written0 (notes ++ mark ∷ []) (texts ++ text ∷ [])
AreNotes_push written0 [] mark [] text h a = (a, tt)
AreNotes_push written0 [] mark (t ∷ texts) text h a = absurd h
AreNotes_push written0 (n ∷ notes) mark [] text h a = absurd h
AreNotes_push written0 (n ∷ notes) mark (t ∷ texts) text h a =
    (h.0, AreNotes_push written0 notes mark texts text h.1 a)

-- a line was written and flushed
noted : {written0 : Option (List ℕ)} (written2 : Option (List ℕ)) {flushes0 flushes1 flushes2 : List
    (Option (List ℕ))} (before bytes : List ℕ) → Flushes written0 flushes0 flushes1 (fronts before)
    → IsOneLine bytes → Appends written0 written2 (before ++ bytes)
    → flushes2 ≡ flushes1 ++ written2 ∷ []
    → Flushes written0 flushes0 flushes2 (fronts (before ++ bytes))
noted {written0 = written0} written2 {flushes0 = flushes0} before bytes h line w f =
    let one : fronts bytes ≡ bytes ∷ [] = ap fronts line.all ∙ fronts-line line.text line.unbroken
    ∙ ap (λ z. z ∷ []) (sym line.all) in
    let more : fronts (before ++ bytes) ≡ fronts before ++ (before ++ bytes) ∷ [] =
    fronts-append before bytes ∙ ap (λ z. fronts before ++ map (λ y. before ++ y) z) one in
    record {
      notes = h.notes ++ written2 ∷ [];
      all = f ∙ ap (λ z. z ++ written2 ∷ []) h.all ∙ append_assoc flushes0 h.notes (written2 ∷ []);
      are_notes = subst (AreNotes written0 (h.notes ++ written2 ∷ [])) (sym more)
          (AreNotes_push written0 h.notes written2 (fronts before) (before ++ bytes) h.are_notes w);
    }

-- the answer to a unit was written and flushed, if it has one
pub unit_noted : {written0 : Option (List ℕ)} (written2 : Option (List ℕ)) {flushes0 flushes1
    flushes2 : List (Option (List ℕ))} (state : State Environment) (line raw before : List ℕ)
    → Flushes written0 flushes0 flushes1 (fronts before)
    → Appends written0 written2 (before ++ answer_bytes (step state line raw).answer) → (b : Bool)
    → is_blank line ≡ b → flushes2 ≡ cond b flushes1 (flushes1 ++ written2 ∷ [])
    → Flushes written0 flushes0 flushes2
    (fronts (before ++ answer_bytes (step state line raw).answer))
unit_noted {written0 = written0} written2 {flushes0 = flushes0} {flushes1 =
    flushes1} state line raw before h w true e f =
    let none : before ++ answer_bytes (step state line raw).answer ≡ before =
    ap (λ s. before ++ answer_bytes s.answer) (step-blank state line raw e)
    ∙ append-nil before in
    subst (λ z. Flushes written0 flushes0 z
    (fronts (before ++ answer_bytes (step state line raw).answer))) (sym f)
    (subst (λ z. Flushes written0 flushes0 flushes1 (fronts z)) (sym none) h)
unit_noted written2 state line raw before h w false e f =
    noted written2 before (answer_bytes (step state line raw).answer) h (step-answer state line raw
    e) w f
