-- Units take no more steps than their session costs.
use Rattle.std.proofs.Common.{◌≡◌, ◌≤◌, ℕ, ◌+◌, ◌*◌, true, ◌&&◌, List, [], ◌∷◌, ◌++◌}
use Rattle.std.proofs.Common.{Option, Some, None, refl, sym, ap, ◌∙◌, subst, arith}
use Rattle.std.specs.Option.{option_map_or}
use Rattle.std.proofs.lemmas.Bool.{and_parts}
use Rattle.awk_base.proofs.Numbers.{times}
use Rattle.awk_edge.specs.Units.{Framed, read_after}
use Rattle.awk_query.specs.Line.{Line, load, session, bind, values, show, type_of, pack, names}
use Rattle.awk_query.specs.declared.reading.Reading.{Reading}
use Rattle.awk_query.specs.declared.reading.Reading.TheVariants.{First}
use Rattle.awk_eval.specs.Variables.{Environment, Variables}
use Rattle.awk_eval.specs.Views.{Sizes, View, view_of, sizes_of, size_at}
use Rattle.awk_session.specs.Cost.{Standing, at_start, next, standing_after, costs, cost, cost_of}
use Rattle.awk_session.specs.Cost.{unit_bytes, unit_cost}
use Rattle.awk_session.specs.Cost.{is_plain, plain_from, are_plain, line_in, line_cost, made_cost}
use Rattle.awk_session.specs.Cost.{shown_cost, view_cost, view_size, answer_length, sizes_after}
use Rattle.awk_framing.specs.Framing.{read_behind, session_framing}
use Rattle.awk_session.specs.Replies.{unit_step}
use Rattle.awk_session.specs.Spending.{Binds, TakesCost}
use Rattle.awk_session.specs.State.{State, denoted_state}
use Rattle.awk_session.proofs.CostLaws.{text_cost-more}
use Rattle.awk_session.proofs.Readings.{reading-step}
use Rattle.awk_session.proofs.SizeLaws.{AreWithin, size_at-within, view_size-within}
use Rattle.awk_session.proofs.SizeLaws.{IsOfArrays-within, sizes-within}

-- ---- a line costs no more where sizes are greater

view_cost-within : (view : Option View) (ss : Sizes) (vs : Variables) → AreWithin ss vs
    → view_cost (sizes_of vs) view ≤ view_cost ss view
view_cost-within None ss vs h = omega arith
view_cost-within (Some v) ss vs h =
    times (4 * (size_at (sizes_of vs) v.name).width) v.count (4 * (size_at ss v.name).width)
    v.count (omega (arith, (size_at-within v.name ss vs h).0)) (omega arith)

made_cost-within : (bytes : ℕ) (l : Line) (ss : Sizes) (vs : Variables) → AreWithin ss vs
    → made_cost (sizes_of vs) bytes l ≤ made_cost ss bytes l
made_cost-within bytes (load n form count big buffers) ss vs h = omega arith
made_cost-within bytes session ss vs h = omega arith
made_cost-within bytes (bind n e) ss vs h = view_cost-within (view_of e) ss vs h
made_cost-within bytes (values n list) ss vs h = omega arith
made_cost-within bytes (show e) ss vs h = view_cost-within (view_of e) ss vs h
made_cost-within bytes (type_of e) ss vs h = view_cost-within (view_of e) ss vs h
made_cost-within bytes (pack e) ss vs h = omega arith
made_cost-within bytes names ss vs h = omega arith

shown_cost-within : (answered : ℕ) (l : Line) (ss : Sizes) (vs : Variables) → AreWithin ss vs
    → shown_cost (sizes_of vs) answered l ≤ shown_cost ss answered l
shown_cost-within answered (load n form count big buffers) ss vs h = omega arith
shown_cost-within answered session ss vs h = omega arith
shown_cost-within answered (bind n e) ss vs h = omega arith
shown_cost-within answered (values n list) ss vs h = omega arith
shown_cost-within answered (show e) ss vs h =
    text_cost-more (view_size (sizes_of vs) (view_of e)) (view_size ss (view_of e)) answered
    answered (view_size-within (view_of e) ss vs h) (omega arith)
shown_cost-within answered (type_of e) ss vs h = omega arith
shown_cost-within answered (pack e) ss vs h = omega arith
shown_cost-within answered names ss vs h = omega arith

cost-within : (bytes answered : ℕ) (line : Option Line) (ss : Sizes) (vs : Variables)
    → AreWithin ss vs → option_map_or (line_cost (sizes_of vs) bytes answered) line 0
    ≤ option_map_or (line_cost ss bytes answered) line 0
cost-within bytes answered None ss vs h = omega arith
cost-within bytes answered (Some l) ss vs h =
    omega (arith, made_cost-within bytes l ss vs h, shown_cost-within answered l ss vs h)

-- ---- sessions, one unit more

standing_after-push : (s : Standing) (xs : List Framed) (x : Framed)
    → standing_after s (xs ++ x ∷ []) ≡ next (standing_after s xs) x
standing_after-push s [] x = refl
standing_after-push s (y ∷ xs) x = standing_after-push (next s y) xs x

-- the next line is read as the units before it say
standing-reading : (s : Standing) (us : List Framed)
    → (standing_after s us).state.reading ≡ read_after session_framing s.state.reading us
standing-reading s [] = refl
standing-reading s (u ∷ us) =
    standing-reading (next s u) us
    ∙ ap (λ r. read_after session_framing r us) (reading-step s.state u)

costs-append : (s : Standing) (xs ys : List Framed)
    → costs s (xs ++ ys) ≡ costs s xs + costs (standing_after s xs) ys
costs-append s [] ys = omega arith
costs-append s (x ∷ xs) ys = omega (arith, costs-append (next s x) xs ys)

costs-push : (s : Standing) (xs : List Framed) (x : Framed)
    → costs s (xs ++ x ∷ []) ≡ costs s xs + unit_cost (standing_after s xs) x
costs-push s xs x = omega (arith, costs-append s xs (x ∷ []))

-- the first units cost no more than all
pub cost-first : (xs ys : List Framed) → cost xs ≤ cost (xs ++ ys)
cost-first xs ys = omega (arith, costs-append at_start xs ys)

plain-append : (r : Reading) (xs ys : List Framed) → plain_from r (xs ++ ys) ≡ true
    → (plain_from r xs ≡ true) × (plain_from (read_after session_framing r xs) ys ≡ true)
plain-append r [] ys e = (refl, e)
plain-append r (x ∷ xs) ys e =
    let later = read_behind r x.line in
    let both = and_parts (is_plain r x.line) (plain_from later (xs ++ ys)) e in
    let rest = plain-append later xs ys both.1 in
    (ap (λ b. b && plain_from later xs) both.0 ∙ rest.0, rest.1)

plain-push : (xs : List Framed) (x : Framed) → are_plain (xs ++ x ∷ []) ≡ true
    → (are_plain xs ≡ true) × (is_plain (standing_after at_start xs).state.reading x.line ≡ true)
plain-push xs x e =
    let p = plain-append First xs (x ∷ []) e in
    let here = (and_parts (is_plain (read_after session_framing First xs) x.line) true p.1).0 in
    (p.0, ap (λ r. is_plain r x.line) (standing-reading at_start xs) ∙ here)

-- ---- what the loop of a run keeps

-- the state is where the session stands, each variable an array within its size, and the steps
-- since are within what its units cost
pub record IsSpent (steps0 steps1 : ℕ) (state : State Variables) (taken : List Framed)
    : Type 0 where
  pub shown : (standing_after at_start taken).state ≡ denoted_state state
  pub within : AreWithin (standing_after at_start taken).sizes state.variables
  pub steps : steps1 ≤ steps0 + cost taken

-- so it is after units that each have a cost
abbrev pub MaySpend : ℕ → ℕ → State Variables → List Framed → Type 0
MaySpend steps0 steps1 state taken = are_plain taken ≡ true → IsSpent steps0 steps1 state taken

-- what a unit takes, and what it binds
abbrev pub UnitTakes : State Variables → Framed → ℕ → ℕ → Type 0
UnitTakes s u steps0 steps1 =
    TakesCost s.variables (line_in s.reading u.line) (unit_bytes u)
    (unit_step (denoted_state s) u).answer steps0 steps1

abbrev pub UnitBinds : State Variables → State Variables → Framed → Type 0
UnitBinds old new u =
    Binds (line_in old.reading u.line) (unit_step (denoted_state old) u).is_fault old.variables
    new.variables

-- a unit has a cost as it is read where the session stands
plain_here : {steps0 steps1 : ℕ} {s : State Variables} {taken : List Framed} (u : Framed)
    → IsSpent steps0 steps1 s taken
    → is_plain (standing_after at_start taken).state.reading u.line ≡ true
    → is_plain s.reading u.line ≡ true
plain_here u h e =
    sym (ap (λ (t : State Environment). is_plain t.reading u.line) h.shown) ∙ e

-- what a session costs with a unit more, by the sizes that the variables have
here : {steps0 steps1 steps2 : ℕ} {s : State Variables} (taken : List Framed) (u : Framed)
    → IsSpent steps0 steps1 s taken → UnitTakes s u steps1 steps2
    → is_plain s.reading u.line ≡ true → steps2 ≤ steps0 + cost (taken ++ u ∷ [])
here {steps0} {steps1} {steps2} {s} taken u h takes plain =
    let t = standing_after at_start taken in
    let line = line_in s.reading u.line in
    let answered = answer_length (unit_step (denoted_state s) u).answer in
    let arrays = IsOfArrays-within line t.sizes s.variables h.within in
    let greater = cost-within (unit_bytes u) answered line t.sizes s.variables h.within in
    let same : cost_of t.sizes line (unit_bytes u) (unit_step (denoted_state s) u).answer
    ≡ unit_cost t u =
    ap (λ (z : State Environment). cost_of t.sizes (line_in z.reading u.line) (unit_bytes u)
    (unit_step z u).answer) (sym h.shown) in
    omega (arith, h.steps, takes plain arrays, greater, same, costs-push at_start taken u)

pub spend_start : (steps : ℕ)
    → MaySpend steps steps (record { reading = First; variables = [] }) []
spend_start steps plain = record { shown = refl; within = tt; steps = omega arith }

pub spend_more : {steps0 steps1 steps2 : ℕ} {old new : State Variables} (taken : List Framed)
    (u : Framed) → MaySpend steps0 steps1 old taken → UnitTakes old u steps1 steps2
    → UnitBinds old new u → denoted_state new ≡ (unit_step (denoted_state old) u).after
    → MaySpend steps0 steps2 new (taken ++ u ∷ [])
spend_more {steps0} {steps1} {steps2} {old} {new} taken u h takes binds shows plain =
    let p = plain-push taken u plain in
    let so = h p.0 in
    let plain_now = plain_here u so p.1 in
    let s = standing_after at_start taken in
    let after = standing_after-push at_start taken u in
    let sizes = sizes-within (line_in old.reading u.line)
    (unit_step (denoted_state old) u).is_fault s.sizes old.variables new.variables plain_now
    so.within binds in
    let moved : sizes_after s.sizes (line_in old.reading u.line)
    (unit_step (denoted_state old) u).is_fault ≡ (next s u).sizes =
    ap (λ (z : State Environment). sizes_after s.sizes (line_in z.reading u.line)
    (unit_step z u).is_fault) (sym so.shown) in
    record {
      shown = ap (λ (t : Standing). t.state) after
          ∙ ap (λ z. (unit_step z u).after) so.shown ∙ sym shows;
      within = subst (λ (t : Standing). AreWithin t.sizes new.variables) (sym after)
          (subst (λ z. AreWithin z new.variables) moved sizes);
      steps = here taken u so takes plain_now;
    }

-- the run ends between two units
pub spends : {steps0 steps1 : ℕ} {state : State Variables} (taken more all : List Framed)
    → MaySpend steps0 steps1 state taken → all ≡ taken ++ more → are_plain all ≡ true
    → steps1 ≤ steps0 + cost all
spends {steps0} {steps1} taken more all h e plain =
    let front = plain-append First taken more (sym (ap are_plain e) ∙ plain) in
    subst (λ us. steps1 ≤ steps0 + cost us) (sym e)
    (omega (arith, (h front.0).steps, cost-first taken more))

-- the run ends in a unit
pub spends_in : {steps0 steps1 steps2 : ℕ} {state : State Variables} (taken : List Framed)
    (u : Framed) (more all : List Framed) → MaySpend steps0 steps1 state taken
    → UnitTakes state u steps1 steps2 → all ≡ (taken ++ u ∷ []) ++ more
    → are_plain all ≡ true → steps2 ≤ steps0 + cost all
spends_in {steps0} {steps1} {steps2} taken u more all h takes e plain =
    let front = plain-append First (taken ++ u ∷ []) more (sym (ap are_plain e) ∙ plain) in
    let p = plain-push taken u front.0 in
    let so = h p.0 in
    subst (λ us. steps2 ≤ steps0 + cost us) (sym e)
    (omega (
      arith,
      here taken u so takes (plain_here u so p.1),
      cost-first (taken ++ u ∷ []) more,
    ))
