-- A line takes at most its cost, by what its parts take.
use Rattle.std.proofs.Common.{◌≡◌, ◌≤◌, ℕ, ◌+◌, true, false, List, length, Option, Some, None}
use Rattle.std.proofs.Common.{Result, Ok, Err, refl, ap, ◌∙◌, arith}
use Rattle.std.specs.Prelude.{IfOk, IfSome, is_some}
use Rattle.std.specs.Result.{result_ok}
use Rattle.awk_base.proofs.Numbers.{times}
use Rattle.awk_lengths.specs.LineBytes.{text_len, HasBytes}
use Rattle.awk_query.specs.Line.{Line, load, session, bind, values, show, type_of, pack, names}
use Rattle.awk_query.specs.Line.{line_said}
use Rattle.awk_query.specs.declared.reading.Reading.{Reading}
use Rattle.awk_eval.specs.Variables.{Variables}
use Rattle.awk_eval.specs.Views.{Size, View, view_of, sizes_of, size_in, size_or_none}
use Rattle.awk_answer.specs.Answer.{answer_text}
use Rattle.awk_answer.specs.AnswerView.{answer_view}
use Rattle.awk_answer.specs.Sending.{sent_cost}
use Rattle.awk_load_line.specs.LoadCost.{form_width}
use Rattle.awk_load_line.proofs.LoadLaws.{load_cost-bytes}
use Rattle.awk_session.specs.Cost.{view_size, view_cost, text_cost, has_cost, made_cost, shown_cost}
use Rattle.awk_session.specs.Cost.{line_in}
use Rattle.awk_framing.specs.Framing.{is_blank}
use Rattle.awk_session.specs.Spending.{IsAtMost, IsOfArray, IsOfArrays, IsViewTaken, TakesBy, Takes}
use Rattle.awk_session.specs.Spending.{TakesCost, shown_size, ShowsNone, ShowsView, ShowsBy, Shows}
use Rattle.awk_answer.specs.declared.answer.Answer as code

-- ---- texts

-- a greater text of a greater array costs more
pub text_cost-more : (s t : Size) (m n : ℕ) → IsAtMost s t → m ≤ n → text_cost s m ≤ text_cost t n
text_cost-more s t m n h le =
    let product = times s.height m t.height n h.1 le in omega (arith, h.0, product)

none_costs : (n : ℕ) → text_cost (size_or_none None) n ≡ 0
none_costs n = grind arith

pub none_sent : (a : code.Answer) → ShowsNone a → sent_cost a ≡ 0
none_sent a e =
    let n = length (answer_text (answer_view a)) in
    ap (λ s. text_cost s n) e ∙ none_costs n

-- ---- a line

made_view : (variables : Variables) (view : Option View) (steps0 steps1 : ℕ)
    → IsViewTaken variables view steps0 steps1 → is_some view ≡ true → IsOfArray variables view
    → steps1 ≤ steps0 + view_cost (sizes_of variables) view
made_view variables None steps0 steps1 taken plain array = absurd (cc)
made_view variables (Some v) steps0 steps1 taken plain array = taken array

sent_view : (variables : Variables) (view : Option View) (a : code.Answer)
    → ShowsView variables view a → is_some view ≡ true → IsOfArray variables view
    → sent_cost a
    ≤ text_cost (view_size (sizes_of variables) view) (length (answer_text (answer_view a)))
sent_view variables None a shows plain array = absurd (cc)
sent_view variables (Some v) a shows plain array =
    let n = length (answer_text (answer_view a)) in
    text_cost-more (shown_size a) (size_in variables v) n n (shows array) (omega arith)

-- of n bytes, and r raw bytes behind them
made : (variables : Variables) (l : Line) (n r steps0 steps1 : ℕ)
    → TakesBy variables l r steps0 steps1 → HasBytes n l → has_cost l ≡ true
    → IsOfArrays variables l → steps1 ≤ steps0 + made_cost (sizes_of variables) (n + r) l
made variables (load m form count big buffers) n r steps0 steps1 taken bytes plain arrays =
    let more : text_len buffers + r ≤ n + r = omega (arith, bytes) in
    omega (arith, taken, load_cost-bytes (form_width form) (text_len buffers + r) (n + r) more)
made variables session n r steps0 steps1 taken bytes plain arrays = omega (arith, taken)
made variables (bind m e) n r steps0 steps1 taken bytes plain arrays =
    made_view variables (view_of e) steps0 steps1 taken plain arrays
made variables (values m list) n r steps0 steps1 taken bytes plain arrays = absurd (cc)
made variables (show e) n r steps0 steps1 taken bytes plain arrays =
    made_view variables (view_of e) steps0 steps1 taken plain arrays
made variables (type_of e) n r steps0 steps1 taken bytes plain arrays =
    made_view variables (view_of e) steps0 steps1 taken plain arrays
made variables (pack e) n r steps0 steps1 taken bytes plain arrays = absurd (cc)
made variables names n r steps0 steps1 taken bytes plain arrays = omega (arith, taken)

sent : (variables : Variables) (l : Line) (a : code.Answer) → ShowsBy variables l a
    → has_cost l ≡ true → IsOfArrays variables l
    → sent_cost a ≤ shown_cost (sizes_of variables) (length (answer_text (answer_view a))) l
sent variables (load m form count big buffers) a shows plain arrays =
    omega (arith, none_sent a shows)
sent variables session a shows plain arrays = omega (arith, none_sent a shows)
sent variables (bind m e) a shows plain arrays = omega (arith, none_sent a shows)
sent variables (values m list) a shows plain arrays = absurd (cc)
sent variables (show e) a shows plain arrays = sent_view variables (view_of e) a shows plain arrays
sent variables (type_of e) a shows plain arrays = omega (arith, none_sent a shows)
sent variables (pack e) a shows plain arrays = absurd (cc)
sent variables names a shows plain arrays = omega (arith, none_sent a shows)

-- a line that was read has the bytes that its reading has
pub read-bytes : {E : Type 0} (n : ℕ) (r : Result Line E) → IfOk r (HasBytes n)
    → IfSome (result_ok r) (HasBytes n)
read-bytes n (Ok l) h = h
read-bytes n (Err e) h = tt

-- where its answer was put
pub Takes-answered : (variables : Variables) (line : Option Line) (n r : ℕ) (a : code.Answer)
    (steps0 steps1 steps2 : ℕ) → Takes variables line r steps0 steps1 → Shows variables line a
    → steps2 ≤ steps1 + sent_cost a → IfSome line (HasBytes n)
    → TakesCost variables line (n + r) (Some (answer_text (answer_view a))) steps0 steps2
Takes-answered variables None n r a steps0 steps1 steps2 takes shows puts bytes plain arrays =
    omega (arith, takes, puts, none_sent a shows)
Takes-answered variables (Some l) n r a steps0 steps1 steps2 takes shows puts bytes plain arrays =
    omega (
      arith,
      puts,
      made variables l n r steps0 steps1 takes bytes plain arrays,
      sent variables l a shows plain arrays,
    )

-- where memory was wanting before
pub Takes-unanswered : (variables : Variables) (line : Option Line) (n r : ℕ)
    (answer : Option (List ℕ)) (steps0 steps1 : ℕ) → Takes variables line r steps0 steps1
    → IfSome line (HasBytes n) → TakesCost variables line (n + r) answer steps0 steps1
Takes-unanswered variables None n r answer steps0 steps1 takes bytes plain arrays =
    omega (arith, takes)
Takes-unanswered variables (Some l) n r answer steps0 steps1 takes bytes plain arrays =
    omega (arith, made variables l n r steps0 steps1 takes bytes plain arrays)

-- ---- what a line is read as

pub line_in-blank : (r : Reading) (line : List ℕ) → is_blank line ≡ true → line_in r line ≡ None
unfolding line_in
line_in-blank r line e = rw e refl

pub line_in-said : (r : Reading) (line : List ℕ) → is_blank line ≡ false
    → line_in r line ≡ result_ok (line_said r line)
unfolding line_in
line_in-said r line e = rw e refl
