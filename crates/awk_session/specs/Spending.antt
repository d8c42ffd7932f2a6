-- What lines take and bind, by the sizes of the variables.
use Rattle.std.specs.Prelude.{◌≡◌, ◌≤◌, ◌+◌, ℕ, Bool, true, false, List, Option, Some, None}
use Rattle.std.specs.Prelude.{option_and_then, Result, Ok, Err, MatchOption, IfSome, IsTrue}
use Rattle.std.specs.Option.{option_map_or}
use Rattle.awk_types.specs.DataType.{Name}
use Rattle.awk_layout.specs.declared.datum.Datum.{Datum}
use Rattle.awk_query.specs.declared.reading.Reading.{Reading}
use Rattle.awk_query.specs.Line.{Line, load, session, bind, values, show, type_of, pack, names}
use Rattle.awk_lengths.specs.LineBytes.{text_len}
use Rattle.awk_eval.specs.Bindings as bindings
use Rattle.awk_eval.specs.Bindings.{look_up}
use Rattle.awk_eval.specs.Variables.{Variables}
use Rattle.awk_eval.specs.Views.{Size, View, view_of, IsWithin, IsArray, IsTaken, OfView, sizes_of}
use Rattle.awk_eval.specs.Views.{size_in, size_or_none}
use Rattle.awk_session.specs.Cost.{form_size, has_cost, line_cost, line_in, answer_length}
use Rattle.awk_answer.specs.Sending.{shown_width, shown_height}
use Rattle.awk_load_line.specs.LoadCost.{IsLoaded}
use Rattle.awk_answer.specs.declared.answer.Answer as code
use Rattle.awk_answer.specs.declared.answer.Answered.{Answered}
use Rattle.awk_session.specs.declared.engine.LineEnd.{LineEnd}
use Rattle.awk_session.specs.declared.engine.LineEnd.TheVariants.{Write, NoMemory}

-- ---- what has a cost

-- a view is of a name that is not bound, or of an array
abbrev pub IsOfArray : Variables → Option View → Type 0
IsOfArray variables None = Unit {0}
IsOfArray variables (Some v) = IsArray (look_up v.name variables)

-- and so is the view of a line, if it has one
abbrev pub IsOfArrays : Variables → Line → Type 0
IsOfArrays variables (bind n e) = IsOfArray variables (view_of e)
IsOfArrays variables (show e) = IsOfArray variables (view_of e)
IsOfArrays variables (type_of e) = IsOfArray variables (view_of e)
IsOfArrays variables _ = Unit {0}

-- a line that has a cost, of n bytes with those behind it, of arrays alone, takes at most that
abbrev pub TakesCost : Variables → Option Line → ℕ → Option (List ℕ) → ℕ → ℕ → Type 0
TakesCost variables line n answer steps0 steps1 =
    IsTrue (option_map_or has_cost line true) → IfSome line (IsOfArrays variables) → steps1
    ≤ steps0 + option_map_or (line_cost (sizes_of variables) n (answer_length answer)) line 0

-- ---- what a line binds

-- a name was bound to a datum of which a fact is so
pub record IsBound (n : Name) (Fact : Datum → Type 0) (old new : Variables) : Type 0 where
  pub datum : Datum
  pub bound : new ≡ bindings.bind n datum old
  pub fact : Fact datum

-- the same, where the answer is no fault; else nothing changed
abbrev pub IsBoundUnless : Bool → Name → (Datum → Type 0) → Variables → Variables → Type 0
IsBoundUnless false n Fact old new = IsBound n Fact old new
IsBoundUnless true n Fact old new = new ≡ old

-- an array no greater than that of a view's variable
abbrev pub IsViewWithin : Variables → Option View → Datum → Type 0
IsViewWithin variables view d = OfView variables view (λ v. IsWithin (size_in variables v) d)

-- A load binds an array no greater than its form, a values line an array, and a let of a view of
-- an array one no greater than that. Another line binds nothing.
abbrev pub BindsBy : Line → Bool → Variables → Variables → Type 0
BindsBy (load n form count big buffers) is_fault old new =
    IsBoundUnless is_fault n (IsWithin (form_size form)) old new
BindsBy (values n list) is_fault old new =
    IsBoundUnless is_fault n (λ d. IsArray (Some d)) old new
BindsBy (bind n e) is_fault old new =
    IsBoundUnless is_fault n (IsViewWithin old (view_of e)) old new
BindsBy _ is_fault old new = new ≡ old

abbrev pub Binds : Option Line → Bool → Variables → Variables → Type 0
Binds line is_fault old new = MatchOption line (new ≡ old) (λ l. BindsBy l is_fault old new)

-- unless memory was wanting
abbrev pub Unless : Result Answered LineEnd → Type 0 → Type 0
Unless (Ok answered) Fact = Fact
Unless (Err Write) Fact = Fact
Unless (Err NoMemory) Fact = Unit {0}

-- the name that a line binds, where its answer is no fault
abbrev pub name_by : Line → Option Name
name_by (load n form count big buffers) = Some n
name_by (bind n e) = Some n
name_by (values n list) = Some n
name_by _ = None

abbrev pub name_in : Reading → List ℕ → Option Name
name_in r bytes = option_and_then name_by (line_in r bytes)

-- ---- what the parts of an answer take

-- what a view of an array takes
abbrev pub IsViewTaken : Variables → Option View → ℕ → ℕ → Type 0
IsViewTaken variables view steps0 steps1 =
    OfView variables view (λ v. IsTaken (size_in variables v) v.count steps0 steps1)

-- what a line with so many raw bytes behind it takes before its answer is put
abbrev pub TakesBy : Variables → Line → ℕ → ℕ → ℕ → Type 0
TakesBy variables (load n form count big buffers) raw steps0 steps1 =
    IsLoaded form (text_len buffers + raw) steps0 steps1
TakesBy variables session raw steps0 steps1 = steps1 ≡ steps0
TakesBy variables (bind n e) raw steps0 steps1 = IsViewTaken variables (view_of e) steps0 steps1
TakesBy variables (values n list) raw steps0 steps1 = Unit {0}
TakesBy variables (show e) raw steps0 steps1 = IsViewTaken variables (view_of e) steps0 steps1
TakesBy variables (type_of e) raw steps0 steps1 = IsViewTaken variables (view_of e) steps0 steps1
TakesBy variables (pack e) raw steps0 steps1 = Unit {0}
TakesBy variables names raw steps0 steps1 = steps1 ≡ steps0

-- what is no line takes nothing
abbrev pub Takes : Variables → Option Line → ℕ → ℕ → ℕ → Type 0
Takes variables line raw steps0 steps1 =
    MatchOption line (steps1 ≡ steps0) (λ l. TakesBy variables l raw steps0 steps1)

-- the size of what an answer shows, and 0 where it shows nothing
abbrev pub shown_size : code.Answer → Size
shown_size a = record { width = shown_width a; height = shown_height a }

-- no greater in width and height
abbrev pub IsAtMost : Size → Size → Type 0
IsAtMost s t = (s.width ≤ t.width) × (s.height ≤ t.height)

abbrev pub ShowsNone : code.Answer → Type 0
ShowsNone a = shown_size a ≡ size_or_none None

-- a view of an array shows no greater value
abbrev pub ShowsView : Variables → Option View → code.Answer → Type 0
ShowsView variables view a =
    OfView variables view (λ v. IsAtMost (shown_size a) (size_in variables v))

-- a show shows its view, a pack line what it packs, and another line none
abbrev pub ShowsBy : Variables → Line → code.Answer → Type 0
ShowsBy variables (show e) a = ShowsView variables (view_of e) a
ShowsBy variables (pack e) a = Unit {0}
ShowsBy variables _ a = ShowsNone a

-- what is no line shows none
abbrev pub Shows : Variables → Option Line → code.Answer → Type 0
Shows variables line a = MatchOption line (ShowsNone a) (λ l. ShowsBy variables l a)
