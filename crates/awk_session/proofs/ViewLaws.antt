-- What a view of an array leaves, as an answer and bound to a name.
use Rattle.std.proofs.Common.{◌≡◌, ℕ, Option, None, Result, Ok, Err, sym, ap, ◌∙◌, subst, arith}
use Rattle.std.specs.Prelude.{IfOk}
use Rattle.awk_types.specs.DataType.{Name}
use Rattle.awk_layout.specs.declared.datum.Datum.{Datum}
use Rattle.awk_layout.specs.declared.datum.Datum.TheVariants.{Arr, One}
use Rattle.awk_eval.specs.Bindings as bindings
use Rattle.awk_eval.specs.Variables.{Variables}
use Rattle.awk_eval.specs.Views.{Size, View, size_of, size_in, size_or_none, IsWithin, TakesView}
use Rattle.awk_eval.proofs.ViewSteps.{OfView-all, OfView-both, TakesView-within}
use Rattle.awk_session.specs.Spending.{IsAtMost, IsBound, IsViewWithin, ShowsNone, ShowsView}
use Rattle.awk_session.specs.Spending.{shown_size}
use Rattle.awk_answer.specs.declared.answer.Answer as code
use Rattle.awk_answer.specs.declared.answer.Answer.TheVariants as variant
use Rattle.awk_session.proofs.SizeLaws.{size_of-within}

-- what an answer shows of a datum is its size
shown-within : (d : Datum) (s : Size) → IsAtMost (size_of d) s
    → IsAtMost (shown_size (variant.Value d)) s
shown-within (Arr x) s h = h
shown-within (One x) s h = h

-- it shows no more than its variable has
pub shows_value : (variables : Variables) (view : Option View) (steps0 steps1 : ℕ) (made : Datum)
    → TakesView variables view steps0 steps1 (Ok made)
    → ShowsView variables view (variant.Value made)
shows_value variables view steps0 steps1 made h =
    let within = TakesView-within variables view steps0 steps1 made h in
    OfView-both variables view (λ v. IsWithin (size_in variables v) made)
    (λ v. IsWithin (size_in variables v) made)
    (λ v. IsAtMost (shown_size (variant.Value made)) (size_in variables v))
    (λ v fits _. shown-within made (size_in variables v)
    (size_of-within made (size_in variables v) fits)) within within

none_at_most : (s t : Size) → s ≡ size_or_none None → IsAtMost s t
none_at_most s t e =
    let least : IsAtMost (size_or_none None) t = (omega arith, omega arith) in
    subst (λ z. IsAtMost z t) (sym e) least

-- a fault shows none
pub shows_fault : {E : Type 0} (variables : Variables) (view : Option View)
    (result : Result code.Answer E) → IfOk result ShowsNone
    → IfOk result (ShowsView variables view)
shows_fault variables view (Ok a) none =
    OfView-all variables view (λ v. IsAtMost (shown_size a) (size_in variables v))
    (λ v. none_at_most (shown_size a) (size_in variables v) none)
shows_fault variables view (Err e) none = tt

-- a name that was bound to what a view made
pub binds_made : (n copied : Name) (view : Option View) (old new : Variables)
    (steps0 steps1 : ℕ) (made : Datum) → copied ≡ n → new ≡ bindings.bind copied made old
    → TakesView old view steps0 steps1 (Ok made) → IsBound n (IsViewWithin old view) old new
binds_made n copied view old new steps0 steps1 made same bound h = record {
  datum = made;
  bound = bound ∙ ap (λ m. bindings.bind {A = Datum} m made old) same;
  fact = TakesView-within old view steps0 steps1 made h;
}
