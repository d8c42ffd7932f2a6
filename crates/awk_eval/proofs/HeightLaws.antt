-- Heights of what expressions give.
use Rattle.std.proofs.Common.{◌≡◌, ℕ, ◌≤◌, max, Bool, true, false, cond, [], ◌∷◌, Option, Some}
use Rattle.std.proofs.Common.{None, option_map, Result, Ok, refl, sym, ap, subst, arith}
use Rattle.std.specs.Prelude.{not, IfOk, IsErr}
use Rattle.std.specs.Str.{bytes_eq}
use Rattle.awk_types.specs.DataType.{Name}
use Rattle.awk_types.specs.declared.fault.Fault.{Fault}
use Rattle.awk_layout.specs.Datum.{kept}
use Rattle.awk_layout.specs.Layout.{height}
use Rattle.awk_layout.specs.declared.datum.Datum.{Datum}
use Rattle.awk_layout.specs.declared.datum.Datum.TheVariants.{Arr, One}
use Rattle.awk_heights.specs.Low.{IsLow}
use Rattle.awk_view.proofs.RowSteps.{IfOk-map}
use Rattle.awk_eval.specs.Bindings.{look_up}
use Rattle.awk_eval.specs.Heights.{highest, IsNoHigher, is_single, is_array_view}
use Rattle.awk_eval.specs.Variables.{Variables}
use Rattle.awk_eval.specs.Views.{View, IsArray, IsWithin, TakesView, size_of, size_or_none, size_at}
use Rattle.awk_eval.specs.Views.{sizes_of, size_in}
use Rattle.awk_eval.proofs.Evaluations.{look_up-each}
use Rattle.awk_eval.proofs.ViewSteps.{IfOk-IsErr}

-- ---- variables

higher_of : (b : Bool) (a d : Datum) (later : Option Datum) (n : ℕ)
    → (Some d ≡ later → height (kept d) ≤ n) → Some d ≡ cond b (Some a) later
    → height (kept d) ≤ max (height (kept a)) n
higher_of true a d later n h e = let f : d ≡ a = cc in rw f (omega arith)
higher_of false a d later n h e = omega (arith, h e)

-- what a name is bound to is no higher than the highest
look_up-highest : (n : Name) (variables : Variables) (d : Datum) → Some d ≡ look_up n variables
    → height (kept d) ≤ highest variables
look_up-highest n [] d e = cc
look_up-highest n (v ∷ vs) d e =
    higher_of (bytes_eq n v.0) v.1 d (look_up n vs) (highest vs) (look_up-highest n vs d) e

pub bound_no_higher : (n : Name) (variables : Variables) (d made : Datum)
    → Some d ≡ look_up n variables → made ≡ d → IsNoHigher variables made
bound_no_higher n variables d made is same =
    let own : IsNoHigher variables d = omega (arith, look_up-highest n variables d is) in
    subst (IsNoHigher variables) (sym same) own

low_no_higher : (variables : Variables) (d : Datum) → IsLow (kept d) → IsNoHigher variables d
low_no_higher variables d h = omega (arith, h)

-- the height of the size of what may be bound
size_high : (o : Option Datum) (n : ℕ) → ((d : Datum) → Some d ≡ o → height (kept d) ≤ n)
    → (size_or_none (option_map size_of o)).height ≤ n
size_high None n h = omega arith
size_high (Some (Arr x)) n h = h (Arr x) refl
size_high (Some (One x)) n h = h (One x) refl

size_at-highest : (variables : Variables) (n : Name)
    → (size_at (sizes_of variables) n).height ≤ highest variables
size_at-highest variables n =
    subst (λ o. (size_or_none o).height ≤ highest variables)
    (sym (look_up-each size_of n variables))
    (size_high (look_up n variables) (highest variables) (look_up-highest n variables))

within_no_higher : (variables : Variables) (n : Name) (d : Datum)
    → IsWithin (size_at (sizes_of variables) n) d → IsNoHigher variables d
within_no_higher variables n (Arr x) h = omega (arith, h.1, size_at-highest variables n)
within_no_higher variables n (One x) h = absurd h

-- ---- views of arrays

single_array : (o : Option Datum) → is_single o ≡ false → IsArray o
single_array None e = tt
single_array (Some (Arr x)) e = tt
single_array (Some (One x)) e = cc

array_single : (o : Option Datum) → IsArray o → is_single o ≡ false
array_single None h = refl
array_single (Some (Arr x)) h = refl
array_single (Some (One x)) h = absurd h

module _ (variables : Variables) (made : Datum) where
  by_single : (v : View) (b : Bool) (steps0 steps1 : ℕ) (x : Datum)
      → is_single (look_up v.name variables) ≡ b
      → TakesView variables (Some v) steps0 steps1 (Ok made)
      → (is_array_view variables (Some v) ≡ true → x ≡ made)
      → (is_array_view variables (Some v) ≡ false → IsLow (kept x)) → IsNoHigher variables x
  by_single v true steps0 steps1 x e takes same low = low_no_higher variables x (low (ap not e))
  by_single v false steps0 steps1 x e takes same low =
      let taken = takes (single_array (look_up v.name variables) e) in
      subst (IsNoHigher variables) (sym (same (ap not e)))
      (within_no_higher variables v.name made taken.within)

  -- what an operation gave is no higher, once it is as low as its type asks for or a view
  pub call_no_higher : (view : Option View) (steps0 steps1 : ℕ) (x : Datum)
      → TakesView variables view steps0 steps1 (Ok made)
      → (is_array_view variables view ≡ true → x ≡ made)
      → (is_array_view variables view ≡ false → IsLow (kept x)) → IsNoHigher variables x
  call_no_higher None steps0 steps1 x takes same low = low_no_higher variables x (low refl)
  call_no_higher (Some v) steps0 steps1 x takes same low =
      by_single v (is_single (look_up v.name variables)) steps0 steps1 x refl takes same low

  -- a view that is given as it stands takes what it took
  pub TakesView-limited : (view : Option View) (steps0 steps1 steps2 : ℕ)
      (result : Result Datum Fault) → TakesView variables view steps0 steps1 (Ok made)
      → (is_array_view variables view ≡ true
      → (steps2 ≤ steps1) × IfOk result (λ x. x ≡ made))
      → TakesView variables view steps0 steps2 result
  TakesView-limited None steps0 steps1 steps2 result takes given = tt
  TakesView-limited (Some v) steps0 steps1 steps2 result takes given = λ array.
      let taken = takes array in
      let as_it_is = given (ap not (array_single (look_up v.name variables) array)) in
      record {
        steps = omega (arith, taken.steps, as_it_is.0);
        within = IfOk-map (λ x. x ≡ made) (IsWithin (size_in variables v))
            (λ x e. subst (IsWithin (size_in variables v)) (sym e) taken.within) result as_it_is.1;
      }

  -- and so does one for which memory is wanting
  pub TakesView-unlimited : (view : Option View) (steps0 steps1 steps2 : ℕ)
      (result : Result Datum Fault) → IsErr result
      → TakesView variables view steps0 steps1 (Ok made)
      → (is_array_view variables view ≡ true → steps2 ≤ steps1)
      → TakesView variables view steps0 steps2 result
  TakesView-unlimited view steps0 steps1 steps2 result failed takes given =
      TakesView-limited view steps0 steps1 steps2 result takes
      (λ e. (given e, IfOk-IsErr (λ x. x ≡ made) result failed))
