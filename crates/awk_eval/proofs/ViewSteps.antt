-- What view expressions take, through the operands of their operations.
use Rattle.std.proofs.Common.{◌≡◌, ℕ, zero, suc, ◌+◌, ◌*◌, ◌≤◌, Bool, true, false, cond, List, []}
use Rattle.std.proofs.Common.{◌∷◌, ◌++◌, length, slice_get, Option, Some, None, option_map, Result}
use Rattle.std.proofs.Common.{Ok, Err, refl, sym, ap, ◌∙◌, subst, arith, mul-add}
use Rattle.std.specs.Prelude.{IfOk, IsErr}
use Rattle.awk_types.specs.declared.fault.Fault.{Fault}
use Rattle.awk_types.specs.DataType.{Name}
use Rattle.awk_types.specs.Faults.{fault_told}
use Rattle.awk_types.specs.Gives.{Gives}
use Rattle.awk_types.proofs.RefusalLaws.{refused_or-Ok}
use Rattle.awk_layout.specs.Datum.{datum_of, kept}
use Rattle.awk_layout.specs.Layout.{Layout, weight, height}
use Rattle.awk_layout.specs.Typing.{array_type, array_datum}
use Rattle.awk_layout.specs.declared.datum.Datum.{Datum}
use Rattle.awk_layout.specs.declared.datum.Datum.TheVariants.{Arr, One}
use Rattle.awk_lists.specs.WithoutField.{without_field_of}
use Rattle.awk_view.specs.Answer.{choice_fault}
use Rattle.awk_view.specs.Choice.{without}
use Rattle.awk_layout.specs.declared.datum.Operand.{Operand}
use Rattle.awk_expr.specs.ExprTree.{ExprTree, call, exprs_from}
use Rattle.awk_expr.specs.View.{expr_of, exprs_of}
use Rattle.awk_expr.specs.declared.op.Op.{Op}
use Rattle.awk_expr.specs.declared.fixed.FixedArg.{FixedArg}
use Rattle.awk_expr.specs.declared.expr.Expr.{Expr, Call}
use Rattle.awk_expr.specs.declared.expr.Exprs.{Exprs}
use Rattle.awk_expr.specs.declared.fixed.Fixed.{Fixed}
use Rattle.awk_expr.proofs.Views.{expr_of-Call}
use Rattle.awk_eval.specs.Variables.{Variables}
use Rattle.awk_eval.specs.Views.{Size, View, view_of, only_view, is_view_op, size_in, OfView}
use Rattle.awk_eval.specs.Views.{IsTaken, Takes, TakesView, AreWithin, IsOperandWithin, IsWithin}

-- one view more
abbrev pub again : View → View
again v = record { name = v.name; count = v.count + 1 }

-- the first operand is the only one so far
first_within : (s : Size) (old new : List Operand) (x : Operand) (k : ℕ) → k ≡ 0
    → length old ≡ k → new ≡ old ++ x ∷ [] → IsOperandWithin s x → AreWithin s new
first_within s [] new x k first counted pushed h =
    let one : AreWithin s (x ∷ []) = (h, tt) in subst (AreWithin s) (sym pushed) one
first_within s (y ∷ old) new x k first counted pushed h = absurd (omega arith)

module _ (variables : Variables) where
  -- what is so of each view
  pub OfView-all : (o : Option View) (P : View → Type 0) → ((v : View) → P v) → OfView variables o P
  OfView-all None P h = tt
  OfView-all (Some v) P h = λ _. h v

  OfView-map : (o : Option View) (P Q : View → Type 0) → ((v : View) → P v → Q v)
      → OfView variables o P → OfView variables o Q
  OfView-map None P Q h p = tt
  OfView-map (Some v) P Q h p = λ a. h v (p a)

  pub OfView-both : (o : Option View) (P Q R : View → Type 0) → ((v : View) → P v → Q v → R v)
      → OfView variables o P → OfView variables o Q → OfView variables o R
  OfView-both None P Q R h p q = tt
  OfView-both (Some v) P Q R h p q = λ a. h v (p a) (q a)

  -- what is so of the view that an expression is, is so where it is the only one, at place 0
  pub OfView-get : (es : List ExprTree) (k : ℕ) (e : ExprTree) (P Q : View → Type 0)
      → slice_get es k ≡ Some e → (k ≡ 0 → (v : View) → P v → Q v)
      → OfView variables (view_of e) P → OfView variables (only_view es) Q
  OfView-get [] k e P Q at h p = tt
  OfView-get (d ∷ []) zero e P Q at h p =
      let same : e ≡ d = cc in
      OfView-map (view_of d) P Q (h refl) (subst (λ e. OfView variables (view_of e) P) same p)
  OfView-get (d ∷ []) (suc k) e P Q at h p = absurd (cc)
  OfView-get (d ∷ c ∷ es) k e P Q at h p = tt

  again_by : (b : Bool) (o : Option View) (P Q : View → Type 0)
      → (b ≡ true → (v : View) → P v → Q (again v)) → OfView variables o P
      → OfView variables (cond b (option_map again o) None) Q
  again_by false o P Q h p = tt
  again_by true None P Q h p = tt
  again_by true (Some v) P Q h p = λ a. h refl v (p a)

  -- an operation takes its only expression once more
  pub OfView-call : (o : Op) (fixed : List FixedArg) (es : List ExprTree) (P Q : View → Type 0)
      → (is_view_op o fixed ≡ true → (v : View) → P v → Q (again v))
      → OfView variables (only_view es) P
      → OfView variables (view_of (call o (exprs_from es) fixed)) Q
  OfView-call o fixed [] P Q h p = tt
  OfView-call o fixed (e ∷ []) P Q h p = again_by (is_view_op o fixed) (view_of e) P Q h p
  OfView-call o fixed (e ∷ d ∷ es) P Q h p = tt

-- ---- steps

times_again : (w n : ℕ) → 4 * w * (n + 1) ≡ 4 * w * n + 4 * w * 1
times_again w n = mul-add (4 * w) n 1

pub IfOk-IsErr : {A E : Type 0} (P : A → Type 0) (r : Result A E) → IsErr r → IfOk r P
IfOk-IsErr P (Ok a) h = absurd (cc)
IfOk-IsErr P (Err e) h = tt

module _ (variables : Variables) where
  abbrev Taken : ℕ → ℕ → View → Type 0
  Taken steps0 steps1 v = IsTaken (size_in variables v) v.count steps0 steps1

  pub TakesView-steps : (view : Option View) (steps0 steps1 : ℕ) (result : Result Datum Fault)
      → TakesView variables view steps0 steps1 result
      → OfView variables view (Taken steps0 steps1)
  TakesView-steps view steps0 steps1 result h =
      OfView-map variables view (λ v. Takes (size_in variables v) v.count steps0 steps1 result)
      (Taken steps0 steps1) (λ v t. t.steps) h

  pub TakesView-within : (view : Option View) (steps0 steps1 : ℕ) (made : Datum)
      → TakesView variables view steps0 steps1 (Ok made)
      → OfView variables view (λ v. IsWithin (size_in variables v) made)
  TakesView-within view steps0 steps1 made h =
      OfView-map variables view (λ v. Takes (size_in variables v) v.count steps0 steps1 (Ok made))
      (λ v. IsWithin (size_in variables v) made) (λ v t. t.within) h

  -- only the first expression takes steps where there is one
  pub Taken-get : (es : List ExprTree) (k : ℕ) (e : ExprTree) (steps0 steps1 steps2 : ℕ)
      → slice_get es k ≡ Some e → (k ≡ 0 → steps1 ≤ steps0)
      → OfView variables (view_of e) (Taken steps1 steps2)
      → OfView variables (only_view es) (Taken steps0 steps2)
  Taken-get es k e steps0 steps1 steps2 at first h =
      OfView-get variables es k e (Taken steps1 steps2) (Taken steps0 steps2) at
      (λ at_first v taken. let before : steps1 ≤ steps0 = first at_first in omega arith) h

  -- and gives the only operand
  pub within-get : (es : List ExprTree) (k : ℕ) (e : ExprTree) (old new : List Operand)
      (x : Operand) → slice_get es k ≡ Some e → length old ≡ k → new ≡ old ++ x ∷ []
      → OfView variables (view_of e) (λ v. IsOperandWithin (size_in variables v) x)
      → OfView variables (only_view es) (λ v. AreWithin (size_in variables v) new)
  within-get es k e old new x at counted pushed h =
      OfView-get variables es k e (λ v. IsOperandWithin (size_in variables v) x)
      (λ v. AreWithin (size_in variables v) new) at
      (λ first v within.
      first_within (size_in variables v) old new x k first counted pushed within) h

  -- ---- calls

  module _ (e : Expr) (o : Op) (args : Exprs) (fixed : Fixed) (is : e ≡ Call o args fixed) where
    of_call : (Fact : View → Type 0)
        → OfView variables (view_of (call o (exprs_from (exprs_of args)) fixed)) Fact
        → OfView variables (view_of (expr_of e)) Fact
    of_call Fact h =
        let tree = ap expr_of is ∙ expr_of-Call o args fixed in
        subst (λ t. OfView variables (view_of t) Fact) (sym tree) h

    -- a fault of the operands comes before the operation takes a step
    pub TakesView-fault : (steps0 steps1 : ℕ) (result : Result Datum Fault) → IsErr result
        → OfView variables (only_view (exprs_of args)) (Taken steps0 steps1)
        → TakesView variables (view_of (expr_of e)) steps0 steps1 result
    TakesView-fault steps0 steps1 result failed taken =
        of_call _
        (OfView-call variables o fixed (exprs_of args) (Taken steps0 steps1)
        (λ v. Takes (size_in variables v) v.count steps0 steps1 result)
        (λ views v t. record {
          steps = omega (arith, times_again (size_in variables v).width v.count);
          within = IfOk-IsErr (IsWithin (size_in variables v)) result failed;
        }) taken)

    -- an operation takes what its operand took, and its own
    pub TakesView-call : (made : List Operand) (steps0 steps1 steps2 : ℕ)
        (result : Result Datum Fault)
        → OfView variables (only_view (exprs_of args)) (Taken steps0 steps1)
        → OfView variables (only_view (exprs_of args)) (λ v. AreWithin (size_in variables v) made)
        → ((s : Size) → is_view_op o fixed ≡ true → AreWithin s made
        → Takes s 1 steps1 steps2 result)
        → TakesView variables (view_of (expr_of e)) steps0 steps2 result
    TakesView-call made steps0 steps1 steps2 result taken within own =
        of_call _
        (OfView-call variables o fixed (exprs_of args)
        (λ v. Taken steps0 steps1 v × AreWithin (size_in variables v) made)
        (λ v. Takes (size_in variables v) v.count steps0 steps2 result)
        (λ views v both.
        let last = own (size_in variables v) views both.1 in
        let before : steps1 ≤ steps0 + 4 * (size_in variables v).width * v.count = both.0 in
        record {
          steps = omega (arith, times_again (size_in variables v).width v.count, last.steps);
          within = last.within;
        })
        (OfView-both variables (only_view (exprs_of args)) (Taken steps0 steps1)
        (λ v. AreWithin (size_in variables v) made)
        (λ v. Taken steps0 steps1 v × AreWithin (size_in variables v) made) (λ v t w. (t, w))
        taken within))

-- ---- a datum without a field

within_kept : (s : Size) (name : Name) (y : Layout) (result : Result Datum Fault)
    → IsWithin s (Arr y) → Gives datum_of fault_told result (without_field_of name (array_datum y))
    → IfOk result (λ made. weight (kept made) ≤ weight y)
    → IfOk result (λ made. height (kept made) ≤ height y) → IfOk result (IsWithin s)
within_kept s name y (Err f) within said nodes high = tt
within_kept s name y (Ok (Arr z)) within said nodes high =
    (omega (arith, within.0, nodes), omega (arith, within.1, high))
within_kept s name y (Ok (One z)) within said nodes high =
    let kept = refused_or-Ok (choice_fault (without name) (array_type y)) _ _ said in
    absurd (cc (kept.1))

-- as a view takes an array
pub Takes-kept : (s : Size) (name : Name) (x : Datum) (steps0 steps1 : ℕ)
    (result : Result Datum Fault) → IsWithin s x
    → Gives datum_of fault_told result (without_field_of name (datum_of x))
    → steps1 ≤ steps0 + 4 * weight (kept x)
    → IfOk result (λ made. weight (kept made) ≤ weight (kept x))
    → IfOk result (λ made. height (kept made) ≤ height (kept x)) → Takes s 1 steps0 steps1 result
Takes-kept s name (One y) steps0 steps1 result within said cost nodes high = absurd within
Takes-kept s name (Arr y) steps0 steps1 result within said cost nodes high = record {
  steps = omega (arith, cost, within.0);
  within = within_kept s name y result within said nodes high;
}
