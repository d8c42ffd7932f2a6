-- What a name is bound to as types and values, and operands that are evaluated one after another.
use Rattle.std.proofs.Common.{◌≡◌, ℕ, zero, suc, ◌+◌, ◌≤◌, Bool, true, false, cond, List, [], ◌∷◌}
use Rattle.std.proofs.Common.{◌++◌, drop, length, slice_get, Option, Some, None, option_map, Result}
use Rattle.std.proofs.Common.{Ok, Err, refl, sym, ap, ap₂, ◌∙◌, subst, add-one, append_assoc, arith}
use Rattle.std.specs.Prelude.{IfOk}
use Rattle.std.specs.Str.{bytes_eq}
use Rattle.std.proofs.lemmas.List.{map-append, length-map}
use Rattle.awk_types.specs.DataType.{Name}
use Rattle.awk_types.specs.Gives.{Told}
use Rattle.awk_base.proofs.Lists.{drop-get}
use Rattle.awk_types.specs.declared.fault.Fault.{Fault}
use Rattle.awk_layout.specs.Datum.{datum_of}
use Rattle.awk_layout.specs.Filler.{filler_of}
use Rattle.awk_layout.specs.Layout.{Layout}
use Rattle.awk_layout.specs.declared.datum.Datum.{Datum}
use Rattle.awk_layout.specs.declared.datum.Datum.TheVariants.{Arr, One}
use Rattle.awk_layout.specs.declared.datum.Operand as code
use Rattle.awk_expr.specs.Allowed.{HasArguments, IsAllowed, AreAllowed}
use Rattle.awk_expr.specs.ExprTree.{ExprTree, exprs_from}
use Rattle.awk_expr.specs.View.{expr_of, exprs_of}
use Rattle.awk_expr.specs.declared.op.Op.{Op}
use Rattle.awk_expr.specs.declared.expr.Expr.{Expr, Call}
use Rattle.awk_expr.specs.declared.expr.Exprs.{Exprs}
use Rattle.awk_expr.specs.declared.fixed.Fixed.{Fixed}
use Rattle.awk_expr.proofs.Views.{expr_of-Call}
use Rattle.awk_view.proofs.RowSteps.{IfOk-map}
use Rattle.awk_expr.proofs.AllowedLaws.{expr_list-from}
use Rattle.awk_eval.specs.Bindings.{Bindings, look_up, each}
use Rattle.awk_eval.specs.Variables.{Variables, Environment, denoted}
use Rattle.awk_arguments.specs.Operand.{Operand, takes_literal, IsTakenAs, AreTaken}
use Rattle.awk_arguments.specs.OperandView.{shown_operands}
use Rattle.awk_arguments.proofs.FitLaws.{AreTaken-push}
use Rattle.awk_eval.specs.Views.{IsArray, IsWithin, Takes, size_of, size_or_none, size_at, sizes_of}
use Rattle.awk_eval.specs.Eval.{eval, operands, operand_of, joined, mapped, found}

-- ---- variables

each_or : {A B : Type 0} (f : A → B) (b : Bool) (a : A) (later : Option A)
    → cond b (Some (f a)) (option_map f later) ≡ option_map f (cond b (Some a) later)
each_or f true a later = refl
each_or f false a later = refl

-- another view of what a name is bound to
pub look_up-each : {A B : Type 0} (f : A → B) (n : Name) (variables : Bindings A)
    → look_up n (each f variables) ≡ option_map f (look_up n variables)
look_up-each f n [] = refl
look_up-each f n (v ∷ vs) = ap (cond (bytes_eq n v.0) (Some (f v.1))) (look_up-each f n vs)
    ∙ each_or f (bytes_eq n v.0) v.1 (look_up n vs)

-- what is found is what the datum in code stands for
pub found-denoted : (n : Name) (variables : Variables) (bound : Option Datum)
    → bound ≡ look_up n variables
    → found n (look_up n (denoted variables)) ≡ found n (option_map datum_of bound)
found-denoted n variables bound is =
    ap (found n) (look_up-each datum_of n variables ∙ ap (option_map datum_of) (sym is))

same_within : (x : Layout) (made : Datum) → made ≡ Arr x → IsWithin (size_of (Arr x)) made
same_within x made same =
    let within : IsWithin (size_of (Arr x)) (Arr x) = (omega arith, omega arith) in
    subst (IsWithin (size_of (Arr x))) (sym same) within

-- an array that a name is bound to is taken by its nodes
pub Takes-variable : (n : Name) (variables : Variables) (d : Datum) (steps0 steps1 : ℕ)
    (result : Result Datum Fault) → Some d ≡ look_up n variables
    → IfOk result (λ made. made ≡ d) → steps1 ≤ steps0 + (size_of d).width
    → IsArray (look_up n variables)
    → Takes (size_at (sizes_of variables) n) 1 steps0 steps1 result
Takes-variable n variables (Arr x) steps0 steps1 result is same cost array =
    let size : size_at (sizes_of variables) n ≡ size_of (Arr x) =
    ap size_or_none (look_up-each size_of n variables ∙ ap (option_map size_of) (sym is)) in
    subst (λ s. Takes s 1 steps0 steps1 result) (sym size)
    (record {
      steps = omega arith;
      within = IfOk-map (λ made. made ≡ Arr x) (IsWithin (size_of (Arr x))) (same_within x)
          result same;
    })
Takes-variable n variables (One x) steps0 steps1 result is same cost array =
    absurd (subst IsArray (sym is) array)

-- ---- operands

module _ (env : Environment) (o : Op) (es : List ExprTree) (old : List code.Operand) (i : ℕ)
    (e : ExprTree) (is_literal : Bool) (at : slice_get es i ≡ Some e)
    (place : is_literal ≡ takes_literal o i)
    (before : operands env o 0 (exprs_from es)
    ≡ mapped (λ xs. shown_operands old ++ xs) (operands env o i (exprs_from (drop i es)))) where
  abbrev here : Result Operand Fault
  here = operand_of is_literal e (eval env e)

  abbrev later : ℕ → Result (List Operand) Fault
  later k = operands env o k (exprs_from (drop (i + 1) es))

  abbrev behind : List Operand → Result (List Operand) Fault → Result (List Operand) Fault
  behind made rs = mapped (λ xs. made ++ xs) rs

  next : operands env o 0 (exprs_from es)
      ≡ behind (shown_operands old) (joined here (later (i + 1)))
  next = before
      ∙ ap (λ us. behind (shown_operands old) (operands env o i (exprs_from us)))
      (drop-get es i e at)
      ∙ ap₂ (λ b k. behind (shown_operands old) (joined (operand_of b e (eval env e)) (later k)))
      (sym place) (sym (add-one i))

  one_more : (made : List Operand) (x : Operand) (r : Result Operand Fault)
      (rs : Result (List Operand) Fault) → r ≡ Ok x
      → behind made (joined r rs) ≡ behind (made ++ x ∷ []) rs
  one_more made x (Err f) rs h = absurd (cc)
  one_more made x (Ok y) (Err f) h = refl
  one_more made x (Ok y) (Ok xs) h =
      let same : y ≡ x = cc in
      ap (λ z. Ok (made ++ z ∷ xs)) same ∙ ap Ok (sym (append_assoc made (x ∷ []) xs))

  -- with one operand more
  pub operands-push : (new : List code.Operand) (x : code.Operand) → new ≡ old ++ x ∷ []
      → here ≡ Ok (filler_of x)
      → operands env o 0 (exprs_from es) ≡ behind (shown_operands new) (later (i + 1))
  operands-push new x pushed h =
      next ∙ one_more (shown_operands old) (filler_of x) here (later (i + 1)) h
      ∙ ap (λ made. behind made (later (i + 1)))
      (sym (ap shown_operands pushed ∙ map-append filler_of old (x ∷ [])))

  one_told : (made : List Operand) (t : Option Fault) (r : Result Operand Fault)
      (rs : Result (List Operand) Fault) → Told t r → Told t (behind made (joined r rs))
  one_told made None r rs h = tt
  one_told made (Some f) (Err e) rs h = let same : e ≡ f = cc in ap Err same
  one_told made (Some f) (Ok x) rs h = absurd (cc)

  -- the fault of an operand is told where those before it have none
  pub operands-told : (t : Option Fault) → Told t here → Told t (operands env o 0 (exprs_from es))
  operands-told t h =
      subst (Told t) (sym next) (one_told (shown_operands old) t here (later (i + 1)) h)

-- a literal more stands only where it may
pub AreTaken-operands : (o : Op) (old new : List code.Operand) (i : ℕ) (x : code.Operand) (b : Bool)
    → new ≡ old ++ x ∷ [] → length old ≡ i → b ≡ takes_literal o i
    → AreTaken (takes_literal o) 0 (shown_operands old) → IsTakenAs b (filler_of x)
    → AreTaken (takes_literal o) 0 (shown_operands new)
AreTaken-operands o old new i x b pushed counted place are is =
    let shown : shown_operands new ≡ shown_operands old ++ filler_of x ∷ [] =
    ap shown_operands pushed ∙ map-append filler_of old (x ∷ []) in
    let same : length (shown_operands old) ≡ length old = length-map old filler_of in
    let long : i ≡ 0 + length (shown_operands old) = omega (arith, counted, same) in
    subst (AreTaken (takes_literal o) 0) (sym shown)
    (AreTaken-push (takes_literal o) 0 (shown_operands old) (filler_of x) i long are
    (subst (λ c. IsTakenAs c (filler_of x)) place is))

-- ---- what is allowed

-- each argument of an allowed call is allowed
pub AreAllowed-get : (es : List ExprTree) (i : ℕ) (e : ExprTree) → slice_get es i ≡ Some e
    → AreAllowed (exprs_from es) → IsAllowed e
AreAllowed-get [] i e at are = absurd (cc)
AreAllowed-get (d ∷ es) zero e at are = let same : d ≡ e = cc in subst IsAllowed same are.0
AreAllowed-get (d ∷ es) (suc i) e at are = AreAllowed-get es i e at are.1

-- an allowed call has the arguments of its operation
pub HasArguments-call : (e : Expr) (o : Op) (args : Exprs) (fixed : Fixed) → e ≡ Call o args fixed
    → IsAllowed (expr_of e) → HasArguments o (length (exprs_of args)) fixed
HasArguments-call e o args fixed is allowed =
    let call = subst IsAllowed (ap expr_of is ∙ expr_of-Call o args fixed) allowed in
    subst (λ n. HasArguments o n fixed) (ap length (expr_list-from (exprs_of args))) call.0
