-- Runs of a machine, one unit more.
use Rattle.std.proofs.Common.{◌≡◌, Bool, true, false, ◌||◌, List, [], ◌∷◌, ◌++◌, ap, refl, sym, ◌∙◌}
use Rattle.std.proofs.Common.{append_assoc, append-nil}
use Rattle.awk_units.specs.Runs.{Step, answer_bytes, texts, any_fault, state_after}

module _ {S U : Type 0} (step : S → U → Step S) where
  pub texts-append : (s : S) (xs ys : List U)
      → texts step s (xs ++ ys) ≡ texts step s xs ++ texts step (state_after step s xs) ys
  texts-append s [] ys = refl
  texts-append s (x ∷ xs) ys =
      ap (λ z. answer_bytes (step s x).answer ++ z) (texts-append (step s x).after xs ys)
      ∙ sym
      (append_assoc (answer_bytes (step s x).answer) (texts step (step s x).after xs)
      (texts step (state_after step (step s x).after xs) ys))

  pub texts_push : (s : S) (xs : List U) (x : U)
      → texts step s (xs ++ x ∷ [])
      ≡ texts step s xs ++ answer_bytes (step (state_after step s xs) x).answer
  texts_push s xs x = texts-append s xs (x ∷ []) ∙ ap (λ z. texts step s xs ++ z) (append-nil _)

  pub state_push : (s : S) (xs : List U) (x : U)
      → state_after step s (xs ++ x ∷ []) ≡ (step (state_after step s xs) x).after
  state_push s [] x = refl
  state_push s (y ∷ xs) x = state_push (step s y).after xs x

  or-false : (b : Bool) → (b || false) ≡ b
  or-false true = refl
  or-false false = refl

  or-assoc : (a b c : Bool) → ((a || b) || c) ≡ (a || (b || c))
  or-assoc true b c = refl
  or-assoc false b c = refl

  pub fault_push : (s : S) (xs : List U) (x : U)
      → any_fault step s (xs ++ x ∷ [])
      ≡ (any_fault step s xs || (step (state_after step s xs) x).is_fault)
  fault_push s [] x = or-false (step s x).is_fault
  fault_push s (y ∷ xs) x = ap (λ z. (step s y).is_fault || z) (fault_push (step s y).after xs x)
      ∙ sym
      (or-assoc (step s y).is_fault (any_fault step (step s y).after xs)
      (step (state_after step (step s y).after xs) x).is_fault)
