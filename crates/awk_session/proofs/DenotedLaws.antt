-- What variables stand for, where a name is bound, and their names.
use Rattle.std.proofs.Common.{◌≡◌, Bool, true, false, cond, [], ◌∷◌, Result, Ok, refl, ap, ◌∙◌}
use Rattle.std.specs.Str.{bytes_eq}
use Rattle.awk_types.specs.DataType.{Name}
use Rattle.awk_types.specs.Datum as shown
use Rattle.awk_layout.specs.Datum.{datum_of}
use Rattle.awk_layout.specs.declared.datum.Datum.{Datum}
use Rattle.awk_eval.specs.Bindings.{Bindings, bind, names, each}
use Rattle.awk_eval.specs.Variables.{Variables, denoted}
use Rattle.awk_answer.specs.Answer.{bound}
use Rattle.awk_session.specs.Replies.{reply_bind}
use Rattle.awk_answer.specs.declared.fault.AnswerFault.{AnswerFault}

module _ {A B : Type 0} (f : A → B) where
  each-cond : (b : Bool) (xs ys : Bindings A)
      → each f (cond b xs ys) ≡ cond b (each f xs) (each f ys)
  each-cond true xs ys = refl
  each-cond false xs ys = refl

  -- another view of a name bound is the name bound to another view
  pub each-bind : (n : Name) (a : A) (vs : Bindings A)
      → each f (bind n a vs) ≡ bind n (f a) (each f vs)
  each-bind n a [] = refl
  each-bind n a (v ∷ vs) =
      each-cond (bytes_eq n v.0) ((v.0, a) ∷ vs) (v ∷ bind n a vs) ∙ rw (each-bind n a vs) refl

  pub names-each : (vs : Bindings A) → names (each f vs) ≡ names vs
  names-each [] = refl
  names-each (v ∷ vs) = ap (λ ns. v.0 ∷ ns) (names-each vs)

-- a name that was bound to a datum was bound to what it stands for
pub bound-denoted : (vs new : Variables) (n name : Name) (x : Datum)
    (made : Result shown.Datum AnswerFault) → made ≡ Ok (datum_of x) → name ≡ n
    → new ≡ bind name x vs →
    reply_bind (denoted vs) n made ≡ record { answer = bound n; after = denoted new }
bound-denoted vs new n name x made e same b = rw (e, b, same, each-bind datum_of n x vs) refl
