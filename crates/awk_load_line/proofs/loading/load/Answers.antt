-- Why the walk refuses an array is why the line is refused.
use Rattle.std.proofs.Common.{◌≡◌, ℕ, Bool, Option, Some, None, option_map, Result, Ok, Err, ap}
use Rattle.std.proofs.Common.{sym, subst}
use Rattle.std.specs.Prelude.{IsErrAnd}
use Rattle.serde_json.specs.View.{view}
use Rattle.serde_json.specs.Data.{Data}
use Rattle.awk_types.specs.Datum.{Datum}
use Rattle.awk_types.specs.Gives.{Gives, Told}
use Rattle.awk_layout.specs.Layout.{Layout}
use Rattle.awk_layout.specs.Typing.{array_datum}
use Rattle.awk_store.specs.Buffers.{Held}
use Rattle.awk_form.specs.FormTree.{FormTree}
use Rattle.awk_form.specs.Reading.{reading}
use Rattle.awk_form.specs.View.{form_of}
use Rattle.awk_valid.specs.Broken.{Refusal}
use Rattle.awk_valid.specs.Container.{container_of}
use Rattle.awk_valid.specs.Denote.{denoting}
use Rattle.awk_valid.specs.Loading.{told}
use Rattle.awk_answer.specs.Refusals.{walk_fault}
use Rattle.awk_load_line.specs.Load.{walked, loaded_from, loaded}
use Rattle.awk_answer.specs.Told.{refused_told}
use Rattle.awk_answer.specs.declared.fault.Refused.{Refused}
use Rattle.awk_load_line.proofs.loading.load.Goals as goal

told-walked : (why : Option Refusal) (said : Result Datum Refusal) → Told why said
    → Told (option_map walk_fault why) (walked said)
told-walked None said h = tt
told-walked (Some refusal) said h = ap walked h

not-loaded : (r : Result Layout Refused) (d : Data) (n : ℕ) (big : Bool) (held : Held)
    (f : FormTree) (why : Option Refusal) → reading d ≡ Ok f
    → IsErrAnd r (λ refused. refused_told refused ≡ option_map walk_fault why)
    → Told why (denoting f n (container_of big held))
    → Gives array_datum refused_told r (loaded d n big held)
not-loaded (Ok array) d n big held f why read is h = absurd is
not-loaded (Err refused) d n big held f why read is h =
    subst (λ o. Told o (loaded d n big held)) (sym is)
    (subst (λ form. Told (option_map walk_fault why) (loaded_from form n big held)) (sym read)
    (told-walked why (denoting f n (container_of big held)) h))

pub returns-in_err-array-clause-answer : goal.returns-in_err-array-clause-answer
returns-in_err-array-clause-answer g c =
    let why = told c.in_err-array.field-0.0 in
    let f = form_of c.in_ok-form.field-0.form in
    let head = c.args.head.now in
    not-loaded c.from_residual-in_err-array.result (view head.form.now) head.length head.big
    c.args.store.now.held f why c.in_ok-form.ensures.gives
    c.from_residual-in_err-array.ensures.1 c.in_err-array.ensures.denoted
