use Rattle.std.proofs.Common.{◌∷◌, ◌++◌, ◌∙◌, [], ap, sym, take}
use Rattle.awk_types.specs.View.{field_of, fields_of, names_of}
use Rattle.awk_types.proofs.Views.{name_out}
use Rattle.awk_unify.proofs.NamePlaces.{names-next}
use Rattle.awk_unify.proofs.fields.field_names.Goals as goal

pub loop-i-preserved : goal.loop-i-preserved
loop-i-preserved c =
    c.in_ok-push.ensures.ok ∙ ap (λ xs. xs ++ c.in_ok-copy.field-0 ∷ []) c.loop-i.invariant
    ∙ ap (λ x. names_of (take c.loop-i.i (fields_of c.args.xs.now)) ++ x ∷ [])
    (c.in_ok-copy.ensures ∙ sym (name_out c.get.result.now))
    ∙ sym (names-next (fields_of c.args.xs.now) c.loop-i.i (field_of c.get.result.now)
    c.get.ensures.item)
