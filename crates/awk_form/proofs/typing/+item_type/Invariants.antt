use Rattle.std.proofs.Common.{◌≡◌, ◌++◌, map, drop}
use Rattle.awk_types.specs.View.{typs_of}
use Rattle.awk_form.specs.FormTree.{forms_from}
use Rattle.awk_form.specs.FormType.{type_of}
use Rattle.awk_form.specs.Lawful.{AreLawful}
use Rattle.awk_form.specs.View.{form_of, forms_of}
use Rattle.awk_form.proofs.typing.+item_type.Given as goal

-- the types so far, and those of the rest
abbrev pub invariant-item_types-loop-form : goal.invariant-item_types-loop-form
invariant-item_types-loop-form l = record {
  types : typs_of l.types ++ map type_of (map form_of (drop l.form-index l.form-items))
      ≡ map type_of (forms_of l.forms);
  lawful : AreLawful (forms_from (map form_of (drop l.form-index l.form-items)));
}
