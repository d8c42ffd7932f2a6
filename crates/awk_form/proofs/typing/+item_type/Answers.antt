use Rattle.std.proofs.Common.{◌≡◌, ◌++◌, ◌∷◌, ◌+◌, [], IfOk, map, drop, arith, rules, sym, ap, ◌∙◌}
use Rattle.std.proofs.Common.{subst, append_assoc, length}
use Rattle.std.proofs.lemmas.List.{length-map}
use Rattle.awk_types.specs.DataType.{uni, types_from}
use Rattle.awk_types.specs.View.{typ_of, typs_of}
use Rattle.awk_types.proofs.Views.{typ_of-Uni}
use Rattle.awk_form.specs.FormType.{type_of}
use Rattle.awk_form.specs.View.{form_of, forms_of}
use Rattle.awk_form.specs.FormTree.{forms_from}
use Rattle.awk_form.specs.Lawful.{AreNamesOf}
use Rattle.awk_form.specs.declared.form.Shape.{the_lemmas}
use Rattle.awk_form.proofs.Types.{count-from, type-Union, type-Row, lawful-Row, lawful_left}
use Rattle.awk_base.proofs.Left.{map_left}
use Rattle.awk_form.proofs.typing.+item_type.Goals as goal

pub item_type-returns-in_ok-item_types-in-Union : goal.item_type-returns-in_ok-item_types-in-Union
item_type-returns-in_ok-item_types-in-Union t c =
    typ_of-Uni c.in_ok-item_types-in-Union.field-0
    ∙ ap (λ ts. uni (types_from ts)) c.in_ok-item_types-in-Union.ensures
    ∙ sym (type-Union c.args.form.now c.in-Union.index c.in-Union.contents c.in-Union.is)

pub item_type-row-requires : goal.item_type-row-requires
item_type-row-requires t c =
    let lawful = lawful-Row c.args.form.now c.in-Row.names c.in-Row.contents c.in-Row.is
    c.requires in
    (search (rules, the_lemmas), (lawful.0, lawful.1))

pub item_types-item_type-requires : goal.item_types-item_type-requires
item_types-item_type-requires t c =
    let items = c.deref-form-items.result.now in (
      search (rules, the_lemmas),
      (lawful_left items c.loop-form.form-index c.form-item.result c.form-item.result
          (omega arith) c.form-item.is c.loop-form.invariant.lawful).0,
    )

pub item_types-loop-form-preserved : goal.item_types-loop-form-preserved
item_types-loop-form-preserved t c =
    let items = c.deref-form-items.result.now in
    let i = c.loop-form.form-index in
    let item = c.form-item.result in
    let more = map form_of (drop (i + 1) items) in
    let done = typs_of c.loop-form.types in
    record {
      types =
          ap (λ ts. ts ++ map type_of more) c.in_ok-push.ensures.ok
          ∙ append_assoc done (typ_of c.in_ok-item_type.field-0 ∷ []) (map type_of more)
          ∙ ap (λ t. done ++ t ∷ map type_of more) c.in_ok-item_type.ensures
          ∙ ap (λ fs. done ++ map type_of fs)
          (sym (map_left form_of items i item item (omega arith) c.form-item.is))
          ∙ c.loop-form.invariant.types;
      lawful =
          (lawful_left items i item item (omega arith) c.form-item.is
          c.loop-form.invariant.lawful).1;
    }

pub item_type-returns-in-Row : goal.item_type-returns-in-Row
item_type-returns-in-Row t c =
    subst (λ d. IfOk c.row.result (λ t. typ_of t ≡ d))
    (sym (type-Row c.args.form.now c.in-Row.names c.in-Row.contents c.in-Row.is)) c.row.ensures

pub row-named-requires : goal.row-named-requires
row-named-requires t c =
    let named = subst (AreNamesOf (forms_from (forms_of c.args.contents.now))) c.in-Some.is
    c.requires.names in
    named.1 ∙ count-from (forms_of c.args.contents.now)
    ∙ sym (length-map (forms_of c.args.contents.now) type_of)
    ∙ sym (ap length c.in_ok-item_types-in-Some.ensures)
