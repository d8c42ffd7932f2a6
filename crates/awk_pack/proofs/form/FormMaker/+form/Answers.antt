-- The forms of contents are numbered one after another.
use Rattle.std.proofs.Common.{◌≡◌, ◌+◌, IfOk, Some, None, arith, rules, map, ap, ◌∙◌, subst}
use Rattle.awk_types.specs.DataType.{nodes}
use Rattle.awk_types.specs.View.{typ_of, typs_of, fields_of, names_of}
use Rattle.awk_types.proofs.Views.{typ_of-Tup, typ_of-Uni, typ_of-Rec}
use Rattle.awk_types.specs.declared.typ.Typ.{the_lemmas}
use Rattle.awk_form.specs.View.{form_of, forms_of}
use Rattle.awk_pack.proofs.FormLaws.{all_nodes-drop, form_each-drop, type_at, nodes-row, nodes-uni}
use Rattle.awk_pack.proofs.FormLaws.{packed-row, packed-uni, if_ok}
use Rattle.awk_pack.proofs.form.FormMaker.+form.Goals as goal

pub contents-form-requires : goal.contents-form-requires
contents-form-requires t c = (
  search (rules, the_lemmas),
  omega (
    arith,
    all_nodes-drop (typs_of c.args.ts.now) c.loop-i.i (typ_of c.get.result.now)
        c.get.ensures.item,
    c.loop-i.invariant.next,
    c.requires.room,
  ),
)

pub contents-loop-i-preserved : goal.contents-loop-i-preserved
contents-loop-i-preserved t c = record {
  forms =
      form_each-drop c.loop-i.self.next c.form.new.self.next (typs_of c.args.ts.now) c.loop-i.i
      (typ_of c.get.result.now) (forms_of c.loop-i.forms) (forms_of c.push.new.self)
      (form_of c.in_ok-form.field-0) c.get.ensures.item c.in_ok-form.ensures.form
      c.in_ok-form.ensures.next c.in_ok-push.ensures.ok
      ∙ c.loop-i.invariant.forms;
  next =
      omega (
        arith,
        all_nodes-drop (typs_of c.args.ts.now) c.loop-i.i (typ_of c.get.result.now)
            c.get.ensures.item,
        c.in_ok-form.ensures.next,
        c.loop-i.invariant.next,
      );
}

pub fields-form-requires : goal.fields-form-requires
fields-form-requires t c =
    let fields = fields_of c.args.fields.now in
    let i = c.loop-i.i in (
      search (rules, the_lemmas),
      omega (
        arith,
        all_nodes-drop (map (λ f. f.typ) fields) i (typ_of c.get.result.now.typ)
            (type_at fields i c.get.result.now c.get.ensures.item),
        c.loop-i.invariant.next,
        c.requires.room,
      ),
    )

pub fields-loop-i-preserved : goal.fields-loop-i-preserved
fields-loop-i-preserved t c =
    let fields = fields_of c.args.fields.now in
    let i = c.loop-i.i in
    let at = type_at fields i c.get.result.now c.get.ensures.item in
    record {
      forms =
          form_each-drop c.loop-i.self.next c.form.new.self.next (map (λ f. f.typ) fields) i
          (typ_of c.get.result.now.typ) (forms_of c.loop-i.forms) (forms_of c.push.new.self)
          (form_of c.in_ok-form.field-0) at c.in_ok-form.ensures.form c.in_ok-form.ensures.next
          c.in_ok-push.ensures.ok
          ∙ c.loop-i.invariant.forms;
      next =
          omega (
            arith,
            all_nodes-drop (map (λ f. f.typ) fields) i (typ_of c.get.result.now.typ) at,
            c.in_ok-form.ensures.next,
            c.loop-i.invariant.next,
          );
    }

-- ---- rows and unions

pub form-fields-requires : goal.form-fields-requires
form-fields-requires t c =
    let fields = fields_of c.in-Rec.fields in
    let is = ap typ_of c.in-Rec.is ∙ typ_of-Rec c.in-Rec.fields in (
      search (rules, the_lemmas),
      omega (
        arith,
        nodes-row (Some (names_of fields)) (typ_of c.args.t.now)
            (map (λ f. f.typ) fields) is,
        c.key.ensures.next,
        c.requires.room,
      ),
    )

pub form-contents-requires : goal.form-contents-requires
form-contents-requires t c =
    let is = ap typ_of c.in-Tup.is ∙ typ_of-Tup c.in-Tup.parts in (
      search (rules, the_lemmas),
      omega (
        arith,
        nodes-row None (typ_of c.args.t.now) (typs_of c.in-Tup.parts) is,
        c.key.ensures.next,
        c.requires.room,
      ),
    )

pub form-contents-requires-in-Uni : goal.form-contents-requires-in-Uni
form-contents-requires-in-Uni t c =
    let is = ap typ_of c.in-Uni.is ∙ typ_of-Uni c.in-Uni.alternatives in (
      search (rules, the_lemmas),
      omega (
        arith,
        nodes-uni (typ_of c.args.t.now) (typs_of c.in-Uni.alternatives) is,
        c.key.ensures.next,
        c.requires.room,
      ),
    )

pub form-returns-in_ok-fields-in-Rec-clause-form : goal.form-returns-in_ok-fields-in-Rec-clause-form
form-returns-in_ok-fields-in-Rec-clause-form t c =
    let fields = fields_of c.in-Rec.fields in
    let is = ap typ_of c.in-Rec.is ∙ typ_of-Rec c.in-Rec.fields in
    subst (λ f. IfOk c.record_form.result (λ form. form_of form ≡ f))
    (packed-row (Some (names_of fields)) c.args.self.now.next c.key.new.self.next c.in_ok-key.key
    (typ_of c.args.t.now) (map (λ f. f.typ) fields) (forms_of c.in_ok-fields-in-Rec.field-0) is
    c.in_ok-key.ensures.key c.key.ensures.next c.in_ok-fields-in-Rec.ensures.forms)
    c.record_form.ensures

pub form-returns-in_ok-fields-in-Rec-clause-next : goal.form-returns-in_ok-fields-in-Rec-clause-next
form-returns-in_ok-fields-in-Rec-clause-next t c =
    let fields = fields_of c.in-Rec.fields in
    let is = ap typ_of c.in-Rec.is ∙ typ_of-Rec c.in-Rec.fields in
    let next : c.fields.new.self.next ≡ c.args.self.now.next + nodes (typ_of c.args.t.now) =
    omega (
      arith,
      nodes-row (Some (names_of fields)) (typ_of c.args.t.now)
          (map (λ f. f.typ) fields) is,
      c.key.ensures.next,
      c.in_ok-fields-in-Rec.ensures.next,
    ) in
    if_ok c.record_form.result _ next

pub form-returns-in_ok-contents-in-Tup-clause-form :
    goal.form-returns-in_ok-contents-in-Tup-clause-form
form-returns-in_ok-contents-in-Tup-clause-form t c =
    let is = ap typ_of c.in-Tup.is ∙ typ_of-Tup c.in-Tup.parts in
    c.tuple_form.ensures
    ∙ packed-row None c.args.self.now.next c.key.new.self.next c.in_ok-key.key (typ_of c.args.t.now)
    (typs_of c.in-Tup.parts) (forms_of c.in_ok-contents-in-Tup.field-0) is
    c.in_ok-key.ensures.key c.key.ensures.next c.in_ok-contents-in-Tup.ensures.forms

pub form-returns-in_ok-contents-in-Tup-clause-next :
    goal.form-returns-in_ok-contents-in-Tup-clause-next
form-returns-in_ok-contents-in-Tup-clause-next t c =
    let is = ap typ_of c.in-Tup.is ∙ typ_of-Tup c.in-Tup.parts in
    omega (
      arith,
      nodes-row None (typ_of c.args.t.now) (typs_of c.in-Tup.parts) is,
      c.key.ensures.next,
      c.in_ok-contents-in-Tup.ensures.next,
    )

pub form-returns-in_ok-contents-in-Uni-clause-form :
    goal.form-returns-in_ok-contents-in-Uni-clause-form
form-returns-in_ok-contents-in-Uni-clause-form t c =
    let is = ap typ_of c.in-Uni.is ∙ typ_of-Uni c.in-Uni.alternatives in
    c.union_form.ensures
    ∙ packed-uni c.args.self.now.next c.key.new.self.next c.in_ok-key.key (typ_of c.args.t.now)
    (typs_of c.in-Uni.alternatives) (forms_of c.in_ok-contents-in-Uni.field-0) is
    c.in_ok-key.ensures.key c.key.ensures.next c.in_ok-contents-in-Uni.ensures.forms

pub form-returns-in_ok-contents-in-Uni-clause-next :
    goal.form-returns-in_ok-contents-in-Uni-clause-next
form-returns-in_ok-contents-in-Uni-clause-next t c =
    let is = ap typ_of c.in-Uni.is ∙ typ_of-Uni c.in-Uni.alternatives in
    omega (
      arith,
      nodes-uni (typ_of c.args.t.now) (typs_of c.in-Uni.alternatives) is,
      c.key.ensures.next,
      c.in_ok-contents-in-Uni.ensures.next,
    )
