use Rattle.std.proofs.Common.{◌≡◌, ◌++◌, codes, map, arith, sym, ap, ◌∙◌}
use Rattle.awk_json.proofs.Joins.{stops_at, goes_to, puts_same, joins_first, joins_next, joins_stop}
use Rattle.awk_json.proofs.Joins.{joins_stop_in, joins_last}
use Rattle.awk_json.specs.Text.{comma_joined}
use Rattle.awk_form.specs.FormText.{class_text, class_member, members_text, form_text}
use Rattle.awk_form.specs.View.{form_of, forms_of}
use Rattle.awk_form.specs.declared.form.Shape.TheViews.{out-Form}
use Rattle.awk_form.proofs.FormTexts.{stops_in_contents, puts_parts, content-said, contents-said}
use Rattle.awk_base.proofs.Left.{map_left, map_none}
use Rattle.awk_form.proofs.Views.{forms_out}
use Rattle.awk_form.proofs.write.+write.Goals as goal

-- ---- a form

pub write_form-returns-in_err-write_class-clause-bytes :
    goal.write_form-returns-in_err-write_class-clause-bytes
write_form-returns-in_err-write_class-clause-bytes g t c =
    stops_at _ (class_member (class_text (form_of c.args.form.now))) _
    c.in_err-write_class.ensures.bytes (grind arith)

pub write_form-returns-in_err-write_members-clause-bytes :
    goal.write_form-returns-in_err-write_members-clause-bytes
write_form-returns-in_err-write_members-clause-bytes g t c =
    goes_to _ (class_member (class_text (form_of c.args.form.now))) _
    c.in_ok-write_class.ensures.bytes
    (stops_at _ (members_text (form_of c.args.form.now)) _ c.in_err-write_members.ensures.bytes
    (grind arith))

pub write_form-returns-in_err-write_contents-clause-bytes :
    goal.write_form-returns-in_err-write_contents-clause-bytes
write_form-returns-in_err-write_contents-clause-bytes g t c =
    stops_in_contents _ c.args.form.now c.in_ok-write_class.ensures.bytes
    c.in_ok-write_members.ensures.bytes
    (c.in_err-write_contents.ensures.bytes (out-Form c.args.form.now).key) (grind arith)

pub write_form-returns-clause-bytes : goal.write_form-returns-clause-bytes
write_form-returns-clause-bytes g t c =
    puts_parts _ c.args.form.now c.in_ok-write_class.ensures.bytes
    c.in_ok-write_members.ensures.bytes
    (c.in_ok-write_contents.ensures.bytes (out-Form c.args.form.now).key)
    c.write_end.ensures.bytes

-- ---- its contents

pub write_contents-returns-in_err-put-in-Row-clause-bytes :
    goal.write_contents-returns-in_err-put-in-Row-clause-bytes
write_contents-returns-in_err-put-in-Row-clause-bytes g t c =
    λ key. puts_same _ (contents-said c.args.shape.now c.in-Row.contents key c.in-Row.is)
    (stops_at _ (codes ",\"contents\":") _ c.in_err-put-in-Row.ensures.bytes (grind arith))

pub write_contents-returns-in_err-put-in-Regular-clause-bytes :
    goal.write_contents-returns-in_err-put-in-Regular-clause-bytes
write_contents-returns-in_err-put-in-Regular-clause-bytes g t c =
    λ key. puts_same _ (content-said c.args.shape.now c.in-Regular.content key c.in-Regular.is)
    (stops_at _ (codes ",\"content\":") _ c.in_err-put-in-Regular.ensures.bytes (grind arith))

pub write_contents-returns-in_ok-put-in-Row-clause-bytes :
    goal.write_contents-returns-in_ok-put-in-Row-clause-bytes
write_contents-returns-in_ok-put-in-Row-clause-bytes g t c =
    λ key. puts_same _ (contents-said c.args.shape.now c.in-Row.contents key c.in-Row.is)
    (goes_to _ (codes ",\"contents\":") _ c.in_ok-put-in-Row.ensures.bytes
    c.write_forms.ensures.bytes)

pub write_contents-returns-in_ok-put-in-Regular-clause-bytes :
    goal.write_contents-returns-in_ok-put-in-Regular-clause-bytes
write_contents-returns-in_ok-put-in-Regular-clause-bytes g t c =
    λ key.
    let said = content-said c.args.shape.now c.in-Regular.content key c.in-Regular.is
    ∙ ap (λ f. codes ",\"content\":" ++ form_text (form_of f)) (sym c.deref.ensures) in
    puts_same _ said
    (goes_to _ (codes ",\"content\":") _ c.in_ok-put-in-Regular.ensures.bytes
    c.write_form.ensures.bytes)

-- ---- forms

pub write_forms-returns-in_err-put-clause-bytes : goal.write_forms-returns-in_err-put-clause-bytes
write_forms-returns-in_err-put-clause-bytes g t c =
    stops_at _ (codes "[") (comma_joined (map form_text (forms_of c.args.forms.now)) ++ codes "]")
    c.in_err-put.ensures.bytes (grind arith)

pub write_forms-loop-form-init : goal.write_forms-loop-form-init
write_forms-loop-form-init g t c =
    let same : map form_of c.deref-form-items.result.now ≡ forms_of c.args.forms.now = ap
    (map form_of) c.deref-form-items.ensures.value ∙ sym (forms_out c.args.forms.now) in
    record {
      joins =
          rw same
          (joins_first _ (codes "[") (map form_text (forms_of c.args.forms.now)) (codes "]")
          c.in_ok-put.ensures.bytes);
      flushes = grind arith;
      later = omega (arith, c.in_ok-put.ensures.cause.later);
    }

pub write_forms-returns-in_err-write_comma-clause-bytes :
    goal.write_forms-returns-in_err-write_comma-clause-bytes
write_forms-returns-in_err-write_comma-clause-bytes g t c =
    let left = ap (map form_text)
    (map_left form_of c.deref-form-items.result.now c.loop-form.form-index c.form-item.result
    c.form-item.result (omega arith) c.form-item.is) in
    joins_stop c.loop-form.invariant.joins left c.in_err-write_comma.ensures.bytes (grind arith)

pub write_forms-returns-in_err-write_form-clause-bytes :
    goal.write_forms-returns-in_err-write_form-clause-bytes
write_forms-returns-in_err-write_form-clause-bytes g t c =
    let left = ap (map form_text)
    (map_left form_of c.deref-form-items.result.now c.loop-form.form-index c.form-item.result
    c.form-item.result (omega arith) c.form-item.is) in
    joins_stop_in c.loop-form.invariant.joins left c.in_ok-write_comma.ensures.bytes
    c.in_err-write_form.ensures.bytes (grind arith)

pub write_forms-loop-form-preserved : goal.write_forms-loop-form-preserved
write_forms-loop-form-preserved g t c =
    let v = c.loop-form.invariant in
    let left = ap (map form_text)
    (map_left form_of c.deref-form-items.result.now c.loop-form.form-index c.form-item.result
    c.form-item.result (omega arith) c.form-item.is) in
    record {
      joins = joins_next v.joins left c.in_ok-write_comma.ensures.bytes
          c.in_ok-write_form.ensures.bytes;
      flushes = c.write_form.ensures.flushes ∙ c.write_comma.ensures.flushes ∙ v.flushes;
      later =
          omega (
            arith,
            v.later,
            c.write_comma.ensures.cause.later,
            c.write_form.ensures.cause.later,
          );
    }

pub write_forms-returns-clause-bytes : goal.write_forms-returns-clause-bytes
write_forms-returns-clause-bytes g t c = joins_last c.loop-form.invariant.joins
    (ap (map form_text)
    (map_none form_of c.deref-form-items.result.now c.loop-form.form-index (omega arith)))
    c.put-2.ensures.bytes
