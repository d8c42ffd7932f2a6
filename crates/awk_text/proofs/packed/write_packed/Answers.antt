use Rattle.std.proofs.Common.{codes, decimal, arith}
use Rattle.awk_json.proofs.Joins.{stops_at, goes_to}
use Rattle.awk_form.specs.FormText.{form_text}
use Rattle.awk_form.specs.View.{form_of}
use Rattle.awk_pack.specs.Shown.{packed_of}
use Rattle.awk_text.specs.PackedText.{buffers_text}
use Rattle.awk_text.proofs.packed.write_packed.Goals as goal

pub returns-in_err-put-clause-bytes : goal.returns-in_err-put-clause-bytes
returns-in_err-put-clause-bytes g c =
    stops_at _ (codes "{\"form\":") _ c.in_err-put.ensures.bytes (grind arith)

pub returns-in_err-write_form-clause-bytes : goal.returns-in_err-write_form-clause-bytes
returns-in_err-write_form-clause-bytes g c =
    goes_to _ (codes "{\"form\":") _ c.in_ok-put.ensures.bytes
    (stops_at _ (form_text (form_of c.args.p.now.form)) _ c.in_err-write_form.ensures.bytes
    (grind arith))

pub returns-in_err-put-2-clause-bytes : goal.returns-in_err-put-2-clause-bytes
returns-in_err-put-2-clause-bytes g c =
    goes_to _ (codes "{\"form\":") _ c.in_ok-put.ensures.bytes
    (goes_to _ (form_text (form_of c.args.p.now.form)) _ c.in_ok-write_form.ensures.bytes
    (stops_at _ (codes ",\"length\":") _ c.in_err-put-2.ensures.bytes (grind arith)))

pub returns-in_err-write_number-clause-bytes : goal.returns-in_err-write_number-clause-bytes
returns-in_err-write_number-clause-bytes g c =
    goes_to _ (codes "{\"form\":") _ c.in_ok-put.ensures.bytes
    (goes_to _ (form_text (form_of c.args.p.now.form)) _ c.in_ok-write_form.ensures.bytes
    (goes_to _ (codes ",\"length\":") _ c.in_ok-put-2.ensures.bytes
    (stops_at _ (decimal c.args.p.now.length) _ c.in_err-write_number.ensures.bytes (grind arith))))

pub returns-in_err-put-3-clause-bytes : goal.returns-in_err-put-3-clause-bytes
returns-in_err-put-3-clause-bytes g c =
    goes_to _ (codes "{\"form\":") _ c.in_ok-put.ensures.bytes
    (goes_to _ (form_text (form_of c.args.p.now.form)) _ c.in_ok-write_form.ensures.bytes
    (goes_to _ (codes ",\"length\":") _ c.in_ok-put-2.ensures.bytes
    (goes_to _ (decimal c.args.p.now.length) _ c.in_ok-write_number.ensures.bytes
    (stops_at _ (codes ",\"buffers\":") _ c.in_err-put-3.ensures.bytes (grind arith)))))

pub returns-in_err-write_all_buffers-clause-bytes :
    goal.returns-in_err-write_all_buffers-clause-bytes
returns-in_err-write_all_buffers-clause-bytes g c =
    goes_to _ (codes "{\"form\":") _ c.in_ok-put.ensures.bytes
    (goes_to _ (form_text (form_of c.args.p.now.form)) _ c.in_ok-write_form.ensures.bytes
    (goes_to _ (codes ",\"length\":") _ c.in_ok-put-2.ensures.bytes
    (goes_to _ (decimal c.args.p.now.length) _ c.in_ok-write_number.ensures.bytes
    (goes_to _ (codes ",\"buffers\":") _ c.in_ok-put-3.ensures.bytes
    (stops_at _ (buffers_text (packed_of c.args.p.now)) _ c.in_err-write_all_buffers.ensures.bytes
    (grind arith))))))

pub returns-clause-bytes : goal.returns-clause-bytes
returns-clause-bytes g c =
    goes_to _ (codes "{\"form\":") _ c.in_ok-put.ensures.bytes
    (goes_to _ (form_text (form_of c.args.p.now.form)) _ c.in_ok-write_form.ensures.bytes
    (goes_to _ (codes ",\"length\":") _ c.in_ok-put-2.ensures.bytes
    (goes_to _ (decimal c.args.p.now.length) _ c.in_ok-write_number.ensures.bytes
    (goes_to _ (codes ",\"buffers\":") _ c.in_ok-put-3.ensures.bytes
    (goes_to _ (buffers_text (packed_of c.args.p.now)) (codes "}")
    c.in_ok-write_all_buffers.ensures.bytes c.put-4.ensures.bytes)))))
