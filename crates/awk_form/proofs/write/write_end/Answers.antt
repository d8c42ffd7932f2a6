use Rattle.std.proofs.Common.{codes, arith}
use Rattle.awk_json.proofs.Joins.{stops_at, goes_to}
use Rattle.awk_form.specs.FormText.{key_text}
use Rattle.awk_form.proofs.write.write_end.Goals as goal

pub returns-in_err-put-clause-bytes : goal.returns-in_err-put-clause-bytes
returns-in_err-put-clause-bytes g c = stops_at _ (codes ",\"parameters\":{},\"form_key\":") _
    c.in_err-put.ensures.bytes (grind arith)

pub returns-in_err-write_key-clause-bytes : goal.returns-in_err-write_key-clause-bytes
returns-in_err-write_key-clause-bytes g c =
    goes_to _ (codes ",\"parameters\":{},\"form_key\":") _ c.in_ok-put.ensures.bytes
    (stops_at _ (key_text c.args.key.now) _ c.in_err-write_key.ensures.bytes (grind arith))

pub returns-clause-bytes : goal.returns-clause-bytes
returns-clause-bytes g c =
    goes_to _ (codes ",\"parameters\":{},\"form_key\":") _ c.in_ok-put.ensures.bytes
    (goes_to _ (key_text c.args.key.now) _ c.in_ok-write_key.ensures.bytes
    c.put-2.ensures.bytes)
