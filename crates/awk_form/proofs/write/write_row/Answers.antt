use Rattle.std.proofs.Common.{codes, arith}
use Rattle.awk_json.proofs.Joins.{stops_at, goes_to}
use Rattle.awk_form.proofs.write.write_row.Goals as goal

pub returns-in_err-put-clause-bytes : goal.returns-in_err-put-clause-bytes
returns-in_err-put-clause-bytes g c =
    stops_at _ (codes ",\"fields\":") _ c.in_err-put.ensures.bytes (grind arith)

pub returns-clause-bytes : goal.returns-clause-bytes
returns-clause-bytes g c =
    goes_to _ (codes ",\"fields\":") _ c.in_ok-put.ensures.bytes c.write_fields.ensures.bytes
