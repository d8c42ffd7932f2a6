use Rattle.std.proofs.Common.{arith, codes}
use Rattle.awk_json.proofs.Joins.{stops_at, goes_to}
use Rattle.awk_text.proofs.leaf.write_field.Goals as goal

pub returns-in_err-write_name-clause-bytes : goal.returns-in_err-write_name-clause-bytes
returns-in_err-write_name-clause-bytes g c =
    stops_at _ _ (codes ":") c.in_err-write_name.ensures.bytes (grind arith)

pub returns-clause-bytes : goal.returns-clause-bytes
returns-clause-bytes g c =
    goes_to _ _ (codes ":") c.in_ok-write_name.ensures.bytes c.put.ensures.bytes
