use Rattle.std.proofs.Common.{codes, decimal}
use Rattle.awk_json.proofs.Joins.{goes_to}
use Rattle.awk_text.proofs.typ.write_size.Goals as goal

pub returns-clause-bytes : goal.returns-clause-bytes
returns-clause-bytes g c = goes_to _ (decimal c.args.size) (codes " * ")
    c.in_ok-write_number.ensures.bytes c.put.ensures.bytes
