use Rattle.std.proofs.Common.{codes}
use Rattle.awk_json.specs.Text.{quoted}
use Rattle.awk_answer.proofs.Parts.{moves_line}
use Rattle.awk_answer.proofs.fault_text.write_fault.Goals as goal

pub returns-in-Cut-clause-bytes : goal.returns-in-Cut-clause-bytes
returns-in-Cut-clause-bytes g c =
    rw c.in-Cut.is
    (moves_line c.args.out.now.held (codes "{\"fault\":\"buffer\",\"key\":") (quoted c.in-Cut.key)
    (codes ",\"why\":\"cut\"}")
    (rw (c.as_bytes-in-Cut.ensures.value, c.as_str-in-Cut.ensures) at
    c.write_quoted_between-in-Cut.ensures.bytes))
