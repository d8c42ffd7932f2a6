use Rattle.std.proofs.Common.{codes}
use Rattle.awk_json.specs.Text.{quoted}
use Rattle.awk_answer.proofs.Parts.{moves_line}
use Rattle.awk_answer.proofs.answer.write_answer.Goals as goal

pub returns-in-Bound-clause-bytes : goal.returns-in-Bound-clause-bytes
returns-in-Bound-clause-bytes g c =
    rw c.in-Bound.is
    (moves_line c.args.out.now.held (codes "{\"bound\":") (quoted c.in-Bound.name.now) (codes "}")
    (rw c.as_bytes.ensures.value at c.write_quoted_between.ensures.bytes))

pub returns-in-Type-clause-bytes : goal.returns-in-Type-clause-bytes
returns-in-Type-clause-bytes g c =
    rw c.in-Type.is
    (moves_line c.args.out.now.held (codes "{\"type\":") (quoted c.in-Type.text.items) (codes "}")
    (rw c.deref.ensures.value at c.write_quoted_between-in-Type.ensures.bytes))
