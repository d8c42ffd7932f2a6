use Rattle.std.proofs.Common.{codes, arith}
use Rattle.awk_json.proofs.Joins.{stops_at, goes_to}
use Rattle.awk_form.specs.FormText.{member, word, primitive_text}
use Rattle.awk_form.proofs.write.write_numpy.Goals as goal

pub returns-in_err-write_word-clause-bytes : goal.returns-in_err-write_word-clause-bytes
returns-in_err-write_word-clause-bytes g c =
    stops_at _ (member (codes "primitive") (word (primitive_text c.args.prim))) _
    (rw c.primitive_name.ensures at c.in_err-write_word.ensures.bytes) (grind arith)

pub returns-in_err-put-clause-bytes : goal.returns-in_err-put-clause-bytes
returns-in_err-put-clause-bytes g c =
    goes_to _ (member (codes "primitive") (word (primitive_text c.args.prim))) _
    (rw c.primitive_name.ensures at c.in_ok-write_word.ensures.bytes)
    (stops_at _ (codes ",\"inner_shape\":") _ c.in_err-put.ensures.bytes (grind arith))

pub returns-clause-bytes : goal.returns-clause-bytes
returns-clause-bytes g c =
    goes_to _ (member (codes "primitive") (word (primitive_text c.args.prim))) _
    (rw c.primitive_name.ensures at c.in_ok-write_word.ensures.bytes)
    (goes_to _ (codes ",\"inner_shape\":") _ c.in_ok-put.ensures.bytes
    c.write_numbers.ensures.bytes)
