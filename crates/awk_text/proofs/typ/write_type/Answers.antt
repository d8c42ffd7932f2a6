use Rattle.std.proofs.Common.{arith}
use Rattle.awk_layout.specs.Typing.{array_type}
use Rattle.awk_json.proofs.Joins.{stops_at, goes_to, puts_same}
use Rattle.awk_text.specs.TypeText.{type_text, size_text}
use Rattle.awk_text.proofs.TypeTexts.{said_array}
use Rattle.awk_text.proofs.typ.write_type.Goals as goal

pub returns-in_err-write_size-in-Arr-clause-bytes :
    goal.returns-in_err-write_size-in-Arr-clause-bytes
returns-in_err-write_size-in-Arr-clause-bytes g c =
    puts_same _ (said_array c.args.x.now c.in-Arr.array c.len.result c.in-Arr.is c.len.ensures.len)
    (stops_at _ (size_text c.len.result) _ c.in_err-write_size-in-Arr.ensures.bytes (grind arith))

pub returns-in_ok-write_size-in-Arr-clause-bytes : goal.returns-in_ok-write_size-in-Arr-clause-bytes
returns-in_ok-write_size-in-Arr-clause-bytes g c =
    puts_same _ (said_array c.args.x.now c.in-Arr.array c.len.result c.in-Arr.is c.len.ensures.len)
    (goes_to _ (size_text c.len.result) (type_text (array_type c.in-Arr.array))
    c.in_ok-write_size-in-Arr.ensures.bytes (rw c.typ.ensures.typ at c.write_typ.ensures.bytes))
