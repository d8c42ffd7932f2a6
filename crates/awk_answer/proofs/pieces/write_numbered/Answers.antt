use Rattle.std.proofs.Common.{◌++◌, decimal, refl, arith}
use Rattle.awk_json.proofs.Puts.{stops, goes}
use Rattle.awk_answer.proofs.Parts.{first_part, three_parts}
use Rattle.awk_answer.proofs.pieces.write_numbered.Goals as goal

pub returns-in_err-put-clause-bytes : goal.returns-in_err-put-clause-bytes
returns-in_err-put-clause-bytes g c =
    stops c.in_err-put.ensures.bytes (grind arith) (decimal c.args.number ++ c.args.tail.now)
    (first_part c.args.out.now.held c.args.head.now (decimal c.args.number) c.args.tail.now)

pub returns-in_err-write_number-clause-bytes : goal.returns-in_err-write_number-clause-bytes
returns-in_err-write_number-clause-bytes g c =
    stops
    (goes c.in_ok-put.ensures.bytes c.in_err-write_number.ensures.bytes (decimal c.args.number)
    refl refl) (grind arith) c.args.tail.now
    (three_parts c.args.out.now.held c.args.head.now (decimal c.args.number) c.args.tail.now)

pub returns-clause-bytes : goal.returns-clause-bytes
returns-clause-bytes g c =
    goes
    (goes c.in_ok-put.ensures.bytes c.in_ok-write_number.ensures.bytes (decimal c.args.number)
    refl refl) c.put-2.ensures.bytes c.args.tail.now refl
    (three_parts c.args.out.now.held c.args.head.now (decimal c.args.number) c.args.tail.now)
