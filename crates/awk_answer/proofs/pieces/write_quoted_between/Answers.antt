use Rattle.std.proofs.Common.{◌++◌, refl, arith}
use Rattle.awk_json.proofs.Puts.{stops, goes}
use Rattle.awk_json.specs.Text.{quoted}
use Rattle.awk_answer.proofs.Parts.{first_part, three_parts}
use Rattle.awk_answer.proofs.pieces.write_quoted_between.Goals as goal

pub returns-in_err-put-clause-bytes : goal.returns-in_err-put-clause-bytes
returns-in_err-put-clause-bytes g c =
    stops c.in_err-put.ensures.bytes (grind arith) (quoted c.args.text.now ++ c.args.tail.now)
    (first_part c.args.out.now.held c.args.head.now (quoted c.args.text.now) c.args.tail.now)

pub returns-in_err-write_quoted-clause-bytes : goal.returns-in_err-write_quoted-clause-bytes
returns-in_err-write_quoted-clause-bytes g c =
    stops
    (goes c.in_ok-put.ensures.bytes c.in_err-write_quoted.ensures.bytes (quoted c.args.text.now)
    refl refl) (grind arith) c.args.tail.now
    (three_parts c.args.out.now.held c.args.head.now (quoted c.args.text.now) c.args.tail.now)

pub returns-clause-bytes : goal.returns-clause-bytes
returns-clause-bytes g c =
    goes
    (goes c.in_ok-put.ensures.bytes c.in_ok-write_quoted.ensures.bytes (quoted c.args.text.now)
    refl refl) c.put-2.ensures.bytes c.args.tail.now refl
    (three_parts c.args.out.now.held c.args.head.now (quoted c.args.text.now) c.args.tail.now)
