use Rattle.std.proofs.Common.{[], ◌∷◌, arith}
use Rattle.awk_json.proofs.Joins.{stops_at, goes_to}
use Rattle.awk_pack.specs.Shown.{packed_of}
use Rattle.awk_text.specs.PackedText.{packed_text}
use Rattle.awk_answer.proofs.answer.write_pack.Goals as goal

pub returns-in_err-write_packed-clause-bytes : goal.returns-in_err-write_packed-clause-bytes
returns-in_err-write_packed-clause-bytes g c =
    stops_at _ (packed_text (packed_of c.args.p.now)) (10 ∷ []) c.in_err-write_packed.ensures.bytes
    (grind arith)

pub returns-clause-bytes : goal.returns-clause-bytes
returns-clause-bytes g c =
    goes_to _ (packed_text (packed_of c.args.p.now)) (10 ∷ []) c.in_ok-write_packed.ensures.bytes
    c.put.ensures.bytes

pub returns-in_err-write_packed-clause-cost : goal.returns-in_err-write_packed-clause-cost
returns-in_err-write_packed-clause-cost g c = omega (arith, c.write_packed.ensures.cost)

pub returns-clause-cost : goal.returns-clause-cost
returns-clause-cost g c = omega (arith, c.write_packed.ensures.cost)
