use Rattle.std.proofs.Common.{◌++◌, [], ◌∷◌, codes, decimal, refl, arith}
use Rattle.awk_json.proofs.Puts.{stops, goes}
use Rattle.awk_answer.specs.FaultText.{rule_text}
use Rattle.awk_answer.proofs.Parts.{node_then_place}
use Rattle.awk_answer.proofs.fault_text.write_invalid.Goals as goal

pub returns-in_err-write_numbered-clause-bytes : goal.returns-in_err-write_numbered-clause-bytes
returns-in_err-write_numbered-clause-bytes g c =
    let place = decimal c.args.place in
    stops c.in_err-write_numbered.ensures.bytes (grind arith)
    ((codes ",\"place\":" ++ place) ++ (125 ∷ 10 ∷ []))
    (node_then_place c.args.out.now.held (codes "{\"fault\":\"invalid\",\"node\":")
    (decimal c.args.node) (codes ",\"rule\":\"") (rule_text c.args.rule) place
    c.rule_member.result.now c.rule_member.ensures)

pub returns-clause-bytes : goal.returns-clause-bytes
returns-clause-bytes g c =
    let place = decimal c.args.place in
    goes c.in_ok-write_numbered.ensures.bytes c.write_numbered-2.ensures.bytes
    ((codes ",\"place\":" ++ place) ++ (125 ∷ 10 ∷ [])) refl
    (node_then_place c.args.out.now.held (codes "{\"fault\":\"invalid\",\"node\":")
    (decimal c.args.node) (codes ",\"rule\":\"") (rule_text c.args.rule) place
    c.rule_member.result.now c.rule_member.ensures)
