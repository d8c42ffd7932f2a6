use Rattle.std.proofs.Common.{◌++◌, [], ◌∷◌, codes, refl, arith}
use Rattle.awk_json.proofs.Puts.{stops, goes}
use Rattle.awk_answer.specs.Answer.{datum_text}
use Rattle.awk_layout.specs.Datum.{datum_of}
use Rattle.awk_answer.specs.Sending.{height_of, width_of}
use Rattle.awk_answer.proofs.Parts.{first_part, three_parts}
use Rattle.awk_answer.proofs.SendingLaws.{text_cost-around}
use Rattle.awk_answer.proofs.answer.write_value.Goals as goal

pub returns-in_err-put-clause-bytes : goal.returns-in_err-put-clause-bytes
returns-in_err-put-clause-bytes g c =
    let text = datum_text (datum_of c.args.datum.now) in
    stops c.in_err-put.ensures.bytes (grind arith) (text ++ (125 ∷ 10 ∷ []))
    (first_part c.args.out.now.held (codes "{\"value\":") text (125 ∷ 10 ∷ []))

pub returns-in_err-write_datum-clause-bytes : goal.returns-in_err-write_datum-clause-bytes
returns-in_err-write_datum-clause-bytes g c =
    let text = datum_text (datum_of c.args.datum.now) in
    stops (goes c.in_ok-put.ensures.bytes c.in_err-write_datum.ensures.bytes text refl refl)
    (grind arith) (125 ∷ 10 ∷ [])
    (three_parts c.args.out.now.held (codes "{\"value\":") text (125 ∷ 10 ∷ []))

pub returns-clause-bytes : goal.returns-clause-bytes
returns-clause-bytes g c =
    let text = datum_text (datum_of c.args.datum.now) in
    goes (goes c.in_ok-put.ensures.bytes c.in_ok-write_datum.ensures.bytes text refl refl)
    c.put-2.ensures.bytes (125 ∷ 10 ∷ []) refl
    (three_parts c.args.out.now.held (codes "{\"value\":") text (125 ∷ 10 ∷ []))

pub returns-in_err-write_datum-clause-cost : goal.returns-in_err-write_datum-clause-cost
returns-in_err-write_datum-clause-cost g c =
    let text = datum_text (datum_of c.args.datum.now) in
    let around =
    text_cost-around (width_of c.args.datum.now) (height_of c.args.datum.now)
    (codes "{\"value\":") text (codes "}") in
    omega (arith, c.write_datum.ensures.cost, around)

pub returns-clause-cost : goal.returns-clause-cost
returns-clause-cost g c =
    let text = datum_text (datum_of c.args.datum.now) in
    let around =
    text_cost-around (width_of c.args.datum.now) (height_of c.args.datum.now)
    (codes "{\"value\":") text (codes "}") in
    omega (arith, c.write_datum.ensures.cost, around)
