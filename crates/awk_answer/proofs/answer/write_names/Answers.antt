use Rattle.std.proofs.Common.{◌++◌, [], ◌∷◌, codes, map, refl, arith}
use Rattle.awk_json.proofs.Puts.{stops, goes}
use Rattle.awk_json.specs.Text.{quoted, list_text}
use Rattle.awk_answer.proofs.Parts.{first_part, three_parts}
use Rattle.awk_answer.proofs.answer.write_names.Goals as goal

pub returns-in_err-put-clause-bytes : goal.returns-in_err-put-clause-bytes
returns-in_err-put-clause-bytes g c =
    let text = list_text (map quoted c.args.names.now) in
    stops c.in_err-put.ensures.bytes (grind arith) (text ++ (125 ∷ 10 ∷ []))
    (first_part c.args.out.now.held (codes "{\"names\":") text (125 ∷ 10 ∷ []))

pub returns-in_err-write_names-clause-bytes : goal.returns-in_err-write_names-clause-bytes
returns-in_err-write_names-clause-bytes g c =
    let text = list_text (map quoted c.args.names.now) in
    stops (goes c.in_ok-put.ensures.bytes c.in_err-write_names.ensures.bytes text refl refl)
    (grind arith) (125 ∷ 10 ∷ [])
    (three_parts c.args.out.now.held (codes "{\"names\":") text (125 ∷ 10 ∷ []))

pub returns-clause-bytes : goal.returns-clause-bytes
returns-clause-bytes g c =
    let text = list_text (map quoted c.args.names.now) in
    goes (goes c.in_ok-put.ensures.bytes c.in_ok-write_names.ensures.bytes text refl refl)
    c.put-2.ensures.bytes (125 ∷ 10 ∷ []) refl
    (three_parts c.args.out.now.held (codes "{\"names\":") text (125 ∷ 10 ∷ []))
