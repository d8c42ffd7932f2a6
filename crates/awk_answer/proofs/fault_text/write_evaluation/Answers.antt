use Rattle.std.proofs.Common.{[], ◌∷◌, refl, arith, sym, append_assoc}
use Rattle.awk_json.proofs.Puts.{stops, goes}
use Rattle.awk_text.specs.FaultText.{fault_text}
use Rattle.awk_answer.proofs.fault_text.write_evaluation.Goals as goal

pub returns-in_err-write_fault-clause-bytes : goal.returns-in_err-write_fault-clause-bytes
returns-in_err-write_fault-clause-bytes g c =
    stops c.in_err-write_fault.ensures.bytes (grind arith) (10 ∷ [])
    (sym (append_assoc c.args.out.now.held (fault_text c.args.fault.now) (10 ∷ [])))

pub returns-clause-bytes : goal.returns-clause-bytes
returns-clause-bytes g c =
    goes c.in_ok-write_fault.ensures.bytes c.put.ensures.bytes (10 ∷ []) refl
    (sym (append_assoc c.args.out.now.held (fault_text c.args.fault.now) (10 ∷ [])))
