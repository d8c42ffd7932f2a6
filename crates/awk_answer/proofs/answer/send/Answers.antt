use Rattle.std.proofs.Common.{[], sym, append-nil}
use Rattle.awk_json.proofs.Puts.{goes}
use Rattle.awk_answer.proofs.answer.send.Goals as goal

pub returns-clause-bytes : goal.returns-clause-bytes
returns-clause-bytes g c = goes c.in_default.ensures.bytes c.flush.ensures.bytes []
    (sym (append-nil _)) (sym (append-nil _))
