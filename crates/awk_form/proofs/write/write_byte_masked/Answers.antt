use Rattle.std.proofs.Common.{codes, arith}
use Rattle.awk_json.proofs.Joins.{stops_at, goes_to}
use Rattle.awk_form.specs.FormText.{member, word}
use Rattle.awk_form.proofs.write.write_byte_masked.Goals as goal

pub returns-in_err-write_word-clause-bytes : goal.returns-in_err-write_word-clause-bytes
returns-in_err-write_word-clause-bytes g c = stops_at _ (member (codes "mask") (word (codes "i8")))
    _ c.in_err-write_word.ensures.bytes (grind arith)

pub returns-clause-bytes : goal.returns-clause-bytes
returns-clause-bytes g c = goes_to _ (member (codes "mask") (word (codes "i8"))) _
    c.in_ok-write_word.ensures.bytes c.write_truth.ensures.bytes
