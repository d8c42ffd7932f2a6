use Rattle.std.proofs.Common.{codes, arith}
use Rattle.awk_json.proofs.Joins.{stops_at, goes_to}
use Rattle.awk_form.specs.FormText.{member, word, kind_text}
use Rattle.awk_form.proofs.write.write_list.Goals as goal

pub returns-in_err-write_kind-clause-bytes : goal.returns-in_err-write_kind-clause-bytes
returns-in_err-write_kind-clause-bytes g c =
    stops_at _ (member (codes "starts") (word (kind_text c.args.starts))) _
    c.in_err-write_kind.ensures.bytes (grind arith)

pub returns-clause-bytes : goal.returns-clause-bytes
returns-clause-bytes g c = goes_to _ (member (codes "starts") (word (kind_text c.args.starts))) _
    c.in_ok-write_kind.ensures.bytes c.write_kind-2.ensures.bytes
