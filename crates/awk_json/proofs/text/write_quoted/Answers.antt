use Rattle.std.proofs.Common.{arith, ◌++◌, codes, refl, append_assoc}
use Rattle.awk_json.specs.Text.{escaped_all}
use Rattle.awk_json.proofs.Puts.{stops, goes}
use Rattle.awk_json.proofs.text.write_quoted.Goals as goal

pub returns-in_err-put-clause-bytes : goal.returns-in_err-put-clause-bytes
returns-in_err-put-clause-bytes g c =
    stops c.in_err-put.ensures.bytes (grind arith) (escaped_all c.args.bytes.now ++ codes "\"")
    (simp append_assoc)

pub returns-in_err-write_escaped-clause-bytes : goal.returns-in_err-write_escaped-clause-bytes
returns-in_err-write_escaped-clause-bytes g c =
    stops (goes c.in_ok-put.ensures.bytes c.in_err-write_escaped.ensures.bytes _ refl refl)
    (grind arith) (codes "\"") (simp append_assoc)

pub returns-clause-bytes : goal.returns-clause-bytes
returns-clause-bytes g c =
    goes (goes c.in_ok-put.ensures.bytes c.in_ok-write_escaped.ensures.bytes _ refl refl)
    c.put-2.ensures.bytes _ refl (simp append_assoc)
