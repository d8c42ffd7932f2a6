use Rattle.std.proofs.Common.{codes, refl, arith, append_assoc}
use Rattle.awk_json.specs.Text.{quoted}
use Rattle.awk_json.proofs.Puts.{stops, goes}
use Rattle.awk_text.proofs.fault.write_named.Goals as goal

pub returns-in_err-write_text-clause-bytes : goal.returns-in_err-write_text-clause-bytes
returns-in_err-write_text-clause-bytes g c =
    stops
    (goes c.in_ok-put.ensures.bytes (rw c.as_str.ensures at c.in_err-write_text.ensures.bytes)
    (quoted c.args.name.now) refl refl) (grind arith) (codes "}") (simp append_assoc)

pub returns-clause-bytes : goal.returns-clause-bytes
returns-clause-bytes g c =
    goes
    (goes c.in_ok-put.ensures.bytes (rw c.as_str.ensures at c.in_ok-write_text.ensures.bytes)
    (quoted c.args.name.now) refl refl) c.put-2.ensures.bytes (codes "}") refl
    (simp append_assoc)
