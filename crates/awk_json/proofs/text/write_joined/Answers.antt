use Rattle.std.proofs.Common.{arith, ◌++◌, codes, refl, append_assoc}
use Rattle.awk_json.specs.Text.{escaped_all}
use Rattle.awk_json.proofs.Puts.{stops, goes}
use Rattle.awk_json.proofs.Escapes.{escaped_all-append}
use Rattle.awk_json.proofs.text.write_joined.Goals as goal

pub returns-in_err-put-clause-bytes : goal.returns-in_err-put-clause-bytes
returns-in_err-put-clause-bytes g c =
    stops c.in_err-put.ensures.bytes (grind arith)
    (escaped_all (c.args.first.now ++ c.args.second.now) ++ codes "\"") (simp append_assoc)

pub returns-in_err-write_escaped-clause-bytes : goal.returns-in_err-write_escaped-clause-bytes
returns-in_err-write_escaped-clause-bytes g c =
    stops (goes c.in_ok-put.ensures.bytes c.in_err-write_escaped.ensures.bytes _ refl refl)
    (grind arith) (escaped_all c.args.second.now ++ codes "\"")
    (rw (escaped_all-append c.args.first.now c.args.second.now, c.as_bytes.ensures.value)
    (simp append_assoc))

pub returns-in_err-write_escaped-2-clause-bytes : goal.returns-in_err-write_escaped-2-clause-bytes
returns-in_err-write_escaped-2-clause-bytes g c =
    stops (goes (goes c.in_ok-put.ensures.bytes c.in_ok-write_escaped.ensures.bytes _ refl refl)
    c.in_err-write_escaped-2.ensures.bytes _ refl refl) (grind arith) (codes "\"")
    (rw (
      escaped_all-append c.args.first.now c.args.second.now,
      c.as_bytes.ensures.value,
      c.as_bytes-2.ensures.value,
    ) (simp append_assoc))

pub returns-clause-bytes : goal.returns-clause-bytes
returns-clause-bytes g c =
    goes (goes (goes c.in_ok-put.ensures.bytes c.in_ok-write_escaped.ensures.bytes _ refl refl)
    c.in_ok-write_escaped-2.ensures.bytes _ refl refl) c.put-2.ensures.bytes _ refl
    (rw (
      escaped_all-append c.args.first.now c.args.second.now,
      c.as_bytes.ensures.value,
      c.as_bytes-2.ensures.value,
    ) (simp append_assoc))
