use Rattle.std.proofs.Common.{arith, ◌++◌, codes, refl, append_assoc}
use Rattle.base64.specs.Engines.{standard}
use Rattle.base64.specs.GeneralPurpose.{encode_of}
use Rattle.awk_json.proofs.Puts.{stops, goes}
use Rattle.awk_text.specs.Buffers.{lane_bytes}
use Rattle.awk_text.proofs.buffers.write_buffer.Goals as goal

pub returns-in_err-write_joined-clause-bytes : goal.returns-in_err-write_joined-clause-bytes
returns-in_err-write_joined-clause-bytes g c =
    stops c.in_err-write_joined.ensures.bytes (grind arith)
    (codes ":\"" ++ (encode_of standard (lane_bytes c.args.lane.now) ++ codes "\""))
    (rw c.key_text.ensures (simp append_assoc))

pub returns-in_err-put-clause-bytes : goal.returns-in_err-put-clause-bytes
returns-in_err-put-clause-bytes g c =
    stops (goes c.in_ok-write_joined.ensures.bytes c.in_err-put.ensures.bytes _ refl refl)
    (grind arith) (encode_of standard (lane_bytes c.args.lane.now) ++ codes "\"")
    (rw c.key_text.ensures (simp append_assoc))

pub returns-in_err-write_base64-clause-bytes : goal.returns-in_err-write_base64-clause-bytes
returns-in_err-write_base64-clause-bytes g c =
    stops
    (goes (goes c.in_ok-write_joined.ensures.bytes c.in_ok-put.ensures.bytes _ refl refl)
    c.in_err-write_base64.ensures.bytes _ refl refl) (grind arith) (codes "\"")
    (rw (c.key_text.ensures, c.bulk.ensures.bytes) (simp append_assoc))

pub returns-clause-bytes : goal.returns-clause-bytes
returns-clause-bytes g c =
    goes
    (goes (goes c.in_ok-write_joined.ensures.bytes c.in_ok-put.ensures.bytes _ refl refl)
    c.in_ok-write_base64.ensures.bytes _ refl refl) c.put-2.ensures.bytes _ refl
    (rw (c.key_text.ensures, c.bulk.ensures.bytes) (simp append_assoc))
