use Rattle.std.proofs.Common.{◌++◌, codes, map, sym, arith, rules}
use Rattle.awk_json.specs.Text.{comma_joined}
use Rattle.awk_json.proofs.Joins.{stops_at, goes_to, puts_same}
use Rattle.awk_form.specs.View.{form_of}
use Rattle.awk_pack.specs.Shown.{packed_of}
use Rattle.awk_text.specs.Buffers.{buffer_keys, buffer_text}
use Rattle.awk_text.specs.PackedText.{buffers}
use Rattle.awk_text.proofs.BufferCosts.{numbers_before-all}
use Rattle.awk_text.proofs.BufferTexts.{texts_from-all}
use Rattle.awk_text.proofs.packed.write_all_buffers.Goals as goal

pub write_buffers-requires : goal.write_buffers-requires
write_buffers-requires g c =
    record { «open» = search rules; enough = omega (arith, c.requires.lanes) }

pub returns-in_err-put-clause-bytes : goal.returns-in_err-put-clause-bytes
returns-in_err-put-clause-bytes g c =
    let texts = comma_joined (map buffer_text (buffers (packed_of c.args.p.now))) in
    stops_at _ (codes "{") (texts ++ codes "}") c.in_err-put.ensures.bytes (grind arith)

pub returns-in_err-write_buffers-clause-bytes : goal.returns-in_err-write_buffers-clause-bytes
returns-in_err-write_buffers-clause-bytes g c =
    let p = c.args.p.now in
    let texts = comma_joined (map buffer_text (buffers (packed_of p))) in
    let all = sym (texts_from-all (buffer_keys (form_of p.form)) p.lanes c.requires.lanes) in
    goes_to _ (codes "{") (texts ++ codes "}") c.in_ok-put.ensures.bytes
    (stops_at _ texts (codes "}") (puts_same _ all c.in_err-write_buffers.ensures.bytes)
    (grind arith))

pub returns-clause-bytes : goal.returns-clause-bytes
returns-clause-bytes g c =
    let p = c.args.p.now in
    let texts = comma_joined (map buffer_text (buffers (packed_of p))) in
    let all = sym (texts_from-all (buffer_keys (form_of p.form)) p.lanes c.requires.lanes) in
    goes_to _ (codes "{") (texts ++ codes "}") c.in_ok-put.ensures.bytes
    (goes_to _ texts (codes "}") (puts_same _ all c.in_ok-write_buffers.ensures.bytes)
    c.put-2.ensures.bytes)

pub returns-in_err-write_buffers-clause-cost : goal.returns-in_err-write_buffers-clause-cost
returns-in_err-write_buffers-clause-cost g c =
    omega (
      arith,
      c.write_buffers.ensures.cost,
      numbers_before-all c.write_buffers.new.next
          c.args.p.now.lanes,
    )

pub returns-clause-cost : goal.returns-clause-cost
returns-clause-cost g c =
    omega (
      arith,
      c.write_buffers.ensures.cost,
      numbers_before-all c.write_buffers.new.next
          c.args.p.now.lanes,
    )
