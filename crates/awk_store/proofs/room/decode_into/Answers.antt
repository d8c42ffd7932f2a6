-- What the room holds of a text is what the engine decoded.
use Rattle.std.proofs.Common.{◌≡◌, ◌∙◌, ap, Some, Ok, sym, take, drop, length, arith, refl}
use Rattle.std.proofs.lemmas.List.{take_at}
use Rattle.base64.specs.Engines.{standard}
use Rattle.base64.proofs.EngineFacts.{decode_of_strict}
use Rattle.awk_store.specs.Buffers.{decoding}
use Rattle.awk_store.proofs.ByKeyLaws.{decoding-Ok, decoding-Err}
use Rattle.awk_store.proofs.room.decode_into.Goals as goal
use Rattle.awk_store.proofs.room.decode_into.Goals.{After-as_slice}

-- the front of the room, as the engine left it
kept : (c : After-as_slice)
    → c.as_slice.result.now ≡ take c.in-Ok.count c.decode_slice_unchecked.new.output
kept c =
    let out = c.decode_slice_unchecked.new.output in
    let len : length out ≡ c.args.room.memory.len =
    omega (arith, c.decode_slice_unchecked.auto.output, c.as_mut_slice.ensures.len) in
    c.as_slice.ensures.value ∙ c.shrink_to_fit.ensures.items ∙ c.truncate.ensures.items
    ∙ ap (take c.in-Ok.count)
    (take_at out (drop (length out) c.args.room.memory.items) c.args.room.memory.len len)

pub returns-in-Ok-clause-answer : goal.returns-in-Ok-clause-answer
returns-in-Ok-clause-answer c =
    ap (λ text. decoding (Some text)) (sym c.as_bytes.ensures.value)
    ∙ decoding-Ok _ _ c.in-Ok.ensures.ok.0 ∙ ap Ok (sym (kept c))

pub returns-in-Ok-clause-encoded : goal.returns-in-Ok-clause-encoded
returns-in-Ok-clause-encoded c =
    rw (kept c) (decode_of_strict standard c.args.text.now
    (take c.in-Ok.count c.decode_slice_unchecked.new.output) (refl, refl)
    (λ i. let f = c.type_inv.text i in omega arith)
    (rw c.as_bytes.ensures.value at c.in-Ok.ensures.ok.0))

pub returns-clause-answer : goal.returns-clause-answer
returns-clause-answer c =
    ap (λ text. decoding (Some text)) (sym c.as_bytes.ensures.value)
    ∙ decoding-Err _ _ c.in-Err.ensures.err
