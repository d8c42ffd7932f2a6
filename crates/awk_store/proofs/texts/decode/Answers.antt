-- A text decodes to the bytes that the engine gives, and is refused where the engine refuses it.
use Rattle.std.proofs.Common.{◌∙◌, ap, Some, Ok, sym}
use Rattle.awk_store.specs.Buffers.{decoding}
use Rattle.awk_store.proofs.ByKeyLaws.{decoding-Ok, decoding-Err}
use Rattle.awk_store.proofs.texts.decode.Goals as goal

pub returns-in-Ok-clause-answer : goal.returns-in-Ok-clause-answer
returns-in-Ok-clause-answer c =
    ap (λ text. decoding (Some text)) (sym c.as_bytes.ensures.value)
    ∙ decoding-Ok _ _ c.in-Ok.ensures.ok ∙ ap Ok (sym c.into_bump_slice.ensures)

pub returns-in-Err-DecodeError-clause-answer : goal.returns-in-Err-DecodeError-clause-answer
returns-in-Err-DecodeError-clause-answer c =
    ap (λ text. decoding (Some text)) (sym c.as_bytes.ensures.value)
    ∙ decoding-Err _ _ (rw c.in-Err-DecodeError.field-0-is at c.in-Err-DecodeError.ensures.err)
