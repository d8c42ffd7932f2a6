-- The definitions on worked examples.
use Rattle.std.proofs.Common.{◌≡◌, [], ◌∷◌, Ok, Err, refl}
use Rattle.std.specs.Prelude.{codes}
use Rattle.base64.proofs.OnLiterals.{base64_on_literals}
use Rattle.serde_json.specs.Data.{string, no_members, member}
use Rattle.awk_store.specs.Buffers.{Held, texts_of, only_texts, held_len, buffer, Buffers, with_raw}
use Rattle.awk_store.specs.Buffers.{with_known, unread_len}
use Rattle.awk_store.specs.declared.fault.BufferWhy.TheVariants.{Absent, Base64}

abbrev held : Held
held =
    only_texts (texts_of (member (codes "a") (string (codes "AA=="))
    (member (codes "b") (string (codes "AAA"))
    (member (codes "c") (string (codes "AB==")) (member (codes "d") (string []) no_members)))))

one_byte : buffer held (codes "a") ≡ Ok (0 ∷ [])
unfolding base64_on_literals
one_byte = refl

without_padding : buffer held (codes "b") ≡ Err Base64
unfolding base64_on_literals
without_padding = refl

with_stray_bits : buffer held (codes "c") ≡ Err Base64
unfolding base64_on_literals
with_stray_bits = refl

no_bytes : buffer held (codes "d") ≡ Ok []
unfolding base64_on_literals
no_bytes = refl

absent : buffer held (codes "e") ≡ Err Absent
absent = refl

abbrev fresh : Buffers
fresh = record { held = held; decoded = []; copied = [] }

a_step_for_each_byte : unread_len fresh (codes "a") ≡ 4
a_step_for_each_byte = refl

no_step_again : unread_len (with_known fresh (codes "a")) (codes "a") ≡ 0
no_step_again = refl

known_once : with_known (with_known fresh (codes "a")) (codes "a") ≡ with_known fresh (codes "a")
known_once = refl

-- ---- bytes that are added are the buffer as they are

abbrev added : Buffers
added = with_raw fresh (codes "e") (7 ∷ 255 ∷ [])

raw_bytes : buffer added.held (codes "e") ≡ Ok (7 ∷ 255 ∷ [])
raw_bytes = refl

a_text_beside_them : buffer added.held (codes "a") ≡ Ok (0 ∷ [])
unfolding base64_on_literals
a_text_beside_them = refl

a_step_for_each_raw_byte : unread_len added (codes "e") ≡ 2
a_step_for_each_raw_byte = refl

all_bytes_of_texts_and_raws : held_len added.held ≡ 13
all_bytes_of_texts_and_raws = refl

copied_once : unread_len (with_known added (codes "e")) (codes "e") ≡ 0
copied_once = refl
