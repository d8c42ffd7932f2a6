-- Texts by key: what the map answers at a key, and what a text decodes to.
use Rattle.std.proofs.Common.{◌≡◌, ◌≢◌, ◌+◌, ◌≤◌, ℕ, length, arith, Bool, true, false, List, []}
use Rattle.std.proofs.Common.{◌∷◌, Option, Some, None, Ok, Err, cond, refl, ap, sym, ◌∙◌}
use Rattle.std.specs.Prelude.{option_and_then, option_map, unwrap_or, is_some, replicate, IsTrue}
use Rattle.std.specs.Prelude.{String, string_bytes}
use Rattle.std.specs.Option.{ok_or}
use Rattle.std.specs.Result.{result_ok}
use Rattle.std.specs.declared.alloc.Global.{Global}
use Rattle.std.specs.BTreeMap.{is_at}
use Rattle.std.specs.Map.{lookup}
use Rattle.std.specs.Cmp.Lexicographic.{slice_cmp, bytes_decides}
use Rattle.std.specs.Ordering.{nat_cmp, is_eq, match_ordering}
use Rattle.std.specs.declared.cmp.Ordering.{Ordering}
use Rattle.std.specs.declared.cmp.Ordering.TheVariants.{Less, Equal, Greater}
use Rattle.std.specs.Str.{bytes_eq}
use Rattle.std.proofs.lemmas.List.{length-append}
use Rattle.std.proofs.lemmas.List.Sums.{sum_by-cons}
use Rattle.std.proofs.lemmas.Map.Text.{is_eq-slice_cmp}
use Rattle.base64.specs.declared.decode.DecodeError.{DecodeError}
use Rattle.base64.specs.Engines.{standard}
use Rattle.base64.specs.GeneralPurpose.{decode_of, decoded_of, encode_of, IsBytes}
use Rattle.base64.specs.Rfc4648.{encode_symbols, padding_len}
use Rattle.base64.proofs.EngineFacts.{decode_of-encode_of}
use Rattle.base64.proofs.RoundTrip.{length-encode_symbols}
use Rattle.base64.proofs.Streams.{decoded_of-ok}
use Rattle.serde_json.specs.Data.{Data, Members, no_members, member}
use Rattle.serde_json.specs.Find.{as_str, get_member}
use Rattle.serde_json.specs.View.{view, members_view}
use Rattle.serde_json.specs.declared.value.Value.{Value}
use Rattle.serde_json.proofs.Views.{view-lookup}
use Rattle.awk_store.specs.Buffers.{ByKey, Held, HoldsTexts, texts_of, Given, Buffers, at_key}
use Rattle.awk_store.specs.Buffers.{total_len, held_len}
use Rattle.awk_store.specs.Buffers.{is_fetched, unfetched_len, unread_len, buffer, added_bytes}
use Rattle.awk_store.specs.Buffers.{decoding, text_or_raw, why_told}
use Rattle.awk_types.specs.Gives.{Told}
use Rattle.awk_store.specs.declared.fault.StoreFault.{StoreFault}
use Rattle.awk_store.specs.declared.fault.StoreFault.TheVariants.{Bad}
use Rattle.awk_store.specs.declared.fault.BufferWhy.TheVariants.{Base64}

-- what is there is its own value
is_own : (o : Option (List ℕ)) → IsTrue (is_some o) → o ≡ Some (unwrap_or o [])
is_own None h = cc
is_own (Some text) h = refl

-- one member: the same test picks its value and its text
picked_text : (o : Ordering) (here : Data) (later : Option Data) (text : Option (List ℕ))
    → IsTrue (is_some (as_str here))
    → option_and_then as_str later ≡ text
    → option_and_then as_str (match_ordering o later (Some here) later) ≡ cond (is_eq o)
    (Some (unwrap_or (as_str here) [])) text
picked_text Less here later text h e = e
picked_text Equal here later text h e = is_own (as_str here) h
picked_text Greater here later text h e = e

-- the text of a key is that of its member
pub at_key-texts_of : (key : List ℕ) (members : Members) → HoldsTexts members
    → option_and_then as_str (get_member key members) ≡ at_key (texts_of members) key
at_key-texts_of key no_members h = refl
at_key-texts_of key (member l here later) h =
    picked_text (slice_cmp nat_cmp key l) here (get_member key later) _ h.0
    (at_key-texts_of key later h.1)
    ∙ rw is_eq-slice_cmp

-- what a look-up of the map finds, as the text of the key
and_then-map : (o : Option Value)
    → option_and_then as_str (option_map view o) ≡ option_and_then (λ v. as_str (view v)) o
and_then-map None = refl
and_then-map (Some v) = refl

pub at_key-entries : (key : List ℕ) (entries : List (String Global × Value))
    → HoldsTexts (members_view entries)
    → option_and_then (λ v. as_str (view v)) (lookup
    (is_at (λ k. slice_cmp nat_cmp key (string_bytes k))) entries) ≡ at_key
    (texts_of (members_view entries)) key
at_key-entries key entries h =
    sym (and_then-map _) ∙ ap (option_and_then as_str) (view-lookup key entries) ∙ at_key-texts_of
    key (members_view entries) h

-- keys that compare as equal are the same
pub same_key : (key name : List ℕ) → slice_cmp nat_cmp key name ≡ Equal → name ≡ key
same_key key name e = sym ((bytes_decides key name).0 (sym (is_eq-slice_cmp key name) ∙ ap is_eq e))

-- a text that decodes
pub decoding-Ok : (text bytes : List ℕ) → decode_of standard text ≡ Ok bytes
    → decoding (Some text) ≡ Ok bytes
decoding-Ok text bytes e = ap (λ o. ok_or o Base64) (decoded_of-ok standard text bytes e)

-- a text that does not
pub decoding-Err : (text : List ℕ) (why : DecodeError) → decode_of standard text ≡ Err why
    → decoding (Some text) ≡ Err Base64
unfolding decoded_of
decoding-Err text why e = ap (λ r. ok_or (result_ok r) Base64) e

-- a text that encodes bytes decodes to them
pub decoding-encode_of : (bytes : List ℕ) → IsBytes bytes
    → decoding (Some (encode_of standard bytes)) ≡ Ok bytes
decoding-encode_of bytes h = decoding-Ok _ bytes (decode_of-encode_of standard bytes refl h)

-- a text that is refused encodes no bytes
pub undecodable : (text : List ℕ) (fault : StoreFault)
    → Told (why_told fault) (decoding (Some text)) → fault ≡ Bad Base64 → (bytes : List ℕ)
    → IsBytes bytes → Some text ≢ Some (encode_of standard bytes)
undecodable text fault said is bytes h e =
    let refused : decoding (Some text) ≡ Err Base64 = rw is at said in
    let decodes : decoding (Some text) ≡ Ok bytes = ap decoding e ∙ decoding-encode_of bytes h in
    cc

-- the same of what a key finds
pub undecodable-new : (texts entries : ByKey) (key text : List ℕ) → texts ≡ entries
    → (fault : StoreFault) → Some text ≡ at_key texts key
    → Told (why_told fault) (decoding (Some text)) → fault ≡ Bad Base64
    → (bytes : List ℕ) → IsBytes bytes → at_key entries key ≢ Some (encode_of standard bytes)
undecodable-new texts entries key text same fault found said is bytes h e =
    undecodable text fault said is bytes h (found ∙ ap (λ r. at_key r key) same ∙ e)

-- no text is longer than all of them together
len_step : (b : Bool) (here : List ℕ) (later : Option (List ℕ)) (rest : ℕ)
    → length (unwrap_or later []) ≤ rest
    → length (unwrap_or (cond b (Some here) later) []) ≤ length here + rest
len_step true here later rest h = omega arith
len_step false here later rest h = omega arith

at_key_len-≤ : (entries : ByKey) (key : List ℕ)
    → length (unwrap_or (at_key entries key) []) ≤ total_len entries
at_key_len-≤ [] key = omega arith
at_key_len-≤ (e ∷ entries) key =
    rw sum_by-cons (len_step (bytes_eq key e.0) e.1 (at_key entries key) (total_len entries)
    (at_key_len-≤ entries key))

unfetched_len-≤ : (s : Given) (key : List ℕ) → unfetched_len s key ≤ total_len s.entries
unfetched_len-≤ s key = unfetched_step (is_fetched s key) _ _ (at_key_len-≤ s.entries key)
  where
    unfetched_step : (b : Bool) (n total : ℕ) → n ≤ total → cond b 0 n ≤ total
    unfetched_step true n total h = omega arith
    unfetched_step false n total h = h

pub unread_len-≤ : (s : Buffers) (key : List ℕ) → unread_len s key ≤ held_len s.held
unread_len-≤ s key =
    omega (
      arith,
      unfetched_len-≤ (record { entries = s.held.texts; fetched = s.decoded }) key,
      unfetched_len-≤ (record { entries = s.held.raws; fetched = s.copied }) key,
    )

-- a text is no shorter than the bytes that it encodes
encode_of-length : (bytes : List ℕ) → length bytes ≤ length (encode_of standard bytes)
encode_of-length bytes =
    omega (
      arith,
      length-append (encode_symbols standard.encode_table bytes)
          (replicate (padding_len (length bytes)) 61),
      length-encode_symbols standard.encode_table
          bytes,
    )

-- the bytes of a key are no more than those of all texts and buffers
pub bytes_len-≤ : (held : Held) (key bytes : List ℕ) → buffer held key ≡ Ok bytes
    → ((text : List ℕ) → at_key held.texts key ≡ Some text → text ≡ encode_of standard bytes)
    → length bytes ≤ held_len held
bytes_len-≤ held key bytes is encoded =
    by (at_key held.texts key) (at_key held.raws key) refl refl is
  where
    by : (text raw : Option (List ℕ)) → at_key held.texts key ≡ text → at_key held.raws key ≡ raw
        → text_or_raw text raw ≡ Ok bytes → length bytes ≤ held_len held
    by (Some text) raw e f k =
        let most = at_key_len-≤ held.texts key in
        let here = rw (e, encoded text e) at most in
        omega (arith, encode_of-length bytes, here)
    by None (Some raw) e f k =
        let most = at_key_len-≤ held.raws key in
        let same : raw ≡ bytes = cc in
        let here = rw (f, same) at most in
        omega (arith, here)
    by None None e f k = cc

-- the key of bytes that were added has no text
raw_alone : (held : Held) (key bytes : List ℕ) → added_bytes held key ≡ Some bytes
    → (at_key held.texts key ≡ None) × (at_key held.raws key ≡ Some bytes)
raw_alone held key bytes is = by (at_key held.texts key) refl is
  where
    by : (text : Option (List ℕ)) → at_key held.texts key ≡ text
        → cond (is_some text) None (at_key held.raws key) ≡ Some bytes
        → (at_key held.texts key ≡ None) × (at_key held.raws key ≡ Some bytes)
    by (Some text) e k = absurd (cc)
    by None e k = (e, k)

-- they are no more than those of all texts and buffers
pub added_bytes_len-≤ : (held : Held) (key bytes : List ℕ) → added_bytes held key ≡ Some bytes
    → length bytes ≤ held_len held
added_bytes_len-≤ held key bytes is =
    let most = at_key_len-≤ held.raws key in
    let here = rw (raw_alone held key bytes is).1 at most in
    omega (arith, here)
