-- Buffers by key: of each key a text, of which the bytes are decoded, or the bytes themselves.
use Rattle.std.specs.Prelude.{◌≡◌, ℕ, ◌+◌, ◌++◌, Bool, IsTrue, if◌then◌else◌, List, [], ◌∷◌, Option}
use Rattle.std.specs.Prelude.{Some, None}
use Rattle.std.specs.Prelude.{Result, Ok, Err, is_some, length, map, unwrap_or, All, sum_by}
use Rattle.std.specs.Borrow.{Bor}
use Rattle.std.specs.List.{list_any}
use Rattle.std.specs.Map.{lookup}
use Rattle.std.specs.Option.{ok_or}
use Rattle.std.specs.Str.{bytes_eq}
use Rattle.base64.specs.Engines.{standard}
use Rattle.base64.specs.GeneralPurpose.{decoded_of, encode_of}
use Rattle.serde_json.specs.Data.{Members, no_members, member}
use Rattle.serde_json.specs.Find.{as_str}
use Rattle.awk_store.specs.declared.fault.BufferWhy.{BufferWhy}
use Rattle.awk_store.specs.declared.fault.BufferWhy.TheVariants.{Absent, Base64}
use Rattle.awk_store.specs.declared.fault.StoreFault.{StoreFault}
use Rattle.awk_store.specs.declared.fault.StoreFault.TheVariants.{Bad, NoMemory}

-- a text, or some bytes, of each key
abbrev pub ByKey : Type 0
ByKey = List (List ℕ × List ℕ)

-- what is beside a key, where the key is there
abbrev pub at_key : ByKey → List ℕ → Option (List ℕ)
at_key entries key = lookup (bytes_eq key) entries

-- how many bytes there are beside all keys together
abbrev pub total_len : ByKey → ℕ
total_len entries = sum_by (λ e. length e.1) entries

-- ---- texts

-- each value of the object is a text
abbrev pub HoldsTexts : Members → Type 0
HoldsTexts no_members = Unit {0}
HoldsTexts (member key value others) = IsTrue (is_some (as_str value)) × HoldsTexts others

-- the text of each key of an object
abbrev pub texts_of : Members → ByKey
texts_of no_members = []
texts_of (member key value others) = (key, unwrap_or (as_str value) []) ∷ texts_of others

-- the bytes of which a text is the standard, padded base64
abbrev pub decoding : Option (List ℕ) → Result (List ℕ) BufferWhy
decoding None = Err Absent
decoding (Some text) = ok_or (decoded_of standard text) Base64

-- ---- buffers

-- the texts of some keys, and the bytes of others
pub record Held : Type 0 where
  pub texts : ByKey
  pub raws : ByKey

-- texts alone
abbrev pub only_texts : ByKey → Held
only_texts texts = record { texts = texts; raws = [] }

-- the bytes that the text of a key encodes, or the bytes of the key
abbrev pub text_or_raw : Option (List ℕ) → Option (List ℕ) → Result (List ℕ) BufferWhy
text_or_raw (Some text) raw = decoding (Some text)
text_or_raw None raw = ok_or raw Absent

-- the bytes of a key
abbrev pub buffer : Held → List ℕ → Result (List ℕ) BufferWhy
buffer held key = text_or_raw (at_key held.texts key) (at_key held.raws key)

-- the bytes that were added under a key that has no text
abbrev pub added_bytes : Held → List ℕ → Option (List ℕ)
added_bytes held key =
    if is_some (at_key held.texts key) then None else at_key held.raws key

-- the key is in neither
pub record IsNew (held : Held) (key : List ℕ) : Type 0 where
  pub no_text : at_key held.texts key ≡ None
  pub no_raw : at_key held.raws key ≡ None

-- how many bytes all texts and buffers have together
abbrev pub held_len : Held → ℕ
held_len held = total_len held.raws + total_len held.texts

-- what a refused fetch tells of the buffer: want of memory tells nothing
abbrev pub why_told : StoreFault → Option BufferWhy
why_told (Bad why) = Some why
why_told NoMemory = None

-- ---- what is fetched already

-- what is given of each key, and the keys whose bytes lie in the arena, in the order of their first
-- fetches
pub record Given : Type 0 where
  pub entries : ByKey
  pub fetched : List (List ℕ)

abbrev pub is_fetched : Given → List ℕ → Bool
is_fetched given key = list_any (bytes_eq key) given.fetched

-- once the bytes of the key lie in the arena
abbrev pub with_fetched : Given → List ℕ → Given
with_fetched given key =
    if is_fetched given key then given
    else record given { fetched = given.fetched ++ key ∷ [] }

-- how many bytes a first fetch of the key has to read: 0 where there are none, or it is fetched
abbrev pub unfetched_len : Given → List ℕ → ℕ
unfetched_len given key =
    if is_fetched given key then 0 else length (unwrap_or (at_key given.entries key) [])

-- ---- a store

-- what a store knows: its buffers, the keys whose texts are decoded, and those whose bytes are
-- copied
pub record Buffers : Type 0 where
  pub held : Held
  pub decoded : List (List ℕ)
  pub copied : List (List ℕ)

abbrev pub texts_in : Buffers → Given
texts_in store = record { entries = store.held.texts; fetched = store.decoded }

abbrev pub raws_in : Buffers → Given
raws_in store = record { entries = store.held.raws; fetched = store.copied }

-- the store of these texts and these bytes
abbrev pub store_of : Given → Given → Buffers
store_of texts raws = record {
  held = record { texts = texts.entries; raws = raws.entries };
  decoded = texts.fetched;
  copied = raws.fetched;
}

-- the bytes of the key lie in the arena
abbrev pub is_known : Buffers → List ℕ → Bool
is_known store key =
    if is_some (at_key store.held.texts key) then is_fetched (texts_in store) key
    else is_fetched (raws_in store) key

-- the store once they do
abbrev pub with_known : Buffers → List ℕ → Buffers
with_known store key =
    if is_some (at_key store.held.texts key) then
    store_of (with_fetched (texts_in store) key) (raws_in store)
    else store_of (texts_in store) (with_fetched (raws_in store) key)

-- the length of the text that a fetch of the key has to decode, or of the bytes that it has to copy
abbrev pub unread_len : Buffers → List ℕ → ℕ
unread_len store key = unfetched_len (texts_in store) key + unfetched_len (raws_in store) key

-- the store with the bytes of one more key
abbrev pub with_raw : Buffers → List ℕ → List ℕ → Buffers
with_raw store key bytes = record store {
  held = record { texts = store.held.texts; raws = store.held.raws ++ (key, bytes) ∷ [] };
}

-- ---- what is kept of them

-- the bytes of each key that is kept, whose keys and bytes stand behind references or in texts
abbrev pub shown_by : {K : Type 0} → (K → List ℕ) → List (K × Bor (List ℕ)) → ByKey
shown_by name kept = map (λ e. (name e.0, e.1.now)) kept

-- the bytes are those of the key, whose text is their standard, padded base64
pub record IsDecoded (texts : ByKey) (key bytes : List ℕ) : Type 0 where
  pub given : decoding (at_key texts key) ≡ Ok bytes
  pub encoded : at_key texts key ≡ Some (encode_of standard bytes)

-- each key has its bytes beside it
abbrev pub AreDecoded : ByKey → ByKey → Type 0
AreDecoded texts known = All (λ e. IsDecoded texts e.0 e.1) known

abbrev pub AreCopied : ByKey → ByKey → Type 0
AreCopied raws known = All (λ e. at_key raws e.0 ≡ Some e.1) known
