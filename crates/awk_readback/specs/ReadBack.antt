-- What is packed is read back: in every container that holds the buffers of a packed array, its
-- form and length are valid, and they denote the type and the values that were packed.
use Rattle.std.specs.Prelude.{◌≡◌, ℕ, List, [], map, None, Ok, false}
use Rattle.std.specs.List.{AllByRecursion}
use Rattle.base64.specs.Engines.{standard}
use Rattle.base64.specs.GeneralPurpose.{encode_of}
use Rattle.awk_types.specs.DataType.{Name, DataType}
use Rattle.awk_types.specs.Datum.{arr}
use Rattle.awk_types.specs.Has.{Has}
use Rattle.awk_types.specs.IsType.{IsType}
use Rattle.awk_types.specs.Limit.{limit}
use Rattle.awk_types.specs.Names.{AreDistinct}
use Rattle.awk_types.specs.Simple.{IsSimple}
use Rattle.awk_types.specs.Value.{Value}
use Rattle.awk_store.specs.Buffers.{ByKey, only_texts}
use Rattle.awk_form.specs.Lawful.{IsLawful}
use Rattle.awk_pack.specs.Canon.{Pack, canon}
use Rattle.awk_text.specs.Buffers.{buffer_keys}
use Rattle.awk_text.specs.PackedText.{HasLanes, buffers}
use Rattle.awk_valid.specs.Container.{Container, container_of}
use Rattle.awk_valid.specs.Broken.{broken}
use Rattle.awk_valid.specs.Denote.{denote, denoting}

-- under each key are the bytes beside it, as they are or as what a text decodes to, and the least
-- significant byte of a number comes first
abbrev pub HasBuffers : Container → List (Name × List ℕ) → Type 0
HasBuffers c buffers = AllByRecursion (λ b. (c.big ≡ false) × (c.bytes b.0 ≡ Ok b.1)) buffers

-- the container of these bytes and no others
abbrev pub holding : List (Name × List ℕ) → Container
holding buffers = container_of false (record { texts = []; raws = buffers })

-- a buffer's key with the base64 of its bytes
abbrev pub text_buffer : Name × List ℕ → Name × List ℕ
text_buffer b = (b.0, encode_of standard b.1)

-- the texts of a packed array: the base64 of each lane under its key
abbrev pub texts_of : Pack → ByKey
texts_of p = map text_buffer (buffers p)

-- what the form and the length of a packed array are in a container
pub record IsReadBack (t : DataType) (vs : List Value) (p : Pack) (c : Container) : Type 0 where
  -- nothing breaks
  pub valid : broken p.form p.length c ≡ None
  -- they denote the type and the values, and load as these
  pub denoted : denote p.form p.length c ≡ arr t vs
  pub loaded : denoting p.form p.length c ≡ Ok (arr t vs)
  -- what is denoted has the same form, length and lanes
  pub again : (u : DataType) (ws : List Value) → denote p.form p.length c ≡ arr u ws
      → canon u ws ≡ Ok p

-- where values of a type are packed, every container that holds the buffers gives them back
abbrev pub ReadsBack : DataType → List Value → Type 0
ReadsBack t vs =
    (p : Pack) → canon t vs ≡ Ok p → (c : Container) → HasBuffers c (buffers p)
    → IsReadBack t vs p c

-- for each simple type within the limits, and values of it
abbrev pub PackedReadsBack : Type 0
PackedReadsBack =
    (t : DataType) (vs : List Value) → IsSimple t → limit t ≡ None → AllByRecursion (Has t) vs
    → ReadsBack t vs

-- the form is lawful, as a form that was read
abbrev pub PackedIsLawful : Type 0
PackedIsLawful =
    (t : DataType) (vs : List Value) (p : Pack) → IsType t → limit t ≡ None → canon t vs ≡ Ok p
    → IsLawful p.form

-- there is such a container of bytes, and one of texts: each lane is a buffer, and no two have the
-- same key
pub record IsHeld (p : Pack) : Type 0 where
  pub lanes : HasLanes p
  pub distinct : AreDistinct (buffer_keys p.form)
  pub held : HasBuffers (holding (buffers p)) (buffers p)
  pub texts : HasBuffers (container_of false (only_texts (texts_of p))) (buffers p)

abbrev pub PackedIsHeld : Type 0
PackedIsHeld =
    (t : DataType) (vs : List Value) (p : Pack) → limit t ≡ None → AllByRecursion (Has t) vs
    → canon t vs ≡ Ok p → IsHeld p
