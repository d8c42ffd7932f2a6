-- There and back: an array packed, loaded from a store that has its buffers, and packed again.
use Rattle.std.specs.Prelude.{◌≡◌, List, [], ◌∷◌, Option, Some, None, option_map, Result, Ok, Err}
use Rattle.std.specs.Prelude.{false}
use Rattle.std.specs.Prelude.{if◌then◌else◌}
use Rattle.std.specs.List.{AllByRecursion}
use Rattle.awk_types.specs.DataType.{DataType}
use Rattle.awk_types.specs.Datum.{Datum, arr, one}
use Rattle.awk_types.specs.Gives.{Gives}
use Rattle.awk_types.specs.Has.{Has}
use Rattle.awk_types.specs.Value.{Value}
use Rattle.awk_layout.specs.Array.{IsArrayType}
use Rattle.awk_layout.specs.Layout.{Layout}
use Rattle.awk_layout.specs.Typing.{array_datum}
use Rattle.awk_store.specs.Buffers.{Held}
use Rattle.awk_pack.specs.Canon.{Pack, is_too_large, packed, canon}
use Rattle.awk_pack.specs.Shown.{packed_of}
use Rattle.awk_pack.specs.declared.packed.PackFault.TheVariants as pack
use Rattle.awk_text.specs.PackedText.{buffers}
use Rattle.awk_valid.specs.Broken.{Refusal}
use Rattle.awk_valid.specs.Container.{container_of}
use Rattle.awk_valid.specs.Denote.{denoting}
use Rattle.awk_valid.specs.Loading.{told}
use Rattle.awk_valid.specs.declared.fault.LoadFault.{LoadFault}
use Rattle.awk_readback.specs.ReadBack.{HasBuffers}
use Rattle.awk_readback.specs.declared.back.Back.{Back}
use Rattle.awk_readback.specs.declared.back.BackFault.{BackFault}
use Rattle.awk_readback.specs.declared.back.BackFault.TheVariants as fault

-- whatever was packed is loaded from a store that has the buffers, as bytes or as texts
abbrev pub GivesBack : Pack → Held → Result Layout LoadFault → Type 0
GivesBack p given result =
    (t : DataType) (vs : List Value) → IsArrayType t → AllByRecursion (Has t) vs → canon t vs ≡ Ok p
    → HasBuffers (container_of false given) (buffers p)
    → Gives array_datum told result (Ok (arr t vs))

-- the store has the buffers of the values' packed array, where they have one
abbrev pub HoldsPacked : Held → DataType → List Value → Type 0
HoldsPacked given t vs =
    (p : Pack) → canon t vs ≡ Ok p → HasBuffers (container_of false given) (buffers p)

-- a packed array, the array that was loaded of it, and that packed
pub record Round : Type 0 where
  pub first : Pack
  pub array : Datum
  pub again : Pack

abbrev pub round_of : Back → Round
round_of b =
    record { first = packed_of b.first; array = array_datum b.array; again = packed_of b.again }

-- why there is none: a column has too many values, or loading is refused
pub data Unback : Type 0 where
  size : Unback
  unloaded : Refusal → Unback

-- what was loaded of a packed array, packed
abbrev pub packed_again : Pack → DataType → List Value → Result Round Unback
packed_again p u ws =
    if is_too_large u ws then Err size
    else Ok (record { first = p; array = arr u ws; again = packed u ws })

-- a packed array and what it denotes, or why it denotes none
abbrev pub round_from : Pack → Result Datum Refusal → Result Round Unback
round_from p (Err refusal) = Err (unloaded refusal)
round_from p (Ok (arr u ws)) = packed_again p u ws
round_from p (Ok (one u w)) = packed_again p u (w ∷ [])

-- what there and back gives over a store: the array is packed, what that denotes is loaded, and
-- that is packed
abbrev pub back_over : Held → DataType → List Value → Result Round Unback
back_over given t vs =
    if is_too_large t vs then Err size
    else let p = packed t vs in
    round_from p (denoting p.form p.length (container_of false given))

-- over a store that has the buffers: the same array, and the same packed array
abbrev pub there_and_back : DataType → List Value → Result Round Unback
there_and_back t vs =
    if is_too_large t vs then Err size
    else Ok (record { first = packed t vs; array = arr t vs; again = packed t vs })

-- want of memory tells none
abbrev pub back_told : BackFault → Option Unback
back_told (fault.Pack pack.Size) = Some size
back_told (fault.Pack pack.NoMemory) = None
back_told (fault.Load f) = option_map unloaded (told f)
