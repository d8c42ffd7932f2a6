-- Picks of a datum: the item at a place, a range of any step, and the items that a mask or an index
-- names.
use Rattle.std.specs.Prelude.{ℕ, ◌==◌, ℤ, Bool, true, false, List, [], ◌∷◌, length, map, get_or}
use Rattle.std.specs.Prelude.{Option, Some, None, is_none, Result, Ok, Err, if◌then◌else◌}
use Rattle.std.specs.List.{range_with_len, flat_map, list_any}
use Rattle.awk_types.specs.DataType.{DataType, leaf, opt}
use Rattle.awk_types.specs.Value.{Value, int, truth, null}
use Rattle.awk_types.specs.Datum.{Datum, arr, one}
use Rattle.awk_types.specs.Faults.{wrong_unless, limit_refused}
use Rattle.awk_types.specs.Gives.{refused_or, ◌or◌}
use Rattle.awk_types.specs.Settle.{settle}
use Rattle.awk_types.specs.Simple.{is_option, present, simple}
use Rattle.awk_types.specs.WholeNumbers.{is_numbers}
use Rattle.awk_types.specs.ItemLimit.{too_many}
use Rattle.awk_types.specs.declared.fault.Fault.{Fault}
use Rattle.awk_types.specs.declared.fault.Fault.TheVariants.{WrongType, Lengths, Index}
use Rattle.awk_types.specs.declared.primitive.Primitive.TheVariants.{Bool as Truths}
use Rattle.awk_layout.specs.Item.{at_option}
use Rattle.awk_select.specs.Places.{place_in, range_places}

-- ---- a place

abbrev pub settled_at : DataType → List Value → Option ℕ → Result Datum Fault
settled_at t vs None = Err Index
settled_at t vs (Some k) = Ok (settle t (get_or vs k null))

-- the item of an array at a place, settled
abbrev pub at_of : ℤ → Datum → Result Datum Fault
at_of i (arr t vs) = settled_at t vs (place_in (length vs) i)
at_of i (one t v) = Err WrongType

-- ---- a range

abbrev pub items_at : List Value → List ℕ → List Value
items_at vs ks = map (λ k. get_or vs k null) ks

-- the items of an array from one bound to another, by a step that is not 0
abbrev pub step_range_of : Option ℤ → Option ℤ → ℤ → Datum → Result Datum Fault
step_range_of lo hi step (arr t vs) = Ok (arr t (items_at vs (range_places (length vs) lo hi step)))
step_range_of lo hi step (one t v) = Err WrongType

-- ---- what a mask and an index have in common

-- the items at places, and null at a null place
abbrev pub picked : List Value → List (Option ℕ) → List Value
picked vs places = map (λ o. at_option o (λ k. get_or vs k null)) places

-- the type of picked items: optional where the items of the mask or index are
abbrev pub picked_type : DataType → DataType → DataType
picked_type u t = if is_option u then simple (opt t) else t

-- ---- a mask

abbrev pub is_truths : DataType → Bool
is_truths (leaf Truths) = true
is_truths t = false

-- truth values, optional or not
abbrev pub is_mask : DataType → Bool
is_mask u = is_truths (present u)

-- the place of a true item, and null for a null
abbrev pub mask_place : ℕ → Value → List (Option ℕ)
mask_place k (truth true) = Some k ∷ []
mask_place k null = None ∷ []
mask_place k v = []

-- the places of the true items of a mask, and null at each null
abbrev pub mask_places : List Value → List (Option ℕ)
mask_places ms =
    flat_map (λ k. mask_place k (get_or ms k null)) (range_with_len 0 (length ms))

abbrev pub lengths_refused : ℕ → ℕ → Option Fault
lengths_refused n m = if n == m then None else Some Lengths

-- why items of type t are not masked by others of type u
abbrev pub mask_refused : DataType → List Value → DataType → List Value → Option Fault
mask_refused t vs u ms =
    wrong_unless (is_mask u)
    or (limit_refused (picked_type u t)
    or (lengths_refused (length vs) (length ms) or too_many (length (mask_places ms))))

-- the same, where the types are judged
abbrev pub alike : DataType → List Value → DataType → List Value → Result Datum Fault
alike t vs u ms =
    refused_or (lengths_refused (length vs) (length ms) or too_many (length (mask_places ms)))
    (arr (picked_type u t) (picked vs (mask_places ms)))

abbrev pub masked : DataType → List Value → DataType → List Value → Result Datum Fault
masked t vs u ms =
    refused_or (mask_refused t vs u ms) (arr (picked_type u t) (picked vs (mask_places ms)))

-- the items of an array where a mask of the same length is true, and null where it is null
abbrev pub mask_of : Datum → Datum → Result Datum Fault
mask_of (arr t vs) (arr u ms) = masked t vs u ms
mask_of x m = Err WrongType

-- ---- an index

-- whole numbers or unknown, optional or not
abbrev pub is_index : DataType → Bool
is_index u = is_numbers (present u)

-- the place that an item of an index names among n items, or null for a null
abbrev pub take_place : ℕ → Value → Option ℕ
take_place n (int z) = place_in n z
take_place n v = None

abbrev pub take_places : ℕ → List Value → List (Option ℕ)
take_places n ws = map (take_place n) ws

-- whether an item of an index names no place of n items
abbrev pub is_outside : ℕ → Value → Bool
is_outside n (int z) = is_none (place_in n z)
is_outside n v = false

abbrev pub index_refused : ℕ → List Value → Option Fault
index_refused n ws = if list_any (is_outside n) ws then Some Index else None

-- why items of type t are not taken by an index of type u
abbrev pub take_refused : DataType → List Value → DataType → List Value → Option Fault
take_refused t vs u ws =
    wrong_unless (is_index u)
    or (limit_refused (picked_type u t)
    or (index_refused (length vs) ws or too_many (length ws)))

abbrev pub taken : DataType → List Value → DataType → List Value → Result Datum Fault
taken t vs u ws =
    refused_or (take_refused t vs u ws)
    (arr (picked_type u t) (picked vs (take_places (length vs) ws)))

-- the items of an array at the places of an index, and null at each null
abbrev pub take_of : Datum → Datum → Result Datum Fault
take_of (arr t vs) (arr u ws) = taken t vs u ws
take_of x ix = Err WrongType
