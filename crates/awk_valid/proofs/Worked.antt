-- The definitions on worked containers: the first break, or the items and the type.
use Rattle.std.specs.Prelude.{◌≡◌, ℕ, Bool, List, [], ◌∷◌, ◌++◌, take, Option, Some, None, Result}
use Rattle.std.specs.Prelude.{Ok, Err, true, false, refl, ℤ, pos, negsuc, codes}
use Rattle.std.specs.List.{flat_map}
use Rattle.std.specs.Map.{lookup}
use Rattle.std.specs.Str.{bytes_eq}
use Rattle.awk_types.specs.DataType.{unknown, leaf, var, reg, rec, opt, uni, no_types, type}
use Rattle.awk_types.specs.Datum.{arr}
use Rattle.awk_types.specs.Value.{Values, int, truth, null, list, row, alt, no_values, value}
use Rattle.awk_types.specs.declared.primitive.Primitive.TheVariants as primitive
use Rattle.awk_lanes.specs.declared.kind.Kind.TheVariants as kind
use Rattle.awk_lanes.specs.Numbers.{bytes_of}
use Rattle.awk_store.specs.declared.fault.BufferWhy.{BufferWhy}
use Rattle.awk_store.specs.declared.fault.BufferWhy.TheVariants.{Absent, Base64}
use Rattle.awk_form.specs.FormTree as form
use Rattle.awk_form.specs.FormTree.{FormTree, no_forms}
use Rattle.awk_form.specs.declared.kind.IndexKind.TheVariants.{I32, U32, I64}
use Rattle.awk_layout.specs.Typing.{array_type, array_items}
use Rattle.awk_form.specs.Measures.{nodes}
use Rattle.awk_valid.specs.Container.{Container}
use Rattle.awk_valid.specs.Loaded.{layout_of}
use Rattle.awk_valid.specs.Denote.{denote}
use Rattle.awk_valid.specs.Broken.{too_many, buffer, invalid, broken}
use Rattle.awk_valid.specs.declared.fault.BufferFault.TheVariants as fault
use Rattle.awk_valid.specs.declared.fault.Rule.TheVariants.{Empty, Order, Start, Negative, Tag}

-- ---- containers, and values in short

-- what there is of each key
abbrev pub Entries : Type 0
Entries = List (List ℕ × Result (List ℕ) BufferWhy)

abbrev pub or_absent : Option (Result (List ℕ) BufferWhy) → Result (List ℕ) BufferWhy
or_absent None = Err Absent
or_absent (Some r) = r

abbrev pub holding_by : Bool → Entries → Container
holding_by big entries =
    record { big = big; bytes = λ key. or_absent (lookup (bytes_eq key) entries) }

-- least significant bytes first
abbrev holding : Entries → Container
holding entries = holding_by false entries

abbrev int64s : List ℤ → List ℕ
int64s zs = flat_map (bytes_of kind.I64) zs

abbrev int_values : List ℤ → Values
int_values [] = no_values
int_values (z ∷ zs) = value (int z) (int_values zs)

-- ---- lists between offsets

abbrev pub jagged : FormTree
jagged =
    form.list_offset (Some (codes "node0")) I64 (form.numpy (Some (codes "node1")) primitive.I64 [])

abbrev offsets : List ℤ → Entries → Entries
offsets zs others = (codes "node0-offsets", Ok (int64s zs)) ∷ others

abbrev numbers_in : List ℕ → Entries
numbers_in bytes = (codes "node1-data", Ok bytes) ∷ []

abbrev pub three_lists : Container
three_lists =
    holding
    (offsets (pos 0 ∷ pos 2 ∷ pos 2 ∷ pos 3 ∷ [])
    (numbers_in (int64s (pos 5 ∷ negsuc 0 ∷ pos 7 ∷ []))))

three_lists-unbroken : broken jagged 3 three_lists ≡ None
three_lists-unbroken = refl

three_lists-items : array_items (layout_of jagged 3 three_lists)
    ≡ list (int_values (pos 5 ∷ negsuc 0 ∷ [])) ∷ list no_values ∷ list (int_values (pos 7 ∷ []))
    ∷ []
three_lists-items = refl

three_lists-type : array_type (layout_of jagged 3 three_lists) ≡ var (leaf primitive.I64)
three_lists-type = refl

-- the places of a node are judged before the buffers of its content
stops_early : broken jagged 2 (holding (offsets (pos 0 ∷ pos 3 ∷ pos 2 ∷ []) []))
    ≡ Some (invalid 0 Order 1)
stops_early = refl

no_data : broken jagged 1 (holding (offsets (pos 0 ∷ pos 1 ∷ []) []))
    ≡ Some (buffer (codes "node1-data") fault.Absent)
no_data = refl

a_byte_too_few : broken jagged 3
    (holding
    (offsets (pos 0 ∷ pos 2 ∷ pos 2 ∷ pos 3 ∷ [])
    (numbers_in (take 23 (int64s (pos 5 ∷ negsuc 0 ∷ pos 7 ∷ []))))))
    ≡ Some (buffer (codes "node1-data") fault.Short)
a_byte_too_few = refl

abbrev a_byte_more : Container
a_byte_more =
    holding
    (offsets (pos 0 ∷ pos 2 ∷ pos 2 ∷ pos 3 ∷ [])
    (numbers_in (int64s (pos 5 ∷ negsuc 0 ∷ pos 7 ∷ []) ++ 0 ∷ [])))

-- further bytes are not looked at
a_byte_more-unbroken : broken jagged 3 a_byte_more ≡ None
a_byte_more-unbroken = refl

a_byte_more-same : layout_of jagged 3 a_byte_more ≡ layout_of jagged 3 three_lists
a_byte_more-same = refl

-- a list that ends before it starts is out of order, wherever it starts
ends_below_zero : broken jagged 1 (holding (offsets (pos 0 ∷ negsuc 0 ∷ []) (numbers_in [])))
    ≡ Some (invalid 0 Order 0)
ends_below_zero = refl

starts_below_zero : broken jagged 1 (holding (offsets (negsuc 0 ∷ pos 1 ∷ []) (numbers_in [])))
    ≡ Some (invalid 0 Start 0)
starts_below_zero = refl

abbrev far_away : Container
far_away = holding (offsets (negsuc 4 ∷ negsuc 4 ∷ []) (numbers_in []))

-- an empty list may stand anywhere, and needs no item
far_away-unbroken : broken jagged 1 far_away ≡ None
far_away-unbroken = refl

far_away-items : array_items (layout_of jagged 1 far_away) ≡ list no_values ∷ []
far_away-items = refl

too_many_items : broken jagged 1
    (holding (offsets (pos 0 ∷ pos 9223372036854775807 ∷ []) (numbers_in []))) ≡ Some too_many
too_many_items = refl

-- no lists have one offset
no_offset : broken jagged 0 (holding (offsets [] (numbers_in [])))
    ≡ Some (buffer (codes "node0-offsets") fault.Short)
no_offset = refl

one_offset : broken jagged 0 (holding (offsets (pos 8 ∷ []) (numbers_in []))) ≡ None
one_offset = refl

undecodable : broken jagged 1 (holding ((codes "node0-offsets", Err Base64) ∷ numbers_in []))
    ≡ Some (buffer (codes "node0-offsets") fault.Base64)
undecodable = refl

-- ---- lists between starts and stops

abbrev spans : FormTree
spans = form.list (Some (codes "l")) I64 U32 (form.numpy (Some (codes "d")) primitive.I64 [])

abbrev overlapping : Container
overlapping =
    holding
    ((codes "l-starts", Ok (int64s (pos 0 ∷ pos 0 ∷ [])))
    ∷ (codes "l-stops", Ok (flat_map (bytes_of kind.U32) (pos 3 ∷ pos 3 ∷ [])))
    ∷ (codes "d-data", Ok (int64s (pos 1 ∷ pos 2 ∷ pos 3 ∷ []))) ∷ [])

overlapping-unbroken : broken spans 2 overlapping ≡ None
overlapping-unbroken = refl

overlapping-items : array_items (layout_of spans 2 overlapping)
    ≡ list (int_values (pos 1 ∷ pos 2 ∷ pos 3 ∷ []))
    ∷ list (int_values (pos 1 ∷ pos 2 ∷ pos 3 ∷ [])) ∷ []
overlapping-items = refl

-- ---- EmptyArray and RegularArray

not_empty : broken (form.empty None) 1 (holding []) ≡ Some (invalid 0 Empty 0)
not_empty = refl

abbrev hollow : FormTree
hollow = form.regular None 0 (form.empty None)

hollow-unbroken : broken hollow 2 (holding []) ≡ None
hollow-unbroken = refl

hollow-items : array_items (layout_of hollow 2 (holding [])) ≡ list no_values ∷ list no_values ∷ []
hollow-items = refl

hollow-type : array_type (layout_of hollow 2 (holding [])) ≡ reg 0 unknown
hollow-type = refl

-- a list with a size holds an item of the EmptyArray
not_hollow : broken (form.regular None 1 (form.empty None)) 2 (holding [])
    ≡ Some (invalid 1 Empty 0)
not_hollow = refl

vast : broken (form.regular None 1099511627776 (form.row None (Some []) no_forms)) 1 (holding [])
    ≡ Some too_many
vast = refl

-- ---- NumpyArray

abbrev blocks : FormTree
blocks = form.numpy (Some (codes "b")) primitive.U8 (2 ∷ 1 ∷ [])

abbrev four_bytes : Container
four_bytes = holding ((codes "b-data", Ok (6 ∷ 7 ∷ 8 ∷ 255 ∷ [])) ∷ [])

blocks-unbroken : broken blocks 2 four_bytes ≡ None
blocks-unbroken = refl

blocks-items : array_items (layout_of blocks 2 four_bytes)
    ≡ list
    (value (list (int_values (pos 6 ∷ []))) (value (list (int_values (pos 7 ∷ []))) no_values))
    ∷ list
    (value (list (int_values (pos 8 ∷ [])))
    (value (list (int_values (pos 255 ∷ []))) no_values)) ∷ []
blocks-items = refl

blocks-type : array_type (layout_of blocks 2 four_bytes) ≡ reg 2 (reg 1 (leaf primitive.U8))
blocks-type = refl

blocks-short : broken blocks 3 four_bytes ≡ Some (buffer (codes "b-data") fault.Short)
blocks-short = refl

-- each product is judged, also where a later inner number is 0
blocks-too_many : broken
    (form.numpy (Some (codes "b")) primitive.U8 (1073741824 ∷ 0 ∷ [])) 2 four_bytes ≡ Some too_many
blocks-too_many = refl

-- ---- indexes and masks

below_zero : broken
    (form.indexed (Some (codes "i")) I32 (form.numpy (Some (codes "d")) primitive.I8 [])) 2
    (holding
    ((codes "i-index", Ok (flat_map (bytes_of kind.I32) (pos 0 ∷ negsuc 0 ∷ [])))
    ∷ (codes "d-data", Ok (9 ∷ [])) ∷ []))
    ≡ Some (invalid 0 Negative 1)
below_zero = refl

abbrev masked : FormTree
masked =
    form.indexed_option (Some (codes "i")) I64
    (form.byte_masked (Some (codes "m")) true (form.numpy (Some (codes "d")) primitive.I64 []))

abbrev mostly_null : Container
mostly_null =
    holding
    ((codes "i-index", Ok (int64s (negsuc 0 ∷ pos 0 ∷ negsuc 6 ∷ pos 1 ∷ [])))
    ∷ (codes "m-mask", Ok (0 ∷ 1 ∷ []))
    ∷ (codes "d-data", Ok (int64s (pos 8 ∷ pos 9 ∷ []))) ∷ [])

mostly_null-unbroken : broken masked 4 mostly_null ≡ None
mostly_null-unbroken = refl

mostly_null-items : array_items (layout_of masked 4 mostly_null)
    ≡ null ∷ null ∷ null ∷ int (pos 9) ∷ []
mostly_null-items = refl

mostly_null-type : array_type (layout_of masked 4 mostly_null) ≡ opt (leaf primitive.I64)
mostly_null-type = refl

abbrev by_bits : FormTree
by_bits =
    form.bit_masked (Some (codes "m")) false false (form.numpy (Some (codes "d")) primitive.I8 [])

abbrev two_bytes : Container
two_bytes =
    holding
    ((codes "m-mask", Ok (0x42 ∷ 0xA0 ∷ []))
    ∷ (codes "d-data", Ok (0 ∷ 1 ∷ 2 ∷ 3 ∷ 4 ∷ 5 ∷ 6 ∷ 7 ∷ 8 ∷ 9 ∷ 10 ∷ [])) ∷ [])

two_bytes-unbroken : broken by_bits 11 two_bytes ≡ None
two_bytes-unbroken = refl

two_bytes-items : array_items (layout_of by_bits 11 two_bytes)
    ≡ int (pos 0) ∷ null ∷ int (pos 2) ∷ int (pos 3) ∷ int (pos 4) ∷ int (pos 5) ∷ null
    ∷ int (pos 7) ∷ null ∷ int (pos 9) ∷ null ∷ []
two_bytes-items = refl

-- 17 bits lie in three bytes
one_bit_more : broken by_bits 17 two_bytes ≡ Some (buffer (codes "m-mask") fault.Short)
one_bit_more = refl

-- ---- unions

abbrev mixed : FormTree
mixed =
    form.union (Some (codes "a")) I64
    (form.form
    (form.union (Some (codes "b")) I64
    (form.form (form.numpy (Some (codes "c")) primitive.I64 [])
    (form.form (form.numpy (Some (codes "d")) primitive.Bool []) no_forms)))
    (form.form (form.numpy (Some (codes "e")) primitive.I8 []) no_forms))

abbrev tagged : List ℕ → Container
tagged tags =
    holding
    ((codes "a-tags", Ok tags) ∷ (codes "a-index", Ok (int64s (pos 0 ∷ pos 0 ∷ pos 1 ∷ [])))
    ∷ (codes "b-tags", Ok (0 ∷ 1 ∷ []))
    ∷ (codes "b-index", Ok (int64s (pos 0 ∷ pos 0 ∷ [])))
    ∷ (codes "c-data", Ok (int64s (pos 7 ∷ []))) ∷ (codes "d-data", Ok (1 ∷ []))
    ∷ (codes "e-data", Ok (4 ∷ [])) ∷ [])

mixed-unbroken : broken mixed 3 (tagged (0 ∷ 1 ∷ 0 ∷ [])) ≡ None
mixed-unbroken = refl

mixed-items : array_items (layout_of mixed 3 (tagged (0 ∷ 1 ∷ 0 ∷ [])))
    ≡ alt 0 (int (pos 7)) ∷ alt 2 (int (pos 4)) ∷ alt 1 (truth true) ∷ []
mixed-items = refl

mixed-type : array_type (layout_of mixed 3 (tagged (0 ∷ 1 ∷ 0 ∷ [])))
    ≡ uni
    (type (leaf primitive.I64) (type (leaf primitive.Bool) (type (leaf primitive.I8) no_types)))
mixed-type = refl

no_such_tag : broken mixed 3 (tagged (0 ∷ 2 ∷ 0 ∷ [])) ≡ Some (invalid 0 Tag 1)
no_such_tag = refl

tag_below_zero : broken mixed 3 (tagged (0 ∷ 1 ∷ 255 ∷ [])) ≡ Some (invalid 0 Tag 2)
tag_below_zero = refl

-- nodes are numbered in pre-order: the last alternative comes behind all nodes of the first
mixed-nodes : nodes mixed ≡ 5
mixed-nodes = refl

last_alternative : broken
    (form.row None None (form.form mixed (form.form (form.empty None) no_forms))) 3
    (tagged (0 ∷ 1 ∷ 0 ∷ [])) ≡ Some (invalid 6 Empty 0)
last_alternative = refl

-- ---- what is denoted, place by place over the bytes

three_lists-denoted : denote jagged 3 three_lists
    ≡ arr (var (leaf primitive.I64))
    (list (int_values (pos 5 ∷ negsuc 0 ∷ [])) ∷ list no_values ∷ list (int_values (pos 7 ∷ []))
    ∷ [])
three_lists-denoted = refl

far_away-denoted : denote jagged 1 far_away ≡ arr (var (leaf primitive.I64)) (list no_values ∷ [])
far_away-denoted = refl

overlapping-denoted : denote spans 2 overlapping
    ≡ arr (var (leaf primitive.I64))
    (list (int_values (pos 1 ∷ pos 2 ∷ pos 3 ∷ [])) ∷ list (int_values (pos 1 ∷ pos 2 ∷ pos 3 ∷ []))
    ∷ [])
overlapping-denoted = refl

hollow-denoted : denote hollow 2 (holding [])
    ≡ arr (reg 0 unknown) (list no_values ∷ list no_values ∷ [])
hollow-denoted = refl

blocks-denoted : denote blocks 2 four_bytes
    ≡ arr (reg 2 (reg 1 (leaf primitive.U8)))
    (list
    (value (list (int_values (pos 6 ∷ []))) (value (list (int_values (pos 7 ∷ []))) no_values))
    ∷ list
    (value (list (int_values (pos 8 ∷ [])))
    (value (list (int_values (pos 255 ∷ []))) no_values)) ∷ [])
blocks-denoted = refl

mostly_null-denoted : denote masked 4 mostly_null
    ≡ arr (opt (leaf primitive.I64)) (null ∷ null ∷ null ∷ int (pos 9) ∷ [])
mostly_null-denoted = refl

two_bytes-denoted : denote by_bits 11 two_bytes
    ≡ arr (opt (leaf primitive.I8))
    (int (pos 0) ∷ null ∷ int (pos 2) ∷ int (pos 3) ∷ int (pos 4) ∷ int (pos 5) ∷ null
    ∷ int (pos 7) ∷ null ∷ int (pos 9) ∷ null ∷ [])
two_bytes-denoted = refl

mixed-denoted : denote mixed 3 (tagged (0 ∷ 1 ∷ 0 ∷ []))
    ≡ arr
    (uni
    (type (leaf primitive.I64)
    (type (leaf primitive.Bool) (type (leaf primitive.I8) no_types))))
    (alt 0 (int (pos 7)) ∷ alt 2 (int (pos 4)) ∷ alt 1 (truth true) ∷ [])
mixed-denoted = refl

-- a row of an indexed and an unmasked content: any byte but 0 is true
abbrev pairs : FormTree
pairs =
    form.row None (Some (codes "a" ∷ codes "b" ∷ []))
    (form.form (form.indexed (Some (codes "i")) I32 (form.numpy (Some (codes "d")) primitive.I8 []))
    (form.form (form.unmasked None (form.numpy (Some (codes "e")) primitive.Bool [])) no_forms))

abbrev two_pairs : Container
two_pairs =
    holding
    ((codes "i-index", Ok (flat_map (bytes_of kind.I32) (pos 1 ∷ pos 0 ∷ [])))
    ∷ (codes "d-data", Ok (9 ∷ 254 ∷ [])) ∷ (codes "e-data", Ok (0 ∷ 7 ∷ [])) ∷ [])

two_pairs-unbroken : broken pairs 2 two_pairs ≡ None
two_pairs-unbroken = refl

two_pairs-denoted : denote pairs 2 two_pairs
    ≡ arr
    (rec (codes "a" ∷ codes "b" ∷ [])
    (type (leaf primitive.I8) (type (opt (leaf primitive.Bool)) no_types)))
    (row (value (int (negsuc 1)) (value (truth false) no_values))
    ∷ row (value (int (pos 9)) (value (truth true) no_values)) ∷ [])
two_pairs-denoted = refl
