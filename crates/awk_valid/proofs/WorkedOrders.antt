-- Buffers whose most significant bytes come first.
use Rattle.std.specs.Prelude.{◌≡◌, ℕ, List, [], ◌∷◌, Some, None, Ok, true, false, refl, ℤ, pos}
use Rattle.std.specs.Prelude.{negsuc, codes, reverse}
use Rattle.std.specs.List.{flat_map}
use Rattle.awk_types.specs.Value.{truth}
use Rattle.awk_types.specs.declared.primitive.Primitive.TheVariants as primitive
use Rattle.awk_lanes.specs.declared.kind.Kind.TheVariants as kind
use Rattle.awk_lanes.specs.Numbers.{bytes_of}
use Rattle.awk_form.specs.FormTree as form
use Rattle.awk_form.specs.FormTree.{FormTree}
use Rattle.awk_valid.specs.Container.{Container, num, numbers_by}
use Rattle.awk_valid.specs.Loaded.{layout_of}
use Rattle.awk_valid.specs.Denote.{denote, element}
use Rattle.awk_valid.specs.Broken.{invalid, buffer, broken}
use Rattle.awk_valid.specs.declared.fault.BufferFault.TheVariants as fault
use Rattle.awk_valid.specs.declared.fault.Rule.TheVariants.{Order}
use Rattle.awk_valid.proofs.Worked.{Entries, holding_by, jagged, three_lists}

-- ---- numbers of each kind

two_bytes : num true kind.I16 (0 ∷ 1 ∷ 255 ∷ 254 ∷ []) 1 ≡ negsuc 1
two_bytes = refl

two_bytes_unsigned : num true kind.U16 (0 ∷ 1 ∷ 255 ∷ 254 ∷ []) 1 ≡ pos 65534
two_bytes_unsigned = refl

four_bytes : numbers_by true kind.I32 2 (0 ∷ 0 ∷ 1 ∷ 0 ∷ 128 ∷ 0 ∷ 0 ∷ 0 ∷ [])
    ≡ pos 256 ∷ negsuc 2147483647 ∷ []
four_bytes = refl

four_bytes_unsigned : num true kind.U32 (128 ∷ 0 ∷ 0 ∷ 1 ∷ []) 0 ≡ pos 2147483649
four_bytes_unsigned = refl

eight_bytes : numbers_by true kind.I64 2
    (0 ∷ 0 ∷ 0 ∷ 0 ∷ 0 ∷ 0 ∷ 0 ∷ 5 ∷ 255 ∷ 255 ∷ 255 ∷ 255 ∷ 255 ∷ 255 ∷ 255 ∷ 255 ∷ [])
    ≡ pos 5 ∷ negsuc 0 ∷ []
eight_bytes = refl

eight_bytes_unsigned : num true kind.U64 (128 ∷ 0 ∷ 0 ∷ 0 ∷ 0 ∷ 0 ∷ 0 ∷ 2 ∷ []) 0
    ≡ pos 9223372036854775810
eight_bytes_unsigned = refl

-- the same bytes, least significant byte first
eight_bytes_little : num false kind.I64 (0 ∷ 0 ∷ 0 ∷ 0 ∷ 0 ∷ 0 ∷ 0 ∷ 5 ∷ []) 0
    ≡ pos 360287970189639680
eight_bytes_little = refl

one_byte : numbers_by true kind.U8 2 (200 ∷ 7 ∷ []) ≡ pos 200 ∷ pos 7 ∷ []
one_byte = refl

one_byte_signed : numbers_by true kind.I8 2 (200 ∷ 7 ∷ []) ≡ negsuc 55 ∷ pos 7 ∷ []
one_byte_signed = refl

truths : element true primitive.Bool (0 ∷ 3 ∷ []) 1 ≡ truth true
truths = refl

-- ---- lists between offsets

abbrev big64s : List ℤ → List ℕ
big64s zs = flat_map (λ z. reverse (bytes_of kind.I64 z)) zs

abbrev buffers : List ℕ → List ℕ → Entries
buffers offsets numbers =
    (codes "node0-offsets", Ok offsets) ∷ (codes "node1-data", Ok numbers) ∷ []

abbrev big_lists : Container
big_lists =
    holding_by true
    (buffers (big64s (pos 0 ∷ pos 2 ∷ pos 2 ∷ pos 3 ∷ [])) (big64s (pos 5 ∷ negsuc 0 ∷ pos 7 ∷ [])))

big_lists-unbroken : broken jagged 3 big_lists ≡ None
big_lists-unbroken = refl

-- they are the lists of the buffers whose least significant bytes come first
big_lists-layout : layout_of jagged 3 big_lists ≡ layout_of jagged 3 three_lists
big_lists-layout = refl

big_lists-denoted : denote jagged 3 big_lists ≡ denote jagged 3 three_lists
big_lists-denoted = refl

stops_early : broken jagged 2
    (holding_by true (buffers (big64s (pos 0 ∷ pos 3 ∷ pos 2 ∷ [])) []))
    ≡ Some (invalid 0 Order 1)
stops_early = refl

a_byte_too_few : broken jagged 1
    (holding_by true (buffers (big64s (pos 0 ∷ pos 1 ∷ [])) (1 ∷ 2 ∷ 3 ∷ 4 ∷ 5 ∷ 6 ∷ 7 ∷ [])))
    ≡ Some (buffer (codes "node1-data") fault.Short)
a_byte_too_few = refl

-- ---- masks are the same in both orders

abbrev masked : FormTree
masked =
    form.bit_masked (Some (codes "m")) true true
    (form.numpy (Some (codes "d")) primitive.U8 [])

abbrev mask_and_bytes : Entries
mask_and_bytes =
    (codes "m-mask", Ok (77 ∷ 2 ∷ []))
    ∷ (codes "d-data", Ok (1 ∷ 2 ∷ 3 ∷ 4 ∷ 5 ∷ 6 ∷ 7 ∷ 8 ∷ 9 ∷ [])) ∷ []

masked-same : denote masked 9 (holding_by true mask_and_bytes)
    ≡ denote masked 9 (holding_by false mask_and_bytes)
masked-same = refl
