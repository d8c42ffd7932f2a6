-- The definitions on worked forms, by computing.
use Rattle.std.specs.Prelude.{◌≡◌, ℕ, ◌^◌, ◌-◌, true, false, List, [], ◌∷◌, Option, Some, None}
use Rattle.std.specs.Prelude.{option_map, codes, refl}
use Rattle.std.specs.Fmt.{digits}
use Rattle.awk_types.specs.declared.primitive.Primitive.TheVariants.{I64, Bool}
use Rattle.serde_json.specs.Read.{read}
use Rattle.serde_json.proofs.OnLiterals.{serde_json_on_literals}
use Rattle.awk_form.specs.FormTree.{FormTree, empty, numpy, regular, list, list_offset, row}
use Rattle.awk_form.specs.FormTree.{indexed, indexed_option, byte_masked, bit_masked, unmasked}
use Rattle.awk_form.specs.FormTree.{union, forms_from}
use Rattle.awk_form.specs.FormText.{form_text}
use Rattle.awk_form.specs.Node.{node_at}
use Rattle.awk_form.specs.Reading.{Refusal, broken as refused, first_break, nodes_of, form_of}
use Rattle.awk_form.specs.declared.fault.FormWhy.{FormWhy}
use Rattle.awk_form.specs.declared.fault.FormWhy.TheVariants.{Primitive}
use Rattle.awk_form.specs.declared.kind.IndexKind.TheVariants as index

-- the first break of a text that is JSON
abbrev broken : List ℕ → Option (Option Refusal)
broken text = option_map first_break (read text)

abbrev formed : List ℕ → Option FormTree
formed text = option_map form_of (read text)

abbrev at : ℕ → FormWhy → Option (Option Refusal)
at node why = Some (Some (refused (record { node = node; why = why })))

lists_of_numbers : broken
    (codes "{\"class\":\"ListOffsetArray\",\"offsets\":\"i64\",\"content\":{\"class\":\"NumpyArray\",\"primitive\":\"int64\",\"form_key\":\"node1\"},\"form_key\":\"node0\"}") ≡ Some None
unfolding serde_json_on_literals node_at nodes_of form_of
lists_of_numbers = refl

lists_of_numbers_form : formed
    (codes "{\"class\":\"ListOffsetArray\",\"offsets\":\"i64\",\"content\":{\"class\":\"NumpyArray\",\"primitive\":\"int64\",\"form_key\":\"node1\"},\"form_key\":\"node0\"}") ≡ Some (list_offset (Some (codes "node0")) index.I64 (numpy (Some (codes "node1")) I64 []))
unfolding serde_json_on_literals node_at nodes_of form_of
lists_of_numbers_form = refl

a_float : broken
    (codes "{\"class\":\"ListOffsetArray\",\"offsets\":\"i64\",\"content\":{\"class\":\"NumpyArray\",\"primitive\":\"float64\",\"form_key\":\"node1\"},\"form_key\":\"node0\"}") ≡ at 1 Primitive
unfolding serde_json_on_literals node_at nodes_of form_of
a_float = refl

-- ---- texts

lists_of_numbers_text : form_text (list_offset (Some (codes "node0")) index.I64
    (numpy (Some (codes "node1")) I64 [])) ≡ codes
    "{\"class\":\"ListOffsetArray\",\"offsets\":\"i64\",\"content\":{\"class\":\"NumpyArray\",\"primitive\":\"int64\",\"inner_shape\":[],\"parameters\":{},\"form_key\":\"node1\"},\"parameters\":{},\"form_key\":\"node0\"}"
lists_of_numbers_text = refl

a_record_text : form_text (row None (Some (codes "x" ∷ codes "\"" ∷ []))
    (forms_from (empty None ∷ regular None 12 (empty None) ∷ []))) ≡ codes
    "{\"class\":\"RecordArray\",\"fields\":[\"x\",\"\\\"\"],\"contents\":[{\"class\":\"EmptyArray\",\"parameters\":{},\"form_key\":null},{\"class\":\"RegularArray\",\"size\":12,\"content\":{\"class\":\"EmptyArray\",\"parameters\":{},\"form_key\":null},\"parameters\":{},\"form_key\":null}],\"parameters\":{},\"form_key\":null}"
unfolding digits
a_record_text = refl

-- a form with a node of each class
abbrev each_class : FormTree
each_class =
    union (Some (codes "a")) index.U32
    (forms_from
    (list (Some (codes "b")) index.I32 index.I64
    (indexed (Some (codes "c")) index.U32 (empty None)) ∷ row None None (forms_from [])
    ∷ row None (Some (codes "x" ∷ []))
    (forms_from
    (bit_masked (Some (codes "d")) true false
    (numpy (Some (codes "e")) Bool (2 ∷ (2 ^ 64 - 1) ∷ [])) ∷ []))
    ∷ indexed_option (Some (codes "f")) index.I64
    (regular (Some []) 3
    (list_offset (Some (codes "g")) index.I32
    (byte_masked (Some (codes "h")) false (unmasked None (empty None))))) ∷ []))

-- its text reads as itself
each_class_again : formed (form_text each_class) ≡ Some each_class
unfolding serde_json_on_literals node_at nodes_of form_of digits
each_class_again = refl
