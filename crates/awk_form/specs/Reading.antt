-- The form that a JSON value is, or its first break.
use Rattle.std.specs.Prelude.{ℕ, zero, suc, ◌+◌, List, [], ◌∷◌, map, Option, Some, None, option_map}
use Rattle.std.specs.Prelude.{Result, Ok, Err}
use Rattle.std.specs.List.{flat_map}
use Rattle.awk_types.specs.DataType.{Name}
use Rattle.awk_types.specs.Gives.{refused_or, ◌or◌}
use Rattle.awk_types.specs.Limit.{Limit, limit}
use Rattle.awk_types.specs.Simple.{simple}
use Rattle.serde_json.specs.Data.{Data, depth}
use Rattle.awk_form.specs.FormTree as made
use Rattle.awk_form.specs.FormTree.{FormTree, forms_from}
use Rattle.awk_form.specs.FormType.{type_of}
use Rattle.awk_form.specs.Node.{Head, empty, numpy, regular, list, list_offset, row, indexed}
use Rattle.awk_form.specs.Node.{indexed_option, byte_masked, bit_masked, unmasked, union, Node}
use Rattle.awk_form.specs.Node.{node_at}
use Rattle.awk_form.specs.declared.fault.FormWhy.{FormWhy}

-- the contents that a node names, from left to right
abbrev pub contents : Head → List Data
contents empty = []
contents (numpy p inner) = []
contents (regular size d) = d ∷ []
contents (list starts stops d) = d ∷ []
contents (list_offset offsets d) = d ∷ []
contents (row names ds) = ds
contents (indexed index d) = d ∷ []
contents (indexed_option index d) = d ∷ []
contents (byte_masked valid_when d) = d ∷ []
contents (bit_masked valid_when lsb_order d) = d ∷ []
contents (unmasked d) = d ∷ []
contents (union index ds) = ds

-- the contents of a node; one that is broken has none
abbrev pub contents_said : Result Node FormWhy → List Data
contents_said (Ok n) = contents n.head
contents_said (Err e) = []

abbrev pub contents_of : Data → List Data
contents_of d = contents_said (node_at d)

-- the nodes of a value in pre-order, down to a level
abbrev pub nodes_down : ℕ → Data → List Data
nodes_down zero d = []
nodes_down (suc levels) d = d ∷ flat_map (nodes_down levels) (contents_of d)

-- all its nodes: there are no more levels than the value nests
unfoldable pub nodes_of : Data → List Data
nodes_of d = nodes_down (suc (depth d)) d

-- of several, and of the contents that a node names
abbrev pub nodes_of_all : List Data → List Data
nodes_of_all ds = flat_map nodes_of ds

abbrev pub nodes_below : Head → List Data
nodes_below head = nodes_of_all (contents head)

-- ---- why a form is refused

-- a node, by its number in pre-order, and the first cause against it
pub record Break : Type 0 where
  pub node : ℕ
  pub why : FormWhy

pub data Refusal : Type 0 where
  broken : Break → Refusal
  limited : Limit → Refusal

-- what stands against node n
abbrev pub break_at : ℕ → Result Node FormWhy → Option Refusal
break_at n (Ok said) = None
break_at n (Err e) = Some (broken (record { node = n; why = e }))

-- the first break of nodes that are numbered from n
abbrev pub first_break_from : ℕ → List Data → Option Refusal
first_break_from n [] = None
first_break_from n (d ∷ ds) = break_at n (node_at d) or first_break_from (n + 1) ds

abbrev pub first_break : Data → Option Refusal
first_break d = first_break_from 0 (nodes_of d)

-- ---- the form

-- the form of a node, where f gives the forms of its contents
abbrev pub form_with : (Data → FormTree) → Option Name → Head → FormTree
form_with f key empty = made.empty key
form_with f key (numpy p inner) = made.numpy key p inner
form_with f key (regular size d) = made.regular key size (f d)
form_with f key (list starts stops d) = made.list key starts stops (f d)
form_with f key (list_offset offsets d) = made.list_offset key offsets (f d)
form_with f key (row names ds) = made.row key names (forms_from (map f ds))
form_with f key (indexed index d) = made.indexed key index (f d)
form_with f key (indexed_option index d) = made.indexed_option key index (f d)
form_with f key (byte_masked valid_when d) = made.byte_masked key valid_when (f d)
form_with f key (bit_masked valid_when lsb_order d) = made.bit_masked key valid_when lsb_order (f d)
form_with f key (unmasked d) = made.unmasked key (f d)
form_with f key (union index ds) = made.union key index (forms_from (map f ds))

-- the form where there is no break; what stands for a broken node is not looked at
abbrev pub form_said : (Data → FormTree) → Result Node FormWhy → FormTree
form_said f (Ok n) = form_with f n.key n.head
form_said f (Err e) = made.empty None

abbrev pub form_down : ℕ → Data → FormTree
form_down zero d = made.empty None
form_down (suc levels) d = form_said (form_down levels) (node_at d)

unfoldable pub form_of : Data → FormTree
form_of d = form_down (suc (depth d)) d

-- ---- the form, or why it is refused

-- the limit that its simple type passes
abbrev pub passed_limit : FormTree → Option Refusal
passed_limit f = option_map limited (limit (simple (type_of f)))

-- refused for the first break, and where there is none for the limit
abbrev pub reading : Data → Result FormTree Refusal
reading d = refused_or (first_break d or passed_limit (form_of d)) (form_of d)
