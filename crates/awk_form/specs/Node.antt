-- What the JSON value of one node says, or the first cause against it. The contents are not looked
-- at here: each is judged as a node of its own.
use Rattle.std.specs.Prelude.{ℕ, ◌&&◌, ◌==◌, Bool, true, false, not, nat_lt, List, [], ◌∷◌, length}
use Rattle.std.specs.Prelude.{Option, Some, None, option_and_then, option_map, Result, Ok, Err}
use Rattle.std.specs.Prelude.{codes}
use Rattle.awk_types.specs.DataType.{Name}
use Rattle.awk_types.specs.Names.{are_distinct}
use Rattle.awk_types.specs.declared.primitive.Primitive.{Primitive as PrimitiveKind}
use Rattle.serde_json.specs.Data.{Data, null, string, object, Items, no_items, item}
use Rattle.serde_json.specs.Find.{get, get_member, as_str, as_bool, as_number, as_array, as_u64}
use Rattle.awk_form.specs.declared.class.Class.{Class}
use Rattle.awk_form.specs.declared.class.Class.TheVariants as class
use Rattle.awk_form.specs.Tables.{Table, meaning, classes, primitives, index_kinds}
use Rattle.awk_form.specs.Tables.{option_index_kinds, byte_kinds, bit_kinds}
use Rattle.awk_form.specs.declared.fault.FormWhy.{FormWhy}
use Rattle.awk_form.specs.declared.fault.FormWhy.TheVariants as why
use Rattle.awk_form.specs.declared.kind.IndexKind.{IndexKind}

-- a class with the values of its keys; a content is any JSON value
pub data Head : Type 0 where
  empty : Head
  numpy : PrimitiveKind → List ℕ → Head
  regular : ℕ → Data → Head
  list : IndexKind → IndexKind → Data → Head
  list_offset : IndexKind → Data → Head
  row : Option (List Name) → List Data → Head
  indexed : IndexKind → Data → Head
  indexed_option : IndexKind → Data → Head
  byte_masked : Bool → Data → Head
  bit_masked : Bool → Bool → Data → Head
  unmasked : Data → Head
  union : IndexKind → List Data → Head

pub record Node : Type 0 where
  pub key : Option Name
  pub head : Head

-- what is read next, where nothing stood against what was read before
abbrev pub and_then : {A B : Type 0} → Result A FormWhy → (A → Result B FormWhy) → Result B FormWhy
and_then (Ok a) next = next a
and_then (Err e) next = Err e

-- a value that must be there, or else this cause
abbrev pub present_or : {A : Type 0} → FormWhy → Option A → Result A FormWhy
present_or e None = Err e
present_or e (Some a) = Ok a

-- what may be said, or else this cause
abbrev pub allowed_or : {A : Type 0} → FormWhy → Bool → A → Result A FormWhy
allowed_or e true a = Ok a
allowed_or e false a = Err e

-- ---- the values at keys

abbrev pub class_at : Data → Result Class FormWhy
class_at d =
    present_or why.Class
    (option_and_then (meaning classes) (option_and_then as_str (get (codes "class") d)))

abbrev pub text_at : List ℕ → Data → Result (List ℕ) FormWhy
text_at key d = present_or why.Key (option_and_then as_str (get key d))

abbrev pub number_at : List ℕ → Data → Result ℕ FormWhy
number_at key d =
    present_or why.Key (option_and_then as_u64 (option_and_then as_number (get key d)))

abbrev pub truth_at : List ℕ → Data → Result Bool FormWhy
truth_at key d = present_or why.Key (option_and_then as_bool (get key d))

abbrev pub kind_at : {A : Type 0} → Table A → List ℕ → Data → Result A FormWhy
kind_at table key d = and_then (text_at key d) (λ text. present_or why.Kind (meaning table text))

abbrev pub primitive_at : Data → Result PrimitiveKind FormWhy
primitive_at d =
    and_then (text_at (codes "primitive") d)
    (λ text. present_or why.Primitive (meaning primitives text))

-- the items of a list, where each is one
abbrev pub numbers_of : Items → Option (List ℕ)
numbers_of no_items = Some []
numbers_of (item d ds) =
    option_and_then (λ n. option_map (λ ns. n ∷ ns) (numbers_of ds))
    (option_and_then as_u64 (as_number d))

abbrev pub texts_of : Items → Option (List Name)
texts_of no_items = Some []
texts_of (item d ds) = option_and_then (λ t. option_map (λ ts. t ∷ ts) (texts_of ds)) (as_str d)

abbrev pub values_of : Items → List Data
values_of no_items = []
values_of (item d ds) = d ∷ values_of ds

-- an absent inner shape is the empty one
abbrev pub inner_shape_from : Option Data → Result (List ℕ) FormWhy
inner_shape_from None = Ok []
inner_shape_from (Some d) = present_or why.Key (option_and_then numbers_of (as_array d))

abbrev pub inner_shape_at : Data → Result (List ℕ) FormWhy
inner_shape_at d = inner_shape_from (get (codes "inner_shape") d)

-- null makes a tuple, which has no names
abbrev pub fields_from : Option Data → Result (Option (List Name)) FormWhy
fields_from None = Err why.Key
fields_from (Some null) = Ok None
fields_from (Some d) =
    and_then (present_or why.Key (option_and_then texts_of (as_array d)))
    (λ names. allowed_or why.Repeated (are_distinct names) (Some names))

abbrev pub fields_at : Data → Result (Option (List Name)) FormWhy
fields_at d = fields_from (get (codes "fields") d)

abbrev pub content_at : Data → Result Data FormWhy
content_at d = present_or why.Key (get (codes "content") d)

abbrev pub contents_at : Data → Result (List Data) FormWhy
contents_at d =
    present_or why.Key (option_map values_of (option_and_then as_array (get (codes "contents") d)))

-- whether there are as many contents as names, where there are names
abbrev pub are_as_many : Option (List Name) → List Data → Bool
are_as_many None contents = true
are_as_many (Some names) contents = length names == length contents

abbrev pub are_alternatives : List Data → Bool
are_alternatives contents = nat_lt 0 (length contents) && nat_lt (length contents) 128

-- nothing, or null
abbrev pub is_absent : Option Data → Bool
is_absent None = true
is_absent (Some null) = true
is_absent (Some d) = false

abbrev pub are_parameters : Option Data → Bool
are_parameters (Some (object ms)) = is_absent (get_member (codes "__array__") ms)
are_parameters d = is_absent d

abbrev pub parameters_at : Data → Result (Unit {0}) FormWhy
parameters_at d = allowed_or why.Parameter (are_parameters (get (codes "parameters") d)) tt

-- a text where the class has buffers, and elsewhere a text or none
abbrev pub form_key_from : Bool → Option Data → Result (Option Name) FormWhy
form_key_from needed (Some (string text)) = Ok (Some text)
form_key_from needed d = allowed_or why.FormKey (is_absent d && not needed) None

abbrev pub form_key_at : Bool → Data → Result (Option Name) FormWhy
form_key_at needed d = form_key_from needed (get (codes "form_key") d)

-- ---- the node

abbrev pub has_buffers : Class → Bool
has_buffers class.Empty = false
has_buffers class.Regular = false
has_buffers class.Row = false
has_buffers class.Unmasked = false
has_buffers c = true

-- the keys of each class, from left to right
abbrev pub head_at : Class → Data → Result Head FormWhy
head_at class.Empty d = Ok empty
head_at class.Numpy d =
    and_then (primitive_at d) (λ p. and_then (inner_shape_at d) (λ inner. Ok (numpy p inner)))
head_at class.Regular d =
    and_then (number_at (codes "size") d) (λ size.
    and_then (content_at d) (λ content. Ok (regular size content)))
head_at class.List d =
    and_then (kind_at index_kinds (codes "starts") d) (λ starts.
    and_then (kind_at index_kinds (codes "stops") d) (λ stops.
    and_then (content_at d) (λ content. Ok (list starts stops content))))
head_at class.ListOffset d =
    and_then (kind_at index_kinds (codes "offsets") d) (λ offsets.
    and_then (content_at d) (λ content. Ok (list_offset offsets content)))
head_at class.Row d =
    and_then (fields_at d) (λ names.
    and_then (contents_at d)
    (λ contents. allowed_or why.Key (are_as_many names contents) (row names contents)))
head_at class.Indexed d =
    and_then (kind_at index_kinds (codes "index") d) (λ index.
    and_then (content_at d) (λ content. Ok (indexed index content)))
head_at class.IndexedOption d =
    and_then (kind_at option_index_kinds (codes "index") d) (λ index.
    and_then (content_at d) (λ content. Ok (indexed_option index content)))
head_at class.ByteMasked d =
    and_then (kind_at byte_kinds (codes "mask") d) (λ _.
    and_then (truth_at (codes "valid_when") d) (λ valid_when.
    and_then (content_at d) (λ content. Ok (byte_masked valid_when content))))
head_at class.BitMasked d =
    and_then (kind_at bit_kinds (codes "mask") d) (λ _.
    and_then (truth_at (codes "valid_when") d) (λ valid_when.
    and_then (truth_at (codes "lsb_order") d) (λ lsb_order.
    and_then (content_at d) (λ content. Ok (bit_masked valid_when lsb_order content)))))
head_at class.Unmasked d = and_then (content_at d) (λ content. Ok (unmasked content))
head_at class.Union d =
    and_then (kind_at byte_kinds (codes "tags") d) (λ _.
    and_then (kind_at index_kinds (codes "index") d) (λ index.
    and_then (contents_at d)
    (λ contents. allowed_or why.Alternatives (are_alternatives contents) (union index contents))))

-- the class, then its keys, then the parameters and the form key
unfoldable pub node_at : Data → Result Node FormWhy
node_at d =
    and_then (class_at d) (λ c.
    and_then (head_at c d) (λ head.
    and_then (parameters_at d) (λ _.
    and_then (form_key_at (has_buffers c) d) (λ key.
    Ok (record { key = key; head = head })))))
