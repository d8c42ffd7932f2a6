-- The keys of a node's own buffers, by the shape of its form.
use Rattle.std.proofs.Common.{◌≡◌, ℕ, Global, rules, List, [], ◌∷◌, ◌++◌, Bool, Option, ap, ap₂}
use Rattle.std.proofs.Common.{◌∙◌, append_assoc, codes, unwrap_or}
use Rattle.std.specs.Prelude.{Box}
use Rattle.awk_types.specs.DataType.{Name}
use Rattle.awk_types.specs.declared.primitive.Primitive.{Primitive}
use Rattle.awk_form.specs.View.{form_of}
use Rattle.awk_form.specs.declared.form.Form.{Form}
use Rattle.awk_form.specs.declared.form.Forms.{Forms}
use Rattle.awk_form.specs.declared.form.Shape.{the_lemmas, Numpy, ListOffset, Indexed}
use Rattle.awk_form.specs.declared.form.Shape.{IndexedOption, ByteMasked, BitMasked, Union}
use Rattle.awk_form.specs.declared.form.Shape.{List as Lists}
use Rattle.awk_form.specs.declared.form.Shape.TheViews.{out-Form}
use Rattle.awk_form.specs.declared.kind.IndexKind.{IndexKind}
use Rattle.awk_text.specs.Buffers.{buffer_key, own_keys}
use Rattle.awk_form.proofs.Views.{form_of-shape, keyed-Union}

-- the key, from the form key on
abbrev pub keyed_by : Option Name → List ℕ → Name
keyed_by key rest = unwrap_or key [] ++ rest

spelled : (key : Option Name) (attribute : List ℕ)
    → buffer_key key attribute ≡ keyed_by key (codes "-" ++ attribute)
spelled key attribute = append_assoc (unwrap_or key []) (codes "-") attribute

one : (key : Option Name) (a : List ℕ) → buffer_key key a ∷ [] ≡ keyed_by key (codes "-" ++ a) ∷ []
one key a = ap (λ k. k ∷ []) (spelled key a)

two : (key : Option Name) (a b : List ℕ)
    → buffer_key key a ∷ buffer_key key b ∷ []
    ≡ keyed_by key (codes "-" ++ a) ∷ keyed_by key (codes "-" ++ b) ∷ []
two key a b = ap₂ (λ k l. k ∷ l ∷ []) (spelled key a) (spelled key b)

pub own-Numpy : (f : Form) (prim : Primitive) (inner : List ℕ)
    → (out-Form f).shape ≡ Numpy prim inner
    → own_keys (form_of f) ≡ keyed_by (out-Form f).key (codes "-data") ∷ []
own-Numpy f prim inner is = ap own_keys (form_of-shape f (Numpy prim inner) is)
    ∙ search (rules, the_lemmas) ∙ one (out-Form f).key (codes "data")

pub own-ListOffset : (f : Form) (offsets : IndexKind) (content : Box Form Global)
    → (out-Form f).shape ≡ ListOffset offsets content
    → own_keys (form_of f) ≡ keyed_by (out-Form f).key (codes "-offsets") ∷ []
own-ListOffset f offsets content is = ap own_keys (form_of-shape f (ListOffset offsets content) is)
    ∙ search (rules, the_lemmas) ∙ one (out-Form f).key (codes "offsets")

pub own-Indexed : (f : Form) (index : IndexKind) (content : Box Form Global)
    → (out-Form f).shape ≡ Indexed index content
    → own_keys (form_of f) ≡ keyed_by (out-Form f).key (codes "-index") ∷ []
own-Indexed f index content is = ap own_keys (form_of-shape f (Indexed index content) is)
    ∙ search (rules, the_lemmas) ∙ one (out-Form f).key (codes "index")

pub own-Union : (f : Form) (index : IndexKind) (contents : Forms)
    → (out-Form f).shape ≡ Union index contents
    → own_keys (form_of f) ≡ keyed_by (out-Form f).key (codes "-tags") ∷ keyed_by (out-Form f).key
    (codes "-index") ∷ []
own-Union f index contents is =
    ap own_keys
    (form_of-shape f (Union index contents) is ∙ keyed-Union index contents (out-Form f).key)
    ∙ two (out-Form f).key (codes "tags") (codes "index")

pub own-IndexedOption : (f : Form) (index : IndexKind) (content : Box Form Global)
    → (out-Form f).shape ≡ IndexedOption index content
    → own_keys (form_of f) ≡ keyed_by (out-Form f).key (codes "-index") ∷ []
own-IndexedOption f index content is =
    ap own_keys (form_of-shape f (IndexedOption index content) is) ∙ search (rules, the_lemmas)
    ∙ one (out-Form f).key (codes "index")

pub own-ByteMasked : (f : Form) (valid_when : Bool) (content : Box Form Global)
    → (out-Form f).shape ≡ ByteMasked valid_when content
    → own_keys (form_of f) ≡ keyed_by (out-Form f).key (codes "-mask") ∷ []
own-ByteMasked f valid_when content is =
    ap own_keys (form_of-shape f (ByteMasked valid_when content) is) ∙ search (rules, the_lemmas)
    ∙ one (out-Form f).key (codes "mask")

pub own-BitMasked : (f : Form) (valid_when lsb_order : Bool) (content : Box Form Global)
    → (out-Form f).shape ≡ BitMasked valid_when lsb_order content
    → own_keys (form_of f) ≡ keyed_by (out-Form f).key (codes "-mask") ∷ []
own-BitMasked f valid_when lsb_order content is =
    ap own_keys (form_of-shape f (BitMasked valid_when lsb_order content) is)
    ∙ search (rules, the_lemmas) ∙ one (out-Form f).key (codes "mask")

pub own-List : (f : Form) (starts stops : IndexKind) (content : Box Form Global)
    → (out-Form f).shape ≡ Lists starts stops content
    → own_keys (form_of f) ≡ keyed_by (out-Form f).key (codes "-starts") ∷ keyed_by (out-Form f).key
    (codes "-stops") ∷ []
own-List f starts stops content is = ap own_keys (form_of-shape f (Lists starts stops content) is)
    ∙ search (rules, the_lemmas) ∙ two (out-Form f).key (codes "starts") (codes "stops")
