-- Forms whose shape is known.
use Rattle.std.proofs.Common.{◌≡◌, ℕ, Global, rules, Bool, List, [], ◌∷◌, Option, ap, refl, ◌∙◌}
use Rattle.std.specs.Prelude.{Box}
use Rattle.awk_types.specs.declared.primitive.Primitive.{Primitive}
use Rattle.awk_types.specs.declared.name.Names.{Names}
use Rattle.awk_form.specs.FormTree.{FormTree, empty, numpy, regular, list, list_offset, row}
use Rattle.awk_form.specs.FormTree.{indexed, indexed_option, byte_masked, bit_masked, unmasked}
use Rattle.awk_form.specs.FormTree.{union, form_list, forms_from}
use Rattle.awk_form.specs.View.{form_of, forms_of}
use Rattle.awk_form.specs.declared.form.Form.{Form}
use Rattle.awk_form.specs.declared.form.Forms.{Forms}
use Rattle.awk_form.specs.declared.form.Shape.{the_lemmas, Empty, Numpy, Regular, List as Lists}
use Rattle.awk_form.specs.declared.form.Shape.{ListOffset, Row, Indexed, IndexedOption, ByteMasked}
use Rattle.awk_form.specs.declared.form.Shape.{BitMasked, Unmasked, Union}
use Rattle.awk_form.specs.declared.kind.IndexKind.{IndexKind}
use Rattle.awk_form.specs.declared.form.Shape.TheViews.{out-Form}
use Rattle.awk_form.proofs.Views.{form_of-shape, keyed-Row, keyed-Union}
use Rattle.awk_form.specs.FormTree.{contents_of}

pub form-Row : (f : Form) (names : Option Names) (contents : Forms)
    → (out-Form f).shape ≡ Row names contents
    → form_of f ≡ row (out-Form f).key names (forms_from (forms_of contents))
form-Row f names contents is =
    form_of-shape f (Row names contents) is ∙ keyed-Row names contents (out-Form f).key

form_list-from : (fs : List FormTree) → form_list (forms_from fs) ≡ fs
form_list-from [] = refl
form_list-from (f ∷ fs) = ap (λ gs. f ∷ gs) (form_list-from fs)

-- the contents of a record and of a union
pub contents-Row : (f : Form) (names : Option Names) (cs : Forms)
    → (out-Form f).shape ≡ Row names cs → form_list (contents_of (form_of f)) ≡ forms_of cs
contents-Row f names cs is =
    ap (λ g. form_list (contents_of g)) (form-Row f names cs is) ∙ form_list-from (forms_of cs)

pub form-Union : (f : Form) (index : IndexKind) (cs : Forms) → (out-Form f).shape ≡ Union index cs
    → form_of f ≡ union (out-Form f).key index (forms_from (forms_of cs))
form-Union f index cs is =
    form_of-shape f (Union index cs) is ∙ keyed-Union index cs (out-Form f).key

pub contents-Union : (f : Form) (index : IndexKind) (cs : Forms)
    → (out-Form f).shape ≡ Union index cs → form_list (contents_of (form_of f)) ≡ forms_of cs
contents-Union f index cs is =
    ap (λ g. form_list (contents_of g)) (form-Union f index cs is) ∙ form_list-from (forms_of cs)

pub form-Empty : (f : Form) → (out-Form f).shape ≡ Empty → form_of f ≡ empty (out-Form f).key
form-Empty f is = form_of-shape f Empty is ∙ search (rules, the_lemmas)

pub form-Numpy : (f : Form) (prim : Primitive) (inner : List ℕ)
    → (out-Form f).shape ≡ Numpy prim inner → form_of f ≡ numpy (out-Form f).key prim inner
form-Numpy f prim inner is = form_of-shape f (Numpy prim inner) is ∙ search (rules, the_lemmas)

pub form-Regular : (f : Form) (size : ℕ) (content : Box Form Global)
    → (out-Form f).shape ≡ Regular size content
    → form_of f ≡ regular (out-Form f).key size (form_of content.value)
form-Regular f size content is =
    form_of-shape f (Regular size content) is ∙ search (rules, the_lemmas)

pub form-Unmasked : (f : Form) (content : Box Form Global) → (out-Form f).shape ≡ Unmasked content
    → form_of f ≡ unmasked (out-Form f).key (form_of content.value)
form-Unmasked f content is = form_of-shape f (Unmasked content) is ∙ search (rules, the_lemmas)

pub form-List : (f : Form) (starts stops : IndexKind) (content : Box Form Global)
    → (out-Form f).shape ≡ Lists starts stops content
    → form_of f ≡ list (out-Form f).key starts stops (form_of content.value)
form-List f starts stops content is =
    form_of-shape f (Lists starts stops content) is ∙ search (rules, the_lemmas)

pub form-ListOffset : (f : Form) (offsets : IndexKind) (content : Box Form Global)
    → (out-Form f).shape ≡ ListOffset offsets content
    → form_of f ≡ list_offset (out-Form f).key offsets (form_of content.value)
form-ListOffset f offsets content is =
    form_of-shape f (ListOffset offsets content) is ∙ search (rules, the_lemmas)

pub form-Indexed : (f : Form) (index : IndexKind) (content : Box Form Global)
    → (out-Form f).shape ≡ Indexed index content
    → form_of f ≡ indexed (out-Form f).key index (form_of content.value)
form-Indexed f index content is =
    form_of-shape f (Indexed index content) is ∙ search (rules, the_lemmas)

pub form-IndexedOption : (f : Form) (index : IndexKind) (content : Box Form Global)
    → (out-Form f).shape ≡ IndexedOption index content
    → form_of f ≡ indexed_option (out-Form f).key index (form_of content.value)
form-IndexedOption f index content is =
    form_of-shape f (IndexedOption index content) is ∙ search (rules, the_lemmas)

pub form-ByteMasked : (f : Form) (valid_when : Bool) (content : Box Form Global)
    → (out-Form f).shape ≡ ByteMasked valid_when content
    → form_of f ≡ byte_masked (out-Form f).key valid_when (form_of content.value)
form-ByteMasked f valid_when content is =
    form_of-shape f (ByteMasked valid_when content) is ∙ search (rules, the_lemmas)

pub form-BitMasked : (f : Form) (valid_when lsb_order : Bool) (content : Box Form Global)
    → (out-Form f).shape ≡ BitMasked valid_when lsb_order content
    → form_of f ≡ bit_masked (out-Form f).key valid_when lsb_order (form_of content.value)
form-BitMasked f valid_when lsb_order content is =
    form_of-shape f (BitMasked valid_when lsb_order content) is ∙ search (rules, the_lemmas)
