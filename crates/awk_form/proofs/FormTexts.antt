-- The texts of a form's parts.
use Rattle.std.proofs.Common.{◌≡◌, ℕ, List, [], ◌∷◌, ◌++◌, map, codes, Option, Result, Ok, Err}
use Rattle.std.proofs.Common.{Bool, ◌⊎◌, inl, inr, Box, Global, refl, ap, ap₂, ◌∙◌, rules}
use Rattle.awk_edge.specs.Pending.{Pending}
use Rattle.awk_edge.specs.Put.{Moves}
use Rattle.awk_types.specs.DataType.{Name}
use Rattle.awk_json.specs.Text.{list_text}
use Rattle.awk_types.specs.declared.name.Names.{Names}
use Rattle.awk_json.proofs.Joins.{stops_at, goes_to}
use Rattle.awk_form.specs.FormTree.{FormTree, forms_from}
use Rattle.awk_form.specs.FormText.{key_of, class_text, class_member, members_text, contents_text}
use Rattle.awk_form.specs.FormText.{end_text, form_text, form_texts}
use Rattle.awk_form.specs.View.{Keyed, shape_step, form_step, forms_step, form_of, forms_of, keyed}
use Rattle.awk_form.specs.declared.form.Form.{Form}
use Rattle.awk_form.specs.declared.form.Forms.{Forms}
use Rattle.awk_form.specs.declared.form.Shape.{Shape, Regular, List as Shape-List, ListOffset, Row}
use Rattle.awk_form.specs.declared.form.Shape.{Indexed, IndexedOption, ByteMasked, BitMasked}
use Rattle.awk_form.specs.declared.form.Shape.{Unmasked, Union, the_lemmas}
use Rattle.awk_form.specs.declared.form.Shape.TheOpen.{Shape-F}
use Rattle.awk_form.specs.declared.form.Shape.TheViews.{out-Form}
use Rattle.awk_form.specs.declared.form.Shape.TheFolds.{fold_out-Shape}
use Rattle.awk_form.specs.declared.kind.IndexKind.{IndexKind}
use Rattle.awk_form.proofs.Views.{form_of-shape, keyed-Row, keyed-Union}

-- ---- a form and its parts

form_texts-from : (fs : List FormTree) → form_texts (forms_from fs) ≡ map form_text fs
form_texts-from [] = refl
form_texts-from (f ∷ fs) = ap (λ ts. form_text f ∷ ts) (form_texts-from fs)

key_of-step : (shape : Shape-F Keyed FormTree (List FormTree)) (key : Option Name)
    → key_of (shape_step shape key) ≡ key
key_of-step Shape-F.Empty key = refl
key_of-step (Shape-F.Numpy prim inner) key = refl
key_of-step (Shape-F.Regular size content) key = refl
key_of-step (Shape-F.List starts stops content) key = refl
key_of-step (Shape-F.ListOffset offsets content) key = refl
key_of-step (Shape-F.Row names contents) key = refl
key_of-step (Shape-F.Indexed index content) key = refl
key_of-step (Shape-F.IndexedOption index content) key = refl
key_of-step (Shape-F.ByteMasked valid_when content) key = refl
key_of-step (Shape-F.BitMasked valid_when lsb_order content) key = refl
key_of-step (Shape-F.Unmasked content) key = refl
key_of-step (Shape-F.Union index contents) key = refl

key_of-keyed : (shape : Shape) (key : Option Name) → key_of (keyed shape key) ≡ key
key_of-keyed shape key =
    ap (λ k. key_of (k key))
    (fold_out-Shape Keyed FormTree (List FormTree) shape_step form_step forms_step shape)
    ∙ key_of-step _ key

-- what is behind the members of a form
after_members : (f : Form)
    → contents_text (form_of f) ++ end_text (key_of (form_of f)) ≡ contents_text
    (keyed (out-Form f).shape (out-Form f).key) ++ end_text (out-Form f).key
after_members f =
    let shaped = form_of-shape f (out-Form f).shape refl in
    ap₂ (λ contents key. contents ++ end_text key) (ap contents_text shaped)
    (ap key_of shaped ∙ key_of-keyed (out-Form f).shape (out-Form f).key)

-- the parts as they are put
pub form_text-parts : (f : Form)
    → form_text (form_of f) ≡ class_member (class_text (form_of f))
    ++ (members_text (form_of f)
    ++ (contents_text (keyed (out-Form f).shape (out-Form f).key) ++ end_text (out-Form f).key))
form_text-parts f =
    ap (λ t. class_member (class_text (form_of f)) ++ (members_text (form_of f) ++ t))
    (after_members f)

-- the parts behind the class and the members: a fault in the contents, or all of them put
pub stops_in_contents : {written0 written1 written2 written3 : Option (List ℕ)}
    {mid near new : Pending} {E F : Type 0} {u v : Unit {0}} {e : E} {r : Result (Unit {0}) F}
    {x : F} (held : List ℕ) (f : Form)
    → Moves {E = E} written0 written1 mid (held ++ class_member (class_text (form_of f))) (Ok u)
    → Moves {E = E} written1 written2 near (mid.held ++ members_text (form_of f)) (Ok v)
    → Moves {E = E} written2 written3 new
    (near.held ++ contents_text (keyed (out-Form f).shape (out-Form f).key)) (Err e) → r ≡ Err x
    → Moves {E = F} written0 written3 new (held ++ form_text (form_of f)) r
stops_in_contents held f class members contents failed =
    let inner = contents_text (keyed (out-Form f).shape (out-Form f).key) in
    let end = end_text (out-Form f).key in
    rw (form_text-parts f)
    (goes_to held (class_member (class_text (form_of f)))
    (members_text (form_of f) ++ (inner ++ end)) class
    (goes_to _ (members_text (form_of f)) (inner ++ end) members
    (stops_at _ inner end contents failed)))

pub puts_parts : {written0 written1 written2 written3 written4 : Option (List ℕ)}
    {mid near far new : Pending} {E : Type 0} {u v w : Unit {0}} {r : Result (Unit {0}) E}
    (held : List ℕ) (f : Form)
    → Moves {E = E} written0 written1 mid (held ++ class_member (class_text (form_of f))) (Ok u)
    → Moves {E = E} written1 written2 near (mid.held ++ members_text (form_of f)) (Ok v)
    → Moves {E = E} written2 written3 far
    (near.held ++ contents_text (keyed (out-Form f).shape (out-Form f).key)) (Ok w)
    → Moves {E = E} written3 written4 new (far.held ++ end_text (out-Form f).key) r
    → Moves {E = E} written0 written4 new (held ++ form_text (form_of f)) r
puts_parts held f class members contents ended =
    let inner = contents_text (keyed (out-Form f).shape (out-Form f).key) in
    let end = end_text (out-Form f).key in
    rw (form_text-parts f)
    (goes_to held (class_member (class_text (form_of f)))
    (members_text (form_of f) ++ (inner ++ end)) class
    (goes_to _ (members_text (form_of f)) (inner ++ end) members
    (goes_to _ inner end contents ended)))

-- ---- a shape with one content, or with several

abbrev pub HasContent : Shape → Box Form Global → Type 0
HasContent s content =
    ((size : ℕ) × (s ≡ Regular size content))
    ⊎ ((starts : IndexKind) × (stops : IndexKind) × (s ≡ Shape-List starts stops content))
    ⊎ ((offsets : IndexKind) × (s ≡ ListOffset offsets content))
    ⊎ ((index : IndexKind) × (s ≡ Indexed index content))
    ⊎ ((index : IndexKind) × (s ≡ IndexedOption index content))
    ⊎ ((valid_when : Bool) × (s ≡ ByteMasked valid_when content))
    ⊎ ((valid_when : Bool) × (lsb_order : Bool) × (s ≡ BitMasked valid_when lsb_order content))
    ⊎ (s ≡ Unmasked content)

pub content-said : (s : Shape) (content : Box Form Global) (key : Option Name)
    → HasContent s content
    → contents_text (keyed s key) ≡ codes ",\"content\":" ++ form_text (form_of content.value)
content-said s content key (inl (size, e)) =
    ap (λ z. contents_text (keyed z key)) e ∙ search (rules, the_lemmas)
content-said s content key (inr (inl (starts, stops, e))) =
    ap (λ z. contents_text (keyed z key)) e ∙ search (rules, the_lemmas)
content-said s content key (inr (inr (inl (offsets, e)))) =
    ap (λ z. contents_text (keyed z key)) e ∙ search (rules, the_lemmas)
content-said s content key (inr (inr (inr (inl (index, e))))) =
    ap (λ z. contents_text (keyed z key)) e ∙ search (rules, the_lemmas)
content-said s content key (inr (inr (inr (inr (inl (index, e)))))) =
    ap (λ z. contents_text (keyed z key)) e ∙ search (rules, the_lemmas)
content-said s content key (inr (inr (inr (inr (inr (inl (valid_when, e))))))) =
    ap (λ z. contents_text (keyed z key)) e ∙ search (rules, the_lemmas)
content-said s content key (inr (inr (inr (inr (inr (inr (inl (valid_when, lsb_order, e)))))))) =
    ap (λ z. contents_text (keyed z key)) e ∙ search (rules, the_lemmas)
content-said s content key (inr (inr (inr (inr (inr (inr (inr e))))))) =
    ap (λ z. contents_text (keyed z key)) e ∙ search (rules, the_lemmas)

abbrev pub HasContents : Shape → Forms → Type 0
HasContents s contents = ((names : Option Names) × (s ≡ Row names contents))
    ⊎ ((index : IndexKind) × (s ≡ Union index contents))

pub contents-said : (s : Shape) (contents : Forms) (key : Option Name) → HasContents s contents
    → contents_text (keyed s key) ≡ codes ",\"contents\":" ++ list_text
    (map form_text (forms_of contents))
contents-said s contents key (inl (names, e)) =
    ap (λ z. contents_text (keyed z key)) e ∙ ap contents_text (keyed-Row names contents key)
    ∙ ap (λ ts. codes ",\"contents\":" ++ list_text ts) (form_texts-from (forms_of contents))
contents-said s contents key (inr (index, e)) =
    ap (λ z. contents_text (keyed z key)) e ∙ ap contents_text (keyed-Union index contents key)
    ∙ ap (λ ts. codes ",\"contents\":" ++ list_text ts) (form_texts-from (forms_of contents))
