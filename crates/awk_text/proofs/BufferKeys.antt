-- The keys of the buffers below a node.
use Rattle.std.proofs.Common.{◌≡◌, [], ◌++◌, Option, inl, inr, Box, Global, ap, ◌∙◌, rules}
use Rattle.std.proofs.Common.{append-nil}
use Rattle.awk_types.specs.DataType.{Name}
use Rattle.awk_form.specs.FormTree.{FormTree, contents_of, forms_from, no_forms, form}
use Rattle.awk_form.specs.Induction.{fold-contents}
use Rattle.awk_form.specs.View.{form_of, forms_of, keyed}
use Rattle.awk_form.specs.declared.form.Form.{Form}
use Rattle.awk_form.specs.declared.form.Forms.{Forms}
use Rattle.awk_form.specs.declared.form.Shape.{Shape, the_lemmas}
use Rattle.awk_form.proofs.FormTexts.{HasContent, HasContents}
use Rattle.awk_form.proofs.Views.{keyed-Row, keyed-Union}
use Rattle.awk_text.specs.Buffers.{own_keys, own_first, buffer_keys, keys_of}

-- a node's own keys before those of its contents
pub keys-contents : (f : FormTree) → buffer_keys f ≡ own_keys f ++ keys_of (contents_of f)
keys-contents = fold-contents [] ◌++◌ own_first append-nil

-- one content
content-below : (s : Shape) (content : Box Form Global) (key : Option Name) → HasContent s content
    → contents_of (keyed s key) ≡ form (form_of content.value) no_forms
content-below s content key (inl (size, e)) =
    ap (λ z. contents_of (keyed z key)) e ∙ search (rules, the_lemmas)
content-below s content key (inr (inl (starts, stops, e))) =
    ap (λ z. contents_of (keyed z key)) e ∙ search (rules, the_lemmas)
content-below s content key (inr (inr (inl (offsets, e)))) =
    ap (λ z. contents_of (keyed z key)) e ∙ search (rules, the_lemmas)
content-below s content key (inr (inr (inr (inl (index, e))))) =
    ap (λ z. contents_of (keyed z key)) e ∙ search (rules, the_lemmas)
content-below s content key (inr (inr (inr (inr (inl (index, e)))))) =
    ap (λ z. contents_of (keyed z key)) e ∙ search (rules, the_lemmas)
content-below s content key (inr (inr (inr (inr (inr (inl (valid_when, e))))))) =
    ap (λ z. contents_of (keyed z key)) e ∙ search (rules, the_lemmas)
content-below s content key (inr (inr (inr (inr (inr (inr (inl (valid_when, lsb_order, e)))))))) =
    ap (λ z. contents_of (keyed z key)) e ∙ search (rules, the_lemmas)
content-below s content key (inr (inr (inr (inr (inr (inr (inr e))))))) =
    ap (λ z. contents_of (keyed z key)) e ∙ search (rules, the_lemmas)

pub content-keys : (s : Shape) (content : Box Form Global) (key : Option Name)
    → HasContent s content
    → keys_of (contents_of (keyed s key)) ≡ buffer_keys (form_of content.value)
content-keys s content key h =
    ap keys_of (content-below s content key h) ∙ append-nil (buffer_keys (form_of content.value))

-- several contents
pub contents-keys : (s : Shape) (contents : Forms) (key : Option Name) → HasContents s contents
    → keys_of (contents_of (keyed s key)) ≡ keys_of (forms_from (forms_of contents))
contents-keys s contents key (inl (names, e)) =
    ap (λ z. keys_of (contents_of (keyed z key))) e
    ∙ ap (λ g. keys_of (contents_of g)) (keyed-Row names contents key)
contents-keys s contents key (inr (index, e)) =
    ap (λ z. keys_of (contents_of (keyed z key))) e
    ∙ ap (λ g. keys_of (contents_of g)) (keyed-Union index contents key)
