-- The types of forms in a list, and what makes each of them lawful.
use Rattle.std.proofs.Common.{◌≡◌, ◌<◌, ℕ, suc, ◌+◌, ◌-◌, List, [], ◌∷◌, length, map, drop, get_or}
use Rattle.std.proofs.Common.{slice_get, Option, Some, refl, ap, ◌∙◌, subst, arith}
use Rattle.awk_types.specs.DataType.{DataType, type, reg, uni, types_from, row_type}
use Rattle.awk_form.specs.FormTree.{FormTree, forms_from}
use Rattle.awk_form.specs.FormType.{type_of, types_of, shaped}
use Rattle.awk_form.specs.Lawful.{IsLawful, AreLawful, AreNamesOf, count}
use Rattle.std.proofs.lemmas.List.{drop_more}
use Rattle.std.proofs.lemmas.Option.{slice_get_within, get_or_from_slice_get}
use Rattle.awk_types.specs.declared.name.Names.{Names}
use Rattle.awk_form.specs.View.{form_of, forms_of}
use Rattle.awk_form.specs.declared.form.Form.{Form}
use Rattle.awk_form.specs.declared.form.Forms.{Forms}
use Rattle.awk_form.specs.declared.form.Shape.{Row, Union}
use Rattle.awk_form.specs.declared.form.Shape.TheViews.{out-Form}
use Rattle.awk_form.specs.declared.kind.IndexKind.{IndexKind}
use Rattle.awk_base.proofs.Left.{map_left}
use Rattle.awk_form.proofs.Views.{form_of-shape, keyed-Row, keyed-Union}

pub types_of-from : (fs : List FormTree) → types_of (forms_from fs) ≡ types_from (map type_of fs)
types_of-from [] = refl
types_of-from (f ∷ fs) = ap (type (type_of f)) (types_of-from fs)

pub count-from : (fs : List FormTree) → count (forms_from fs) ≡ length fs
count-from [] = refl
count-from (f ∷ fs) = ap suc (count-from fs)

-- ---- a form whose shape is known

pub type-Union : (f : Form) (index : IndexKind) (contents : Forms)
    → (out-Form f).shape ≡ Union index contents
    → type_of (form_of f) ≡ uni (types_from (map type_of (forms_of contents)))
type-Union f index contents is =
    ap type_of
    (form_of-shape f (Union index contents) is ∙ keyed-Union index contents (out-Form f).key)
    ∙ ap uni (types_of-from (forms_of contents))

pub type-Row : (f : Form) (names : Option Names) (contents : Forms)
    → (out-Form f).shape ≡ Row names contents
    → type_of (form_of f) ≡ row_type names (types_from (map type_of (forms_of contents)))
type-Row f names contents is =
    ap type_of (form_of-shape f (Row names contents) is ∙ keyed-Row names contents (out-Form f).key)
    ∙ ap (row_type names) (types_of-from (forms_of contents))

pub lawful-Row : (f : Form) (names : Option Names) (contents : Forms)
    → (out-Form f).shape ≡ Row names contents → IsLawful (form_of f)
    → AreNamesOf (forms_from (forms_of contents)) names × AreLawful (forms_from (forms_of contents))
lawful-Row f names contents is h =
    subst IsLawful
    (form_of-shape f (Row names contents) is ∙ keyed-Row names contents (out-Form f).key) h

pub lawful_left : (fs : List Form) (i : ℕ) (f d : Form) → i < length fs → f ≡ get_or fs i d
    → AreLawful (forms_from (map form_of (drop i fs)))
    → IsLawful (form_of f) × AreLawful (forms_from (map form_of (drop (i + 1) fs)))
lawful_left fs i f d within is h =
    subst (λ gs. AreLawful (forms_from gs)) (map_left form_of fs i f d within is) h

-- the lists of the numbers from one place before
pub shaped_back : (ns : List ℕ) (i n : ℕ) (t : DataType) → 0 < i → slice_get ns (i - 1) ≡ Some n
    → shaped (drop (i - 1) ns) t ≡ reg n (shaped (drop i ns) t)
shaped_back ns i n t some at =
    let next : i - 1 + 1 ≡ i = omega arith in
    ap (λ ms. shaped ms t)
    (drop_more ns (i - 1) n (slice_get_within ns (i - 1) n at)
    ∙ ap (λ m. m ∷ drop (i - 1 + 1) ns) (get_or_from_slice_get ns (i - 1) n n at))
    ∙ ap (λ k. reg n (shaped (drop k ns) t)) next
