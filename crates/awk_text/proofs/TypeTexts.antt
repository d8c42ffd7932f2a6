-- The texts of types and of fields, place by place.
use Rattle.std.proofs.Common.{◌≡◌, ℕ, ◌-◌, List, [], ◌∷◌, ◌++◌, codes, length, map, get_or, Box}
use Rattle.std.proofs.Common.{Global, refl, ap, sym, ◌∙◌, arith, rules}
use Rattle.std.specs.List.{range_with_len}
use Rattle.awk_types.specs.DataType.{DataType, unknown, types_from}
use Rattle.awk_types.specs.View.{NamedType, typ_step, field_step, fields_step, typs_step, typ_of}
use Rattle.awk_types.specs.View.{field_of, names_of, types_of}
use Rattle.awk_types.specs.declared.typ.Typ.{Typ, Var, Reg, Opt, the_lemmas}
use Rattle.awk_types.specs.declared.typ.Typ.TheFolds.{fold_out-Field}
use Rattle.awk_types.specs.declared.typ.Typ.TheViews.{out-Field}
use Rattle.awk_types.specs.declared.typ.Field.{Field}
use Rattle.awk_layout.specs.declared.datum.Datum.{Datum}
use Rattle.awk_layout.specs.declared.datum.Datum.TheVariants.{Arr}
use Rattle.awk_layout.specs.Datum.{datum_of}
use Rattle.awk_layout.specs.Layout.{Layout}
use Rattle.awk_layout.specs.Valid.{len}
use Rattle.awk_layout.specs.Item.{item}
use Rattle.awk_layout.specs.Typing.{array_type}
use Rattle.awk_json.specs.Text.{joined}
use Rattle.awk_layout.proofs.ArrayItems.{length-array_items}
use Rattle.awk_form.specs.FormText.{Text}
use Rattle.awk_text.specs.TypeText.{type_text, type_texts, field_type_texts, name_text}
use Rattle.awk_text.specs.TypeText.{named_type_text, size_text, option_opening, option_close}
use Rattle.awk_text.specs.TypeText.{enclosed, datum_type_text}
use Rattle.awk_text.proofs.Places.{texts_from}
use Rattle.awk_text.proofs.Ranges.{map-shift}

-- what f gives of the items, by their places
map-places : {A B : Type 0} (f : A → B) (xs : List A) (d : A)
    → map (λ k. f (get_or xs k d)) (range_with_len 0 (length xs)) ≡ map f xs
map-places f [] d = refl
map-places f (x ∷ xs) d =
    ap (λ ys. f x ∷ ys) (map-shift (λ k. f (get_or (x ∷ xs) k d)) 0 (length xs) ∙ map-places f xs d)

-- the type at a place
abbrev pub type_at : List DataType → ℕ → Text
type_at ts k = type_text (get_or ts k unknown)

-- the field at a place
abbrev no_field : NamedType
no_field = record { name = []; typ = unknown }

abbrev pub field_at : List NamedType → ℕ → Text
field_at fields k = named_type_text (get_or fields k no_field)

type_texts-map : (ts : List DataType) → type_texts (types_from ts) ≡ map type_text ts
type_texts-map [] = refl
type_texts-map (t ∷ ts) = ap (λ texts. type_text t ∷ texts) (type_texts-map ts)

field_type_texts-map : (fields : List NamedType)
    → field_type_texts (names_of fields) (type_texts (types_of fields)) ≡ map named_type_text fields
field_type_texts-map [] = refl
field_type_texts-map (f ∷ fields) =
    ap (λ texts. named_type_text f ∷ texts) (field_type_texts-map fields)

all_places : {A : Type 0} (f : A → Text) (xs : List A) (d : A)
    → texts_from (λ k. f (get_or xs k d)) 0 (length xs) ≡ map f xs
all_places f xs d =
    let all : length xs - 0 ≡ length xs = omega arith in
    ap (λ n. map (λ k. f (get_or xs k d)) (range_with_len 0 n)) all ∙ map-places f xs d

-- types between brackets, by their places
pub enclosed_types : (opening : Text) (ts : List DataType) (close : Text)
    → enclosed opening (type_texts (types_from ts)) close
    ≡ opening ++ (joined (codes ", ") (texts_from (type_at ts) 0 (length ts)) ++ close)
enclosed_types opening ts close = ap (λ texts. enclosed opening texts close)
    (type_texts-map ts ∙ sym (all_places type_text ts unknown))

pub enclosed_fields : (opening : Text) (fields : List NamedType) (close : Text)
    → enclosed opening (field_type_texts (names_of fields) (type_texts (types_of fields))) close
    ≡ opening ++ (joined (codes ", ") (texts_from (field_at fields) 0 (length fields)) ++ close)
enclosed_fields opening fields close = ap (λ texts. enclosed opening texts close)
    (field_type_texts-map fields ∙ sym (all_places named_type_text fields no_field))

-- ---- types that hold one type, and fields

type_text-Var : (t : Box Typ Global)
    → type_text (typ_of (Var t)) ≡ codes "var * " ++ type_text (typ_of t.value)
type_text-Var t = search (rules, the_lemmas)

pub said_var : (x : Typ) (t : Box Typ Global) (item : Typ) → x ≡ Var t → item ≡ t.value
    → type_text (typ_of x) ≡ codes "var * " ++ type_text (typ_of item)
said_var x t item is value = ap (λ y. type_text (typ_of y)) is ∙ type_text-Var t
    ∙ ap (λ y. codes "var * " ++ type_text (typ_of y)) (sym value)

type_text-Reg : (n : ℕ) (t : Box Typ Global)
    → type_text (typ_of (Reg n t)) ≡ size_text n ++ type_text (typ_of t.value)
type_text-Reg n t = search (rules, the_lemmas)

pub said_reg : (x : Typ) (n : ℕ) (t : Box Typ Global) (item : Typ) → x ≡ Reg n t → item ≡ t.value
    → type_text (typ_of x) ≡ size_text n ++ type_text (typ_of item)
said_reg x n t item is value = ap (λ y. type_text (typ_of y)) is ∙ type_text-Reg n t
    ∙ ap (λ y. size_text n ++ type_text (typ_of y)) (sym value)

type_text-Opt : (t : Box Typ Global)
    → type_text (typ_of (Opt t))
    ≡ option_opening (typ_of t.value)
    ++ (type_text (typ_of t.value) ++ option_close (typ_of t.value))
type_text-Opt t = search (rules, the_lemmas)

pub said_opt : (x : Typ) (t : Box Typ Global) (before item behind : Typ) → x ≡ Opt t
    → before ≡ t.value → item ≡ t.value → behind ≡ t.value
    → type_text (typ_of x)
    ≡ option_opening (typ_of before)
    ++ (type_text (typ_of item) ++ option_close (typ_of behind))
said_opt x t before item behind is p q r =
    ap (λ y. type_text (typ_of y)) is ∙ type_text-Opt t
    ∙ ap
    (λ y. option_opening (typ_of y)
    ++ (type_text (typ_of t.value) ++ option_close (typ_of t.value))) (sym p)
    ∙ ap
    (λ y. option_opening (typ_of before)
    ++ (type_text (typ_of y) ++ option_close (typ_of t.value))) (sym q)
    ∙ ap
    (λ y. option_opening (typ_of before)
    ++ (type_text (typ_of item) ++ option_close (typ_of y))) (sym r)

-- a field by its name and its type
pub said_field : (f : Field)
    → named_type_text (field_of f)
    ≡ name_text (out-Field f).name ++ (codes ": " ++ type_text (typ_of (out-Field f).typ))
said_field f =
    ap named_type_text
    (fold_out-Field DataType NamedType (List NamedType) (List DataType) typ_step field_step
    fields_step typs_step f)

-- ---- data

-- an array's type behind its length
pub said_array : (d : Datum) (x : Layout) (n : ℕ) → d ≡ Arr x → n ≡ len x
    → datum_type_text (datum_of d) ≡ size_text n ++ type_text (array_type x)
said_array d x n is counted =
    ap (λ y. datum_type_text (datum_of y)) is ∙ ap (λ m. size_text m ++ type_text (array_type x))
    (length-array_items x ∙ sym counted)
