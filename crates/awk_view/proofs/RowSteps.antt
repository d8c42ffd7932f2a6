-- What the calls on rows and on alternatives need, and give.
use Rattle.std.proofs.Common.{◌≡◌, ℕ, ◌<◌, ◌≤◌, List, length, map, slice_get, Option, Some, Result}
use Rattle.std.proofs.Common.{Ok, Err, get_or, ap, ap₂, ◌∙◌, sym, subst, arith}
use Rattle.std.proofs.lemmas.List.{length-map}
use Rattle.std.specs.Prelude.{IfOk}
use Rattle.awk_types.specs.DataType.{Name}
use Rattle.awk_types.specs.Names.{AreDistinct, place_of}
use Rattle.awk_lanes.specs.Column.{Column}
use Rattle.awk_layout.specs.Layout.{Layout, layouts_from, count, empty, rows, union}
use Rattle.awk_layout.specs.Valid.{len, IsValid, AreNames, IsUnion}
use Rattle.awk_layout.specs.Typing.{layout_type}
use Rattle.awk_layout.specs.Contents.{count-layouts_from}
use Rattle.awk_view.specs.Choice.{Choice, field, row_names, beside, apart_from}
use Rattle.awk_layout.proofs.LayoutLists.{layout_list-from}
use Rattle.awk_view.specs.Layouts.{IsChoice, AreAmong, IsFound, row_of_choice, layout_of_choice}
use Rattle.awk_view.proofs.Beside.{get_or-get}
use Rattle.awk_view.proofs.ChoiceLayouts.{length-row_names, beside_within}
use Rattle.awk_view.proofs.ChoiceLayouts.{beside_reaches, rows_found}
use Rattle.awk_view.proofs.ChosenNodes.{valid_of_row, names-beside, names-apart, union_of_choice}
use Rattle.awk_view.proofs.ChosenNodes.{layouts_of_choice-map}

pub IfOk-map : {A E : Type 0} (P Q : A → Type 0) → ((a : A) → P a → Q a) → (r : Result A E)
    → IfOk r P → IfOk r Q
IfOk-map P Q f (Ok a) h = f a h
IfOk-map P Q f (Err e) h = tt

pub names_of_rows : (names : Option (List Name)) (n : ℕ) (xs : List Layout)
    → IsValid (rows names n (layouts_from xs)) → AreNames names (length xs)
names_of_rows names n xs v = subst (AreNames names) (count-layouts_from xs) v.1

pub count_of_names : (all : List Name) (names : Option (List Name)) (n : ℕ) (xs : List Layout)
    → all ≡ row_names names (length xs) → IsValid (rows names n (layouts_from xs))
    → length all ≡ length xs
count_of_names all names n xs e v =
    ap length e ∙ length-row_names names (length xs) (names_of_rows names n xs v)

-- the field at a place
pub place_in : (k : Name) (names : Option (List Name)) (n : ℕ) (xs : List Layout) (p : ℕ)
    → p ≡ place_of k (row_names names (length xs)) → IsValid (rows names n (layouts_from xs))
    → AreAmong (field k) (row_names names (length xs)) → p < length xs
place_in k names n xs p e v f =
    let h = beside_within k names (length xs) (names_of_rows names n xs v) f in omega arith

pub field_at : (k : Name) (names : Option (List Name)) (xs : List Layout) (p : ℕ) (y : Layout)
    → p ≡ place_of k (row_names names (length xs)) → slice_get xs p ≡ Some y
    → y ≡ beside empty k (row_names names (length xs)) xs
field_at k names xs p y e g = sym (get_or-get xs p y empty g) ∙ ap (λ p. get_or xs p empty) e

pub field_reaches : (k : Name) (names : Option (List Name)) (n : ℕ) (xs : List Layout) (y : Layout)
    → y ≡ beside empty k (row_names names (length xs)) xs
    → IsValid (rows names n (layouts_from xs)) → AreAmong (field k) (row_names names (length xs))
    → n ≤ len y
field_reaches k names n xs y e v f =
    subst (λ z. n ≤ len z) (sym e) (beside_reaches k names n xs (names_of_rows names n xs v) v.2 f)

-- rows of wanted fields, and of the others
pub rows_valid_of : (c : Choice) (names : Option (List Name)) (n : ℕ) (xs : List Layout)
    → IsChoice c → IsValid (rows names n (layouts_from xs))
    → AreAmong c (row_names names (length xs)) → IsValid (row_of_choice c names n xs)
rows_valid_of c names n xs d v f =
    valid_of_row c names n xs v.0 d (names_of_rows names n xs v) v.2 v.3 f

pub wanted_names : (ks made : List Name) (xs ys : List Layout) (f : Name → Layout) → made ≡ ks
    → ys ≡ map f ks → AreDistinct ks → (length made ≡ count (layouts_from ys)) × AreDistinct made
wanted_names ks made xs ys f e g d =
    subst (λ ns. (length ns ≡ count (layouts_from ys)) × AreDistinct ns) (sym e)
    (names-beside (Some ks) ks ys d (ap length g ∙ length-map ks f))

pub other_names : (k : Name) (names made : List Name) (n : ℕ) (xs ys : List Layout)
    → made ≡ apart_from k names names → ys ≡ apart_from k names xs
    → IsValid (rows (Some names) n (layouts_from xs))
    → (length made ≡ count (layouts_from ys)) × AreDistinct made
other_names k names made n xs ys e g v =
    subst (λ ns. (length ns ≡ count (layouts_from ys)) × AreDistinct ns) (sym e)
    (subst (λ zs. (length (apart_from k names names) ≡ count (layouts_from zs)) × AreDistinct
    (apart_from k names names)) (sym g)
    (names-apart k (Some names) xs (names_of_rows (Some names) n xs v)))

-- a record, and a union
pub found_in_rows : (c : Choice) (names : Option (List Name)) (n : ℕ) (xs : List Layout)
    (x : Layout) → rows names n (layouts_from xs) ≡ x → IsFound c (layout_type x) → AreAmong c
    (row_names names (length xs))
found_in_rows c names n xs x e f =
    subst (λ ys. AreAmong c (row_names names (length ys))) (layout_list-from xs)
    (rows_found c names (layouts_from xs) (subst (λ y. IsFound c (layout_type y)) (sym e) f))

pub rows_chosen : (c : Choice) (names : Option (List Name)) (n m : ℕ) (xs : List Layout)
    (x : Layout) → m ≡ n → rows names n (layouts_from xs) ≡ x → row_of_choice c names m xs ≡
    layout_of_choice c x
rows_chosen c names n m xs x e f =
    ap₂ (row_of_choice c names) e (sym (layout_list-from xs)) ∙ ap (layout_of_choice c) f

pub union_valid : (c : Choice) (t j t' j' : Column) (xs ys : List Layout) (x : Layout)
    → union t j (layouts_from xs) ≡ x → t' ≡ t → j' ≡ j → ys ≡ map (layout_of_choice c) xs
    → IsValid x → IsFound c (layout_type x) → IsUnion t' j' (layouts_from ys)
union_valid c t j t' j' xs ys x e a b g v f =
    let w = subst IsValid (sym e) v in
    let h = union_of_choice c t j (layouts_from xs) w.2
    (subst (λ y. IsFound c (layout_type y)) (sym e) f) w.1 in
    rw (a, b, g, ← layouts_of_choice-map c xs) h

pub union_chosen : (c : Choice) (t j t' j' : Column) (xs ys : List Layout) (x : Layout)
    → union t j (layouts_from xs) ≡ x → t' ≡ t → j' ≡ j → ys ≡ map (layout_of_choice c) xs
    → union t' j' (layouts_from ys) ≡ layout_of_choice c x
union_chosen c t j t' j' xs ys x e a b g =
    rw (a, b, g, ← layouts_of_choice-map c xs) (ap (layout_of_choice c) e)
