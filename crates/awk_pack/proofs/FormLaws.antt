-- The forms of types in order, and of the fields of a record.
use Rattle.std.proofs.Common.{◌≡◌, ℕ, suc, ◌+◌, List, [], ◌∷◌, ◌++◌, sum, map, drop, slice_get}
use Rattle.std.proofs.Common.{Option, Some, None, Result, Ok, Err, IfOk, refl, sym, ap, ap₂, ◌∙◌}
use Rattle.std.proofs.Common.{append_assoc, arith}
use Rattle.std.specs.Option.{option_map}
use Rattle.std.proofs.lemmas.Option.{slice_get-map}
use Rattle.awk_base.proofs.Sums.{sum-cons}
use Rattle.awk_types.specs.DataType.{Name, DataType, DataTypes, uni, types_from, row_type, nodes}
use Rattle.awk_types.specs.DataType.{nodes_each}
use Rattle.awk_types.specs.View.{NamedType, names_of, typ_of, field_of}
use Rattle.awk_types.specs.declared.typ.Field.{Field}
use Rattle.awk_types.specs.declared.typ.Typ.TheViews.{out-Field}
use Rattle.awk_base.proofs.Lists.{drop-get}
use Rattle.awk_types.proofs.Views.{field_of-out}
use Rattle.awk_form.specs.FormTree.{FormTree, FormTrees, form, row, union, forms_from}
use Rattle.awk_form.specs.declared.kind.IndexKind.TheVariants.{I64}
use Rattle.awk_pack.specs.PackedForm.{node_key, packed_form, packed_forms, all_nodes, form_each}

pub forms_from-form_each : (k : ℕ) (ts : List DataType)
    → forms_from (form_each k ts) ≡ packed_forms k (types_from ts)
forms_from-form_each k [] = refl
forms_from-form_each k (t ∷ ts) =
    ap (form (packed_form k t)) (forms_from-form_each (k + nodes t) ts)

pub sum-nodes_each : (ts : List DataType) → sum (nodes_each (types_from ts)) ≡ all_nodes ts
sum-nodes_each [] = refl
sum-nodes_each (t ∷ ts) =
    sum-cons (nodes t) (nodes_each (types_from ts)) ∙ ap (λ n. nodes t + n) (sum-nodes_each ts)

-- those left, where the next is numbered n
pub all_nodes-drop : (ts : List DataType) (i : ℕ) (t : DataType) → slice_get ts i ≡ Some t
    → all_nodes (drop i ts) ≡ nodes t + all_nodes (drop (i + 1) ts)
all_nodes-drop ts i t at = ap all_nodes (drop-get ts i t at)

pub form_each-drop : (n m : ℕ) (ts : List DataType) (i : ℕ) (t : DataType)
    (made more : List FormTree) (f : FormTree) → slice_get ts i ≡ Some t → f ≡ packed_form n t
    → m ≡ n + nodes t → more ≡ made ++ f ∷ []
    → more ++ form_each m (drop (i + 1) ts) ≡ made ++ form_each n (drop i ts)
form_each-drop n m ts i t made more f at is next pushed =
    ap₂ (λ fs k. fs ++ form_each k (drop (i + 1) ts)) pushed next
    ∙ append_assoc made (f ∷ []) (form_each (n + nodes t) (drop (i + 1) ts))
    ∙ ap (λ g. made ++ g ∷ form_each (n + nodes t) (drop (i + 1) ts)) is
    ∙ ap (λ us. made ++ form_each n us) (sym (drop-get ts i t at))

-- ---- fields

pub type_at : (fs : List NamedType) (i : ℕ) (f : Field) → slice_get fs i ≡ Some (field_of f)
    → slice_get (map (λ f. f.typ) fs) i ≡ Some (typ_of (out-Field f).typ)
type_at fs i f at =
    slice_get-map (λ f. f.typ) fs i ∙ ap (option_map (λ (f : NamedType). f.typ))
    (at ∙ ap Some (field_of-out f))

-- the names so far and those of the rest, with one name more
pub names_of-drop : (fs : List NamedType) (i : ℕ) (f : Field) (made more : List Name) (name : Name)
    → slice_get fs i ≡ Some (field_of f) → name ≡ (out-Field f).name → more ≡ made ++ name ∷ []
    → made ++ names_of (drop i fs) ≡ names_of fs → more ++ names_of (drop (i + 1) fs) ≡ names_of fs
names_of-drop fs i f made more name at is pushed h =
    ap (λ ns. ns ++ names_of (drop (i + 1) fs)) pushed
    ∙ append_assoc made (name ∷ []) (names_of (drop (i + 1) fs))
    ∙ ap (λ n. made ++ n ∷ names_of (drop (i + 1) fs))
    (is ∙ ap (λ (f : NamedType). f.name) (sym (field_of-out f)))
    ∙ ap (λ gs. made ++ names_of gs) (sym (drop-get fs i (field_of f) at))
    ∙ h

-- ---- a node over its contents

nodes_row : (names : Option (List Name)) (ts : List DataType)
    → nodes (row_type names (types_from ts)) ≡ suc (all_nodes ts)
nodes_row None ts = ap suc (sum-nodes_each ts)
nodes_row (Some ns) ts = ap suc (sum-nodes_each ts)

pub nodes-row : (names : Option (List Name)) (t : DataType) (ts : List DataType)
    → t ≡ row_type names (types_from ts) → nodes t ≡ 1 + all_nodes ts
nodes-row names t ts is = let e : suc (all_nodes ts) ≡ 1 + all_nodes ts = omega arith in
    ap nodes is ∙ nodes_row names ts ∙ e

pub nodes-uni : (t : DataType) (ts : List DataType) → t ≡ uni (types_from ts)
    → nodes t ≡ 1 + all_nodes ts
nodes-uni t ts is = let e : suc (all_nodes ts) ≡ 1 + all_nodes ts = omega arith in
    ap nodes is ∙ ap suc (sum-nodes_each ts) ∙ e

contents_packed : (k n : ℕ) (ts : List DataType) (fs : List FormTree) → n ≡ k + 1
    → fs ≡ form_each n ts → forms_from fs ≡ packed_forms (suc k) (types_from ts)
contents_packed k n ts fs next given =
    let e : n ≡ suc k = omega (arith, next) in
    ap forms_from given ∙ forms_from-form_each n ts ∙ ap (λ j. packed_forms j (types_from ts)) e

row_packed : (names : Option (List Name)) (k : ℕ) (ts : DataTypes)
    → row (Some (node_key k)) names (packed_forms (suc k) ts) ≡ packed_form k (row_type names ts)
row_packed None k ts = refl
row_packed (Some ns) k ts = refl

pub packed-row : (names : Option (List Name)) (k n : ℕ) (key : Name) (t : DataType)
    (ts : List DataType) (fs : List FormTree) → t ≡ row_type names (types_from ts)
    → key ≡ node_key k → n ≡ k + 1 → fs ≡ form_each n ts
    → row (Some key) names (forms_from fs) ≡ packed_form k t
packed-row names k n key t ts fs is keyed next given =
    ap₂ (λ (key : Name) (fs : FormTrees). row (Some key) names fs) keyed
    (contents_packed k n ts fs next given)
    ∙ row_packed names k (types_from ts) ∙ ap (packed_form k) (sym is)

pub packed-uni : (k n : ℕ) (key : Name) (t : DataType) (ts : List DataType) (fs : List FormTree)
    → t ≡ uni (types_from ts) → key ≡ node_key k → n ≡ k + 1 → fs ≡ form_each n ts
    → union (Some key) I64 (forms_from fs) ≡ packed_form k t
packed-uni k n key t ts fs is keyed next given =
    ap₂ (λ (key : Name) (fs : FormTrees). union (Some key) I64 fs) keyed
    (contents_packed k n ts fs next given)
    ∙ ap (packed_form k) (sym is)

-- what holds anyway
pub if_ok : {A E : Type 0} (r : Result A E) (P : Type 0) → P → IfOk r (λ a. P)
if_ok (Ok a) P p = p
if_ok (Err e) P p = tt
