-- Operands that are joined: their types, their columns and how these are carried.
use Rattle.std.proofs.Common.{◌≡◌, ◌∙◌, ◌+◌, ◌≤◌, ◌∷◌, ◌++◌, [], ℕ, suc, List, Option, Some, None}
use Rattle.std.proofs.Common.{ap, sym, subst, refl, map, drop, length, slice_get, append_assoc}
use Rattle.std.specs.Option.{option_map}
use Rattle.std.proofs.lemmas.List.{append-nil, drop_all}
use Rattle.awk_base.proofs.Lists.{drop-get}
use Rattle.awk_types.proofs.TypeLaws.{types_append}
use Rattle.awk_types.specs.DataType.{DataType, unknown, leaf, var, reg, rec, tup, opt, uni}
use Rattle.awk_types.specs.Has.{Has}
use Rattle.awk_types.specs.IsType.{IsType}
use Rattle.awk_types.specs.Simple.{IsSimple}
use Rattle.awk_types.specs.Value.{Value, int, truth, null, list, row, alt}
use Rattle.awk_layout.specs.Datum.{datum_of, kept}
use Rattle.awk_types.proofs.SimpleLaws.{simple_append}
use Rattle.awk_layout.specs.Typing.{array_type}
use Rattle.awk_layout.specs.declared.datum.Datum.{Datum}
use Rattle.awk_layout.specs.declared.datum.Datum.TheVariants.{Arr, One}
use Rattle.awk_unify.specs.Carry.{Carry}
use Rattle.awk_unify.specs.FieldNames.{with_type}
use Rattle.awk_unify.specs.Unifies.{IsCarriedInto}
use Rattle.awk_unify.specs.UnifyList.{AreCarriedInto}
use Rattle.awk_merge_operands.specs.Concatenate.{lists_type, rows_type, operand_type, operand_types}
use Rattle.awk_merge_operands.specs.Concatenate.{operand_items}
use Rattle.awk_merge_operands.specs.Operands.{column_in, AreCarriedOperands, AreLawful}
use Rattle.awk_merge_sides.specs.Sides.{Carries}
use Rattle.awk_merge_operands.specs.declared.operands.Axis.{Axis}
use Rattle.awk_merge_operands.specs.declared.operands.Axis.TheVariants.{Arrays, Rows}

-- ---- the types of lists

abbrev pub IsLawful : DataType → Type 0
IsLawful t = IsType t × IsSimple t

-- lists are of a type of lists
lists_has : (t a : DataType) → lists_type t ≡ Some a → (v : Value) → Has t v → Has a v
lists_has unknown a e v h = absurd h
lists_has (var t) a e v h = let f : var t ≡ a = cc in subst (λ u. Has u v) f h
lists_has (reg n t) a e (list vs) h =
    let f : var t ≡ a = cc in subst (λ u. Has u (list vs)) f h.1
lists_has (reg n t) a e v h = absurd h
lists_has (leaf p) a e v h = absurd (cc)
lists_has (rec ns ts) a e v h = absurd (cc)
lists_has (tup ts) a e v h = absurd (cc)
lists_has (opt t) a e v h = absurd (cc)
lists_has (uni ts) a e v h = absurd (cc)

optional_has : (o : Option DataType) (t a : DataType) → lists_type t ≡ o → option_map opt o ≡ Some a
    → (v : Value) → Has (opt t) v → Has a v
optional_has None t a e f v h = absurd (cc)
optional_has (Some u) t a e f null h = let g : opt u ≡ a = cc in subst (λ w. Has w null) g tt
optional_has (Some u) t a e f (int z) h =
    let g : opt u ≡ a = cc in subst (λ w. Has w (int z)) g (lists_has t u e (int z) h)
optional_has (Some u) t a e f (truth b) h =
    let g : opt u ≡ a = cc in subst (λ w. Has w (truth b)) g (lists_has t u e (truth b) h)
optional_has (Some u) t a e f (list vs) h =
    let g : opt u ≡ a = cc in subst (λ w. Has w (list vs)) g (lists_has t u e (list vs) h)
optional_has (Some u) t a e f (row vs) h =
    let g : opt u ≡ a = cc in subst (λ w. Has w (row vs)) g (lists_has t u e (row vs) h)
optional_has (Some u) t a e f (alt k v) h =
    let g : opt u ≡ a = cc in subst (λ w. Has w (alt k v)) g (lists_has t u e (alt k v) h)

rows_has : (t a : DataType) → rows_type t ≡ Some a → (v : Value) → Has t v → Has a v
rows_has (opt t) a e v h = optional_has (lists_type t) t a refl e v h
rows_has unknown a e v h = lists_has unknown a e v h
rows_has (leaf p) a e v h = lists_has (leaf p) a e v h
rows_has (var t) a e v h = lists_has (var t) a e v h
rows_has (reg n t) a e v h = lists_has (reg n t) a e v h
rows_has (rec ns ts) a e v h = lists_has (rec ns ts) a e v h
rows_has (tup ts) a e v h = lists_has (tup ts) a e v h
rows_has (uni ts) a e v h = lists_has (uni ts) a e v h

-- ---- one operand

-- its values are carried as those of its type are
carried_operand : (axis : Axis) (d : Datum) (a t : DataType) (f : Carry)
    → operand_type axis (datum_of d) ≡ Some a → IsCarriedInto a f t
    → Carries (array_type (kept d)) f t
carried_operand Arrays (Arr x) a t f e h =
    let g : a ≡ array_type x = cc in
    λ v k. h.values v (subst (λ u. Has u v) (sym g) k)
carried_operand Rows (Arr x) a t f e h = λ v k. h.values v (rows_has (array_type x) a e v k)
carried_operand axis (One x) a t f e h = absurd (cc)

operand_column : (axis : Axis) (d : Datum) (a : DataType) → operand_type axis (datum_of d) ≡ Some a
    → operand_items (datum_of d) ≡ column_in d
operand_column axis (Arr x) a e = refl
operand_column axis (One x) a e = absurd (cc)

-- ---- all of them

pub record IsBefore (t : Option DataType) (ts : Option (List DataType)) (us : List DataType) : Type
    0 where
  pub first : DataType
  pub rest : List DataType
  pub first_is : t ≡ Some first
  pub rest_is : ts ≡ Some rest
  pub whole : us ≡ first ∷ rest

pub before_is : (t : Option DataType) (ts : Option (List DataType)) (us : List DataType)
    → with_type t ts ≡ Some us → IsBefore t ts us
before_is None ts us e = absurd (cc)
before_is (Some t) None us e = absurd (cc)
before_is (Some t) (Some ts) us e =
    let f : us ≡ t ∷ ts = cc in
    record { first = t; rest = ts; first_is = refl; rest_is = refl; whole = f }

carried_first : (axis : Axis) (d : Datum) (ds : List Datum) (a : DataType) (rest : List DataType)
    (fs : List Carry) (t : DataType) → operand_type axis (datum_of d) ≡ Some a
    → ((gs : List Carry) → AreCarriedInto rest gs t → AreCarriedOperands ds gs t)
    → AreCarriedInto (a ∷ rest) fs t → AreCarriedOperands (d ∷ ds) fs t
carried_first axis d ds a rest [] t e g h = absurd h
carried_first axis d ds a rest (f ∷ fs) t e g h = (carried_operand axis d a t f e h.0, g fs h.1)

none_carried : (fs : List Carry) (t : DataType) → AreCarriedInto [] fs t
    → AreCarriedOperands [] fs t
none_carried [] t h = tt
none_carried (f ∷ fs) t h = absurd h

pub carried_operands : (axis : Axis) (ds : List Datum) (ts : List DataType) (fs : List Carry)
    (t : DataType) → operand_types axis (map datum_of ds) ≡ Some ts → AreCarriedInto ts fs t
    → AreCarriedOperands ds fs t
carried_operands axis [] ts fs t e h =
    let no : ts ≡ [] = cc in none_carried fs t (subst (λ us. AreCarriedInto us fs t) no h)
carried_operands axis (d ∷ ds) ts fs t e h =
    let b = before_is (operand_type axis (datum_of d)) (operand_types axis (map datum_of ds)) ts
    e in
    carried_first axis d ds b.first b.rest fs t b.first_is
    (λ gs k. carried_operands axis ds b.rest gs t b.rest_is k)
    (subst (λ us. AreCarriedInto us fs t) b.whole h)

pub operand_columns : (axis : Axis) (ds : List Datum) (ts : List DataType)
    → operand_types axis (map datum_of ds) ≡ Some ts
    → map operand_items (map datum_of ds) ≡ map column_in ds
operand_columns axis [] ts e = refl
operand_columns axis (d ∷ ds) ts e =
    let b = before_is (operand_type axis (datum_of d)) (operand_types axis (map datum_of ds)) ts
    e in
    ap (λ vs. vs ∷ map operand_items (map datum_of ds)) (operand_column axis d b.first b.first_is)
    ∙ ap (λ vss. column_in d ∷ vss) (operand_columns axis ds b.rest b.rest_is)

-- there is a lift for each
pub length-lifts : (ds : List Datum) (fs : List Carry) (t : DataType) → AreCarriedOperands ds fs t
    → length fs ≡ length ds
length-lifts [] [] t h = refl
length-lifts [] (f ∷ fs) t h = absurd h
length-lifts (d ∷ ds) [] t h = absurd h
length-lifts (d ∷ ds) (f ∷ fs) t h = ap suc (length-lifts ds fs t h.1)

-- ---- the types one by one

abbrev pub types_then : List DataType → Option (List DataType) → Option (List DataType)
types_then ts None = None
types_then ts (Some us) = Some (ts ++ us)

then_before : (ts : List DataType) (t : DataType) (o : Option (List DataType))
    → types_then ts (with_type (Some t) o) ≡ types_then (ts ++ t ∷ []) o
then_before ts t None = refl
then_before ts t (Some us) = ap Some (sym (append_assoc ts (t ∷ []) us))

pub types_next : (axis : Axis) (ds : List Datum) (i : ℕ) (d : Datum) (t : DataType)
    (ts us : List DataType) (all : Option (List DataType)) → slice_get ds i ≡ Some d
    → Some t ≡ operand_type axis (datum_of d) → us ≡ ts ++ t ∷ []
    → types_then ts (operand_types axis (map datum_of (drop i ds))) ≡ all
    → types_then us (operand_types axis (map datum_of (drop (i + 1) ds))) ≡ all
types_next axis ds i d t ts us all e f g h =
    let rest : Option (List DataType) = operand_types axis (map datum_of (drop (i + 1) ds)) in
    ap (λ ws. types_then ws rest) g ∙ sym (then_before ts t rest)
    ∙ ap (λ o. types_then ts (with_type o rest)) f
    ∙ sym (ap (λ xs. types_then ts (operand_types axis (map datum_of xs))) (drop-get ds i d e)) ∙ h

pub types_none : (axis : Axis) (ds : List Datum) (i : ℕ) (d : Datum) (ts : List DataType)
    (all : Option (List DataType)) → slice_get ds i ≡ Some d → None ≡ operand_type axis (datum_of d)
    → types_then ts (operand_types axis (map datum_of (drop i ds))) ≡ all → None ≡ all
types_none axis ds i d ts all e f h =
    let rest : Option (List DataType) = operand_types axis (map datum_of (drop (i + 1) ds)) in
    ap (λ o. types_then ts (with_type o rest)) f
    ∙ sym (ap (λ xs. types_then ts (operand_types axis (map datum_of xs))) (drop-get ds i d e)) ∙ h

pub types_last : (axis : Axis) (ds : List Datum) (i : ℕ) (ts : List DataType)
    (all : Option (List DataType)) → length ds ≤ i
    → types_then ts (operand_types axis (map datum_of (drop i ds))) ≡ all → Some ts ≡ all
types_last axis ds i ts all l h =
    ap Some (sym (append-nil ts))
    ∙ sym (ap (λ xs. types_then ts (operand_types axis (map datum_of xs))) (drop_all i ds l)) ∙ h

-- ---- that they are types

pub lawful_more : (ts us : List DataType) (t : DataType) → us ≡ ts ++ t ∷ [] → IsLawful t
    → AreLawful ts → AreLawful us
lawful_more ts us t e h k = subst AreLawful (sym e) (record {
  are_types = types_append ts (t ∷ []) k.are_types (h.0, tt);
  are_simple = simple_append ts (t ∷ []) k.are_simple (h.1, tt);
})
