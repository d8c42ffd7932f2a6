-- What carries keep: nulls, shapes of values, and the values of parts of types.
use Rattle.std.proofs.Common.{◌≡◌, ◌≢◌, true, false, refl, subst, sym, ◌∙◌}
use Rattle.awk_types.proofs.SimpleLaws.{has_option, null_in_option}
use Rattle.awk_types.specs.DataType.{DataType, leaf, opt, rec, reg, tup, uni, unknown, var}
use Rattle.awk_types.specs.Has.{Has}
use Rattle.awk_types.specs.Parts.{IsRowType}
use Rattle.awk_types.specs.Simple.{is_option}
use Rattle.awk_types.specs.Value.{Value, alt, int, list, null, row, truth}
use Rattle.awk_types.specs.declared.primitive.Primitive.{Primitive}
use Rattle.awk_unify.proofs.AfterLaws.{carry_null}
use Rattle.awk_unify.specs.Carry.{Carry, carried, in_items, keep, to_alternatives, to_parts}
use Rattle.awk_merge_sides.specs.Sides.{Carries}

-- ---- nulls

-- only null is carried to null
pub carried_null : (f : Carry) (v : Value) → carried f v ≡ null → v ≡ null
carried_null keep v e = e
carried_null (in_items f) (int z) e = cc
carried_null (in_items f) (truth b) e = cc
carried_null (in_items f) null e = refl
carried_null (in_items f) (list vs) e = cc
carried_null (in_items f) (row vs) e = cc
carried_null (in_items f) (alt k v) e = cc
carried_null (to_parts ps fs) (int z) e = cc
carried_null (to_parts ps fs) (truth b) e = cc
carried_null (to_parts ps fs) null e = refl
carried_null (to_parts ps fs) (list vs) e = cc
carried_null (to_parts ps fs) (row vs) e = cc
carried_null (to_parts ps fs) (alt k v) e = cc
carried_null (to_alternatives ts fs) (int z) e = cc
carried_null (to_alternatives ts fs) (truth b) e = cc
carried_null (to_alternatives ts fs) null e = refl
carried_null (to_alternatives ts fs) (list vs) e = cc
carried_null (to_alternatives ts fs) (row vs) e = cc
carried_null (to_alternatives ts fs) (alt k v) e = cc

-- a type that is no option has no null
pub has_no_null : (t : DataType) (v : Value) → is_option t ≡ false → Has t v → v ≢ null
has_no_null t v n h e =
    let yes : is_option t ≡ true = null_in_option t (subst (Has t) e h) in
    let both : true ≡ false = sym yes ∙ n in cc

-- a value of an option that is not null is one of what it is of
pub has_present : (t : DataType) (v : Value) → v ≢ null → Has (opt t) v → Has t v
has_present t (int z) n h = h
has_present t (truth b) n h = h
has_present t null n h = absurd (n refl)
has_present t (list vs) n h = h
has_present t (row vs) n h = h
has_present t (alt k v) n h = h

-- present values of an option
pub Carries-opt : (a t : DataType) (f : Carry) → Carries (opt a) f t → Carries a f t
Carries-opt a t f c v h = c v (has_option a v h)

-- values of no option become present ones
pub Carries-present : (a u : DataType) (f : Carry) → is_option a ≡ false → Carries a f (opt u)
    → Carries a f u
Carries-present a u f n c v h =
    has_present u (carried f v) (λ e. has_no_null a v n h (carried_null f v e)) (c v h)

-- values of a type without null are of no option
pub no_option : (a t : DataType) (f : Carry) → (Has t null → ⊥) → Carries a f t
    → is_option a ≡ false
no_option unknown t f n c = refl
no_option (leaf p) t f n c = refl
no_option (var a) t f n c = refl
no_option (reg k a) t f n c = refl
no_option (rec ns ts) t f n c = refl
no_option (tup ts) t f n c = refl
no_option (opt a) t f n c = absurd (n (subst (Has t) (carry_null f) (c null tt)))
no_option (uni ts) t f n c = refl

-- ---- shapes

abbrev pub IsScalar : Value → Type 0
IsScalar (int z) = Unit {0}
IsScalar (truth b) = Unit {0}
IsScalar v = ⊥

abbrev pub IsRow : Value → Type 0
IsRow (row vs) = Unit {0}
IsRow v = ⊥

pub leaf_scalar : (p : Primitive) (v : Value) → Has (leaf p) v → IsScalar v
leaf_scalar p (int z) h = tt
leaf_scalar p (truth b) h = tt
leaf_scalar p v h = absurd h

-- what becomes a number is that number
pub scalar_stays : (f : Carry) (v : Value) → IsScalar (carried f v) → carried f v ≡ v
scalar_stays keep v h = refl
scalar_stays (in_items f) (int z) h = refl
scalar_stays (in_items f) (truth b) h = refl
scalar_stays (in_items f) null h = refl
scalar_stays (in_items f) (list vs) h = absurd h
scalar_stays (in_items f) (row vs) h = refl
scalar_stays (in_items f) (alt k v) h = refl
scalar_stays (to_parts ps fs) (int z) h = refl
scalar_stays (to_parts ps fs) (truth b) h = refl
scalar_stays (to_parts ps fs) null h = refl
scalar_stays (to_parts ps fs) (list vs) h = refl
scalar_stays (to_parts ps fs) (row vs) h = absurd h
scalar_stays (to_parts ps fs) (alt k v) h = refl
scalar_stays (to_alternatives ts fs) (int z) h = absurd h
scalar_stays (to_alternatives ts fs) (truth b) h = absurd h
scalar_stays (to_alternatives ts fs) null h = refl
scalar_stays (to_alternatives ts fs) (list vs) h = absurd h
scalar_stays (to_alternatives ts fs) (row vs) h = absurd h
scalar_stays (to_alternatives ts fs) (alt k v) h = absurd h

pub row_before : (f : Carry) (v : Value) → IsRow (carried f v) → IsRow v
row_before keep v h = h
row_before (in_items f) (list vs) h = absurd h
row_before (in_items f) (int z) h = h
row_before (in_items f) (truth b) h = h
row_before (in_items f) null h = h
row_before (in_items f) (row vs) h = tt
row_before (in_items f) (alt k v) h = h
row_before (to_parts ps fs) (list vs) h = h
row_before (to_parts ps fs) (int z) h = h
row_before (to_parts ps fs) (truth b) h = h
row_before (to_parts ps fs) null h = h
row_before (to_parts ps fs) (row vs) h = tt
row_before (to_parts ps fs) (alt k v) h = h
row_before (to_alternatives ts fs) (list vs) h = absurd h
row_before (to_alternatives ts fs) (int z) h = absurd h
row_before (to_alternatives ts fs) (truth b) h = absurd h
row_before (to_alternatives ts fs) null h = absurd h
row_before (to_alternatives ts fs) (row vs) h = tt
row_before (to_alternatives ts fs) (alt k v) h = absurd h

abbrev pub IsLeafType : DataType → Type 0
IsLeafType (leaf p) = Unit {0}
IsLeafType t = ⊥

row_type_of : (a : DataType) (v : Value) → is_option a ≡ false → IsRow v → Has a v → IsRowType a
row_type_of unknown (row vs) n s h = absurd h
row_type_of (leaf p) (row vs) n s h = absurd h
row_type_of (var a) (row vs) n s h = absurd h
row_type_of (reg k a) (row vs) n s h = absurd h
row_type_of (rec ns ts) (row vs) n s h = tt
row_type_of (tup ts) (row vs) n s h = tt
row_type_of (opt a) (row vs) n s h = cc
row_type_of (uni ts) (row vs) n s h = absurd h
row_type_of a (int z) n s h = absurd s
row_type_of a (truth b) n s h = absurd s
row_type_of a null n s h = absurd s
row_type_of a (list vs) n s h = absurd s
row_type_of a (alt k v) n s h = absurd s

leaf_type_of : (a : DataType) (v : Value) → is_option a ≡ false → IsScalar v → Has a v
    → IsLeafType a
leaf_type_of unknown (int z) n s h = absurd h
leaf_type_of unknown (truth b) n s h = absurd h
leaf_type_of (leaf p) v n s h = tt
leaf_type_of (var a) (int z) n s h = absurd h
leaf_type_of (var a) (truth b) n s h = absurd h
leaf_type_of (reg k a) (int z) n s h = absurd h
leaf_type_of (reg k a) (truth b) n s h = absurd h
leaf_type_of (rec ns ts) (int z) n s h = absurd h
leaf_type_of (rec ns ts) (truth b) n s h = absurd h
leaf_type_of (tup ts) (int z) n s h = absurd h
leaf_type_of (tup ts) (truth b) n s h = absurd h
leaf_type_of (opt a) v n s h = cc
leaf_type_of (uni ts) (int z) n s h = absurd h
leaf_type_of (uni ts) (truth b) n s h = absurd h
leaf_type_of a null n s h = absurd s
leaf_type_of a (list vs) n s h = absurd s
leaf_type_of a (row vs) n s h = absurd s
leaf_type_of a (alt k v) n s h = absurd s

pub leaves_before : (p : Primitive) (a : DataType) (f : Carry) (v : Value) → Has a v
    → Carries a f (leaf p) → IsLeafType a
leaves_before p a f v h c =
    let s : IsScalar (carried f v) = leaf_scalar p (carried f v) (c v h) in
    leaf_type_of a v (no_option a (leaf p) f (λ k. k) c) (subst IsScalar (scalar_stays f v s) s) h

pub rows_before : (a t : DataType) (f : Carry) (v : Value) → Has a v → (Has t null → ⊥)
    → ((w : Value) → Has t w → IsRow w) → Carries a f t → IsRowType a
rows_before a t f v h n r c =
    row_type_of a v (no_option a t f n c) (row_before f v (r (carried f v) (c v h))) h

-- ---- items of lists
