-- Values carried into a union: the tag that each gets, and how the value of its alternative is
-- carried.
use Rattle.std.proofs.Common.{◌≡◌, ◌<◌, ◌∷◌, [], ℕ, suc, zero, List, true, false, length}
use Rattle.std.proofs.Common.{slice_get, Some, refl, ap, subst, arith}
use Rattle.awk_base.proofs.Truths.{not-both}
use Rattle.awk_types.proofs.SimpleLaws.{null_in_option}
use Rattle.awk_types.specs.DataType.{DataType, unknown, leaf, var, reg, rec, tup, opt, uni}
use Rattle.awk_types.specs.DataType.{types_from}
use Rattle.awk_types.specs.Has.{Has, HasAlternative}
use Rattle.awk_types.specs.Parts.{IsSingle}
use Rattle.awk_types.specs.Simple.{ArePlain, is_option, is_union, value_by}
use Rattle.awk_types.specs.Value.{Value, int, truth, null, list, row, alt}
use Rattle.awk_unify.proofs.AfterLaws.{carry_null}
use Rattle.awk_unify.specs.Carries.{carry_at}
use Rattle.awk_unify.specs.Carry as units
use Rattle.awk_unify.specs.Carry.{Carry, Carries, keep, in_items, to_parts, to_alternatives}
use Rattle.awk_unify.specs.Carry.{no_carries, carried, carried_each, carry_list, tag_at}
use Rattle.awk_merge_sides.specs.Lifts.{alternative_tag, alternative_carry}
use Rattle.awk_merge_sides.specs.Sides as sides

-- ---- alternatives at a place

pub alternative-within : (ts : List DataType) (k : ℕ) (v : Value)
    → HasAlternative (types_from ts) k v
    → k < length ts
alternative-within [] k v h = absurd h
alternative-within (t ∷ ts) zero v h = omega arith
alternative-within (t ∷ ts) (suc k) v h = omega (arith, alternative-within ts k v h)

pub alternative-has : (ts : List DataType) (k : ℕ) (t : DataType) (v : Value)
    → slice_get ts k ≡ Some t → HasAlternative (types_from ts) k v → Has t v
alternative-has [] k t v e h = cc
alternative-has (u ∷ ts) zero t v e h = let f : u ≡ t = cc in subst (λ u. Has u v) f h
alternative-has (u ∷ ts) (suc k) t v e h = alternative-has ts k t v e h

pub has-alternative : (ts : List DataType) (k : ℕ) (t : DataType) (v : Value)
    → slice_get ts k ≡ Some t → Has t v → HasAlternative (types_from ts) k v
has-alternative [] k t v e h = cc
has-alternative (u ∷ ts) zero t v e h = let f : t ≡ u = cc in subst (λ u. Has u v) f h
has-alternative (u ∷ ts) (suc k) t v e h = has-alternative ts k t v e h

no-null : (ts : List DataType) (k : ℕ) → ArePlain (types_from ts)
    → HasAlternative (types_from ts) k null → ⊥
no-null [] k p h = h
no-null (t ∷ ts) zero p h = not-both (is_option t) p.0 (null_in_option t h)
no-null (t ∷ ts) (suc k) p h = no-null ts k p.3 h

-- ---- a value of an alternative

by-carry : (ts : List DataType) (g k : ℕ) (fs : Carries) (v : Value) → ArePlain (types_from ts)
    → HasAlternative (types_from ts) g (value_by (carried_each fs) k v)
    → value_by (carried_each fs) k v ≡ carried (carry_at (carry_list fs) k) v
by-carry ts g k no_carries v p h = absurd (no-null ts g p h)
by-carry ts g zero (units.carry f fs) v p h = refl
by-carry ts g (suc k) (units.carry f fs) v p h = by-carry ts g k fs v p h

pub alternative-carried : (ts : List DataType) (f : Carry) (k : ℕ) (v : Value)
    → ArePlain (types_from ts) → Has (uni (types_from ts)) (carried f (alt k v))
    → carried f (alt k v) ≡ alt (alternative_tag f k) (carried (alternative_carry f k) v)
alternative-carried ts keep k v p h = refl
alternative-carried ts (in_items f) k v p h = refl
alternative-carried ts (to_parts ps fs) k v p h = refl
alternative-carried ts (to_alternatives us fs) k v p h =
    ap (alt (tag_at us k)) (by-carry ts (tag_at us k) k fs v p h)

-- ---- a value that is none

has-alt : (t : DataType) (k : ℕ) (v : Value) → is_option t ≡ false → Has t (alt k v)
    → is_union t ≡ true
has-alt unknown k v e h = absurd h
has-alt (leaf p) k v e h = absurd h
has-alt (var t) k v e h = absurd h
has-alt (reg n t) k v e h = absurd h
has-alt (rec ns ts) k v e h = absurd h
has-alt (tup ts) k v e h = absurd h
has-alt (opt t) k v e h = cc
has-alt (uni ts) k v e h = refl

pub single : (t : DataType) (v : Value) → is_option t ≡ false → is_union t ≡ false → Has t v
    → IsSingle v
single t (int z) a b h = tt
single t (truth x) a b h = tt
single t (list vs) a b h = tt
single t (row vs) a b h = tt
single t null a b h = not-both (is_option t) a (null_in_option t h)
single t (alt k v) a b h = not-both (is_union t) b (has-alt t k v a h)

-- what has null is not carried into a union
pub no-option : (t : DataType) (f : Carry) (ts : List DataType)
    → sides.Carries t f (uni (types_from ts)) → is_option t ≡ false
no-option (opt t) f ts c =
    absurd (subst (Has (uni (types_from ts))) (carry_null f) (c null tt))
no-option unknown f ts c = refl
no-option (leaf p) f ts c = refl
no-option (var t) f ts c = refl
no-option (reg n t) f ts c = refl
no-option (rec ns us) f ts c = refl
no-option (tup us) f ts c = refl
no-option (uni us) f ts c = refl

pub single-carried : (ts : List DataType) (f : Carry) (v : Value) → ArePlain (types_from ts)
    → IsSingle v → Has (uni (types_from ts)) (carried f v)
    → carried f v ≡ alt (alternative_tag f 0) (carried (alternative_carry f 0) v)
single-carried ts f null p s h = absurd s
single-carried ts f (alt k v) p s h = absurd s
single-carried ts keep (int z) p s h = absurd h
single-carried ts keep (truth b) p s h = absurd h
single-carried ts keep (list vs) p s h = absurd h
single-carried ts keep (row vs) p s h = absurd h
single-carried ts (in_items f) (int z) p s h = absurd h
single-carried ts (in_items f) (truth b) p s h = absurd h
single-carried ts (in_items f) (list vs) p s h = absurd h
single-carried ts (in_items f) (row vs) p s h = absurd h
single-carried ts (to_parts ps fs) (int z) p s h = absurd h
single-carried ts (to_parts ps fs) (truth b) p s h = absurd h
single-carried ts (to_parts ps fs) (list vs) p s h = absurd h
single-carried ts (to_parts ps fs) (row vs) p s h = absurd h
single-carried ts (to_alternatives us fs) (int z) p s h =
    ap (alt (tag_at us 0)) (by-carry ts (tag_at us 0) 0 fs (int z) p h)
single-carried ts (to_alternatives us fs) (truth b) p s h =
    ap (alt (tag_at us 0)) (by-carry ts (tag_at us 0) 0 fs (truth b) p h)
single-carried ts (to_alternatives us fs) (list vs) p s h =
    ap (alt (tag_at us 0)) (by-carry ts (tag_at us 0) 0 fs (list vs) p h)
single-carried ts (to_alternatives us fs) (row vs) p s h =
    ap (alt (tag_at us 0)) (by-carry ts (tag_at us 0) 0 fs (row vs) p h)

-- ---- the type of an alternative

-- of one whose values are carried into a union
pub alternative-carries : (ts us : List DataType) (f : Carry) (k : ℕ) (u t : DataType)
    → ArePlain (types_from ts) → sides.Carries (uni (types_from us)) f (uni (types_from ts))
    → slice_get us k ≡ Some u → slice_get ts (alternative_tag f k) ≡ Some t
    → sides.Carries u (alternative_carry f k) t
alternative-carries ts us f k u t p c d e = λ v h.
    let has : Has (uni (types_from ts)) (carried f (alt k v))
    = c (alt k v) (has-alternative us k u v d h) in
    alternative-has ts (alternative_tag f k) t (carried (alternative_carry f k) v) e
    (subst (Has (uni (types_from ts))) (alternative-carried ts f k v p has) has)

pub alternative-inside : (ts us : List DataType) (f : Carry) (k : ℕ) (v : Value)
    → ArePlain (types_from ts) → sides.Carries (uni (types_from us)) f (uni (types_from ts))
    → HasAlternative (types_from us) k v → alternative_tag f k < length ts
alternative-inside ts us f k v p c h =
    let has : Has (uni (types_from ts)) (carried f (alt k v)) = c (alt k v) h in
    alternative-within ts (alternative_tag f k) (carried (alternative_carry f k) v)
    (subst (Has (uni (types_from ts))) (alternative-carried ts f k v p has) has)

-- of a type that is no union
pub single-carries : (ts : List DataType) (f : Carry) (u t : DataType) → ArePlain (types_from ts)
    → is_union u ≡ false → sides.Carries u f (uni (types_from ts))
    → slice_get ts (alternative_tag f 0) ≡ Some t → sides.Carries u (alternative_carry f 0) t
single-carries ts f u t p n c e = λ v h.
    let has : Has (uni (types_from ts)) (carried f v) = c v h in
    alternative-has ts (alternative_tag f 0) t (carried (alternative_carry f 0) v) e
    (subst (Has (uni (types_from ts)))
    (single-carried ts f v p (single u v (no-option u f ts c) n h) has) has)

pub single-inside : (ts : List DataType) (f : Carry) (u : DataType) (v : Value)
    → ArePlain (types_from ts) → is_union u ≡ false → sides.Carries u f (uni (types_from ts))
    → Has u v → alternative_tag f 0 < length ts
single-inside ts f u v p n c h =
    let has : Has (uni (types_from ts)) (carried f v) = c v h in
    alternative-within ts (alternative_tag f 0) (carried (alternative_carry f 0) v)
    (subst (Has (uni (types_from ts)))
    (single-carried ts f v p (single u v (no-option u f ts c) n h) has) has)

-- a value of an alternative of a simple union
pub alternative-single : (ts : List DataType) (k : ℕ) (v : Value) → ArePlain (types_from ts)
    → HasAlternative (types_from ts) k v → IsSingle v
alternative-single [] k v p h = absurd h
alternative-single (t ∷ ts) zero v p h = single t v p.0 p.1 h
alternative-single (t ∷ ts) (suc k) v p h = alternative-single ts k v p.3 h
