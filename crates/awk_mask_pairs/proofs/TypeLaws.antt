-- The types of masks and of what they are over, a level at a time.
use Rattle.std.specs.Prelude.{◌≡◌, ℕ, suc, ◌≤◌, refl, Bool, true, false, ◌||◌, ◌==◌, Some}
use Rattle.std.specs.Prelude.{None}
use Rattle.std.proofs.Common.{arith}
use Rattle.std.proofs.lemmas.Bool.{or_parts}
use Rattle.awk_types.specs.DataType.{DataType, unknown, leaf, var, reg, rec, tup, opt, uni}
use Rattle.awk_types.specs.DataType.{depth}
use Rattle.awk_types.specs.Parts.{item_of}
use Rattle.awk_types.specs.Simple.{present, option_if, is_option, simple, IsSimple}
use Rattle.awk_types.specs.Value.{Value}
use Rattle.awk_types.specs.declared.primitive.Primitive.{Primitive}
use Rattle.awk_types.specs.declared.primitive.Primitive.TheVariants as primitive
use Rattle.awk_columns.specs.ListClass.{Class, list_type}
use Rattle.awk_frames.specs.Framed.{over_type}
use Rattle.awk_mask_pairs.specs.MaskTypes.{is_bare, is_innermost, mask_levels, has_ones, is_unit}
use Rattle.awk_mask_pairs.specs.MaskTypes.{class_of, IsMasking}
use Rattle.awk_mask_pairs.specs.MaskValues.{masks, has_items, masked_type, masked_value}
use Rattle.awk_mask_pairs.specs.MaskValues.{of_lists, in_pairs, differs, differ_inside}

-- ---- lists, optional or not

pub present-level : (a : Bool) (c : Class) (u : DataType)
    → present (option_if a (list_type c u)) ≡ list_type c u
present-level true c u = refl
present-level false None u = refl
present-level false (Some n) u = refl

pub option-level : (a : Bool) (c : Class) (u : DataType)
    → is_option (option_if a (list_type c u)) ≡ a
option-level true c u = refl
option-level false None u = refl
option-level false (Some n) u = refl

pub item-level : (c : Class) (u : DataType) → item_of (list_type c u) ≡ u
item-level None u = refl
item-level (Some n) u = refl

pub class-level : (c : Class) (u : DataType) → class_of (list_type c u) ≡ c
class-level None u = refl
class-level (Some n) u = refl

-- ---- masks over them

pub masked_type-level : (a b : Bool) (c d : Class) (t u : DataType)
    → masked_type (option_if a (list_type c u)) (option_if b (list_type d t))
    ≡ option_if a (option_if b (list_type d (masked_type u t)))
masked_type-level true true None None t u = refl
masked_type-level true true None (Some n) t u = refl
masked_type-level true true (Some k) None t u = refl
masked_type-level true true (Some k) (Some n) t u = refl
masked_type-level true false None None t u = refl
masked_type-level true false None (Some n) t u = refl
masked_type-level true false (Some k) None t u = refl
masked_type-level true false (Some k) (Some n) t u = refl
masked_type-level false true None None t u = refl
masked_type-level false true None (Some n) t u = refl
masked_type-level false true (Some k) None t u = refl
masked_type-level false true (Some k) (Some n) t u = refl
masked_type-level false false None None t u = refl
masked_type-level false false None (Some n) t u = refl
masked_type-level false false (Some k) None t u = refl
masked_type-level false false (Some k) (Some n) t u = refl

pub masked_value-level : (a : Bool) (c : Class) (u : DataType) (keep : Bool)
    → masked_value (option_if a (list_type c u)) keep
    ≡ of_lists (in_pairs (masked_value u keep))
masked_value-level true None u keep = refl
masked_value-level true (Some n) u keep = refl
masked_value-level false None u keep = refl
masked_value-level false (Some n) u keep = refl

pub differs-level : (a : Bool) (c : Class) (u : DataType)
    → differs (option_if a (list_type c u)) ≡ differ_inside (differs u)
differs-level true None u = refl
differs-level true (Some n) u = refl
differs-level false None u = refl
differs-level false (Some n) u = refl

pub over_type-level : (e : Bool) (d : Class) (t z : DataType)
    → over_type (option_if e (list_type d t)) z ≡ option_if e (list_type d (over_type t z))
over_type-level true None t z = refl
over_type-level true (Some n) t z = refl
over_type-level false None t z = refl
over_type-level false (Some n) t z = refl

-- an option of an option is one
pub simple-level : (a b : Bool) (d : Class) (t : DataType)
    → simple (option_if a (option_if b (list_type d t)))
    ≡ option_if (b || (a || false)) (list_type d (simple t))
simple-level true true None t = refl
simple-level true true (Some n) t = refl
simple-level true false None t = refl
simple-level true false (Some n) t = refl
simple-level false true None t = refl
simple-level false true (Some n) t = refl
simple-level false false None t = refl
simple-level false false (Some n) t = refl

-- ---- each mask is one of so many levels

truths_only : (p : Primitive) (t : DataType) → masks (leaf p) t ≡ true → is_bare (leaf p) ≡ true
truths_only primitive.Bool t h = refl
truths_only primitive.I8 t h = cc
truths_only primitive.I16 t h = cc
truths_only primitive.I32 t h = cc
truths_only primitive.I64 t h = cc
truths_only primitive.U8 t h = cc
truths_only primitive.U16 t h = cc
truths_only primitive.U32 t h = cc
truths_only primitive.U64 t h = cc

over-items : (n : ℕ) (a : Bool) (c : Class) (u t : DataType)
    → ((w : DataType) → masks u w ≡ true → IsMasking n w u) → is_unit c ≡ false
    → has_items (masks u) t ≡ true → IsMasking (suc n) t (option_if a (list_type c u))
over-items n a c u (var t) f s h =
    (a, false, c, None, t, u, record { items = refl; mask = refl; sized = s }, f t h)
over-items n a c u (reg k t) f s h =
    (a, false, c, Some k, t, u, record { items = refl; mask = refl; sized = s }, f t h)
over-items n a c u (opt (var t)) f s h =
    (a, true, c, None, t, u, record { items = refl; mask = refl; sized = s }, f t h)
over-items n a c u (opt (reg k t)) f s h =
    (a, true, c, Some k, t, u, record { items = refl; mask = refl; sized = s }, f t h)
over-items n a c u unknown f s h = absurd cc
over-items n a c u (leaf p) f s h = absurd cc
over-items n a c u (rec ns ts) f s h = absurd cc
over-items n a c u (tup ts) f s h = absurd cc
over-items n a c u (uni ts) f s h = absurd cc
over-items n a c u (opt unknown) f s h = absurd cc
over-items n a c u (opt (leaf p)) f s h = absurd cc
over-items n a c u (opt (rec ns ts)) f s h = absurd cc
over-items n a c u (opt (tup ts)) f s h = absurd cc
over-items n a c u (opt (uni ts)) f s h = absurd cc
over-items n a c u (opt (opt t)) f s h = absurd cc

pub masking : (u t : DataType) → IsSimple u → has_ones u ≡ false → masks u t ≡ true
    → IsMasking (mask_levels u) t u
masking unknown t s o h = refl
masking (leaf p) t s o h = truths_only p t h
masking (var u) t s o h =
    over-items (mask_levels u) false None u t (λ w g. masking u w s o g) refl h
masking (reg k u) t s o h =
    let both : ((k == 1) ≡ false) × (has_ones u ≡ false) = or_parts (k == 1) (has_ones u) o in
    over-items (mask_levels u) false (Some k) u t (λ w g. masking u w s both.1 g) both.0 h
masking (rec ns ts) t s o h = absurd cc
masking (tup ts) t s o h = absurd cc
masking (uni ts) t s o h = absurd cc
masking (opt unknown) t s o h = absurd cc
masking (opt (leaf p)) t s o h = truths_only p t h
masking (opt (var u)) t s o h =
    over-items (mask_levels u) true None u t (λ w g. masking u w s.1 o g) refl h
masking (opt (reg k u)) t s o h =
    let both : ((k == 1) ≡ false) × (has_ones u ≡ false) = or_parts (k == 1) (has_ones u) o in
    over-items (mask_levels u) true (Some k) u t (λ w g. masking u w s.1 both.1 g) both.0 h
masking (opt (rec ns ts)) t s o h = absurd cc
masking (opt (tup ts)) t s o h = absurd cc
masking (opt (uni ts)) t s o h = absurd cc
masking (opt (opt u)) t s o h = absurd (contra s.0)
  where
    contra : true ≡ false → ⊥
    contra e = cc

-- ---- masks that are not of lists

bare-alike : (u : DataType) (m v : Value) → is_bare u ≡ true → differs u m v ≡ false
bare-alike unknown m v h = refl
bare-alike (leaf p) m v h = refl
bare-alike (var u) m v h = cc
bare-alike (reg n u) m v h = cc
bare-alike (rec ns ts) m v h = refl
bare-alike (tup ts) m v h = refl
bare-alike (opt u) m v h = cc
bare-alike (uni ts) m v h = refl

pub innermost-alike : (u : DataType) (m v : Value) → is_innermost u ≡ true
    → differs u m v ≡ false
innermost-alike unknown m v h = refl
innermost-alike (leaf p) m v h = refl
innermost-alike (var u) m v h = cc
innermost-alike (reg n u) m v h = cc
innermost-alike (rec ns ts) m v h = refl
innermost-alike (tup ts) m v h = refl
innermost-alike (opt u) m v h = bare-alike u m v h
innermost-alike (uni ts) m v h = refl

-- ---- how many levels

pub levels-depth : (u : DataType) → mask_levels u ≤ depth u
levels-depth (var u) = omega (arith, levels-depth u)
levels-depth (reg n u) = omega (arith, levels-depth u)
levels-depth (opt u) = omega (arith, levels-depth u)
levels-depth unknown = omega arith
levels-depth (leaf p) = omega arith
levels-depth (rec ns ts) = omega arith
levels-depth (tup ts) = omega arith
levels-depth (uni ts) = omega arith
