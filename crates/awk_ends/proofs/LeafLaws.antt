-- The leaves of types, and the types at the ends of a pairing.
use Rattle.std.proofs.Common.{◌≡◌, ℕ, zero, suc, Bool, true, false, refl, ap, ◌∙◌}
use Rattle.std.specs.Prelude.{List, [], ◌∷◌, map, length, if◌then◌else◌, Option, None}
use Rattle.std.specs.List.{list_all}
use Rattle.std.proofs.lemmas.Bool.{not-false}
use Rattle.std.proofs.lemmas.List.{length-map}
use Rattle.awk_types.specs.DataType.{DataType, unknown, leaf, var, reg, rec, tup, opt, uni}
use Rattle.awk_types.specs.Datum.{Datum, datum_type}
use Rattle.awk_types.specs.Parts.{item_of}
use Rattle.awk_types.specs.Predicates.{is_leaf}
use Rattle.awk_types.specs.Simple.{present}
use Rattle.awk_pair_operands.specs.Paired.{Reach, to_leaves, to_depth, types_at_ends, is_wrong}
use Rattle.awk_pair_operands.specs.Paired.{is_wrong_end, end_types, all_levels}
use Rattle.awk_pair_operands.specs.Pairs.{has_wrong_end, leaf_types, typs, reach, below}
use Rattle.awk_pair_sides.specs.Levels.{opens, item_types}
use Rattle.awk_ends.specs.Operands.{leaf_in}

leaf_in-present : (t : DataType) → leaf_in (present t) ≡ leaf_in t
leaf_in-present unknown = refl
leaf_in-present (leaf p) = refl
leaf_in-present (var t) = refl
leaf_in-present (reg n t) = refl
leaf_in-present (rec ns ts) = refl
leaf_in-present (tup ts) = refl
leaf_in-present (opt t) = refl
leaf_in-present (uni ts) = refl

leaf_in-item : (t : DataType) → leaf_in (item_of t) ≡ leaf_in t
leaf_in-item unknown = refl
leaf_in-item (leaf p) = refl
leaf_in-item (var t) = refl
leaf_in-item (reg n t) = refl
leaf_in-item (rec ns ts) = refl
leaf_in-item (tup ts) = refl
leaf_in-item (opt t) = refl
leaf_in-item (uni ts) = refl

leaves-present : (ts : List DataType) → map leaf_in (map present ts) ≡ map leaf_in ts
leaves-present [] = refl
leaves-present (t ∷ ts) =
    ap (λ a. a ∷ map leaf_in (map present ts)) (leaf_in-present t)
    ∙ ap (λ us. leaf_in t ∷ us) (leaves-present ts)

leaves-items : (ts : List DataType) → map leaf_in (map item_of ts) ≡ map leaf_in ts
leaves-items [] = refl
leaves-items (t ∷ ts) =
    ap (λ a. a ∷ map leaf_in (map item_of ts)) (leaf_in-item t)
    ∙ ap (λ us. leaf_in t ∷ us) (leaves-items ts)

leaves-below : (ts : List DataType) → map leaf_in (item_types ts) ≡ map leaf_in ts
leaves-below ts = leaves-items (map present ts) ∙ leaves-present ts

leaves-end : (r : Reach) (ts : List DataType) → map leaf_in (end_types r ts) ≡ map leaf_in ts
leaves-end to_leaves ts = leaves-present ts
leaves-end to_depth ts = refl

-- the leaves of what stands at the ends are those of the whole types
pub leaves-ends : (r : Reach) (d : ℕ) (ts : List DataType)
    → map leaf_in (types_at_ends r d ts) ≡ map leaf_in ts
leaves-ends r zero ts = leaves-end r ts
leaves-ends r (suc d) ts =
    level (opens ts) (leaves-ends r d (item_types ts) ∙ leaves-below ts) (leaves-end r ts)
  where
    level : (b : Bool) → map leaf_in (types_at_ends r d (item_types ts)) ≡ map leaf_in ts
        → map leaf_in (end_types r ts) ≡ map leaf_in ts
        → map leaf_in (if b then types_at_ends r d (item_types ts) else end_types r ts)
        ≡ map leaf_in ts
    level true e f = e
    level false e f = f

-- where no end is wrong all are leaves
pub ends_leaves : (d : ℕ) (ts : List DataType) → is_wrong to_leaves d ts ≡ false
    → list_all is_leaf (types_at_ends to_leaves d ts) ≡ true
ends_leaves zero ts e = not-false (list_all is_leaf (map present ts)) e
ends_leaves (suc d) ts e =
    level (opens ts) (ends_leaves d (item_types ts)) (not-false (list_all is_leaf (map present ts)))
    e
  where
    level : (b : Bool) → (is_wrong to_leaves d (item_types ts) ≡ false
        → list_all is_leaf (types_at_ends to_leaves d (item_types ts)) ≡ true)
        → (is_wrong_end to_leaves ts ≡ false → list_all is_leaf (map present ts) ≡ true)
        → (if b then is_wrong to_leaves d (item_types ts) else is_wrong_end to_leaves ts) ≡ false
        → list_all is_leaf (if b then types_at_ends to_leaves d (item_types ts)
        else end_types to_leaves ts) ≡ true
    level true f g e = f e
    level false f g e = g e

length-end : (r : Reach) (ts : List DataType) → length (end_types r ts) ≡ length ts
length-end to_leaves ts = length-map ts present
length-end to_depth ts = refl

length-ends : (r : Reach) (d : ℕ) (ts : List DataType)
    → length (types_at_ends r d ts) ≡ length ts
length-ends r zero ts = length-end r ts
length-ends r (suc d) ts =
    level (opens ts) (length-ends r d (item_types ts) ∙ length-map (map present ts) item_of
    ∙ length-map ts present) (length-end r ts)
  where
    level : (b : Bool) → length (types_at_ends r d (item_types ts)) ≡ length ts
        → length (end_types r ts) ≡ length ts
        → length (if b then types_at_ends r d (item_types ts) else end_types r ts) ≡ length ts
    level true e f = e
    level false e f = f

-- ---- the same of data

pub leaf_types-leaves : (d : Option ℕ) (ds : List Datum)
    → map leaf_in (leaf_types d ds) ≡ map leaf_in (typs ds)
leaf_types-leaves d ds = leaves-ends (reach d) (below d ds) (typs ds)

pub leaf_types-all : (ds : List Datum) → has_wrong_end None ds ≡ false
    → list_all is_leaf (leaf_types None ds) ≡ true
leaf_types-all ds e = ends_leaves (all_levels (typs ds)) (typs ds) e

pub length-leaf_types : (d : Option ℕ) (ds : List Datum)
    → length (leaf_types d ds) ≡ length ds
length-leaf_types d ds =
    length-ends (reach d) (below d ds) (typs ds) ∙ length-map ds datum_type
