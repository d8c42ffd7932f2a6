-- The types of what is picked of rows.
use Rattle.std.specs.Prelude.{◌≡◌, Bool, true, false, ◌||◌, Option, Some, None, option_map, refl}
use Rattle.std.specs.Prelude.{is_some, if◌then◌else◌}
use Rattle.std.proofs.Common.{ap, sym, ◌∙◌}
use Rattle.std.proofs.Math.Bool.{or-true, or-false}
use Rattle.awk_types.specs.DataType.{DataType, unknown, leaf, var, reg, rec, tup, opt, uni}
use Rattle.awk_types.specs.Simple.{simple, option_if, present, is_option}
use Rattle.awk_types.specs.Predicates.{is_leaf}
use Rattle.awk_jagged.specs.Jagged.{pick_type, rows_type, is_jagged}
use Rattle.awk_jagged_rows.specs.RowTypes.{rows_of}
use Rattle.awk_jagged.specs.Judged.{picks}

abbrev item_of : Option (Bool × DataType) → DataType
item_of None = unknown
item_of (Some p) = p.1

abbrev flag_of : Option (Bool × DataType) → Bool
flag_of None = false
flag_of (Some p) = p.0

abbrev typ_in : Option DataType → DataType
typ_in None = unknown
typ_in (Some t) = t

over_lists : (b : Bool) (o : Option DataType) (r : DataType) → option_map simple o ≡ Some r
    → option_map simple (option_map (λ s. option_if b (var s)) o) ≡ Some (option_if b (var r))
over_lists b None r e = absurd cc
over_lists true (Some s) r e = ap (λ t. Some (opt (var t))) (ap typ_in e)
over_lists false (Some s) r e = ap (λ t. Some (var t)) (ap typ_in e)

over_option : (b : Bool) (o : Option DataType) (r : DataType) → option_map simple o ≡ Some r
    → option_map simple (option_map opt (option_map (λ s. option_if b (var s)) o))
    ≡ Some (opt (var r))
over_option b None r e = absurd cc
over_option true (Some s) r e = ap (λ t. Some (opt (var t))) (ap typ_in e)
over_option false (Some s) r e = ap (λ t. Some (opt (var t))) (ap typ_in e)

-- what is picked by lists of v, and by optional ones
lists_typ : (v t t' r : DataType) (first : Bool) → rows_of t ≡ Some (first, t')
    → option_map simple (pick_type v t') ≡ Some r
    → option_map simple (rows_type (rows_of t) (pick_type v)) ≡ Some (option_if first (var r))
lists_typ v t t' r first e h =
    ap (λ o. option_map simple (rows_type o (pick_type v))) e
    ∙ over_lists first (pick_type v t') r h

option_typ : (v t t' r : DataType) (first : Bool) → rows_of t ≡ Some (first, t')
    → option_map simple (pick_type v t') ≡ Some r
    → option_map simple (option_map opt (rows_type (rows_of t) (pick_type v))) ≡ Some (opt (var r))
option_typ v t t' r first e h =
    ap (λ o. option_map simple (option_map opt (rows_type o (pick_type v)))) e
    ∙ over_option first (pick_type v t') r h

plain_typ : (u v t t' r : DataType) (first second : Bool) → u ≡ v → false ≡ second
    → rows_of t ≡ Some (first, t') → option_map simple (pick_type v t') ≡ Some r
    → option_map simple (rows_type (rows_of t) (pick_type u))
    ≡ Some (option_if (first || second) (var r))
plain_typ u v t t' r first second e f h q =
    ap (λ w. option_map simple (rows_type (rows_of t) (pick_type w))) e
    ∙ lists_typ v t t' r first h q
    ∙ ap (λ b. Some (option_if b (var r))) (sym (or-false first) ∙ ap (λ b. first || b) f)

optional_typ : (u v t t' r : DataType) (first second : Bool) → u ≡ v → true ≡ second
    → rows_of t ≡ Some (first, t') → option_map simple (pick_type v t') ≡ Some r
    → option_map simple (option_map opt (rows_type (rows_of t) (pick_type u)))
    ≡ Some (option_if (first || second) (var r))
optional_typ u v t t' r first second e f h q =
    ap (λ w. option_map simple (option_map opt (rows_type (rows_of t) (pick_type w)))) e
    ∙ option_typ v t t' r first h q
    ∙ ap (λ b. Some (option_if b (var r))) (sym (or-true first) ∙ ap (λ b. first || b) f)

pub picked_typ : (u v t t' r : DataType) (first second : Bool) → is_jagged u ≡ true
    → rows_of u ≡ Some (second, v) → rows_of t ≡ Some (first, t')
    → option_map simple (pick_type v t') ≡ Some r
    → option_map simple (pick_type u t) ≡ Some (option_if (first || second) (var r))
picked_typ unknown v t t' r first second j e h q = absurd cc
picked_typ (leaf p) v t t' r first second j e h q = absurd cc
picked_typ (var u) v t t' r first second j e h q =
    plain_typ u v t t' r first second (ap item_of e) (ap flag_of e) h q
picked_typ (reg n u) v t t' r first second j e h q =
    plain_typ u v t t' r first second (ap item_of e) (ap flag_of e) h q
picked_typ (rec ns us) v t t' r first second j e h q = absurd cc
picked_typ (tup us) v t t' r first second j e h q = absurd cc
picked_typ (uni us) v t t' r first second j e h q = absurd cc
picked_typ (opt unknown) v t t' r first second j e h q = absurd cc
picked_typ (opt (leaf p)) v t t' r first second j e h q = absurd cc
picked_typ (opt (var u)) v t t' r first second j e h q =
    optional_typ u v t t' r first second (ap item_of e) (ap flag_of e) h q
picked_typ (opt (reg n u)) v t t' r first second j e h q =
    optional_typ u v t t' r first second (ap item_of e) (ap flag_of e) h q
picked_typ (opt (rec ns us)) v t t' r first second j e h q = absurd cc
picked_typ (opt (tup us)) v t t' r first second j e h q = absurd cc
picked_typ (opt (opt u)) v t t' r first second j e h q = absurd cc
picked_typ (opt (uni us)) v t t' r first second j e h q = absurd cc

-- ---- what picks one level down

some_of : (f : DataType → DataType) (o : Option DataType) → is_some (option_map f o) ≡ is_some o
some_of f None = refl
some_of f (Some t) = refl

-- ---- what is of rows

rows_only : (o : Option (Bool × DataType)) (f : DataType → Option DataType)
    → is_some (rows_type o f) ≡ true → is_some o ≡ true
rows_only None f h = h
rows_only (Some p) f h = refl

-- what picks by lists picks from rows
pub rows-picked : (u t : DataType) → is_jagged u ≡ true → picks u t ≡ true
    → is_some (rows_of t) ≡ true
rows-picked unknown t j q = absurd cc
rows-picked (leaf p) t j q = absurd cc
rows-picked (var u) t j q = rows_only (rows_of t) (pick_type u) q
rows-picked (reg n u) t j q = rows_only (rows_of t) (pick_type u) q
rows-picked (rec ns us) t j q = absurd cc
rows-picked (tup us) t j q = absurd cc
rows-picked (uni us) t j q = absurd cc
rows-picked (opt unknown) t j q = absurd cc
rows-picked (opt (leaf p)) t j q = absurd cc
rows-picked (opt (var u)) t j q =
    rows_only (rows_of t) (pick_type u)
    (sym (some_of opt (rows_type (rows_of t) (pick_type u))) ∙ q)
rows-picked (opt (reg n u)) t j q =
    rows_only (rows_of t) (pick_type u)
    (sym (some_of opt (rows_type (rows_of t) (pick_type u))) ∙ q)
rows-picked (opt (rec ns us)) t j q = absurd cc
rows-picked (opt (tup us)) t j q = absurd cc
rows-picked (opt (opt u)) t j q = absurd cc
rows-picked (opt (uni us)) t j q = absurd cc

pub rows-index : (u : DataType) → is_jagged u ≡ true → is_some (rows_of u) ≡ true
rows-index unknown j = refl
rows-index (leaf p) j = absurd cc
rows-index (var u) j = refl
rows-index (reg n u) j = refl
rows-index (rec ns us) j = absurd cc
rows-index (tup us) j = absurd cc
rows-index (uni us) j = absurd cc
rows-index (opt unknown) j = refl
rows-index (opt (leaf p)) j = absurd cc
rows-index (opt (var u)) j = refl
rows-index (opt (reg n u)) j = refl
rows-index (opt (rec ns us)) j = absurd cc
rows-index (opt (tup us)) j = absurd cc
rows-index (opt (opt u)) j = absurd cc
rows-index (opt (uni us)) j = absurd cc

-- ---- leaves

-- the type that leaves give
pub leaf_typ : (u t : DataType) → is_leaf (present u) ≡ true
    → option_map simple (pick_type u t)
    ≡ Some (if is_option u then simple (opt t) else simple t)
leaf_typ unknown t l = refl
leaf_typ (leaf p) t l = refl
leaf_typ (var u) t l = absurd cc
leaf_typ (reg n u) t l = absurd cc
leaf_typ (rec ns us) t l = absurd cc
leaf_typ (tup us) t l = absurd cc
leaf_typ (uni us) t l = absurd cc
leaf_typ (opt unknown) t l = refl
leaf_typ (opt (leaf p)) t l = refl
leaf_typ (opt (var u)) t l = absurd cc
leaf_typ (opt (reg n u)) t l = absurd cc
leaf_typ (opt (rec ns us)) t l = absurd cc
leaf_typ (opt (tup us)) t l = absurd cc
leaf_typ (opt (opt u)) t l = absurd cc
leaf_typ (opt (uni us)) t l = absurd cc
