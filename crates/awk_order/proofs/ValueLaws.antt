-- Items of leaves by their numbers.
use Rattle.std.proofs.Common.{◌≡◌, ℕ, zero, suc, refl, ap, ap₂, sym, ◌∙◌, arith, List, [], ◌∷◌}
use Rattle.std.proofs.Common.{◌++◌, map, length, get_or, replicate, true≢false}
use Rattle.std.specs.Prelude.{ℤ, pos, Bool, true, false, Option, Some, None, if◌then◌else◌}
use Rattle.std.specs.List.{AllByRecursion}
use Rattle.std.proofs.lemmas.Int.{ints}
use Rattle.std.proofs.lemmas.Simd.{map-map}
use Rattle.std.proofs.Math.ListN.{get_or-map}
use Rattle.awk_base.proofs.Lists.{map-each}
use Rattle.awk_types.specs.DataType.{DataType, unknown, leaf, var, reg, rec, tup, opt, uni}
use Rattle.awk_types.specs.Has.{Has, Holds}
use Rattle.awk_types.specs.Parts.{option_number}
use Rattle.awk_types.specs.Predicates.{is_leaf, is_unknown}
use Rattle.awk_types.specs.Simple.{present, simple, simple_value}
use Rattle.awk_types.specs.Value.{Value, int, truth, null, list, row, alt}
use Rattle.awk_types.specs.declared.primitive.Primitive.{Primitive}
use Rattle.awk_types.specs.declared.primitive.Primitive.TheVariants as primitive
use Rattle.awk_lanes.specs.declared.kind.Kind.{Kind}
use Rattle.awk_layout.specs.Item.{leaf_value}
use Rattle.awk_layout.specs.Kinds.{kind_of}
use Rattle.awk_present.specs.Numbers.{leaf_of, numbers}
use Rattle.awk_sorting.specs.Nulls.{somes, nones}
use Rattle.awk_sorting.specs.Order.{order, sort_numbers}
use Rattle.awk_sorting.proofs.NullLaws.{cells_in_order}
use Rattle.awk_order.specs.Order.{items_in_order}

-- the value that a cell of a kind is
abbrev pub value_of : Kind → Option ℤ → Value
value_of k None = null
value_of k (Some z) = leaf_value k z

-- ---- one value

leaf_int : (p : Primitive) (z : ℤ) → Holds p z → int z ≡ leaf_value (kind_of p) z
leaf_int primitive.Bool z h = absurd (omega (arith, ints, h.0, h.1))
leaf_int primitive.I8 z h = refl
leaf_int primitive.I16 z h = refl
leaf_int primitive.I32 z h = refl
leaf_int primitive.I64 z h = refl
leaf_int primitive.U8 z h = refl
leaf_int primitive.U16 z h = refl
leaf_int primitive.U32 z h = refl
leaf_int primitive.U64 z h = refl

leaf_truth : (p : Primitive) (b : Bool) → Has (leaf p) (truth b)
    → truth b ≡ leaf_value (kind_of p) (pos (if b then 1 else 0))
leaf_truth primitive.Bool true h = refl
leaf_truth primitive.Bool false h = refl
leaf_truth primitive.I8 b h = absurd h
leaf_truth primitive.I16 b h = absurd h
leaf_truth primitive.I32 b h = absurd h
leaf_truth primitive.I64 b h = absurd h
leaf_truth primitive.U8 b h = absurd h
leaf_truth primitive.U16 b h = absurd h
leaf_truth primitive.U32 b h = absurd h
leaf_truth primitive.U64 b h = absurd h

leaf_item : (p : Primitive) (v : Value) → Has (leaf p) v
    → v ≡ value_of (kind_of p) (option_number v)
leaf_item p (int z) h = leaf_int p z h
leaf_item p (truth b) h = leaf_truth p b h
leaf_item p null h = refl
leaf_item p (list vs) h = absurd h
leaf_item p (row vs) h = absurd h
leaf_item p (alt k v) h = absurd h

optional_item : (p : Primitive) (v : Value) → Has (opt (leaf p)) v
    → v ≡ value_of (kind_of p) (option_number v)
optional_item p (int z) h = leaf_int p z h
optional_item p (truth b) h = leaf_truth p b h
optional_item p null h = refl
optional_item p (list vs) h = absurd h
optional_item p (row vs) h = absurd h
optional_item p (alt k v) h = absurd h

unknown_item : (k : Kind) (v : Value) → Has (opt unknown) v → v ≡ value_of k (option_number v)
unknown_item k null h = refl
unknown_item k (int z) h = absurd h
unknown_item k (truth b) h = absurd h
unknown_item k (list vs) h = absurd h
unknown_item k (row vs) h = absurd h
unknown_item k (alt j v) h = absurd h

item_number : (t : DataType) (v : Value) → is_leaf (present t) ≡ true → Has t v
    → v ≡ value_of (kind_of (leaf_of t)) (option_number v)
item_number unknown v l h = absurd h
item_number (leaf p) v l h = leaf_item p v h
item_number (var t) v l h = absurd (true≢false (sym l))
item_number (reg n t) v l h = absurd (true≢false (sym l))
item_number (rec ns ts) v l h = absurd (true≢false (sym l))
item_number (tup ts) v l h = absurd (true≢false (sym l))
item_number (uni ts) v l h = absurd (true≢false (sym l))
item_number (opt unknown) v l h = unknown_item (kind_of (leaf_of (opt unknown))) v h
item_number (opt (leaf p)) v l h = optional_item p v h
item_number (opt (var t)) v l h = absurd (true≢false (sym l))
item_number (opt (reg n t)) v l h = absurd (true≢false (sym l))
item_number (opt (rec ns ts)) v l h = absurd (true≢false (sym l))
item_number (opt (tup ts)) v l h = absurd (true≢false (sym l))
item_number (opt (opt t)) v l h = absurd (true≢false (sym l))
item_number (opt (uni ts)) v l h = absurd (true≢false (sym l))

null_only : (v : Value) → Has (opt unknown) v → option_number v ≡ None
null_only null h = refl
null_only (int z) h = absurd h
null_only (truth b) h = absurd h
null_only (list vs) h = absurd h
null_only (row vs) h = absurd h
null_only (alt j v) h = absurd h

no_number : (t : DataType) (v : Value) → is_unknown (present t) ≡ true → Has t v
    → option_number v ≡ None
no_number unknown v l h = absurd h
no_number (leaf p) v l h = absurd (true≢false (sym l))
no_number (var t) v l h = absurd (true≢false (sym l))
no_number (reg n t) v l h = absurd (true≢false (sym l))
no_number (rec ns ts) v l h = absurd (true≢false (sym l))
no_number (tup ts) v l h = absurd (true≢false (sym l))
no_number (uni ts) v l h = absurd (true≢false (sym l))
no_number (opt unknown) v l h = null_only v h
no_number (opt (leaf p)) v l h = absurd (true≢false (sym l))
no_number (opt (var t)) v l h = absurd (true≢false (sym l))
no_number (opt (reg n t)) v l h = absurd (true≢false (sym l))
no_number (opt (rec ns ts)) v l h = absurd (true≢false (sym l))
no_number (opt (tup ts)) v l h = absurd (true≢false (sym l))
no_number (opt (opt t)) v l h = absurd (true≢false (sym l))
no_number (opt (uni ts)) v l h = absurd (true≢false (sym l))

-- ---- lists of them

pub all_numbers : (t : DataType) (vs : List Value) → is_leaf (present t) ≡ true
    → AllByRecursion (Has t) vs → vs ≡ map (value_of (kind_of (leaf_of t))) (map option_number vs)
all_numbers t [] l h = refl
all_numbers t (v ∷ vs) l h =
    ap₂ (λ w ws. w ∷ ws) (item_number t v l h.0) (all_numbers t vs l h.1)

pub no_numbers : (t : DataType) (vs : List Value) → is_unknown (present t) ≡ true
    → AllByRecursion (Has t) vs → map option_number vs ≡ replicate (length vs) None
no_numbers t [] l h = refl
no_numbers t (v ∷ vs) l h = ap₂ (λ o os. o ∷ os) (no_number t v l h.0) (no_numbers t vs l h.1)

pub somes_numbers : (vs : List Value) → somes (map option_number vs) ≡ numbers vs
somes_numbers [] = refl
somes_numbers (null ∷ vs) = somes_numbers vs
somes_numbers (int z ∷ vs) = ap (λ zs. z ∷ zs) (somes_numbers vs)
somes_numbers (truth b ∷ vs) = ap (λ zs. pos (if b then 1 else 0) ∷ zs) (somes_numbers vs)
somes_numbers (list ws ∷ vs) = ap (λ zs. pos 0 ∷ zs) (somes_numbers vs)
somes_numbers (row ws ∷ vs) = ap (λ zs. pos 0 ∷ zs) (somes_numbers vs)
somes_numbers (alt k w ∷ vs) = ap (λ zs. pos 0 ∷ zs) (somes_numbers vs)

-- ---- lists in order

values_then_nulls : (k : Kind) (zs : List ℤ) (n : ℕ)
    → map (value_of k) (map (λ z. Some z) zs ++ replicate n None)
    ≡ map (leaf_value k) zs ++ replicate n null
values_then_nulls k [] zero = refl
values_then_nulls k [] (suc n) = ap (λ vs. null ∷ vs) (values_then_nulls k [] n)
values_then_nulls k (z ∷ zs) n = ap (λ vs. leaf_value k z ∷ vs) (values_then_nulls k zs n)

-- the items in order are those of the numbers in order, and then null for each that has none
pub in_order_values : (k : Kind) (up : Bool) (vs : List Value)
    → vs ≡ map (value_of k) (map option_number vs)
    → items_in_order up vs
    ≡ map (leaf_value k) (sort_numbers up (somes (map option_number vs)))
    ++ replicate (nones (map option_number vs)) null
in_order_values k up vs e =
    let os : List (Option ℤ) = map option_number vs in
    map-each (λ p. get_or vs p null) (λ p. value_of k (get_or os p None)) (order up os)
    (λ p. ap (λ ws. get_or ws p null) e ∙ get_or-map (value_of k) os p None)
    ∙ sym (map-map (value_of k) (λ p. get_or os p None) (order up os))
    ∙ ap (map (value_of k)) (cells_in_order up os)
    ∙ values_then_nulls k (sort_numbers up (somes os)) (nones os)

-- ---- types of leaves

pub leaf_simple : (t : DataType) → is_leaf (present t) ≡ true → simple t ≡ t
leaf_simple unknown l = refl
leaf_simple (leaf p) l = refl
leaf_simple (var t) l = absurd (true≢false (sym l))
leaf_simple (reg n t) l = absurd (true≢false (sym l))
leaf_simple (rec ns ts) l = absurd (true≢false (sym l))
leaf_simple (tup ts) l = absurd (true≢false (sym l))
leaf_simple (uni ts) l = absurd (true≢false (sym l))
leaf_simple (opt unknown) l = refl
leaf_simple (opt (leaf p)) l = refl
leaf_simple (opt (var t)) l = absurd (true≢false (sym l))
leaf_simple (opt (reg n t)) l = absurd (true≢false (sym l))
leaf_simple (opt (rec ns ts)) l = absurd (true≢false (sym l))
leaf_simple (opt (tup ts)) l = absurd (true≢false (sym l))
leaf_simple (opt (opt t)) l = absurd (true≢false (sym l))
leaf_simple (opt (uni ts)) l = absurd (true≢false (sym l))

plain_or_null : (t : DataType) (v : Value) → ((w : Value) → simple_value t w ≡ w)
    → simple_value (opt t) v ≡ v
plain_or_null t null h = refl
plain_or_null t (int z) h = h (int z)
plain_or_null t (truth b) h = h (truth b)
plain_or_null t (list vs) h = h (list vs)
plain_or_null t (row vs) h = h (row vs)
plain_or_null t (alt k v) h = h (alt k v)

pub leaf_simple_value : (t : DataType) (v : Value) → is_leaf (present t) ≡ true
    → simple_value t v ≡ v
leaf_simple_value unknown v l = refl
leaf_simple_value (leaf p) v l = refl
leaf_simple_value (var t) v l = absurd (true≢false (sym l))
leaf_simple_value (reg n t) v l = absurd (true≢false (sym l))
leaf_simple_value (rec ns ts) v l = absurd (true≢false (sym l))
leaf_simple_value (tup ts) v l = absurd (true≢false (sym l))
leaf_simple_value (uni ts) v l = absurd (true≢false (sym l))
leaf_simple_value (opt unknown) v l = plain_or_null unknown v (λ w. refl)
leaf_simple_value (opt (leaf p)) v l = plain_or_null (leaf p) v (λ w. refl)
leaf_simple_value (opt (var t)) v l = absurd (true≢false (sym l))
leaf_simple_value (opt (reg n t)) v l = absurd (true≢false (sym l))
leaf_simple_value (opt (rec ns ts)) v l = absurd (true≢false (sym l))
leaf_simple_value (opt (tup ts)) v l = absurd (true≢false (sym l))
leaf_simple_value (opt (opt t)) v l = absurd (true≢false (sym l))
leaf_simple_value (opt (uni ts)) v l = absurd (true≢false (sym l))
