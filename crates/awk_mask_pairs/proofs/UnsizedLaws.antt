-- A mask masks as it does with lists of any length.
use Rattle.std.specs.Prelude.{◌≡◌, refl, Bool, false, ◌||◌, not, ◌==◌, List, [], ◌∷◌, length}
use Rattle.std.specs.Prelude.{if◌then◌else◌}
use Rattle.std.proofs.Common.{ap, ap₂}
use Rattle.awk_types.specs.DataType.{DataType, unknown, leaf, var, reg, rec, tup, opt, uni}
use Rattle.awk_types.specs.Gives.{◌or◌}
use Rattle.awk_types.specs.ItemLimit.{too_many}
use Rattle.awk_types.specs.Predicates.{is_unknown}
use Rattle.awk_types.specs.Value.{Value, null, int, truth, list, row, alt, value_list, values_from}
use Rattle.awk_columns.specs.Columns.{joined_items}
use Rattle.awk_mask_pairs.specs.MaskTypes.{unsized, has_ones, levels_refused}
use Rattle.awk_mask_pairs.specs.MaskValues.{masks, of_items, has_items, with_items, masked_type}
use Rattle.awk_mask_pairs.specs.MaskValues.{masked_value, in_pairs, of_lists, any_pair, differs}
use Rattle.awk_mask_pairs.specs.MaskValues.{differ_inside, lists_differ}

pub ones-unsized : (u : DataType) → has_ones (unsized u) ≡ false
ones-unsized (var u) = ones-unsized u
ones-unsized (reg n u) = ones-unsized u
ones-unsized (opt u) = ones-unsized u
ones-unsized unknown = refl
ones-unsized (leaf p) = refl
ones-unsized (rec ns ts) = refl
ones-unsized (tup ts) = refl
ones-unsized (uni ts) = refl

-- ---- types

items-by : (f g : DataType → Bool) → ((t : DataType) → f t ≡ g t) → (t : DataType)
    → of_items f t ≡ of_items g t
items-by f g h (var t) = h t
items-by f g h (reg n t) = h t
items-by f g h unknown = refl
items-by f g h (leaf p) = refl
items-by f g h (rec ns ts) = refl
items-by f g h (tup ts) = refl
items-by f g h (opt t) = refl
items-by f g h (uni ts) = refl

has-by : (f g : DataType → Bool) → ((t : DataType) → f t ≡ g t) → (t : DataType)
    → has_items f t ≡ has_items g t
has-by f g h (opt t) = items-by f g h t
has-by f g h (var t) = h t
has-by f g h (reg n t) = h t
has-by f g h unknown = refl
has-by f g h (leaf p) = refl
has-by f g h (rec ns ts) = refl
has-by f g h (tup ts) = refl
has-by f g h (uni ts) = refl

unknown-unsized : (u : DataType) → is_unknown (unsized u) ≡ is_unknown u
unknown-unsized (var u) = refl
unknown-unsized (reg n u) = refl
unknown-unsized (opt u) = refl
unknown-unsized unknown = refl
unknown-unsized (leaf p) = refl
unknown-unsized (rec ns ts) = refl
unknown-unsized (tup ts) = refl
unknown-unsized (uni ts) = refl

pub masks-unsized : (u t : DataType) → masks (unsized u) t ≡ masks u t
masks-unsized (var u) t = has-by (masks (unsized u)) (masks u) (masks-unsized u) t
masks-unsized (reg n u) t = has-by (masks (unsized u)) (masks u) (masks-unsized u) t
masks-unsized (opt u) t =
    ap₂ (λ a b. if a then false else b) (unknown-unsized u) (masks-unsized u t)
masks-unsized unknown t = refl
masks-unsized (leaf p) t = refl
masks-unsized (rec ns ts) t = refl
masks-unsized (tup ts) t = refl
masks-unsized (uni ts) t = refl

with-by : (f g : DataType → DataType) → ((t : DataType) → f t ≡ g t) → (t : DataType)
    → with_items f t ≡ with_items g t
with-by f g h (var t) = ap (λ w. var w) (h t)
with-by f g h (reg n t) = ap (λ w. reg n w) (h t)
with-by f g h (opt t) = ap (λ w. opt w) (with-by f g h t)
with-by f g h unknown = refl
with-by f g h (leaf p) = refl
with-by f g h (rec ns ts) = refl
with-by f g h (tup ts) = refl
with-by f g h (uni ts) = refl

pub type-unsized : (u t : DataType) → masked_type (unsized u) t ≡ masked_type u t
type-unsized (var u) t = with-by (masked_type (unsized u)) (masked_type u) (type-unsized u) t
type-unsized (reg n u) t = with-by (masked_type (unsized u)) (masked_type u) (type-unsized u) t
type-unsized (opt u) t = ap (λ w. opt w) (type-unsized u t)
type-unsized unknown t = refl
type-unsized (leaf p) t = refl
type-unsized (rec ns ts) t = refl
type-unsized (tup ts) t = refl
type-unsized (uni ts) t = refl

-- ---- values

pub pairs-by : {C : Type 0} (f g : Value → Value → C) → ((m v : Value) → f m v ≡ g m v)
    → (ms vs : List Value) → in_pairs f ms vs ≡ in_pairs g ms vs
pairs-by f g h [] vs = refl
pairs-by f g h (m ∷ ms) [] = refl
pairs-by f g h (m ∷ ms) (v ∷ vs) = ap₂ (λ w ws. w ∷ ws) (h m v) (pairs-by f g h ms vs)

lists-by : (f g : Value → Value → Value) → ((m v : Value) → f m v ≡ g m v) → (m v : Value)
    → of_lists (in_pairs f) m v ≡ of_lists (in_pairs g) m v
lists-by f g h (list ms) (list vs) =
    ap (λ ws. list (values_from ws)) (pairs-by f g h (value_list ms) (value_list vs))
lists-by f g h (list ms) null = refl
lists-by f g h (list ms) (int z) = refl
lists-by f g h (list ms) (truth b) = refl
lists-by f g h (list ms) (row ws) = refl
lists-by f g h (list ms) (alt k w) = refl
lists-by f g h null v = refl
lists-by f g h (int z) v = refl
lists-by f g h (truth b) v = refl
lists-by f g h (row ws) v = refl
lists-by f g h (alt k w) v = refl

pub value-unsized : (u : DataType) (keep : Bool) (m v : Value)
    → masked_value (unsized u) keep m v ≡ masked_value u keep m v
value-unsized (var u) keep m v =
    lists-by (masked_value (unsized u) keep) (masked_value u keep) (value-unsized u keep) m v
value-unsized (reg n u) keep m v =
    lists-by (masked_value (unsized u) keep) (masked_value u keep) (value-unsized u keep) m v
value-unsized (opt u) keep m v = value-unsized u keep m v
value-unsized unknown keep m v = refl
value-unsized (leaf p) keep m v = refl
value-unsized (rec ns ts) keep m v = refl
value-unsized (tup ts) keep m v = refl
value-unsized (uni ts) keep m v = refl

-- ---- lengths

any-by : (f g : Value → Value → Bool) → ((m v : Value) → f m v ≡ g m v) → (ms vs : List Value)
    → any_pair f ms vs ≡ any_pair g ms vs
any-by f g h [] vs = refl
any-by f g h (m ∷ ms) [] = refl
any-by f g h (m ∷ ms) (v ∷ vs) = ap₂ (λ a b. a || b) (h m v) (any-by f g h ms vs)

pub differ-by : (f g : Value → Value → Bool) → ((m v : Value) → f m v ≡ g m v)
    → (ms vs : List Value) → lists_differ f ms vs ≡ lists_differ g ms vs
differ-by f g h ms vs = ap (λ b. not (length ms == length vs) || b) (any-by f g h ms vs)

inside-by : (f g : Value → Value → Bool) → ((m v : Value) → f m v ≡ g m v) → (m v : Value)
    → differ_inside f m v ≡ differ_inside g m v
inside-by f g h (list ms) (list vs) = differ-by f g h (value_list ms) (value_list vs)
inside-by f g h (list ms) null = refl
inside-by f g h (list ms) (int z) = refl
inside-by f g h (list ms) (truth b) = refl
inside-by f g h (list ms) (row ws) = refl
inside-by f g h (list ms) (alt k w) = refl
inside-by f g h null v = refl
inside-by f g h (int z) v = refl
inside-by f g h (truth b) v = refl
inside-by f g h (row ws) v = refl
inside-by f g h (alt k w) v = refl

pub differs-unsized : (u : DataType) (m v : Value) → differs (unsized u) m v ≡ differs u m v
differs-unsized (var u) m v = inside-by (differs (unsized u)) (differs u) (differs-unsized u) m v
differs-unsized (reg n u) m v =
    inside-by (differs (unsized u)) (differs u) (differs-unsized u) m v
differs-unsized (opt u) m v = differs-unsized u m v
differs-unsized unknown m v = refl
differs-unsized (leaf p) m v = refl
differs-unsized (rec ns ts) m v = refl
differs-unsized (tup ts) m v = refl
differs-unsized (uni ts) m v = refl

-- ---- sizes

pub levels-unsized : (u : DataType) (vs : List Value)
    → levels_refused (unsized u) vs ≡ levels_refused u vs
levels-unsized (var u) vs =
    ap (λ f. too_many (length vs) or f) (levels-unsized u (joined_items vs))
levels-unsized (reg n u) vs =
    ap (λ f. too_many (length vs) or f) (levels-unsized u (joined_items vs))
levels-unsized (opt u) vs = levels-unsized u vs
levels-unsized unknown vs = refl
levels-unsized (leaf p) vs = refl
levels-unsized (rec ns ts) vs = refl
levels-unsized (tup ts) vs = refl
levels-unsized (uni ts) vs = refl
