-- The types of operands so many levels down, and the ends of a pairing by them.
use Rattle.std.proofs.Common.{◌≡◌, ℕ, zero, suc, ◌+◌, ◌-◌, ◌<◌, Bool, true, false, not, refl, ap}
use Rattle.std.proofs.Common.{arith, sym, subst, ◌∙◌, drop}
use Rattle.std.specs.Prelude.{List, map, slice_get, Some, None, Option, ℤ, max, if◌then◌else◌}
use Rattle.std.specs.Prelude.{length}
use Rattle.std.specs.List.{list_any, list_all}
use Rattle.std.proofs.lemmas.Simd.{map-map}
use Rattle.std.proofs.lemmas.List.{length-map}
use Rattle.awk_base.proofs.Lists.{drop-get}
use Rattle.awk_types.specs.DataType.{DataType, leaf, depth}
use Rattle.awk_types.specs.Datum.{datum_type}
use Rattle.awk_types.specs.Parts.{item_of}
use Rattle.awk_types.specs.Predicates.{is_leaf, is_list}
use Rattle.awk_types.specs.Simple.{present}
use Rattle.awk_types.specs.declared.primitive.Primitive.{Primitive}
use Rattle.awk_layout.specs.Single.{own_datum, own_primitive}
use Rattle.awk_layout.specs.Typing.{array_type}
use Rattle.awk_layout.specs.declared.datum.Operand.{Operand}
use Rattle.awk_layout.specs.declared.datum.Operand.TheVariants.{Literal}
use Rattle.awk_layout.specs.Layout.{Layout}
use Rattle.awk_pair_operands.specs.First.{all_data}
use Rattle.awk_pair_operands.specs.Paired.{to_leaves, to_depth, is_wrong, is_wrong_end, all_levels}
use Rattle.awk_pair_operands.specs.Pairs.{typs, below, has_wrong_end, leaf_types}
use Rattle.awk_pair_operands.specs.Paired.{types_at_ends}
use Rattle.awk_pair_operands.specs.Types.{down, operand_type, lists_down, leaf_down, opens_down}
use Rattle.awk_pair_operands.specs.Types.{leaves_down}
use Rattle.awk_pair_sides.specs.Levels.{opens, item_types}
use Rattle.awk_pair_sides.proofs.TestLaws.{any-map, all-map}
use Rattle.awk_pair_sides.proofs.LevelTypes.{length-item_types}

-- ---- one type

pub down-leaf : (k : ℕ) (p : Primitive) → down k (leaf p) ≡ leaf p
down-leaf zero p = refl
down-leaf (suc k) p = down-leaf k p

-- ---- all types

abbrev types_down : ℕ → List DataType → List DataType
types_down zero ts = ts
types_down (suc k) ts = types_down k (item_types ts)

presents-down : (k : ℕ) (ts : List DataType) → map present (types_down k ts) ≡ map (down k) ts
presents-down zero ts = refl
presents-down (suc k) ts =
    presents-down k (item_types ts)
    ∙ map-map (down k) item_of (map present ts)
    ∙ map-map (λ t. down k (item_of t)) present ts

pub types-operands : (xs : List Operand) → map operand_type xs ≡ typs (all_data xs)
types-operands xs = sym (map-map datum_type own_datum xs)

opens-down : (k : ℕ) (xs : List Operand)
    → opens (types_down k (map operand_type xs)) ≡ opens_down k xs
opens-down k xs =
    ap (list_any is_list) (presents-down k (map operand_type xs) ∙ map-map (down k) operand_type xs)
    ∙ sym (any-map is_list (λ x. down k (operand_type x)) xs)

leaves-down : (k : ℕ) (xs : List Operand)
    → is_wrong_end to_leaves (types_down k (map operand_type xs)) ≡ not (leaves_down k xs)
leaves-down k xs =
    ap (λ ts. not (list_all is_leaf ts))
    (presents-down k (map operand_type xs) ∙ map-map (down k) operand_type xs)
    ∙ ap not (sym (all-map is_leaf (λ x. down k (operand_type x)) xs))

-- ---- level after level

-- what is wrong from level k on
abbrev pub wrong_from : List Operand → ℕ → ℕ → Bool
wrong_from xs d k = is_wrong to_leaves (d - k) (types_down k (map operand_type xs))

types_down-next : (k : ℕ) (ts : List DataType)
    → types_down (suc k) ts ≡ item_types (types_down k ts)
types_down-next zero ts = refl
types_down-next (suc k) ts = types_down-next k (item_types ts)

pub wrong-first : (xs : List Operand) (d : ℕ)
    → wrong_from xs d 0 ≡ is_wrong to_leaves d (map operand_type xs)
wrong-first xs d =
    let e : d - 0 ≡ d = omega arith in
    ap (λ c. is_wrong to_leaves c (map operand_type xs)) e

wrong-split : (xs : List Operand) (d k : ℕ) → k < d
    → wrong_from xs d k
    ≡ (if opens_down k xs then wrong_from xs d (suc k) else not (leaves_down k xs))
wrong-split xs d k h =
    let e : d - k ≡ suc (d - suc k) = omega (arith, h) in
    let ts = types_down k (map operand_type xs) in
    ap (λ c. is_wrong to_leaves c ts) e
    ∙ ap (λ b. if b then is_wrong to_leaves (d - suc k)
    (item_types ts) else is_wrong_end to_leaves ts)
    (opens-down k xs)
    ∙ ap (λ us. if opens_down k xs then is_wrong to_leaves
    (d - suc k) us else is_wrong_end to_leaves ts)
    (sym (types_down-next k (map operand_type xs)))
    ∙ ap (λ w. if opens_down k xs then wrong_from xs d (suc k) else w) (leaves-down k xs)

pub wrong_next : (xs : List Operand) (d k : ℕ) (b : Bool) → k < d → opens_down k xs ≡ true
    → wrong_from xs d k ≡ b → wrong_from xs d (k + 1) ≡ b
wrong_next xs d k b h o e =
    let f : k + 1 ≡ suc k = omega arith in
    ap (wrong_from xs d) f
    ∙ sym (ap (λ c. if c then wrong_from xs d (suc k) else not (leaves_down k xs)) o)
    ∙ sym (wrong-split xs d k h) ∙ e

pub wrong_end : (xs : List Operand) (d k : ℕ) (b : Bool) → k < d → opens_down k xs ≡ false
    → wrong_from xs d k ≡ b → not (leaves_down k xs) ≡ b
wrong_end xs d k b h o e =
    sym (ap (λ c. if c then wrong_from xs d (suc k) else not (leaves_down k xs)) o)
    ∙ sym (wrong-split xs d k h) ∙ e

pub wrong_last : (xs : List Operand) (d k : ℕ) (b : Bool) → k ≡ d → wrong_from xs d k ≡ b
    → not (leaves_down d xs) ≡ b
wrong_last xs d k b h e =
    let f : d - d ≡ zero = omega arith in
    sym (ap (λ c. is_wrong to_leaves c (types_down d (map operand_type xs))) f
    ∙ leaves-down d xs) ∙ subst (λ j. wrong_from xs d j ≡ b) h e

-- ---- depths

-- the greatest depth of those so far and of those from place i on
abbrev pub depths_from : ℕ → List Operand → ℕ → ℕ
depths_from g xs i = max g (all_levels (map operand_type (drop i xs)))

pub depths_next : (xs : List Operand) (i : ℕ) (x : Operand) (g d m : ℕ) → slice_get xs i ≡ Some x
    → d ≡ depth (operand_type x) → depths_from g xs i ≡ m → depths_from (max g d) xs (i + 1) ≡ m
depths_next xs i x g d m e f h =
    let s : all_levels (map operand_type (drop i xs))
    ≡ max (depth (operand_type x)) (all_levels (map operand_type (drop (i + 1) xs))) =
    ap (λ ys. all_levels (map operand_type ys)) (drop-get xs i x e) in
    omega (arith, s, f, h)

-- ---- by the depth that is asked for

pub levels_none : (xs : List Operand) (d : Option ℕ) (n : ℕ) → d ≡ None
    → n ≡ all_levels (map operand_type xs) → n ≡ below d (all_data xs)
levels_none xs d n e f =
    f ∙ ap all_levels (types-operands xs) ∙ sym (ap (λ c. below c (all_data xs)) e)

pub wrong_none : (xs : List Operand) (d : Option ℕ) (n : ℕ) (b : Bool) → d ≡ None
    → n ≡ all_levels (map operand_type xs) → b ≡ is_wrong to_leaves n (map operand_type xs)
    → b ≡ has_wrong_end d (all_data xs)
wrong_none xs d n b e f g =
    g ∙ ap (λ k. is_wrong to_leaves k (map operand_type xs)) f
    ∙ ap (λ ts. is_wrong to_leaves (all_levels ts) ts) (types-operands xs)
    ∙ sym (ap (λ c. has_wrong_end c (all_data xs)) e)

pub never-wrong : (n : ℕ) (ts : List DataType) → is_wrong to_depth n ts ≡ false
never-wrong zero ts = refl
never-wrong (suc n) ts = step (opens ts) (never-wrong n (item_types ts))
  where
    step : (b : Bool) → is_wrong to_depth n (item_types ts) ≡ false
        → (if b then is_wrong to_depth n (item_types ts) else false) ≡ false
    step true e = e
    step false e = refl

pub wrong_some : (xs : List Operand) (d : Option ℕ) (k : ℕ) → d ≡ Some k
    → false ≡ has_wrong_end d (all_data xs)
wrong_some xs d k e =
    sym (ap (λ c. has_wrong_end c (all_data xs)) e
    ∙ never-wrong (below (Some k) (all_data xs)) (typs (all_data xs)))

-- a literal is a leaf at each level
pub literal_leaf : (k : ℕ) (x : Operand) (z : ℤ) → x ≡ Literal z → true ≡ leaf_down k x
literal_leaf k x z e =
    sym (ap (leaf_down k) e ∙ ap is_leaf (down-leaf k (own_primitive z)))

pub literal_no_list : (k : ℕ) (x : Operand) (z : ℤ) → x ≡ Literal z → false ≡ lists_down k x
literal_no_list k x z e =
    sym (ap (lists_down k) e ∙ ap is_list (down-leaf k (own_primitive z)))

pub ends-step : (b : Bool) (d : ℕ) (ts : List DataType)
    → length (types_at_ends to_depth d (item_types ts)) ≡ length (item_types ts)
    → length (if b then types_at_ends to_depth d (item_types ts) else ts) ≡ length ts
ends-step true d ts e = e ∙ length-item_types ts
ends-step false d ts e = refl

-- as many ends as types
pub ends-length : (d : ℕ) (ts : List DataType) → length (types_at_ends to_depth d ts) ≡ length ts
ends-length zero ts = refl
ends-length (suc d) ts = ends-step (opens ts) d ts (ends-length d (item_types ts))

-- as many columns as operands
pub columns-length : (d : ℕ) (xs : List Operand) (ys : List Layout)
    → map array_type ys ≡ leaf_types (Some d) (all_data xs) → length ys ≡ length xs
columns-length d xs ys e =
    sym (length-map ys array_type) ∙ ap length e
    ∙ ends-length (below (Some d) (all_data xs)) (typs (all_data xs))
    ∙ length-map (all_data xs) datum_type ∙ length-map xs own_datum
