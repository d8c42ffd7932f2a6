-- Columns of leaves, cast.
use Rattle.std.proofs.Common.{◌≡◌, ℕ, ◌<◌, ◌&&◌, ◌||◌, Bool, true, false, List, [], ◌∷◌, map}
use Rattle.std.proofs.Common.{length, get_or, refl, ap, ap₂, sym, subst, ◌∙◌, arith}
use Rattle.std.specs.Prelude.{zero, suc, ℤ, pos, int_lt, int_le, cond, not, Option, Some, None}
use Rattle.std.specs.Prelude.{Result, Ok, Err, if◌then◌else◌}
use Rattle.std.specs.List.{AllByRecursion, list_any}
use Rattle.std.proofs.lemmas.Int.{ints}
use Rattle.std.proofs.lemmas.List.{get_or-map, length-map}
use Rattle.awk_types.specs.DataType.{DataType, DataTypes, unknown, leaf, var, reg, rec, tup, opt}
use Rattle.awk_types.specs.DataType.{uni, Name, types_from, row_type}
use Rattle.awk_types.specs.Faults.{fault_told}
use Rattle.awk_primitives.specs.Fits.{fits}
use Rattle.awk_types.specs.Gives.{Told}
use Rattle.awk_types.specs.Has.{Has, Holds, least_number, greatest_number}
use Rattle.awk_types.specs.Parts.{number_of}
use Rattle.awk_types.specs.Simple.{simple, option_if, simple_value}
use Rattle.awk_types.specs.Value.{Value, int, truth, null, list, row, alt}
use Rattle.awk_types.specs.declared.fault.Fault.{Fault}
use Rattle.awk_types.specs.declared.fault.Fault.TheVariants as fault
use Rattle.awk_types.specs.declared.primitive.Primitive.{Primitive}
use Rattle.awk_types.specs.declared.primitive.Primitive.TheVariants as prim
use Rattle.awk_primitives.proofs.RangeLaws.{holds_fits}
use Rattle.awk_lanes.specs.Column.{Column}
use Rattle.awk_lanes.specs.Numbers.{element}
use Rattle.awk_lanes.specs.Places.{size_of, at}
use Rattle.awk_kernels.specs.declared.operation.Why.TheVariants as why
use Rattle.awk_layout.specs.Item.{item, leaf_value}
use Rattle.awk_layout.specs.Kinds.{primitive_of, kind_of, primitive_of-kind_of}
use Rattle.awk_layout.specs.Layout.{Layout, flat}
use Rattle.awk_layout.specs.Typing.{layout_type, array_type, array_items}
use Rattle.awk_layout.specs.Valid.{len}
use Rattle.awk_layout.proofs.ArrayItems.{length-array_items, get_or-array_items}
use Rattle.awk_gather.specs.Arrays.{array_item}
use Rattle.awk_columns.specs.ListClass.{Class, list_type}
use Rattle.awk_open.specs.Opened.{IsKindOf}
use Rattle.awk_open.specs.declared.opening.Opened.{Opened}
use Rattle.awk_open.specs.declared.opening.Opened.TheVariants as kinds
use Rattle.awk_open.proofs.OnlyKinds.{not_of}
use Rattle.awk_numbers.specs.Folds.{lane_numbers}
use Rattle.awk_leaves.specs.Values.{value_in, number_or_fault, held_by, unary_on, unary_at}
use Rattle.awk_leaves.specs.Values.{all_values, first_fault_or}
use Rattle.awk_leaves.specs.declared.operation.Unary.TheVariants.{Cast}
use Rattle.awk_pointwise.specs.Sides.{lane_values}
use Rattle.awk_pointwise.proofs.BlockLaws.{length-lane}
use Rattle.awk_cast.specs.Cast.{cast_type, cast_leaf, cast_value, is_past, leaf_past, told}
use Rattle.awk_cast.specs.Casting.{IsAnswer, IsTold, IsLaneOf, is_primitive, leaf_fault, told_of}

-- ---- which kinds have a lane

no_list : (c : Class) (t : DataType) → is_primitive (list_type c t) ≡ false
no_list None t = refl
no_list (Some n) t = refl

no_row : (names : Option (List Name)) (ts : DataTypes) → is_primitive (row_type names ts) ≡ false
no_row None ts = refl
no_row (Some ns) ts = refl

pub only_lane : (t : DataType) (r : Opened) → IsKindOf t r → is_primitive t ≡ true
    → ((c : Column) → r ≡ kinds.Leaf c → ⊥) → ⊥
only_lane t kinds.Empty k h l = not_of is_primitive t unknown k refl h
only_lane t (kinds.Leaf c) k h l = l c refl
only_lane t (kinds.Items q) k h l =
    not_of is_primitive t _ k (no_list q.class (array_type q.content)) h
only_lane t (kinds.Row names ys) k h l =
    not_of is_primitive t _ k (no_row names (types_from (map array_type ys))) h
only_lane t (kinds.Option j y) k h l = not_of is_primitive t (opt (array_type y)) k refl h
only_lane t (kinds.Union g j ys) k h l =
    not_of is_primitive t (uni (types_from (map array_type ys))) k refl h

-- ---- one leaf

abbrev cast_or_past : Bool → Value → Result Value Fault
cast_or_past b v = if b then Err fault.Overflow else Ok v

lt_le : (a b : ℤ) → int_lt a b ≡ not (int_le b a)
lt_le a b = grind (arith, ints)

held_is : (p : Primitive) (z : ℤ) → held_by p z ≡ cast_or_past (not (fits p z)) (int z)
held_is p z =
    ap₂ (λ b c. number_or_fault (cond (b || c) (Err why.Overflow) (Ok z)))
    (lt_le z (least_number p)) (lt_le (greatest_number p) z)
    ∙ by (int_le (least_number p) z) (int_le z (greatest_number p))
  where
    by : (b c : Bool) → number_or_fault (cond (not b || not c) (Err why.Overflow) (Ok z))
        ≡ cast_or_past (not (b && c)) (int z)
    by true true = refl
    by true false = refl
    by false c = refl

one_number : (p : Primitive) (z : ℤ) → unary_on (Cast p) p z
    ≡ cast_or_past (is_past p z) (value_in p z)
one_number prim.Bool z = refl
one_number prim.I8 z = held_is prim.I8 z
one_number prim.I16 z = held_is prim.I16 z
one_number prim.I32 z = held_is prim.I32 z
one_number prim.I64 z = held_is prim.I64 z
one_number prim.U8 z = held_is prim.U8 z
one_number prim.U16 z = held_is prim.U16 z
one_number prim.U32 z = held_is prim.U32 z
one_number prim.U64 z = held_is prim.U64 z

zero_held : (p : Primitive) → is_past p (pos 0) ≡ false
zero_held prim.Bool = refl
zero_held prim.I8 = refl
zero_held prim.I16 = refl
zero_held prim.I32 = refl
zero_held prim.I64 = refl
zero_held prim.U8 = refl
zero_held prim.U16 = refl
zero_held prim.U32 = refl
zero_held prim.U64 = refl

one_leaf : (p : Primitive) (v : Value) → unary_at (Cast p) p v
    ≡ cast_or_past (leaf_past p v) (cast_leaf p v)
one_leaf p null = sym (ap (λ b. cast_or_past b null) (zero_held p))
one_leaf p (int z) = one_number p z
one_leaf p (truth b) = one_number p (number_of (truth b))
one_leaf p (list vs) = one_number p (pos 0)
one_leaf p (row vs) = one_number p (pos 0)
one_leaf p (alt k v) = one_number p (pos 0)

-- ---- leaves in order

abbrev pub leaves_said : Primitive → List Value → Result (List Value) Fault
leaves_said p vs =
    if list_any (leaf_past p) vs then Err fault.Overflow else Ok (map (cast_leaf p) vs)

pub all_leaves : (p : Primitive) (vs : List Value)
    → all_values (map (unary_at (Cast p) p) vs) ≡ leaves_said p vs
all_leaves p [] = refl
all_leaves p (v ∷ vs) =
    ap₂ first_fault_or (one_leaf p v) (all_leaves p vs)
    ∙ by (leaf_past p v) (list_any (leaf_past p) vs) (cast_leaf p v) (map (cast_leaf p) vs)
  where
    by : (b c : Bool) (w : Value) (ws : List Value)
        → first_fault_or (cast_or_past b w) (if c then Err fault.Overflow else Ok ws)
        ≡ (if b || c then Err fault.Overflow else Ok (w ∷ ws))
    by true true w ws = refl
    by true false w ws = refl
    by false true w ws = refl
    by false false w ws = refl

said_ok : (b : Bool) (vs ws : List Value) → ◌≡◌ {A = Result (List Value) Fault}
    (if b then Err fault.Overflow else Ok vs) (Ok ws) → (b ≡ false) × (ws ≡ vs)
said_ok true vs ws h = cc
said_ok false vs ws h = let same : vs ≡ ws = cc in (refl, sym same)

said_err : (b : Bool) (vs : List Value) (f : Fault) → ◌≡◌ {A = Result (List Value) Fault}
    (if b then Err fault.Overflow else Ok vs) (Err f) → b ≡ true
said_err true vs f h = refl
said_err false vs f h = cc

-- ---- of an array

-- the column of leaves is all that an array of them tells
leaves_told : (p q : Primitive) (x : Layout) → array_type x ≡ leaf q
    → told_of p x ≡ told false (list_any (leaf_past p) (array_items x))
leaves_told p q x e = rw e refl

pub lane_long : (x : Layout) (c : Column) → IsLaneOf x c → size_of c ≡ len x
lane_long x c l = sym (length-lane c) ∙ sym (ap length l.values) ∙ length-array_items x

lane_value : (c : Column) (i : ℕ) → i < size_of c
    → get_or (lane_values c) i null ≡ item (flat c) i
lane_value c i h =
    get_or-map (leaf_value c.kind) (lane_numbers c) i (pos 0) null
    (omega (arith, h, length-map c.items (element c.kind)))
    ∙ ap (leaf_value c.kind) (get_or-map (element c.kind) c.items i (pos 0) (pos 0) h)

module _ (p : Primitive) (x : Layout) (c r : Column) (l : IsLaneOf x c)
    (said : leaves_said p (lane_values c) ≡ Ok (lane_values r)) where
  both : (list_any (leaf_past p) (array_items x) ≡ false)
      × (lane_values r ≡ map (cast_leaf p) (array_items x))
  both =
      rw l.values
      (said_ok (list_any (leaf_past p) (lane_values c)) (map (cast_leaf p) (lane_values c))
      (lane_values r) said)

  pub lane_size : size_of r ≡ len x
  lane_size =
      sym (length-lane r) ∙ ap length both.1
      ∙ length-map (array_items x) (cast_leaf p) ∙ length-array_items x

  pub numbers_cast : r.kind ≡ kind_of p → IsAnswer p x (Ok (flat r))
  numbers_cast k = (
    leaves_told p (primitive_of c.kind) x l.typ ∙ ap (told false) both.0,
    record {
      size = lane_size;
      typ = ap (λ k. leaf (primitive_of k)) k ∙ ap leaf (primitive_of-kind_of p)
          ∙ ap (cast_type p) (sym l.typ);
      items = λ i h.
          sym (lane_value r i (omega (arith, h, lane_size)))
          ∙ ap (λ vs. get_or vs i null) both.1
          ∙ get_or-map (cast_leaf p) (array_items x) i null null
          (omega (arith, h, length-array_items x))
          ∙ ap (cast_leaf p) (get_or-array_items x i h)
          ∙ ap (λ t. cast_value p t (array_item x i)) (sym l.typ);
    },
  )

pub numbers_told : (p : Primitive) (x : Layout) (c : Column) (f : Fault) → IsLaneOf x c
    → Told (fault_told f) (leaves_said p (lane_values c)) → IsTold (told_of p x) (leaf_fault f)
numbers_told p x c f l h = go f h
  where
    past : (g : Fault) → leaves_said p (lane_values c) ≡ Err g
        → told_of p x ≡ Some fault.Overflow
    past g e =
        leaves_told p (primitive_of c.kind) x l.typ
        ∙ ap (told false) (ap (list_any (leaf_past p)) l.values
        ∙ said_err (list_any (leaf_past p) (lane_values c)) (map (cast_leaf p) (lane_values c)) g e)

    go : (g : Fault) → Told (fault_told g) (leaves_said p (lane_values c))
        → IsTold (told_of p x) (leaf_fault g)
    go fault.NoMemory e = tt
    go (fault.Unbound n) e = past (fault.Unbound n) e
    go (fault.NoField n) e = past (fault.NoField n) e
    go fault.Axis e = past fault.Axis e
    go fault.WrongType e = past fault.WrongType e
    go fault.Overflow e = past fault.Overflow e
    go fault.Zero e = past fault.Zero e
    go fault.Depth e = past fault.Depth e
    go fault.Size e = past fault.Size e
    go fault.Lengths e = past fault.Lengths e
    go fault.Index e = past fault.Index e

-- ---- leaves of the primitive itself

truth_stays : (b : Bool) → value_in prim.Bool (number_of (truth b)) ≡ truth b
truth_stays true = refl
truth_stays false = refl

int_stays : (p : Primitive) (z : ℤ) → Holds p z → (value_in p z ≡ int z) × (is_past p z ≡ false)
int_stays prim.Bool z h = absurd (grind (arith, ints, h.0, h.1))
int_stays prim.I8 z h = (refl, ap not (holds_fits prim.I8 z h))
int_stays prim.I16 z h = (refl, ap not (holds_fits prim.I16 z h))
int_stays prim.I32 z h = (refl, ap not (holds_fits prim.I32 z h))
int_stays prim.I64 z h = (refl, ap not (holds_fits prim.I64 z h))
int_stays prim.U8 z h = (refl, ap not (holds_fits prim.U8 z h))
int_stays prim.U16 z h = (refl, ap not (holds_fits prim.U16 z h))
int_stays prim.U32 z h = (refl, ap not (holds_fits prim.U32 z h))
int_stays prim.U64 z h = (refl, ap not (holds_fits prim.U64 z h))

leaf_stays : (p : Primitive) (v : Value) → Has (leaf p) v
    → (cast_leaf p v ≡ v) × (leaf_past p v ≡ false)
leaf_stays p (int z) h = int_stays p z h
leaf_stays prim.Bool (truth b) h = (truth_stays b, refl)
leaf_stays p v h = absurd h

leaves_stay : (p : Primitive) (vs : List Value) → AllByRecursion (Has (leaf p)) vs
    → list_any (leaf_past p) vs ≡ false
leaves_stay p [] h = refl
leaves_stay p (v ∷ vs) h = ap₂ (λ b c. b || c) (leaf_stays p v h.0).1 (leaves_stay p vs h.1)

all_at : (P : Value → Type 0) (vs : List Value) (i : ℕ) → i < length vs → AllByRecursion P vs
    → P (get_or vs i null)
all_at P [] i l h = absurd (omega (arith, l))
all_at P (v ∷ vs) zero l h = h.0
all_at P (v ∷ vs) (suc i) l h = all_at P vs i (omega (arith, l)) h.1

no_union : (b : Bool) (ts : DataTypes) (p : Primitive) → option_if b (uni ts) ≡ leaf p → ⊥
no_union true ts p e = cc
no_union false ts p e = cc

simple_leaf : (t : DataType) (p : Primitive) → simple t ≡ leaf p → t ≡ leaf p
simple_leaf unknown p e = cc
simple_leaf (leaf q) p e = e
simple_leaf (var t) p e = cc
simple_leaf (reg n t) p e = cc
simple_leaf (rec ns ts) p e = cc
simple_leaf (tup ts) p e = cc
simple_leaf (opt t) p e = cc
simple_leaf (uni ts) p e = absurd (no_union _ _ p e)

-- the array as it lies
pub own_cast : (p : Primitive) (x : Layout) → array_type x ≡ leaf p
    → AllByRecursion (Has (array_type x)) (array_items x) → IsAnswer p x (Ok x)
own_cast p x e h =
    let own : layout_type x ≡ leaf p = simple_leaf (layout_type x) p e in
    let all : AllByRecursion (Has (leaf p)) (array_items x) = rw e at h in (
      leaves_told p p x e ∙ ap (told false) (leaves_stay p (array_items x) all),
      record {
        size = refl;
        typ = own ∙ sym (ap (cast_type p) e);
        items = λ i l.
            let at : get_or (array_items x) i null ≡ array_item x i = get_or-array_items x i l in
            let has : Has (leaf p) (array_item x i) =
            subst (Has (leaf p)) at
            (all_at (Has (leaf p)) (array_items x) i (omega (arith, l, length-array_items x)) all)
            in
            sym (ap (λ t. simple_value t (item x i)) own)
            ∙ sym (leaf_stays p (array_item x i) has).0
            ∙ ap (λ t. cast_value p t (array_item x i)) (sym e);
      },
    )
