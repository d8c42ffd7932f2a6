-- Values of sides as numbers.
use Rattle.std.proofs.Common.{◌≡◌, ℕ, zero, suc, List, [], ◌∷◌, map, get_or, refl, ap, ap₂}
use Rattle.std.proofs.Common.{sym, ◌∙◌, subst, inl, inr, arith, replicate}
use Rattle.std.specs.Prelude.{ℤ, pos, Bool, true, false, if◌then◌else◌}
use Rattle.std.specs.List.{AllByRecursion, range_with_len}
use Rattle.std.proofs.lemmas.Int.{ints}
use Rattle.awk_types.specs.Parts.{number_of}
use Rattle.std.proofs.lemmas.Simd.{map-map, pick_l_whole}
use Rattle.awk_types.specs.Predicates.{is_null}
use Rattle.awk_types.specs.Value.{Value, int, truth}
use Rattle.awk_types.specs.declared.primitive.Primitive.{Primitive}
use Rattle.awk_types.specs.declared.primitive.Primitive.TheVariants as prim
use Rattle.awk_lanes.specs.Column.{Column}
use Rattle.awk_lanes.specs.Numbers.{element, is_nonzero}
use Rattle.awk_lanes.specs.Ranges.{IsNumber, AreNumbers}
use Rattle.awk_lanes.specs.declared.kind.Kind.{Kind}
use Rattle.awk_lanes.specs.declared.kind.Kind.TheVariants.{Bool as Truths, I8, I16, I32, I64}
use Rattle.awk_lanes.specs.declared.kind.Kind.TheVariants.{U8, U16, U32, U64}
use Rattle.awk_lanes.specs.Places.{at, size_of}
use Rattle.awk_layout.specs.Item.{leaf_value}
use Rattle.awk_layout.specs.Kinds.{primitive_of}
use Rattle.awk_numbers.specs.Folds.{lane_numbers}
use Rattle.awk_leaves.specs.Values.{value_in}
use Rattle.awk_leaves.specs.declared.leaf_type.LeafType.TheVariants.{Of, Literal}
use Rattle.awk_pointwise.specs.Numbers.{IsTyped, AreTyped, IsPresent, AreNumbersOf, word_numbers}
use Rattle.awk_pointwise.specs.declared.words.Words.{Words}
use Rattle.awk_pointwise.specs.Sides.{lane_values, IsLeafNumber, IsNumber64}

-- ---- lists

all_at : {X : Type 0} (P : X → Type 0) (d : X) (xs : List X) → ((i : ℕ) → P (get_or xs i d))
    → AllByRecursion P xs
all_at P d [] h = tt
all_at P d (x ∷ xs) h = (h 0, all_at P d xs (λ i. h (suc i)))

pub all-map : {X Y : Type 0} (P : X → Type 0) (Q : Y → Type 0) (f : X → Y) (xs : List X)
    → ((x : X) → P x → Q (f x)) → AllByRecursion P xs → AllByRecursion Q (map f xs)
all-map P Q f [] h a = tt
all-map P Q f (x ∷ xs) h a = (h x a.0, all-map P Q f xs h a.1)

pub all-replicate : {X : Type 0} (P : X → Type 0) (n : ℕ) (x : X) → P x
    → AllByRecursion P (replicate n x)
all-replicate P zero x h = tt
all-replicate P (suc n) x h = (h, all-replicate P n x h)

pub map-replicate : {X Y : Type 0} (f : X → Y) (n : ℕ) (x : X)
    → map f (replicate n x) ≡ replicate n (f x)
map-replicate f zero x = refl
map-replicate f (suc n) x = ap (λ ys. f x ∷ ys) (map-replicate f n x)

-- ---- leaves of lanes

pub not_null : (k : Kind) (z : ℤ) → is_null (leaf_value k z) ≡ false
not_null Truths z = refl
not_null I8 z = refl
not_null I16 z = refl
not_null I32 z = refl
not_null I64 z = refl
not_null U8 z = refl
not_null U16 z = refl
not_null U32 z = refl
not_null U64 z = refl

truth_number : (b : Bool) → number_of (truth (is_nonzero (pos (if b then 1 else 0))))
    ≡ pos (if b then 1 else 0)
truth_number true = refl
truth_number false = refl

pub leaf_number : (k : Kind) (z : ℤ) → number_of (leaf_value k (element k z)) ≡ element k z
leaf_number Truths z = truth_number (is_nonzero z)
leaf_number I8 z = refl
leaf_number I16 z = refl
leaf_number I32 z = refl
leaf_number I64 z = refl
leaf_number U8 z = refl
leaf_number U16 z = refl
leaf_number U32 z = refl
leaf_number U64 z = refl

pub leaves_numbers : (k : Kind) (zs : List ℤ)
    → map (element k) zs ≡ map number_of (map (leaf_value k) (map (element k) zs))
leaves_numbers k [] = refl
leaves_numbers k (z ∷ zs) = ap₂ (λ y ys. y ∷ ys) (sym (leaf_number k z)) (leaves_numbers k zs)

pub leaves_present : (k : Kind) (zs : List ℤ) → AllByRecursion IsPresent (map (leaf_value k) zs)
leaves_present k [] = tt
leaves_present k (z ∷ zs) = (not_null k z, leaves_present k zs)

truth_typed : (b : Bool) → IsLeafNumber prim.Bool (pos (if b then 1 else 0))
truth_typed true = inr refl
truth_typed false = inl refl

pub number_typed : (k : Kind) (z : ℤ) → IsNumber k z → IsTyped (Of (primitive_of k)) (element k z)
number_typed Truths z h = truth_typed (is_nonzero z)
number_typed I8 z h = h
number_typed I16 z h = h
number_typed I32 z h = h
number_typed I64 z h = h
number_typed U8 z h = h
number_typed U16 z h = h
number_typed U32 z h = h
number_typed U64 z h = h

pub lane_seen : (c : Column) (w : Words) → AreNumbers c → word_numbers w ≡ lane_numbers c
    → AreNumbersOf (Of (primitive_of c.kind)) (lane_values c) w
lane_seen c w h e = record {
  numbers = e ∙ leaves_numbers c.kind c.items;
  present = leaves_present c.kind (lane_numbers c);
  typed = subst (AreTyped (Of (primitive_of c.kind))) (sym e)
      (all-map (IsNumber c.kind) (IsTyped (Of (primitive_of c.kind))) (element c.kind) c.items
      (number_typed c.kind) (all_at (IsNumber c.kind) (pos 0) c.items h));
}

-- ---- one number at all places

pub one_number : (p : Primitive) (z : ℤ) → IsLeafNumber p z → number_of (value_in p z) ≡ z
one_number prim.Bool z (inl e) = subst (λ z. number_of (value_in prim.Bool z) ≡ z) (sym e) refl
one_number prim.Bool z (inr e) = subst (λ z. number_of (value_in prim.Bool z) ≡ z) (sym e) refl
one_number prim.I8 z h = refl
one_number prim.I16 z h = refl
one_number prim.I32 z h = refl
one_number prim.I64 z h = refl
one_number prim.U8 z h = refl
one_number prim.U16 z h = refl
one_number prim.U32 z h = refl
one_number prim.U64 z h = refl

pub one_present : (p : Primitive) (z : ℤ) → is_null (value_in p z) ≡ false
one_present prim.Bool z = refl
one_present prim.I8 z = refl
one_present prim.I16 z = refl
one_present prim.I32 z = refl
one_present prim.I64 z = refl
one_present prim.U8 z = refl
one_present prim.U16 z = refl
one_present prim.U32 z = refl
one_present prim.U64 z = refl

repeated_numbers : (n : ℕ) (v : Value) (z : ℤ) (zs : List ℤ) → zs ≡ replicate n z
    → number_of v ≡ z → zs ≡ map number_of (replicate n v)
repeated_numbers n v z zs e h = e ∙ ap (replicate n) (sym h) ∙ sym (map-replicate number_of n v)

pub one_seen : (p : Primitive) (z : ℤ) (n : ℕ) (w : Words) → IsLeafNumber p z
    → word_numbers w ≡ replicate n z → AreNumbersOf (Of p) (replicate n (value_in p z)) w
one_seen p z n w h e = record {
  numbers = repeated_numbers n (value_in p z) z (word_numbers w) e (one_number p z h);
  present = all-replicate IsPresent n (value_in p z) (one_present p z);
  typed = subst (AreTyped (Of p)) (sym e) (all-replicate (IsTyped (Of p)) n z h);
}

pub literal_seen : (z : ℤ) (n : ℕ) (w : Words) → word_numbers w ≡ replicate n z
    → AreNumbersOf (Literal z) (replicate n (int z)) w
literal_seen z n w e = record {
  numbers = repeated_numbers n (int z) z (word_numbers w) e refl;
  present = all-replicate IsPresent n (int z) refl;
  typed = subst (AreTyped (Literal z)) (sym e) (all-replicate (IsTyped (Literal z)) n z refl);
}

pub leaf_64 : (p : Primitive) (z : ℤ) → IsLeafNumber p z → IsNumber64 z
leaf_64 prim.Bool z (inl e) = subst IsNumber64 (sym e) (grind (arith, ints))
leaf_64 prim.Bool z (inr e) = subst IsNumber64 (sym e) (grind (arith, ints))
leaf_64 prim.I8 z h = grind (arith, ints, h.0, h.1)
leaf_64 prim.I16 z h = grind (arith, ints, h.0, h.1)
leaf_64 prim.I32 z h = grind (arith, ints, h.0, h.1)
leaf_64 prim.I64 z h = grind (arith, ints, h.0, h.1)
leaf_64 prim.U8 z h = grind (arith, ints, h.0, h.1)
leaf_64 prim.U16 z h = grind (arith, ints, h.0, h.1)
leaf_64 prim.U32 z h = grind (arith, ints, h.0, h.1)
leaf_64 prim.U64 z h = grind (arith, ints, h.0, h.1)

-- the leaves at each place of a lane
pub lane_values-at : (c : Column)
    → map (λ i. leaf_value c.kind (at c i)) (range_with_len 0 (size_of c)) ≡ lane_values c
lane_values-at c =
    sym (map-map (λ z. leaf_value c.kind (element c.kind z)) (λ i. get_or c.items i (pos 0))
    (range_with_len 0 (size_of c)))
    ∙ ap (map (λ z. leaf_value c.kind (element c.kind z)))
    (pick_l_whole (pos 0) c.items (size_of c) refl)
    ∙ sym (map-map (leaf_value c.kind) (element c.kind) c.items)
