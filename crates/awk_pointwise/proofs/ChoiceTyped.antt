-- What is chosen is null, or of the primitive of the choice.
use Rattle.std.proofs.Common.{◌≡◌, ℕ, zero, suc, ◌<◌, List, [], ◌∷◌, map, get_or, refl, ap, ap₂}
use Rattle.std.proofs.Common.{sym, subst, ◌∙◌, inl, inr}
use Rattle.std.specs.Prelude.{ℤ, pos, Bool, true, false, ◌⊎◌, Option, Some, None, Result, Ok}
use Rattle.std.specs.Prelude.{if◌then◌else◌}
use Rattle.std.specs.List.{AllByRecursion}
use Rattle.std.proofs.lemmas.Bool.{or_parts}
use Rattle.awk_base.proofs.Every.{all-impl}
use Rattle.awk_types.specs.Has.{Holds}
use Rattle.awk_types.specs.Parts.{number_of}
use Rattle.awk_types.specs.Predicates.{is_null}
use Rattle.awk_primitives.specs.Promotion.{is_whole}
use Rattle.awk_types.specs.Value.{Value, int, truth, null}
use Rattle.awk_types.specs.declared.fault.Fault.{Fault}
use Rattle.awk_types.specs.declared.primitive.Primitive.{Primitive}
use Rattle.awk_types.specs.declared.primitive.Primitive.TheVariants as prim
use Rattle.awk_leaves.specs.LeafTypes.{type_beside, overflows, number_type, choice_type, are_truths}
use Rattle.awk_leaves.specs.LeafTypes.{truth_type}
use Rattle.awk_leaves.specs.Table.{choice_judged, chosen_judged, judged, one_overflows}
use Rattle.awk_leaves.specs.Values.{value_in, chosen_at, is_nonzero}
use Rattle.awk_leaves.specs.declared.leaf_type.LeafType.{LeafType}
use Rattle.awk_leaves.specs.declared.leaf_type.LeafType.TheVariants.{Of, Unknown, Literal}
use Rattle.awk_lanes.specs.Numbers.{element, is_nonzero as nonzero}
use Rattle.awk_lanes.specs.Places.{option_place}
use Rattle.awk_lanes.specs.Ranges.{IsNumber}
use Rattle.awk_lanes.specs.declared.kind.Kind.{Kind}
use Rattle.awk_lanes.specs.declared.kind.Kind.TheVariants as kind
use Rattle.awk_layout.specs.Item.{leaf_value, at_option}
use Rattle.awk_layout.specs.Kinds.{primitive_of}
use Rattle.awk_pointwise.specs.Choice.{chosen_value}
use Rattle.awk_pointwise.specs.Optional.{optional_type, optional_at, side_at, IsOptional, AreKnown}
use Rattle.awk_pointwise.specs.Optional.{AreKnownSide}
use Rattle.awk_pointwise.specs.declared.choice.Choice.{Choice}
use Rattle.awk_pointwise.specs.declared.optional.Optional.{Optional}
use Rattle.awk_pointwise.specs.declared.optional.Optional.TheVariants as optional
use Rattle.awk_pointwise.specs.declared.sides.Side.{Side}
use Rattle.awk_pointwise.specs.declared.sides.Side.TheVariants as side
use Rattle.awk_pointwise.proofs.SideLaws.{leaf_number, number_typed, one_number, all-replicate}
use Rattle.awk_pointwise.specs.Numbers.{IsTyped}
use Rattle.awk_pointwise.specs.Sides.{lane_values, leaf_type, side_values, IsSide, IsLeafNumber}
use Rattle.awk_pointwise.proofs.ChoiceLaws.{FitsIn}
use Rattle.awk_pointwise.proofs.RangeLaws.{both_whole, first_holds, second_holds, result_whole}
use Rattle.awk_pointwise.proofs.ReadyLaws.{IsJudged, judged_ok}
use Rattle.awk_pointwise.proofs.SingleLaws.{zero_held}

-- ---- null, or a leaf of a type

abbrev pub IsLeafOf : LeafType → Value → Type 0
IsLeafOf (Of q) v = IsLeafNumber q (number_of v) × (v ≡ value_in q (number_of v))
IsLeafOf Unknown v = ⊥
IsLeafOf (Literal z) v = v ≡ int z

abbrev pub IsLeafAt : LeafType → Value → Type 0
IsLeafAt t v = (v ≡ null) ⊎ IsLeafOf t v

fits_null : (p : Primitive) → FitsIn p null
fits_null prim.Bool = record { number = inl refl; same = refl }
fits_null prim.I8 = record { number = zero_held prim.I8 refl; same = refl }
fits_null prim.I16 = record { number = zero_held prim.I16 refl; same = refl }
fits_null prim.I32 = record { number = zero_held prim.I32 refl; same = refl }
fits_null prim.I64 = record { number = zero_held prim.I64 refl; same = refl }
fits_null prim.U8 = record { number = zero_held prim.U8 refl; same = refl }
fits_null prim.U16 = record { number = zero_held prim.U16 refl; same = refl }
fits_null prim.U32 = record { number = zero_held prim.U32 refl; same = refl }
fits_null prim.U64 = record { number = zero_held prim.U64 refl; same = refl }

fits_truth : (z : ℤ) → IsLeafNumber prim.Bool z → FitsIn prim.Bool (value_in prim.Bool z)
fits_truth z (inl e) = subst (λ z. FitsIn prim.Bool (value_in prim.Bool z)) (sym e)
    (record { number = inl refl; same = refl })
fits_truth z (inr e) = subst (λ z. FitsIn prim.Bool (value_in prim.Bool z)) (sym e)
    (record { number = inr refl; same = refl })

fits_int : (p : Primitive) (z : ℤ) → is_whole p ≡ true → Holds p z → FitsIn p (int z)
fits_int prim.Bool z w h = absurd (cc)
fits_int prim.I8 z w h = record { number = h; same = refl }
fits_int prim.I16 z w h = record { number = h; same = refl }
fits_int prim.I32 z w h = record { number = h; same = refl }
fits_int prim.I64 z w h = record { number = h; same = refl }
fits_int prim.U8 z w h = record { number = h; same = refl }
fits_int prim.U16 z w h = record { number = h; same = refl }
fits_int prim.U32 z w h = record { number = h; same = refl }
fits_int prim.U64 z w h = record { number = h; same = refl }

-- ---- truth values on both sides

record AreBool (p q : Primitive) : Type 0 where
  left : p ≡ prim.Bool
  right : q ≡ prim.Bool

are_bool : (p q : Primitive) → are_truths p q ≡ true → AreBool p q
are_bool prim.Bool prim.Bool e = record { left = refl; right = refl }
are_bool prim.Bool prim.I8 e = absurd (cc)
are_bool prim.Bool prim.I16 e = absurd (cc)
are_bool prim.Bool prim.I32 e = absurd (cc)
are_bool prim.Bool prim.I64 e = absurd (cc)
are_bool prim.Bool prim.U8 e = absurd (cc)
are_bool prim.Bool prim.U16 e = absurd (cc)
are_bool prim.Bool prim.U32 e = absurd (cc)
are_bool prim.Bool prim.U64 e = absurd (cc)
are_bool prim.I8 q e = absurd (cc)
are_bool prim.I16 q e = absurd (cc)
are_bool prim.I32 q e = absurd (cc)
are_bool prim.I64 q e = absurd (cc)
are_bool prim.U8 q e = absurd (cc)
are_bool prim.U16 q e = absurd (cc)
are_bool prim.U32 q e = absurd (cc)
are_bool prim.U64 q e = absurd (cc)

truth_leaf : (t u : LeafType) (v : Value) → type_beside t u ≡ prim.Bool → IsLeafOf t v
    → FitsIn prim.Bool v
truth_leaf (Of q) u v e h =
    let number : IsLeafNumber prim.Bool (number_of v) =
    subst (λ q. IsLeafNumber q (number_of v)) e h.0 in
    subst (FitsIn prim.Bool) (sym (h.1 ∙ ap (λ q. value_in q (number_of v)) e))
    (fits_truth (number_of v) number)
truth_leaf Unknown u v e h = absurd h
truth_leaf (Literal z) (Of prim.Bool) v e h = absurd (cc)
truth_leaf (Literal z) (Of prim.I8) v e h = absurd (cc)
truth_leaf (Literal z) (Of prim.I16) v e h = absurd (cc)
truth_leaf (Literal z) (Of prim.I32) v e h = absurd (cc)
truth_leaf (Literal z) (Of prim.I64) v e h = absurd (cc)
truth_leaf (Literal z) (Of prim.U8) v e h = absurd (cc)
truth_leaf (Literal z) (Of prim.U16) v e h = absurd (cc)
truth_leaf (Literal z) (Of prim.U32) v e h = absurd (cc)
truth_leaf (Literal z) (Of prim.U64) v e h = absurd (cc)
truth_leaf (Literal z) Unknown v e h = absurd (cc)
truth_leaf (Literal z) (Literal y) v e h = absurd (cc)

-- ---- whole numbers

leaf_typed : (t : LeafType) (v : Value) → IsLeafOf t v → IsTyped t (number_of v)
leaf_typed (Of q) v h = h.0
leaf_typed Unknown v h = h
leaf_typed (Literal z) v h = ap number_of h

whole_in : (q : Primitive) (z : ℤ) → is_whole q ≡ true → value_in q z ≡ int z
whole_in prim.Bool z w = absurd (cc)
whole_in prim.I8 z w = refl
whole_in prim.I16 z w = refl
whole_in prim.I32 z w = refl
whole_in prim.I64 z w = refl
whole_in prim.U8 z w = refl
whole_in prim.U16 z w = refl
whole_in prim.U32 z w = refl
whole_in prim.U64 z w = refl

whole_leaf : (t u : LeafType) (v : Value) → is_whole (type_beside t u) ≡ true → IsLeafOf t v
    → v ≡ int (number_of v)
whole_leaf (Of q) u v w h = h.1 ∙ whole_in q (number_of v) w
whole_leaf Unknown u v w h = absurd h
whole_leaf (Literal z) u v w h = h ∙ ap int (sym (ap number_of h))

-- ---- the sides of a choice

first_leaf : (t u : LeafType) (p : Primitive) (v : Value) → choice_type t u ≡ Some p
    → overflows t u ≡ false → IsLeafAt t v → FitsIn p v
first_leaf t u p v e o (inl i) = subst (FitsIn p) (sym i) (fits_null p)
first_leaf t u p v e o (inr h) = go (are_truths (type_beside t u) (type_beside u t)) refl e
  where
    go : (b : Bool) → are_truths (type_beside t u) (type_beside u t) ≡ b
        → (if b then Some prim.Bool else number_type t u) ≡ Some p → FitsIn p v
    go true i e = let same : prim.Bool ≡ p = cc in subst (λ p. FitsIn p v) same
        (truth_leaf t u v (are_bool (type_beside t u) (type_beside u t) i).left h)
    go false i e =
        let w = both_whole (type_beside t u) (type_beside u t) p e in
        subst (FitsIn p) (sym (whole_leaf t u v w.0 h)) (fits_int p (number_of v)
        (result_whole t u p e)
        (first_holds t u p (number_of v ∷ []) e o (leaf_typed t v h, tt)).0)

second_leaf : (t u : LeafType) (p : Primitive) (v : Value) → choice_type t u ≡ Some p
    → overflows u t ≡ false → IsLeafAt u v → FitsIn p v
second_leaf t u p v e o (inl i) = subst (FitsIn p) (sym i) (fits_null p)
second_leaf t u p v e o (inr h) = go (are_truths (type_beside t u) (type_beside u t)) refl e
  where
    go : (b : Bool) → are_truths (type_beside t u) (type_beside u t) ≡ b
        → (if b then Some prim.Bool else number_type t u) ≡ Some p → FitsIn p v
    go true i e = let same : prim.Bool ≡ p = cc in subst (λ p. FitsIn p v) same
        (truth_leaf u t v (are_bool (type_beside t u) (type_beside u t) i).right h)
    go false i e =
        let w = both_whole (type_beside t u) (type_beside u t) p e in
        subst (FitsIn p) (sym (whole_leaf u t v w.1 h)) (fits_int p (number_of v)
        (result_whole t u p e)
        (second_holds t u p (number_of v ∷ []) e o (leaf_typed u v h, tt)).0)

chosen_fits : (p : Primitive) (c x y : Value) → FitsIn p x → FitsIn p y
    → FitsIn p (chosen_at c x y)
chosen_fits p c x y a b = go (is_null c) (is_nonzero (number_of c))
  where
    go : (m n : Bool) → FitsIn p (if m then null else if n then x else y)
    go true n = fits_null p
    go false true = a
    go false false = b

choice_ok : (o : Option Primitive) (t u : LeafType) (p : Primitive) → chosen_judged o t u ≡ Ok p
    → judged (choice_type t u) (one_overflows t u) ≡ Ok p
choice_ok None t u p e = absurd (cc)
choice_ok (Some q) t u p e = e

-- what is chosen of leaves fits the primitive that was judged
pub choice_fits : (s t u : LeafType) (p : Primitive) (c x y : Value)
    → choice_judged s t u ≡ Ok p → IsLeafAt t x → IsLeafAt u y → FitsIn p (chosen_at c x y)
choice_fits s t u p c x y e a b =
    let j = judged_ok (choice_type t u) (one_overflows t u) p
    (choice_ok (truth_type s) t u p e) in
    let o = or_parts (overflows t u) (overflows u t) j.fits in
    chosen_fits p c x y (first_leaf t u p x j.typed o.0 a) (second_leaf t u p y j.typed o.1 b)

-- ---- leaves of sides

truth_is : (b : Bool) → truth (nonzero (pos (if b then 1 else 0)))
    ≡ value_in prim.Bool (pos (if b then 1 else 0))
truth_is true = refl
truth_is false = refl

leaf_is : (k : Kind) (z : ℤ) → leaf_value k (element k z) ≡ value_in (primitive_of k) (element k z)
leaf_is kind.Bool z = truth_is (nonzero z)
leaf_is kind.I8 z = refl
leaf_is kind.I16 z = refl
leaf_is kind.I32 z = refl
leaf_is kind.I64 z = refl
leaf_is kind.U8 z = refl
leaf_is kind.U16 z = refl
leaf_is kind.U32 z = refl
leaf_is kind.U64 z = refl

leaf_one : (k : Kind) (z : ℤ) → IsNumber k z
    → IsLeafAt (Of (primitive_of k)) (leaf_value k (element k z))
leaf_one k z h =
    inr (
      subst (IsLeafNumber (primitive_of k)) (sym (leaf_number k z)) (number_typed k z h),
      leaf_is k z ∙ ap (value_in (primitive_of k)) (sym (leaf_number k z)),
    )

leaves_at : (k : Kind) (zs : List ℤ) → ((i : ℕ) → IsNumber k (get_or zs i (pos 0)))
    → AllByRecursion (IsLeafAt (Of (primitive_of k))) (map (leaf_value k) (map (element k) zs))
leaves_at k [] h = tt
leaves_at k (z ∷ zs) h = (leaf_one k z (h 0), leaves_at k zs (λ i. h (suc i)))

get_all : (P : Value → Type 0) (vs : List Value) (k : ℕ) → AllByRecursion P vs → P null
    → P (get_or vs k null)
get_all P [] k a d = d
get_all P (v ∷ vs) zero a d = a.0
get_all P (v ∷ vs) (suc k) a d = get_all P vs k a.1 d

option_leaf : (t : LeafType) (vs : List Value) (o : Option ℕ) → AllByRecursion (IsLeafAt t) vs
    → IsLeafAt t (at_option o (λ k. get_or vs k null))
option_leaf t vs None a = inl refl
option_leaf t vs (Some k) a = get_all (IsLeafAt t) vs k a (inl refl)

side_leaf : (n : ℕ) (s : Side) (i : ℕ) → IsSide n s → AreKnownSide s
    → IsLeafAt (leaf_type s) (side_at i s)
side_leaf n (side.Column lane) i h k =
    leaf_one lane.now.kind (get_or lane.now.items i (pos 0)) (k i)
side_leaf n side.Missing i h k = inl refl
side_leaf n (side.Number p z) i h k =
    inr (
      subst (IsLeafNumber p) (sym (one_number p z h)) h,
      ap (value_in p) (sym (one_number p z h)),
    )
side_leaf n (side.Literal z) i h k = inr refl

pub optional_leaf : (n : ℕ) (x : Optional) (i : ℕ) → IsOptional n x → AreKnown x
    → IsLeafAt (optional_type x) (optional_at i x)
optional_leaf n (optional.Whole s) i h k = side_leaf n s.now i h k
optional_leaf n (optional.Indexed j c) i h k =
    option_leaf (Of (primitive_of c.now.kind)) (lane_values c.now)
    (option_place (get_or j.now.items i (pos 0))) (leaves_at c.now.kind c.now.items k)
optional_leaf n optional.Nulls i h k = inl refl

pub choice_same : (a b c s t u : LeafType) (r : Result Primitive Fault) (p : Primitive) → a ≡ s
    → b ≡ t → c ≡ u → r ≡ choice_judged a b c → r ≡ Ok p → choice_judged s t u ≡ Ok p
choice_same a b c s t u r p e f g h k =
    ap (λ a. choice_judged a t u) (sym e) ∙ ap₂ (choice_judged a) (sym f) (sym g) ∙ sym h ∙ k

pub choices_fit : (n : ℕ) (s : Choice) (p : Primitive)
    → choice_judged (optional_type s.condition.now) (optional_type s.x.now)
    (optional_type s.y.now) ≡ Ok p → IsOptional n s.x.now → IsOptional n s.y.now
    → AreKnown s.x.now → AreKnown s.y.now → (i : ℕ) → i < n → FitsIn p (chosen_value s i)
choices_fit n s p e a b k l i q =
    choice_fits (optional_type s.condition.now) (optional_type s.x.now) (optional_type s.y.now) p
    (optional_at i s.condition.now) (optional_at i s.x.now) (optional_at i s.y.now) e
    (optional_leaf n s.x.now i a k) (optional_leaf n s.y.now i b l)

-- ---- all leaves of a side

side_leaves : (n : ℕ) (s : Side) → IsSide n s → AreKnownSide s
    → AllByRecursion (IsLeafAt (leaf_type s)) (side_values n s)
side_leaves n (side.Column lane) h k = leaves_at lane.now.kind lane.now.items k
side_leaves n side.Missing h k = all-replicate (IsLeafAt Unknown) n null (inl refl)
side_leaves n (side.Number p z) h k =
    all-replicate (IsLeafAt (Of p)) n (value_in p z)
    (inr (
      subst (IsLeafNumber p) (sym (one_number p z h)) h,
      ap (value_in p) (sym (one_number p z h)),
    ))
side_leaves n (side.Literal z) h k = all-replicate (IsLeafAt (Literal z)) n (int z) (inr refl)

module _ (s t u : LeafType) (p : Primitive) (e : choice_judged s t u ≡ Ok p) where
  both_judged : IsJudged (choice_type t u) (one_overflows t u) p
  both_judged = judged_ok (choice_type t u) (one_overflows t u) p
      (choice_ok (truth_type s) t u p e)

  neither_past : (overflows t u ≡ false) × (overflows u t ≡ false)
  neither_past = or_parts (overflows t u) (overflows u t) both_judged.fits

  pub first_fits : (n : ℕ) (x : Side) → leaf_type x ≡ t → IsSide n x → AreKnownSide x
      → AllByRecursion (FitsIn p) (side_values n x)
  first_fits n x i h k =
      all-impl (IsLeafAt t) (FitsIn p) (side_values n x)
      (λ v l. first_leaf t u p v both_judged.typed neither_past.0 l)
      (subst (λ t. AllByRecursion (IsLeafAt t) (side_values n x)) i (side_leaves n x h k))

  pub second_fits : (n : ℕ) (y : Side) → leaf_type y ≡ u → IsSide n y → AreKnownSide y
      → AllByRecursion (FitsIn p) (side_values n y)
  second_fits n y i h k =
      all-impl (IsLeafAt u) (FitsIn p) (side_values n y)
      (λ v l. second_leaf t u p v both_judged.typed neither_past.1 l)
      (subst (λ t. AllByRecursion (IsLeafAt t) (side_values n y)) i (side_leaves n y h k))
