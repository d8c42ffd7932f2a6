-- Choices place by place.
use Rattle.std.proofs.Common.{◌≡◌, ℕ, zero, suc, ◌<◌, List, [], ◌∷◌, length, map, replicate, get_or}
use Rattle.std.proofs.Common.{refl, ap, ap₂, sym, subst, ◌∙◌, arith}
use Rattle.std.specs.Prelude.{ℤ, pos, Bool, true, false, Some, None, if◌then◌else◌}
use Rattle.std.specs.Simd.Lanes.{zip2}
use Rattle.std.proofs.lemmas.List.{ext_get_or, length-map}
use Rattle.std.proofs.lemmas.List.FromFn.{get_or-map-range_with_len}
use Rattle.awk_types.specs.Parts.{number_of, option_number}
use Rattle.awk_types.specs.Predicates.{is_null}
use Rattle.awk_types.specs.Value.{Value, int, null}
use Rattle.awk_types.specs.declared.primitive.Primitive.{Primitive}
use Rattle.awk_lanes.specs.Column.{Column}
use Rattle.awk_lanes.specs.Made.{lane_of}
use Rattle.awk_lanes.specs.Numbers.{element}
use Rattle.awk_lanes.specs.Places.{size_of, at, option_place, option_place_at, IsOptionKind}
use Rattle.awk_lanes.specs.declared.kind.Kind.{Kind}
use Rattle.awk_lanes.specs.declared.kind.Kind.TheVariants as kind
use Rattle.awk_lanes.proofs.MadeLanes.{size-lane_of, at-lane_of}
use Rattle.awk_layout.specs.Item.{leaf_value, at_option}
use Rattle.awk_layout.specs.Kinds.{kind_of}
use Rattle.awk_leaves.specs.Values.{value_in, chosen_at, chosen_values}
use Rattle.awk_pointwise.specs.Choice.{chosen_value, null_number, AreWithin}
use Rattle.awk_pointwise.specs.Optional.{item_at, optional_values, optional_at, side_at, IsOptional}
use Rattle.awk_pointwise.specs.Optional.{HasSidePlace, HasPlace, unless_null, masked_values}
use Rattle.awk_pointwise.specs.Sides.{lane_values, side_values, IsSide, IsLeafNumber}
use Rattle.awk_pointwise.specs.declared.choice.Choice.{Choice}
use Rattle.awk_pointwise.specs.declared.optional.Optional.{Optional}
use Rattle.awk_pointwise.specs.declared.optional.Optional.TheVariants as optional
use Rattle.awk_pointwise.specs.declared.sides.Side.{Side}
use Rattle.awk_pointwise.specs.declared.sides.Side.TheVariants as side
use Rattle.awk_pointwise.proofs.BlockLaws.{length-lane, length-side, length-replicate}
use Rattle.awk_pointwise.proofs.SideLaws.{not_null, leaf_number, one_number, one_present}

-- ---- items at places

map_get : {X Y : Type 0} (f : X → Y) (xs : List X) (i : ℕ) (d : X) (e : Y) → i < length xs
    → get_or (map f xs) i e ≡ f (get_or xs i d)
map_get f [] i d e h = absurd (omega (arith, h))
map_get f (x ∷ xs) zero d e h = refl
map_get f (x ∷ xs) (suc i) d e h = map_get f xs i d e (omega (arith, h))

replicate_get : {X : Type 0} (n : ℕ) (x : X) (i : ℕ) (d : X) → i < n
    → get_or (replicate n x) i d ≡ x
replicate_get zero x i d h = absurd (omega (arith, h))
replicate_get (suc n) x zero d h = refl
replicate_get (suc n) x (suc i) d h = replicate_get n x i d (omega (arith, h))

leaf_get : (c : Column) (i : ℕ) → i < size_of c
    → get_or (lane_values c) i null ≡ leaf_value c.kind (at c i)
leaf_get c i h =
    map_get (leaf_value c.kind) (map (element c.kind) c.items) i (element c.kind (pos 0)) null
    (subst (λ n. i < n) (sym (length-map c.items (element c.kind))) h)
    ∙ ap (leaf_value c.kind) (map_get (element c.kind) c.items i (pos 0)
    (element c.kind (pos 0)) h)

-- ---- values as numbers

shown_present : (v : Value) → is_null v ≡ false → option_number v ≡ Some (number_of v)
shown_present v e = ap (λ b. if b then None else Some (number_of v)) e

pub shown_leaf : (c : Column) (i : ℕ) → i < size_of c
    → Some (at c i) ≡ option_number (get_or (lane_values c) i null)
shown_leaf c i h =
    let z : ℤ = get_or c.items i (pos 0) in
    sym (ap option_number (leaf_get c i h)
    ∙ shown_present (leaf_value c.kind (element c.kind z)) (not_null c.kind (element c.kind z))
    ∙ ap (λ z. Some z) (leaf_number c.kind z))

pub shown_one : (p : Primitive) (z : ℤ) → IsLeafNumber p z → Some z ≡ option_number (value_in p z)
shown_one p z h =
    sym (shown_present (value_in p z) (one_present p z) ∙ ap (λ z. Some z) (one_number p z h))

pub shown_some : (v : Value) (z : ℤ) → option_number v ≡ Some z → number_of v ≡ z
shown_some v z e = go (is_null v) e
  where
    go : (b : Bool) → (if b then None else Some (number_of v)) ≡ Some z → number_of v ≡ z
    go true e = absurd (cc)
    go false e = cc

index_element : (k : Kind) (z : ℤ) → IsOptionKind k → element k z ≡ z
index_element kind.I32 z h = refl
index_element kind.I64 z h = refl
index_element kind.Bool z h = absurd h
index_element kind.I8 z h = absurd h
index_element kind.I16 z h = absurd h
index_element kind.U8 z h = absurd h
index_element kind.U16 z h = absurd h
index_element kind.U32 z h = absurd h
index_element kind.U64 z h = absurd h

-- the item of an index, which has a place
pub indexed_some : (j c : Column) (i k : ℕ) → IsOptionKind j.kind
    → option_place_at j i ≡ Some k → k < size_of c
    → Some (at c k) ≡ option_number (item_at (lane_values c) (get_or j.items i (pos 0)))
indexed_some j c i k h e q =
    let place : option_place (get_or j.items i (pos 0)) ≡ Some k =
    ap option_place (sym (index_element j.kind (get_or j.items i (pos 0)) h)) ∙ e in
    shown_leaf c k q
    ∙ ap (λ o. option_number (at_option o (λ k. get_or (lane_values c) k null))) (sym place)

-- ---- sides by place

side_get : (n : ℕ) (s : Side) (i : ℕ) → IsSide n s → i < n
    → get_or (side_values n s) i null ≡ side_at i s
side_get n (side.Column lane) i h q = leaf_get lane.now i (subst (λ n. i < n) (sym h) q)
side_get n side.Missing i h q = absurd (omega (arith, h, q))
side_get n (side.Number p z) i h q = replicate_get n (value_in p z) i null q
side_get n (side.Literal z) i h q = replicate_get n (int z) i null q

optional_get : (n : ℕ) (x : Optional) (i : ℕ) → IsOptional n x → i < n
    → get_or (optional_values n x) i null ≡ optional_at i x
optional_get n (optional.Whole s) i h q = side_get n s.now i h q
optional_get n (optional.Indexed j c) i h q =
    map_get (item_at (lane_values c.now)) j.now.items i (pos 0) null
    (subst (λ n. i < n) (sym h.0) q)
optional_get n optional.Nulls i h q = replicate_get n null i null q

optional_length : (n : ℕ) (x : Optional) → IsOptional n x → length (optional_values n x) ≡ n
optional_length n (optional.Whole s) h = length-side n s.now h
optional_length n (optional.Indexed j c) h =
    length-map j.now.items (item_at (lane_values c.now)) ∙ h.0
optional_length n optional.Nulls h = length-replicate n null

side_place : (n : ℕ) (s : Side) (i : ℕ) → IsSide n s → i < n → HasSidePlace i s
side_place n (side.Column lane) i h q = subst (λ n. i < n) (sym h) q
side_place n side.Missing i h q = tt
side_place n (side.Number p z) i h q = h
side_place n (side.Literal z) i h q = tt

has_place : (n : ℕ) (x : Optional) (i : ℕ) → IsOptional n x → i < n → HasPlace i x
has_place n (optional.Whole s) i h q = side_place n s.now i h q
has_place n (optional.Indexed j c) i h q = (subst (λ n. i < n) (sym h.0) q, h.1)
has_place n optional.Nulls i h q = tt

pub are_within : (n : ℕ) (s : Choice) → IsOptional n s.condition.now → IsOptional n s.x.now
    → IsOptional n s.y.now → AreWithin n s
are_within n s a b c = λ i q. record {
  condition = has_place n s.condition.now i a q;
  first = has_place n s.x.now i b q;
  second = has_place n s.y.now i c q;
}

-- ---- lists of choices

pub chosen_length : (cs xs ys : List Value) → length xs ≡ length cs → length ys ≡ length cs
    → length (chosen_values cs xs ys) ≡ length cs
chosen_length [] xs ys p q = refl
chosen_length (c ∷ cs) [] ys p q = absurd (omega (arith, p))
chosen_length (c ∷ cs) (x ∷ xs) [] p q = absurd (omega (arith, q))
chosen_length (c ∷ cs) (x ∷ xs) (y ∷ ys) p q =
    ap suc (chosen_length cs xs ys (omega (arith, p)) (omega (arith, q)))

chosen_get : (cs xs ys : List Value) (i : ℕ) → length xs ≡ length cs → length ys ≡ length cs
    → i < length cs → get_or (chosen_values cs xs ys) i null
    ≡ chosen_at (get_or cs i null) (get_or xs i null) (get_or ys i null)
chosen_get [] xs ys i p q h = absurd (omega (arith, h))
chosen_get (c ∷ cs) [] ys i p q h = absurd (omega (arith, p))
chosen_get (c ∷ cs) (x ∷ xs) [] i p q h = absurd (omega (arith, q))
chosen_get (c ∷ cs) (x ∷ xs) (y ∷ ys) zero p q h = refl
chosen_get (c ∷ cs) (x ∷ xs) (y ∷ ys) (suc i) p q h =
    chosen_get cs xs ys i (omega (arith, p)) (omega (arith, q)) (omega (arith, h))

masked_length : (ms : List ℤ) (vs : List Value) → length vs ≡ length ms
    → length (zip2 unless_null ms vs) ≡ length ms
masked_length [] vs p = refl
masked_length (m ∷ ms) [] p = absurd (omega (arith, p))
masked_length (m ∷ ms) (v ∷ vs) p = ap suc (masked_length ms vs (omega (arith, p)))

masked_get : (ms : List ℤ) (vs : List Value) (i : ℕ) → length vs ≡ length ms → i < length ms
    → get_or (zip2 unless_null ms vs) i null
    ≡ unless_null (get_or ms i (pos 0)) (get_or vs i null)
masked_get [] vs i p h = absurd (omega (arith, h))
masked_get (m ∷ ms) [] i p h = absurd (omega (arith, p))
masked_get (m ∷ ms) (v ∷ vs) zero p h = refl
masked_get (m ∷ ms) (v ∷ vs) (suc i) p h =
    masked_get ms vs i (omega (arith, p)) (omega (arith, h))

-- ---- a value that is chosen, in a primitive

-- null, or a number of the primitive
pub record FitsIn (p : Primitive) (v : Value) : Type 0 where
  pub number : IsLeafNumber p (number_of v)
  pub same : unless_null (null_number v)
      (leaf_value (kind_of p) (element (kind_of p) (number_of v))) ≡ v

-- the lane of the numbers, and that of the nulls, have the values
pub choice_is : (n : ℕ) (s : Choice) (p : Primitive) → IsOptional n s.condition.now
    → IsOptional n s.x.now → IsOptional n s.y.now
    → ((i : ℕ) → i < n → FitsIn p (chosen_value s i))
    → chosen_values (optional_values n s.condition.now) (optional_values n s.x.now)
    (optional_values n s.y.now)
    ≡ masked_values (lane_of kind.I8 n (λ i. null_number (chosen_value s i)))
    (lane_of (kind_of p) n (λ i. number_of (chosen_value s i)))
choice_is n s p a b c fits =
    let cs = optional_values n s.condition.now in
    let xs = optional_values n s.x.now in
    let ys = optional_values n s.y.now in
    let nulls = lane_of kind.I8 n (λ i. null_number (chosen_value s i)) in
    let lane = lane_of (kind_of p) n (λ i. number_of (chosen_value s i)) in
    let la = optional_length n s.condition.now a in
    let lb : length xs ≡ length cs = optional_length n s.x.now b ∙ sym la in
    let lc : length ys ≡ length cs = optional_length n s.y.now c ∙ sym la in
    let size = size-lane_of kind.I8 n (λ i. null_number (chosen_value s i)) in
    let wide = size-lane_of (kind_of p) n (λ i. number_of (chosen_value s i)) in
    let lv : length (lane_values lane) ≡ length nulls.items =
    length-lane lane ∙ wide ∙ sym size in
    ext_get_or null (chosen_values cs xs ys) (masked_values nulls lane)
    (chosen_length cs xs ys lb lc ∙ la
    ∙ sym (masked_length nulls.items (lane_values lane) lv ∙ size))
    (λ i h.
    let q : i < n = subst (λ m. i < m) (chosen_length cs xs ys lb lc ∙ la) h in
    chosen_get cs xs ys i lb lc (subst (λ m. i < m) (sym la) q)
    ∙ ap (λ v. chosen_at v (get_or xs i null) (get_or ys i null))
    (optional_get n s.condition.now i a q)
    ∙ ap₂ (chosen_at (optional_at i s.condition.now)) (optional_get n s.x.now i b q)
    (optional_get n s.y.now i c q)
    ∙ sym (fits i q).same
    ∙ sym (masked_get nulls.items (lane_values lane) i lv (subst (λ m. i < m) (sym size) q)
    ∙ ap₂ unless_null
    (get_or-map-range_with_len (λ i. null_number (chosen_value s i)) 0 n i i (pos 0) q
    (omega arith))
    (leaf_get lane i (subst (λ m. i < m) (sym wide) q) ∙ ap (leaf_value (kind_of p))
    (at-lane_of (kind_of p) n (λ i. number_of (chosen_value s i)) i q))))
