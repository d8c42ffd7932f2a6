-- What a mask chooses, of numbers and of the values that they are.
use Rattle.std.proofs.Common.{◌≡◌, ℕ, zero, suc, ◌+◌, ◌-◌, ◌==◌, ◌≤◌, false, refl, ap}
use Rattle.std.proofs.Common.{ap₂, sym, subst, ◌∙◌, arith, inl, inr}
use Rattle.std.specs.Prelude.{ℤ, pos, List, [], ◌∷◌, map, length, get_or, cond}
use Rattle.std.specs.Prelude.{slice_range, Ok, if◌then◌else◌}
use Rattle.std.specs.List.{AllByRecursion, range_with_len}
use Rattle.std.specs.Simd.Lanes.{zip2}
use Rattle.std.proofs.lemmas.Int.{ints}
use Rattle.std.proofs.lemmas.List.{length-map}
use Rattle.awk_base.proofs.Every.{all-part}
use Rattle.awk_types.specs.Parts.{number_of}
use Rattle.awk_types.specs.Predicates.{is_null}
use Rattle.awk_types.specs.Value.{Value}
use Rattle.awk_types.specs.declared.primitive.Primitive.{Primitive}
use Rattle.awk_types.specs.declared.primitive.Primitive.TheVariants as prim
use Rattle.awk_lanes.specs.Column.{Column}
use Rattle.awk_lanes.specs.Cut.{cut_of}
use Rattle.awk_lanes.specs.Numbers.{element}
use Rattle.awk_lanes.specs.Places.{size_of}
use Rattle.awk_lanes.specs.Ranges.{IsNumber, AreNumbers}
use Rattle.awk_lanes.specs.Words.{column, integers}
use Rattle.awk_lanes.specs.declared.kind.Kind.{Kind}
use Rattle.awk_lanes.specs.declared.kind.Kind.TheVariants as kind
use Rattle.awk_lanes.proofs.RangeLaws.{zero_number}
use Rattle.awk_kernels.specs.Kernels.{chosen}
use Rattle.awk_layout.specs.Item.{leaf_value}
use Rattle.awk_layout.specs.Kinds.{kind_of}
use Rattle.awk_leaves.specs.Values.{chosen_at, chosen_values, all_values, first_fault_or}
use Rattle.awk_leaves.specs.declared.leaf_type.LeafType.{LeafType}
use Rattle.awk_leaves.specs.declared.leaf_type.LeafType.TheVariants.{Of}
use Rattle.awk_pointwise.specs.Blocks.{side_part}
use Rattle.awk_pointwise.specs.Numbers.{word_numbers, AreNumbersOf, IsInt64, IsPresent}
use Rattle.awk_pointwise.specs.Optional.{unless_null}
use Rattle.awk_pointwise.specs.Selection.{IsSelection}
use Rattle.awk_pointwise.specs.Sides.{lane_values, leaf_type, side_values, IsLeafNumber}
use Rattle.awk_pointwise.specs.declared.sides.Side.{Side}
use Rattle.awk_pointwise.specs.declared.words.Words.{Words}
use Rattle.awk_lane_pairs.proofs.GroupLaws.{map-chosen, all-chosen}
use Rattle.awk_pointwise.proofs.BlockLaws.{part-map, part-zip2, part_is, lane-part, length-lane}
use Rattle.awk_pointwise.proofs.BlockLaws.{length-side, length-part}
use Rattle.awk_pointwise.proofs.ChoiceLaws.{FitsIn, chosen_length}
use Rattle.awk_pointwise.proofs.ChoiceTyped.{first_fits, second_fits}
use Rattle.awk_pointwise.proofs.RangeLaws.{all_int64}
use Rattle.awk_pointwise.proofs.SideLaws.{all-map}

-- ---- numbers of leaves

int64 : (p : Primitive) (z : ℤ) → (p ≡ prim.U64 → ⊥) → IsLeafNumber p z → IsInt64 z
int64 prim.Bool z n (inl e) = subst IsInt64 (sym e) (grind (arith, ints))
int64 prim.Bool z n (inr e) = subst IsInt64 (sym e) (grind (arith, ints))
int64 prim.I8 z n h = (all_int64 prim.I8 (z ∷ []) n (h, tt)).0
int64 prim.I16 z n h = (all_int64 prim.I16 (z ∷ []) n (h, tt)).0
int64 prim.I32 z n h = (all_int64 prim.I32 (z ∷ []) n (h, tt)).0
int64 prim.I64 z n h = (all_int64 prim.I64 (z ∷ []) n (h, tt)).0
int64 prim.U8 z n h = (all_int64 prim.U8 (z ∷ []) n (h, tt)).0
int64 prim.U16 z n h = (all_int64 prim.U16 (z ∷ []) n (h, tt)).0
int64 prim.U32 z n h = (all_int64 prim.U32 (z ∷ []) n (h, tt)).0
int64 prim.U64 z n h = absurd (n refl)

pub leaves_int64 : (p : Primitive) (zs : List ℤ) → (p ≡ prim.U64 → ⊥)
    → AllByRecursion (IsLeafNumber p) zs → AllByRecursion IsInt64 zs
leaves_int64 p [] n a = tt
leaves_int64 p (z ∷ zs) n a = (int64 p z n a.0, leaves_int64 p zs n a.1)

leaf_ranged : (p : Primitive) (z : ℤ) → IsLeafNumber p z → IsNumber (kind_of p) z
leaf_ranged prim.Bool z (inl e) = subst (IsNumber kind.Bool) (sym e) (grind (arith, ints))
leaf_ranged prim.Bool z (inr e) = subst (IsNumber kind.Bool) (sym e) (grind (arith, ints))
leaf_ranged prim.I8 z h = h
leaf_ranged prim.I16 z h = h
leaf_ranged prim.I32 z h = h
leaf_ranged prim.I64 z h = h
leaf_ranged prim.U8 z h = h
leaf_ranged prim.U16 z h = h
leaf_ranged prim.U32 z h = h
leaf_ranged prim.U64 z h = h

ranged-at : (p : Primitive) (zs : List ℤ) (i : ℕ) → AllByRecursion (IsLeafNumber p) zs
    → IsNumber (kind_of p) (get_or zs i (pos 0))
ranged-at p [] i a = zero_number (kind_of p)
ranged-at p (z ∷ zs) zero a = leaf_ranged p z a.0
ranged-at p (z ∷ zs) (suc i) a = ranged-at p zs i a.1

-- what is chosen of numbers of a primitive fits its kind
pub chosen_ranged : (p : Primitive) (ms : List ℕ) (xs ys : List ℤ)
    → AllByRecursion (IsLeafNumber p) xs → AllByRecursion (IsLeafNumber p) ys
    → AreNumbers (column (kind_of p) (chosen ms xs ys))
chosen_ranged p ms xs ys a b =
    λ i. ranged-at p (chosen ms xs ys) i (all-chosen (IsLeafNumber p) ms xs ys a b)

-- ---- values that their numbers are

abbrev IsSame : Kind → Value → Type 0
IsSame k v = leaf_value k (element k (number_of v)) ≡ v

fits_same : (p : Primitive) (v : Value) → FitsIn p v → is_null v ≡ false → IsSame (kind_of p) v
fits_same p v f e =
    sym (ap (λ b. unless_null (pos (if b then 1 else 0))
    (leaf_value (kind_of p) (element (kind_of p) (number_of v)))) e)
    ∙ f.same

all_same : (p : Primitive) (vs : List Value) → AllByRecursion (FitsIn p) vs
    → AllByRecursion IsPresent vs → AllByRecursion (IsSame (kind_of p)) vs
all_same p [] a b = tt
all_same p (v ∷ vs) a b = (fits_same p v a.0 b.0, all_same p vs a.1 b.1)

one_chosen : (k : Kind) (m : ℕ) (x y : Value) → IsSame k x → IsSame k y
    → leaf_value k (element k (cond (m == 0) (number_of y) (number_of x)))
    ≡ chosen_at (leaf_value kind.Bool (element kind.Bool (pos m))) x y
one_chosen k zero x y a b = b
one_chosen k (suc n) x y a b =
    let e : (suc n == 0) ≡ false = grind arith in
    ap (λ c. leaf_value k (element k (cond c (number_of y) (number_of x)))) e ∙ a

lists_chosen : (k : Kind) (ms : List ℕ) (xs ys : List Value) → AllByRecursion (IsSame k) xs
    → AllByRecursion (IsSame k) ys
    → map (leaf_value k) (map (element k) (chosen ms (map number_of xs) (map number_of ys)))
    ≡ chosen_values (map (leaf_value kind.Bool) (map (element kind.Bool) (map pos ms))) xs ys
lists_chosen k [] xs ys a b = refl
lists_chosen k (m ∷ ms) [] ys a b = refl
lists_chosen k (m ∷ ms) (x ∷ xs) [] a b = refl
lists_chosen k (m ∷ ms) (x ∷ xs) (y ∷ ys) a b =
    ap₂ (λ v vs. v ∷ vs) (one_chosen k m x y a.0 b.0) (lists_chosen k ms xs ys a.1 b.1)

-- ---- parts

pub values_ok : (vs : List Value) → all_values (map (λ v. Ok v) vs) ≡ Ok vs
values_ok [] = refl
values_ok (v ∷ vs) = ap (first_fault_or (Ok v)) (values_ok vs)

truths_of : (c : Column) (ms : List ℕ) → c.kind ≡ kind.Bool → integers ms ≡ c.items
    → lane_values c ≡ map (leaf_value kind.Bool) (map (element kind.Bool) (map pos ms))
truths_of c ms k e =
    ap (λ k. map (leaf_value k) (map (element k) c.items)) k
    ∙ ap (λ zs. map (leaf_value kind.Bool) (map (element kind.Bool) zs)) (sym e)

part-chosen : (cs xs ys : List Value) (lo hi : ℕ)
    → slice_range (chosen_values cs xs ys) lo hi
    ≡ chosen_values (slice_range cs lo hi) (slice_range xs lo hi) (slice_range ys lo hi)
part-chosen cs xs ys lo hi =
    part-zip2 (λ choose y. choose y) (zip2 chosen_at cs xs) ys lo hi
    ∙ ap (λ fs. zip2 (λ choose y. choose y) fs (slice_range ys lo hi))
    (part-zip2 chosen_at cs xs lo hi)

module _ (p : Primitive) (n : ℕ) (mask : Column) (x y : Side) (h : IsSelection p n mask x y)
    (lo hi : ℕ) (order : lo ≤ hi) (within : hi ≤ n) where
  first_part : AllByRecursion (FitsIn p) (side_part lo hi x)
  first_part =
      subst (AllByRecursion (FitsIn p)) (sym (part_is n x lo hi order within))
      (all-part (FitsIn p) (side_values n x) lo hi
      (first_fits (Of prim.Bool) (leaf_type x) (leaf_type y) p h.judged n x refl h.first
      h.first_known))

  second_part : AllByRecursion (FitsIn p) (side_part lo hi y)
  second_part =
      subst (AllByRecursion (FitsIn p)) (sym (part_is n y lo hi order within))
      (all-part (FitsIn p) (side_values n y) lo hi
      (second_fits (Of prim.Bool) (leaf_type x) (leaf_type y) p h.judged n y refl h.second
      h.second_known))

  leaves_of : (t : LeafType) (vs : List Value) (w : Words) → AllByRecursion (FitsIn p) vs
      → AreNumbersOf t vs w → AllByRecursion (IsLeafNumber p) (word_numbers w)
  leaves_of t vs w a k =
      subst (AllByRecursion (IsLeafNumber p)) (sym k.numbers)
      (all-map (FitsIn p) (IsLeafNumber p) number_of vs (λ v f. f.number) a)

  pub first_leaves : (t : LeafType) (w : Words) → AreNumbersOf t (side_part lo hi x) w
      → AllByRecursion (IsLeafNumber p) (word_numbers w)
  first_leaves t w k = leaves_of t (side_part lo hi x) w first_part k

  pub second_leaves : (t : LeafType) (w : Words) → AreNumbersOf t (side_part lo hi y) w
      → AllByRecursion (IsLeafNumber p) (word_numbers w)
  second_leaves t w k = leaves_of t (side_part lo hi y) w second_part k

  abbrev whole_values : List Value
  whole_values = chosen_values (lane_values mask) (side_values n x) (side_values n y)

  pub selection_part : (t u : LeafType) (part : Column) (ms : List ℕ) (a b : Words) (r : Column)
      → part ≡ cut_of mask lo hi → integers ms ≡ part.items
      → AreNumbersOf t (side_part lo hi x) a → AreNumbersOf u (side_part lo hi y) b
      → r ≡ column (kind_of p) (chosen ms (word_numbers a) (word_numbers b))
      → all_values (slice_range (map (λ v. Ok v) whole_values) lo hi) ≡ Ok (lane_values r)
  selection_part t u part ms a b r e i k l made =
      let xs : List Value = side_part lo hi x in
      let ys : List Value = side_part lo hi y in
      let truths : lane_values (cut_of mask lo hi)
      ≡ map (leaf_value kind.Bool) (map (element kind.Bool) (map pos ms)) =
      truths_of (cut_of mask lo hi) ms h.kind (i ∙ ap (λ (c : Column). c.items) e) in
      ap all_values (sym (part-map (λ v. Ok v) whole_values lo hi))
      ∙ values_ok (slice_range whole_values lo hi)
      ∙ ap (λ vs. Ok vs) (part-chosen (lane_values mask) (side_values n x) (side_values n y) lo hi
      ∙ ap (λ cs. chosen_values cs (slice_range (side_values n x) lo hi)
      (slice_range (side_values n y) lo hi)) (sym (lane-part mask lo hi) ∙ truths)
      ∙ ap₂ (chosen_values (map (leaf_value kind.Bool) (map (element kind.Bool) (map pos ms))))
      (sym (part_is n x lo hi order within)) (sym (part_is n y lo hi order within))
      ∙ sym (lists_chosen (kind_of p) ms xs ys (all_same p xs first_part k.present)
      (all_same p ys second_part l.present))
      ∙ ap₂ (λ zs ws. map (leaf_value (kind_of p)) (map (element (kind_of p)) (chosen ms zs ws)))
      (sym k.numbers) (sym l.numbers)
      ∙ ap lane_values (sym made))

pub mask_size : (mask : Column) (lo hi : ℕ) (part : Column) (ms : List ℕ) → lo ≤ hi
    → hi ≤ size_of mask → part ≡ cut_of mask lo hi → integers ms ≡ part.items
    → length ms ≡ hi - lo
mask_size mask lo hi part ms order within e i =
    sym (length-map ms pos) ∙ ap length (i ∙ ap (λ (c : Column). c.items) e)
    ∙ length-part mask.items lo hi order within

-- ---- the whole choice

none_masked : (a n : ℕ) (vs : List Value) → length vs ≡ n
    → zip2 unless_null (map (λ i. pos 0) (range_with_len a n)) vs ≡ vs
none_masked a zero [] h = refl
none_masked a zero (v ∷ vs) h = absurd (omega (arith, h))
none_masked a (suc n) [] h = absurd (omega (arith, h))
none_masked a (suc n) (v ∷ vs) h =
    ap (λ us. v ∷ us) (none_masked (a + 1) n vs (omega (arith, h)))

pub selection_size : (p : Primitive) (n : ℕ) (mask : Column) (x y : Side)
    → IsSelection p n mask x y
    → length (chosen_values (lane_values mask) (side_values n x) (side_values n y)) ≡ n
selection_size p n mask x y h =
    let l : length (lane_values mask) ≡ n = length-lane mask ∙ h.size in
    chosen_length (lane_values mask) (side_values n x) (side_values n y)
    (length-side n x h.first ∙ sym l) (length-side n y h.second ∙ sym l)
    ∙ l

-- a mask of zeros hides none
pub shown_whole : (n : ℕ) (vs : List Value) (nulls lane : Column) → length vs ≡ n
    → nulls.items ≡ map (λ i. pos 0) (range_with_len 0 n) → vs ≡ lane_values lane
    → vs ≡ zip2 unless_null nulls.items (lane_values lane)
shown_whole n vs nulls lane s e f =
    sym (ap₂ (zip2 unless_null) e (sym f) ∙ none_masked 0 n vs s)

-- ---- numbers as values

one_truth : (m : ℕ) (v w : Value)
    → cond (m == 0) w v ≡ chosen_at (leaf_value kind.Bool (element kind.Bool (pos m))) v w
one_truth zero v w = refl
one_truth (suc n) v w =
    let e : (suc n == 0) ≡ false = grind arith in
    ap (λ c. cond c w v) e

truths_chosen : (ms : List ℕ) (vs ws : List Value) → chosen ms vs ws
    ≡ chosen_values (map (leaf_value kind.Bool) (map (element kind.Bool) (map pos ms))) vs ws
truths_chosen [] vs ws = refl
truths_chosen (m ∷ ms) [] ws = refl
truths_chosen (m ∷ ms) (v ∷ vs) [] = refl
truths_chosen (m ∷ ms) (v ∷ vs) (w ∷ ws) =
    ap₂ (λ u us. u ∷ us) (one_truth m v w) (truths_chosen ms vs ws)

-- the values of the numbers that a lane of truth values chooses
pub lanes_chosen : (mask x y r : Column) (ms : List ℕ) → mask.kind ≡ kind.Bool
    → integers ms ≡ mask.items → y.kind ≡ x.kind → r ≡ column x.kind (chosen ms x.items y.items)
    → lane_values r ≡ chosen_values (lane_values mask) (lane_values x) (lane_values y)
lanes_chosen mask x y r ms k i kinds made =
    ap lane_values made
    ∙ ap (map (leaf_value x.kind)) (map-chosen (element x.kind) ms x.items y.items)
    ∙ map-chosen (leaf_value x.kind) ms (map (element x.kind) x.items)
    (map (element x.kind) y.items)
    ∙ ap (chosen ms (lane_values x)) (ap (λ k. lane_values (column k y.items)) (sym kinds))
    ∙ truths_chosen ms (lane_values x) (lane_values y)
    ∙ ap (λ cs. chosen_values cs (lane_values x) (lane_values y)) (sym (truths_of mask ms k i))

pub mask_long : (mask : Column) (ms : List ℕ) → integers ms ≡ mask.items
    → length ms ≡ size_of mask
mask_long mask ms i = sym (length-map ms pos) ∙ ap length i
