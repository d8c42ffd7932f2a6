-- Results block by block.
use Rattle.std.proofs.Common.{◌≡◌, ℕ, zero, suc, ◌+◌, ◌-◌, ◌*◌, ◌/◌, ◌≤◌, List, [], ◌∷◌, ◌++◌}
use Rattle.std.proofs.Common.{length, map, take, drop, replicate, refl, ap, ap₂, sym, subst, ◌∙◌}
use Rattle.std.proofs.Common.{arith, length-take, length-drop}
use Rattle.std.proofs.lemmas.List.{take-append-drop, take-map, drop-replicate, take-replicate}
use Rattle.std.proofs.lemmas.List.{drop-map, map-append, length-map}
use Rattle.std.specs.Prelude.{ℤ, Option, Some, None, Result, Ok, Err, slice_range}
use Rattle.std.specs.Simd.Lanes.{zip2}
use Rattle.awk_types.specs.Gives.{Told}
use Rattle.awk_types.specs.Parts.{number_of}
use Rattle.awk_types.specs.Value.{Value, int, null}
use Rattle.awk_types.specs.declared.fault.Fault.{Fault}
use Rattle.awk_lanes.specs.Column.{Column}
use Rattle.awk_lanes.specs.Numbers.{width, numbers, element}
use Rattle.awk_lanes.specs.Places.{size_of}
use Rattle.awk_lanes.specs.Words.{column}
use Rattle.awk_lanes.specs.declared.kind.Kind.{Kind}
use Rattle.awk_lanes.specs.declared.kind.Kind.TheVariants.{Bool, I8, I16, I32, I64, U8, U16, U32}
use Rattle.awk_lanes.specs.declared.kind.Kind.TheVariants.{U64}
use Rattle.awk_lanes.proofs.NumberParts.{numbers-join}
use Rattle.awk_layout.specs.Item.{leaf_value}
use Rattle.awk_leaves.specs.Values.{all_values, first_fault_or, value_in, binary_at, binary_on}
use Rattle.awk_leaves.specs.declared.leaf_type.LeafType.{LeafType}
use Rattle.awk_leaves.specs.declared.operation.Binary.{Binary}
use Rattle.awk_types.specs.declared.primitive.Primitive.{Primitive}
use Rattle.awk_pointwise.specs.Numbers.{AreNumbersOf, word_numbers}
use Rattle.awk_pointwise.specs.declared.words.Words.{Words}
use Rattle.awk_pointwise.proofs.CalculatedLaws.{present_values}
use Rattle.awk_pointwise.specs.Blocks.{IsSoFar, IsSidePast, side_part}
use Rattle.awk_pointwise.specs.Sides.{lane_values, side_values, IsSide}
use Rattle.awk_pointwise.specs.declared.sides.Side.{Side}
use Rattle.awk_pointwise.specs.declared.sides.Side.TheVariants as side
use Rattle.awk_lanes.specs.Cut.{cut_of}

-- ---- results of one list after another

abbrev after : Result (List Value) Fault → Result (List Value) Fault → Result (List Value) Fault
after (Ok vs) (Ok ws) = Ok (vs ++ ws)
after (Ok vs) (Err f) = Err f
after (Err f) rest = Err f

after-first : (r : Result Value Fault) (a b : Result (List Value) Fault)
    → first_fault_or r (after a b) ≡ after (first_fault_or r a) b
after-first (Ok v) (Ok vs) (Ok ws) = refl
after-first (Ok v) (Ok vs) (Err f) = refl
after-first (Ok v) (Err f) b = refl
after-first (Err f) a b = refl

after-none : (b : Result (List Value) Fault) → after (Ok []) b ≡ b
after-none (Ok ws) = refl
after-none (Err f) = refl

all_values-append : (rs ss : List (Result Value Fault))
    → all_values (rs ++ ss) ≡ after (all_values rs) (all_values ss)
all_values-append [] ss = sym (after-none (all_values ss))
all_values-append (r ∷ rs) ss =
    ap (first_fault_or r) (all_values-append rs ss)
    ∙ after-first r (all_values rs) (all_values ss)

length-values : (rs : List (Result Value Fault)) (vs : List Value) → all_values rs ≡ Ok vs
    → length vs ≡ length rs
length-values [] vs e = let same : vs ≡ [] = cc in ap length same
length-values (Err f ∷ rs) vs e = absurd (cc)
length-values (Ok v ∷ rs) vs e = go (all_values rs) refl (length-values rs) e
  where
    go : (a : Result (List Value) Fault) → all_values rs ≡ a
        → ((ws : List Value) → all_values rs ≡ Ok ws → length ws ≡ length rs)
        → first_fault_or (Ok v) a ≡ Ok vs → length vs ≡ suc (length rs)
    go (Err f) i h e = absurd (cc)
    go (Ok ws) i h e = let same : v ∷ ws ≡ vs = cc in
        ap length (sym same) ∙ ap suc (h ws i)

-- ---- numbers after others

lane-after : (k : Kind) (xs ys : List ℤ) → lane_values (column k (xs ++ ys))
    ≡ lane_values (column k xs) ++ lane_values (column k ys)
lane-after k xs ys =
    ap (map (leaf_value k)) (map-append (element k) xs ys)
    ∙ map-append (leaf_value k) (map (element k) xs) (map (element k) ys)

pub length-lane : (c : Column) → length (lane_values c) ≡ size_of c
length-lane c =
    length-map (map (element c.kind) c.items) (leaf_value c.kind)
    ∙ length-map c.items (element c.kind)

-- ---- parts of lists

take-nothing : {X : Type 0} (n : ℕ) → take {A = X} n [] ≡ []
take-nothing zero = refl
take-nothing (suc n) = refl

take-part : {X : Type 0} (xs : List X) (lo hi : ℕ) → lo ≤ hi
    → take hi xs ≡ take lo xs ++ slice_range xs lo hi
take-part xs zero hi h = ap (λ i. take i xs) (omega arith)
take-part [] (suc lo) hi h = take-nothing hi ∙ sym (take-nothing (hi - suc lo))
take-part (x ∷ xs) (suc lo) zero h = absurd (omega (arith, h))
take-part (x ∷ xs) (suc lo) (suc hi) h =
    ap (λ ys. x ∷ ys) (take-part xs lo hi (omega (arith, h))
    ∙ ap (λ i. take lo xs ++ take i (drop lo xs)) (omega arith))

pub length-part : {X : Type 0} (xs : List X) (lo hi : ℕ) → lo ≤ hi → hi ≤ length xs
    → length (slice_range xs lo hi) ≡ hi - lo
length-part xs lo hi p q =
    omega (arith, p, q, length-take (hi - lo) (drop lo xs), length-drop lo xs)

-- ---- so far

-- with a lane of the results from place lo below place hi
pub more_so_far : (rs : List (Result Value Fault)) (k : Kind) (lo hi : ℕ) (b c : List ℕ)
    (r : Column) → lo ≤ hi → hi ≤ length rs → IsSoFar rs k lo b → r.kind ≡ k
    → all_values (slice_range rs lo hi) ≡ Ok (lane_values r)
    → numbers r.kind (size_of r) c ≡ r.items → length c ≡ size_of r * width r.kind
    → IsSoFar rs k hi (b ++ c)
more_so_far rs k lo hi b c r p q so same e numbered long =
    let m : ℕ = hi - lo in
    let total : hi ≡ lo + m = omega (arith, p) in
    let many : size_of r ≡ m =
    sym (length-lane r) ∙ length-values (slice_range rs lo hi) (lane_values r) e
    ∙ length-part rs lo hi p q in
    let items : numbers k m c ≡ r.items =
    ap₂ (λ k n. numbers k n c) (sym same) (sym many) ∙ numbered in
    let own : lane_values r ≡ lane_values (column k (numbers k m c)) =
    ap₂ (λ k zs. lane_values (column k zs)) same (sym items) in
    record {
      size = length-both b c ∙ ap₂ (λ i j. i + j) so.size (long
          ∙ ap₂ (λ n k. n * width k) many same) ∙ sum-of lo m (width k)
          ∙ ap (λ i. i * width k) (sym total);
      values = ap all_values (take-part rs lo hi p)
          ∙ all_values-append (take lo rs) (slice_range rs lo hi)
          ∙ ap₂ after so.values (e ∙ ap (λ vs. Ok vs) own)
          ∙ ap (λ vs. Ok vs) (sym (lane-after k (numbers k lo b) (numbers k m c)))
          ∙ ap (λ zs. Ok (lane_values (column k zs))) (sym (numbers-join k lo m b c so.size))
          ∙ ap (λ i. Ok (lane_values (column k (numbers k i (b ++ c))))) (sym total);
    }
  where
    length-both : (b c : List ℕ) → length (b ++ c) ≡ length b + length c
    length-both [] c = omega arith
    length-both (x ∷ b) c = ap suc (length-both b c) ∙ omega arith

    sum-of : (n m w : ℕ) → n * w + m * w ≡ (n + m) * w
    sum-of n m w = omega arith

after_told : (f : Option Fault) (vs : List Value) (b rest : Result (List Value) Fault) → Told f b
    → Told f (after (Ok vs) (after b rest))
after_told None vs b rest h = tt
after_told (Some f) vs b rest h = ap (λ b. after (Ok vs) (after b rest)) h

append-thrice : (xs ys zs : List Value) → (xs ++ ys) ++ zs ≡ xs ++ (ys ++ zs)
append-thrice [] ys zs = refl
append-thrice (x ∷ xs) ys zs = ap (λ us. x ∷ us) (append-thrice xs ys zs)

after-three : (vs : List Value) (b c : Result (List Value) Fault)
    → after (after (Ok vs) b) c ≡ after (Ok vs) (after b c)
after-three vs (Ok ws) (Ok us) = ap (λ vs. Ok vs) (append-thrice vs ws us)
after-three vs (Ok ws) (Err f) = refl
after-three vs (Err f) c = refl

-- the fault of a part is that of the whole, where what comes before has none
pub told_so_far : (rs : List (Result Value Fault)) (k : Kind) (lo hi : ℕ) (b : List ℕ)
    (f : Option Fault) → lo ≤ hi → IsSoFar rs k lo b → Told f (all_values (slice_range rs lo hi))
    → Told f (all_values rs)
told_so_far rs k lo hi b f p so h =
    let before = lane_values (column k (numbers k lo b)) in
    subst (Told f) (sym (ap all_values (sym (take-append-drop hi rs))
    ∙ all_values-append (take hi rs) (drop hi rs)
    ∙ ap (λ a. after a (all_values (drop hi rs))) (ap all_values (take-part rs lo hi p)
    ∙ all_values-append (take lo rs) (slice_range rs lo hi)
    ∙ ap (λ a. after a (all_values (slice_range rs lo hi))) so.values)
    ∙ after-three before (all_values (slice_range rs lo hi)) (all_values (drop hi rs))))
    (after_told f before (all_values (slice_range rs lo hi)) (all_values (drop hi rs)) h)

take-all : {X : Type 0} (xs : List X) (n : ℕ) → n ≡ length xs → take n xs ≡ xs
take-all [] zero h = refl
take-all [] (suc n) h = refl
take-all (x ∷ xs) zero h = absurd (omega (arith, h))
take-all (x ∷ xs) (suc n) h = ap (λ ys. x ∷ ys) (take-all xs n (omega (arith, h)))

-- the lane of all results
pub all_so_far : (rs : List (Result Value Fault)) (k : Kind) (n : ℕ) (b : List ℕ) (r : Column)
    → IsSoFar rs k n b → length rs ≡ n → r.kind ≡ k
    → r.items ≡ numbers k (length b / width k) b → all_values rs ≡ Ok (lane_values r)
all_so_far rs k n b r so e same items =
    ap all_values (sym (take-all rs n (sym e))) ∙ so.values
    ∙ ap (λ i. Ok (lane_values (column k (numbers k i b)))) (sym (ap (λ i. i / width k) so.size
    ∙ each-of k n))
    ∙ ap₂ (λ k zs. Ok (lane_values (column k zs))) (sym same) (sym items)
  where
    each-of : (k : Kind) (n : ℕ) → n * width k / width k ≡ n
    each-of Bool n = omega arith
    each-of I8 n = omega arith
    each-of I16 n = omega arith
    each-of I32 n = omega arith
    each-of I64 n = omega arith
    each-of U8 n = omega arith
    each-of U16 n = omega arith
    each-of U32 n = omega arith
    each-of U64 n = omega arith

-- ---- sides in parts

pub part-map : {X Y : Type 0} (f : X → Y) (xs : List X) (lo hi : ℕ)
    → map f (slice_range xs lo hi) ≡ slice_range (map f xs) lo hi
part-map f xs lo hi =
    sym (take-map f (hi - lo) (drop lo xs)) ∙ ap (take (hi - lo)) (sym (drop-map f lo xs))

pub lane-part : (c : Column) (lo hi : ℕ)
    → lane_values (cut_of c lo hi) ≡ slice_range (lane_values c) lo hi
lane-part c lo hi =
    ap (map (leaf_value c.kind)) (part-map (element c.kind) c.items lo hi)
    ∙ part-map (leaf_value c.kind) (map (element c.kind) c.items) lo hi

take-zip2 : {X Y Z : Type 0} (f : X → Y → Z) (n : ℕ) (xs : List X) (ys : List Y)
    → take n (zip2 f xs ys) ≡ zip2 f (take n xs) (take n ys)
take-zip2 f zero xs ys = refl
take-zip2 f (suc n) [] ys = refl
take-zip2 f (suc n) (x ∷ xs) [] = refl
take-zip2 f (suc n) (x ∷ xs) (y ∷ ys) = ap (λ zs. f x y ∷ zs) (take-zip2 f n xs ys)

zip2-none : {X Y Z : Type 0} (f : X → Y → Z) (xs : List X) → zip2 f xs [] ≡ []
zip2-none f [] = refl
zip2-none f (x ∷ xs) = refl

drop-zip2 : {X Y Z : Type 0} (f : X → Y → Z) (n : ℕ) (xs : List X) (ys : List Y)
    → drop n (zip2 f xs ys) ≡ zip2 f (drop n xs) (drop n ys)
drop-zip2 f zero xs ys = refl
drop-zip2 f (suc n) [] ys = refl
drop-zip2 f (suc n) (x ∷ xs) [] = sym (zip2-none f (drop n xs))
drop-zip2 f (suc n) (x ∷ xs) (y ∷ ys) = drop-zip2 f n xs ys

pub part-zip2 : {X Y Z : Type 0} (f : X → Y → Z) (xs : List X) (ys : List Y) (lo hi : ℕ)
    → slice_range (zip2 f xs ys) lo hi ≡ zip2 f (slice_range xs lo hi) (slice_range ys lo hi)
part-zip2 f xs ys lo hi =
    ap (take (hi - lo)) (drop-zip2 f lo xs ys) ∙ take-zip2 f (hi - lo) (drop lo xs) (drop lo ys)

part-replicate : {X : Type 0} (n : ℕ) (x : X) (lo hi : ℕ) → lo ≤ hi → hi ≤ n
    → replicate (hi - lo) x ≡ slice_range (replicate n x) lo hi
part-replicate n x lo hi p q =
    sym (ap (take (hi - lo)) (drop-replicate lo n x)
    ∙ take-replicate (hi - lo) (n - lo) x (omega (arith, p, q)))

pub part_is : (n : ℕ) (s : Side) (lo hi : ℕ) → lo ≤ hi → hi ≤ n
    → side_part lo hi s ≡ slice_range (side_values n s) lo hi
part_is n (side.Column lane) lo hi p q = refl
part_is n side.Missing lo hi p q = part-replicate n null lo hi p q
part_is n (side.Number k z) lo hi p q = part-replicate n (value_in k z) lo hi p q
part_is n (side.Literal z) lo hi p q = part-replicate n (int z) lo hi p q

pub past : (n : ℕ) (s : Side) (hi : ℕ) → hi ≤ n → IsSide n s → IsSidePast hi s
past n (side.Column lane) hi q h = omega (arith, q, h)
past n side.Missing hi q h = omega (arith, q, h)
past n (side.Number k z) hi q h = h
past n (side.Literal z) hi q h = h

pub length-replicate : {X : Type 0} (n : ℕ) (x : X) → length (replicate n x) ≡ n
length-replicate zero x = refl
length-replicate (suc n) x = ap suc (length-replicate n x)

pub length-side : (n : ℕ) (s : Side) → IsSide n s → length (side_values n s) ≡ n
length-side n (side.Column lane) h = length-lane lane.now ∙ h
length-side n side.Missing h = length-replicate n null
length-side n (side.Number k z) h = length-replicate n (value_in k z)
length-side n (side.Literal z) h = length-replicate n (int z)

length-zip2-same : {X Y Z : Type 0} (f : X → Y → Z) (xs : List X) (ys : List Y)
    → length ys ≡ length xs → length (zip2 f xs ys) ≡ length xs
length-zip2-same f [] ys h = refl
length-zip2-same f (x ∷ xs) [] h = absurd (omega (arith, h))
length-zip2-same f (x ∷ xs) (y ∷ ys) h =
    ap suc (length-zip2-same f xs ys (omega (arith, h)))

pub length-pair : {Z : Type 0} (f : Value → Value → Z) (n : ℕ) (s t : Side) → IsSide n s
    → IsSide n t → length (zip2 f (side_values n s) (side_values n t)) ≡ n
length-pair f n s t h k =
    length-zip2-same f (side_values n s) (side_values n t)
    (length-side n t k ∙ sym (length-side n s h)) ∙ length-side n s h

pub part_size : (n : ℕ) (s : Side) (lo hi : ℕ) (t : LeafType) (w : Words) → lo ≤ hi → hi ≤ n
    → IsSide n s → AreNumbersOf t (side_part lo hi s) w → length (word_numbers w) ≡ hi - lo
part_size n s lo hi t w p q h k =
    ap length k.numbers ∙ length-map (side_part lo hi s) number_of
    ∙ ap length (part_is n s lo hi p q)
    ∙ length-part (side_values n s) lo hi p (subst (λ m. hi ≤ m) (sym (length-side n s h)) q)

-- the results of a part are those of the numbers of the sides' parts
pub pair_part : (op : Binary) (t u : LeafType) (p : Primitive) (n : ℕ) (x y : Side) (lo hi : ℕ)
    (a b : Words) → lo ≤ hi → hi ≤ n → AreNumbersOf t (side_part lo hi x) a
    → AreNumbersOf u (side_part lo hi y) b
    → all_values (slice_range (zip2 (binary_at op p) (side_values n x) (side_values n y)) lo hi)
    ≡ all_values (zip2 (binary_on op p) (word_numbers a) (word_numbers b))
pair_part op t u p n x y lo hi a b q r h k =
    ap all_values (part-zip2 (binary_at op p) (side_values n x) (side_values n y) lo hi
    ∙ ap₂ (zip2 (binary_at op p)) (sym (part_is n x lo hi q r)) (sym (part_is n y lo hi q r))
    ∙ present_values op p (side_part lo hi x) (side_part lo hi y) h.present k.present
    ∙ ap₂ (zip2 (binary_on op p)) (sym h.numbers) (sym k.numbers))
