-- Results of the numbers of two lanes in a primitive.
use Rattle.std.proofs.Common.{◌≡◌, ℕ, ◌+◌, ◌<◌, ◌≤◌, List, map, length, get_or, refl, ap, ap₂, sym}
use Rattle.std.proofs.Common.{subst, ◌∙◌, ◌⊎◌, inl, inr, arith, IsTrue}
use Rattle.std.specs.Prelude.{ℤ, pos, [], Bool, true, false, ◌||◌, ◌&&◌, cond, int_lt}
use Rattle.std.specs.Prelude.{Option, Some, None, Result, Ok, Err, IfOk, IfSome}
use Rattle.std.specs.List.{range_with_len}
use Rattle.std.specs.Ordering.{int_eq}
use Rattle.std.specs.Simd.Lanes.{zip2}
use Rattle.std.proofs.lemmas.Bool.{cases_lt}
use Rattle.std.proofs.lemmas.Int.{ints}
use Rattle.std.proofs.lemmas.List.{get_or-map, length-map}
use Rattle.std.proofs.lemmas.List.FromFn.{fill_by_all}
use Rattle.std.proofs.lemmas.Simd.{map-map, get_or-zip2, length-zip2}
use Rattle.awk_types.specs.Has.{least_number, greatest_number, Holds}
use Rattle.awk_types.specs.declared.primitive.Primitive.{Primitive}
use Rattle.awk_lanes.specs.Column.{Column}
use Rattle.awk_lanes.specs.Numbers.{number}
use Rattle.awk_kernels.specs.Operations.{leaf, within}
use Rattle.awk_kernels.specs.declared.operation.Arith.{Arith}
use Rattle.awk_kernels.specs.declared.operation.Why.{Why}
use Rattle.awk_kernels.specs.declared.operation.Why.TheVariants.{Overflow, Zero}
use Rattle.awk_layout.specs.Kinds.{kind_of}
use Rattle.awk_lane_pairs.specs.Results.{exact_at, IsHeld, AreHeld, AreResults, AreCalculated}

-- ---- one place more

-- a place below the next one is below, or the last
before_last : (P : ℕ → Type 0) (i : ℕ) → ((j : ℕ) → j < i → P j) → P i → (j : ℕ) → j < i + 1 → P j
before_last P i h last j q = go (cases_lt j i)
  where
    go : (j < i) ⊎ (i ≤ j) → P j
    go (inl l) = h j l
    go (inr l) = let same : i ≡ j = omega (arith, l, q) in subst P same last

pub held_more : (op : Arith) (p : Primitive) (a b : List (List ℕ)) (i : ℕ) (held next : Bool)
    → (IsTrue held → AreHeld op p a b i) → (IsTrue next → IsHeld op p a b i)
    → IsTrue (held && next) → AreHeld op p a b (i + 1)
held_more op p a b i true true h k t = before_last (IsHeld op p a b) i (h refl) (k refl)
held_more op p a b i true false h k t = absurd (cc)
held_more op p a b i false next h k t = absurd (cc)

-- ---- results that the primitive holds

pub within_held : (p : Primitive) (z : ℤ) → Holds p z
    → within (least_number p) (greatest_number p) z ≡ Ok z
within_held p z h =
    let low : int_lt z (least_number p) ≡ false = grind (arith, ints, h.0) in
    let high : int_lt (greatest_number p) z ≡ false = grind (arith, ints, h.1) in
    ap₂ (λ b c. cond (b || c) (Err Overflow) (Ok z)) low high

module _ (op : Arith) (p : Primitive) (a b : List (List ℕ)) where
  abbrev f : List ℕ → ℤ
  f = number (kind_of p)

  abbrev one : ℤ → ℤ → Result ℤ Why
  one = leaf op (least_number p) (greatest_number p)

  leaf_held : (i : ℕ) → IsHeld op p a b i
      → one (f (get_or a i [])) (f (get_or b i [])) ≡ Ok (exact_at op (kind_of p) a b i)
  leaf_held i h =
      let z = exact_at op (kind_of p) a b i in
      let said = within (least_number p) (greatest_number p) z in
      ap (λ c. cond (c && int_eq (f (get_or b i [])) (pos 0)) (Err Zero) said) h.undivided
      ∙ within_held p z h.held

  -- the results by their places
  held_leaves : length b ≡ length a → AreHeld op p a b (length a)
      → map (λ i. Ok (exact_at op (kind_of p) a b i)) (range_with_len 0 (length a))
      ≡ zip2 one (map f a) (map f b)
  held_leaves long h =
      let n : ℕ = length a in
      let many : length (zip2 one (map f a) (map f b)) ≡ n =
      length-zip2 one (map f a) (map f b) (length-map a f ∙ sym long ∙ sym (length-map b f))
      ∙ length-map a f in
      sym (fill_by_all (λ i. Ok (exact_at op (kind_of p) a b i)) (zip2 one (map f a) (map f b)) n
      (Ok (pos 0)) many
      (λ i l. get_or-zip2 one (map f a) (map f b) i (pos 0) (pos 0) (Ok (pos 0))
      (omega (arith, l, length-map a f)) (omega (arith, l, long, length-map b f))
      ∙ ap₂ one (get_or-map f a i [] (pos 0) l)
      (get_or-map f b i [] (pos 0) (omega (arith, l, long)))
      ∙ leaf_held i (h i l)))

-- the lane of the results of the numbers that lie in these groups
pub calculated : (op : Arith) (p : Primitive) (xs ys : List ℤ) (c : Column) (a b : List (List ℕ))
    → map (number (kind_of p)) a ≡ xs → map (number (kind_of p)) b ≡ ys → length b ≡ length a
    → AreResults op p a b c → AreCalculated op p xs ys c
calculated op p xs ys c a b e f long h =
    let one : ℤ → ℤ → Result ℤ Why = leaf op (least_number p) (greatest_number p) in
    record {
      kind = ap (λ (c : Column). c.kind) h.lane;
      numbers = ap (λ (c : Column). map (λ (z : ℤ). Ok z) c.items) h.lane
          ∙ map-map (λ (z : ℤ). Ok z) (exact_at op (kind_of p) a b) (range_with_len 0 (length a))
          ∙ held_leaves op p a b long h.held
          ∙ ap₂ (zip2 one) e f;
    }

-- where there is a lane, a second fact of it follows
pub if_made : {E : Type 0} (P Q : Column → Type 0) (r : Result (Option Column) E)
    → ((c : Column) → P c → Q c) → IfOk r (λ o. IfSome o P) → IfOk r (λ o. IfSome o Q)
if_made P Q (Ok (Some c)) f h = f c h
if_made P Q (Ok None) f h = tt
if_made P Q (Err e) f h = tt
