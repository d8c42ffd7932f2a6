-- Numbers in bytes of either order.
use Rattle.std.proofs.Common.{◌≡◌, ℕ, suc, zero, ◌+◌, ◌*◌, ◌<◌, ◌≤◌, List, [], ◌∷◌, ◌++◌, length}
use Rattle.std.proofs.Common.{drop, take, get_or, refl, ap, ap₂, sym, ◌∙◌, subst, arith, Bool, true}
use Rattle.std.proofs.Common.{false, ◌/◌}
use Rattle.std.proofs.Common.{drop-drop, length-drop, length-take}
use Rattle.std.proofs.lemmas.List.{drop-take, take_at, drop_at, length-reverse}
use Rattle.std.specs.Prelude.{pos, reverse}
use Rattle.std.specs.List.{flat_map}
use Rattle.std.specs.Simd.{first_chunks}
use Rattle.awk_lanes.specs.declared.kind.Kind.{Kind}
use Rattle.awk_lanes.specs.declared.kind.Kind.TheVariants.{Bool as Truths, I8, I16, I32, I64, U8}
use Rattle.awk_lanes.specs.declared.kind.Kind.TheVariants.{U16, U32, U64}
use Rattle.awk_lanes.specs.Numbers.{width, number, numbers}
use Rattle.awk_lanes.proofs.NumberParts.{length-numbers, get_or-numbers, number-take}
use Rattle.awk_valid.specs.Container.{big_number, num, big_numbers, numbers_by}

-- ---- how many, and each by its place

length-big_numbers : (k : Kind) (n : ℕ) (b : List ℕ) → length (big_numbers k n b) ≡ n
length-big_numbers k zero b = refl
length-big_numbers k (suc n) b = grind (arith, length-big_numbers k n (drop (width k) b))

pub length-numbers_by : (big : Bool) (k : Kind) (n : ℕ) (b : List ℕ)
    → length (numbers_by big k n b) ≡ n
length-numbers_by true k n b = length-big_numbers k n b
length-numbers_by false k n b = length-numbers k n b

get_or-big_numbers : (k : Kind) (n : ℕ) (b : List ℕ) (i : ℕ) → i < n
    → get_or (big_numbers k n b) i (pos 0) ≡ big_number k (drop (i * width k) b)
get_or-big_numbers k zero b i h = absurd (omega arith)
get_or-big_numbers k (suc n) b zero h = let e : 0 * width k ≡ 0 = omega arith in rw e refl
get_or-big_numbers k (suc n) b (suc i) h =
    let e : width k + i * width k ≡ suc i * width k = omega arith in
    get_or-big_numbers k n (drop (width k) b) i (omega arith)
    ∙ ap (big_number k) (drop-drop (i * width k) (width k) b ∙ ap (λ m. drop m b) e)

pub get_or-numbers_by : (big : Bool) (k : Kind) (n : ℕ) (b : List ℕ) (i : ℕ) → i < n
    → get_or (numbers_by big k n b) i (pos 0) ≡ num big k b i
get_or-numbers_by true k n b i h = get_or-big_numbers k n b i h
get_or-numbers_by false k n b i h = get_or-numbers k n b i h

-- ---- their own bytes alone

take-more : (w m : ℕ) (b : List ℕ) → w ≤ m → take w (take m b) ≡ take w b
take-more zero m b h = refl
take-more (suc w) zero b h = absurd (omega arith)
take-more (suc w) (suc m) [] h = refl
take-more (suc w) (suc m) (x ∷ b) h = ap (λ c. x ∷ c) (take-more w m b (omega arith))

pub big_numbers-take : (k : Kind) (n : ℕ) (b : List ℕ)
    → big_numbers k n (take (n * width k) b) ≡ big_numbers k n b
big_numbers-take k zero b = refl
big_numbers-take k (suc n) b =
    let e : suc n * width k ≡ width k + n * width k = omega arith in
    let first : take (width k) (take (suc n * width k) b) ≡ take (width k) b =
    take-more (width k) (suc n * width k) b (omega (arith, e)) in
    let others : drop (width k) (take (suc n * width k) b) ≡ take (n * width k) (drop (width k) b) =
    ap (λ m. drop (width k) (take m b)) e ∙ drop-take (width k) (n * width k) b in
    ap₂ (λ g c. number k (reverse g) ∷ big_numbers k n c) first others
    ∙ ap (λ zs. big_number k b ∷ zs) (big_numbers-take k n (drop (width k) b))

-- ---- turned round

-- the groups with their last bytes first are read as the numbers
pub numbers-turned : (k : Kind) (n : ℕ) (b : List ℕ) → n * width k ≤ length b
    → numbers k n (flat_map reverse (first_chunks (width k) n b)) ≡ big_numbers k n b
numbers-turned k zero b h = refl
numbers-turned k (suc n) b h =
    let group : List ℕ = reverse (take (width k) b) in
    let others : List ℕ = flat_map reverse (first_chunks (width k) n (drop (width k) b)) in
    let long : length group ≡ width k =
    length-reverse (take (width k) b) ∙ length-take (width k) b ∙ omega (arith, h) in
    let first : number k (group ++ others) ≡ big_number k b =
    sym (number-take k (width k) (group ++ others) (omega arith))
    ∙ ap (number k) (take_at group others (width k) long) in
    let more : numbers k n (drop (width k) (group ++ others)) ≡ big_numbers k n (drop (width k) b) =
    ap (numbers k n) (drop_at group others (width k) long)
    ∙ numbers-turned k n (drop (width k) b) (omega (arith, h, length-drop (width k) b)) in
    ap₂ (λ z zs. z ∷ zs) first more

-- numbers of one byte are the same in both orders
one_byte : (k : Kind) (b : List ℕ) → width k ≡ 1 → number k b ≡ big_number k b
one_byte Truths [] e = refl
one_byte Truths (x ∷ b) e = refl
one_byte I8 [] e = refl
one_byte I8 (x ∷ b) e = refl
one_byte U8 [] e = refl
one_byte U8 (x ∷ b) e = refl
one_byte I16 b e = absurd (omega (arith, e))
one_byte I32 b e = absurd (omega (arith, e))
one_byte I64 b e = absurd (omega (arith, e))
one_byte U16 b e = absurd (omega (arith, e))
one_byte U32 b e = absurd (omega (arith, e))
one_byte U64 b e = absurd (omega (arith, e))

pub numbers-one_byte : (k : Kind) (n : ℕ) (b : List ℕ) → width k ≡ 1
    → numbers k n b ≡ big_numbers k n b
numbers-one_byte k zero b e = refl
numbers-one_byte k (suc n) b e =
    ap₂ (λ z zs. z ∷ zs) (one_byte k b e) (numbers-one_byte k n (drop (width k) b) e)

-- ---- the whole bytes

whole_groups : (k : Kind) (n : ℕ) → n / width k * width k ≤ n
whole_groups Truths n = omega arith
whole_groups I8 n = omega arith
whole_groups I16 n = omega arith
whole_groups I32 n = omega arith
whole_groups I64 n = omega arith
whole_groups U8 n = omega arith
whole_groups U16 n = omega arith
whole_groups U32 n = omega arith
whole_groups U64 n = omega arith

-- all groups of a kind's width, turned
pub numbers-turned_bytes : (k : Kind) (w : ℕ) (b r : List ℕ) → width k ≡ w
    → r ≡ flat_map reverse (first_chunks w (length b / w) b)
    → numbers k (length b / width k) r ≡ big_numbers k (length b / width k) b
numbers-turned_bytes k w b r e is =
    let here : r ≡ flat_map reverse (first_chunks (width k) (length b / width k) b) =
    subst (λ v. r ≡ flat_map reverse (first_chunks v (length b / v) b)) (sym e) is in
    ap (numbers k (length b / width k)) here
    ∙ numbers-turned k (length b / width k) b (whole_groups k (length b))
