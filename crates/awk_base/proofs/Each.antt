-- Lists that are made place by place.
use Rattle.std.proofs.Common.{◌≡◌, ℕ, zero, suc, ◌+◌, ◌-◌, ◌<◌, ◌≤◌, List, [], ◌∷◌, ◌++◌, map}
use Rattle.std.proofs.Common.{length, arith, ap, ap₂, sym, ◌∙◌, subst}
use Rattle.std.specs.List.{range_with_len, flat_map}
use Rattle.std.proofs.lemmas.Grind.{flat_map-append}
use Rattle.std.proofs.lemmas.List.{append-nil, length-append}
use Rattle.std.proofs.lemmas.List.Folds.{flat_map-map}
use Rattle.std.proofs.lemmas.List.FromFn.{map-range_with_len_more}

-- what f gives at the first n places, one after another
abbrev pub each_of : {Y : Type 0} → (ℕ → List Y) → ℕ → List Y
each_of f n = flat_map f (range_with_len 0 n)

-- one place more
pub each_of-more : {Y : Type 0} (f : ℕ → List Y) (i : ℕ) → each_of f (i + 1) ≡ each_of f i ++ f i
each_of-more f i =
    sym (flat_map-map f (λ k. k) (range_with_len 0 (i + 1)))
    ∙ ap (flat_map f) (map-range_with_len_more (λ k. k) 0 i i (omega arith))
    ∙ flat_map-append f (map (λ k. k) (range_with_len 0 i)) (i ∷ [])
    ∙ ap₂ (λ ks ls. ks ++ ls) (flat_map-map f (λ k. k) (range_with_len 0 i)) (append-nil (f i))

pub length-each_of : {Y : Type 0} (f : ℕ → List Y) (i : ℕ)
    → length (each_of f (i + 1)) ≡ length (each_of f i) + length (f i)
length-each_of f i = ap length (each_of-more f i) ∙ length-append (each_of f i) (f i)

longer : {Y : Type 0} (f : ℕ → List Y) (i k : ℕ) → length (each_of f i) ≤ length (each_of f (i + k))
longer f i zero =
    let e : i ≡ i + 0 = omega arith in subst (λ m. length (each_of f i) ≤ length (each_of f m)) e
    (omega arith)
longer f i (suc k) =
    let e : i + k + 1 ≡ i + suc k = omega arith in
    subst (λ m. length (each_of f i) ≤ length (each_of f m)) e
    (omega (arith, longer f i k, length-each_of f (i + k)))

-- there is room for what one place gives
pub each_of-room : {Y : Type 0} (f : ℕ → List Y) (i n : ℕ) → i < n
    → length (each_of f i) + length (f i) ≤ length (each_of f n)
each_of-room f i n h =
    let e : i + 1 + (n - (i + 1)) ≡ n = omega arith in
    let l : length (each_of f (i + 1)) ≤ length (each_of f n) = subst
    (λ m. length (each_of f (i + 1)) ≤ length (each_of f m)) e
    (longer f (i + 1) (n - (i + 1))) in
    omega (arith, length-each_of f i, l)
