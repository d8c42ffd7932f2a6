-- What is made place by place: lists, one after another, and how long they are.
use Rattle.std.proofs.Common.{◌≡◌, ℕ, suc, zero, ◌+◌, ◌-◌, ◌<◌, ◌≤◌, List, [], ◌∷◌, ◌++◌, map}
use Rattle.std.proofs.Common.{length, arith, ap, ap₂, sym, ◌∙◌, subst}
use Rattle.std.specs.Prelude.{Option, Some, None, Bool, true, false, ◌==◌, if◌then◌else◌}
use Rattle.std.specs.List.{range_with_len, flat_map}
use Rattle.std.proofs.lemmas.Grind.{flat_map-append}
use Rattle.std.proofs.lemmas.List.{append-nil, length-append}
use Rattle.std.proofs.lemmas.List.Folds.{flat_map-map}
use Rattle.std.proofs.lemmas.List.FromFn.{map-range_with_len_more}
use Rattle.awk_lanes.specs.Column.{Column}
use Rattle.awk_lanes.specs.Places.{place_at, option_place_at}
use Rattle.awk_counts.specs.Counted.{first_of, present_place, present_at, tagged_at}

-- one place more
pub first_of-more : (f : ℕ → List ℕ) (i : ℕ) → first_of f (i + 1) ≡ first_of f i ++ f i
first_of-more f i =
    sym (flat_map-map f (λ k. k) (range_with_len 0 (i + 1)))
    ∙ ap (flat_map f) (map-range_with_len_more (λ k. k) 0 i i (omega arith))
    ∙ flat_map-append f (map (λ k. k) (range_with_len 0 i)) (i ∷ [])
    ∙ ap₂ (λ ks ls. ks ++ ls) (flat_map-map f (λ k. k) (range_with_len 0 i)) (append-nil (f i))

pub length-first_of : (f : ℕ → List ℕ) (i : ℕ)
    → length (first_of f (i + 1)) ≡ length (first_of f i) + length (f i)
length-first_of f i = ap length (first_of-more f i) ∙ length-append (first_of f i) (f i)

first_of-longer : (f : ℕ → List ℕ) (i k : ℕ) → length (first_of f i) ≤ length (first_of f (i + k))
first_of-longer f i zero =
    let e : i ≡ i + 0 = omega arith in subst (λ m. length (first_of f i) ≤ length (first_of f m)) e
    (omega arith)
first_of-longer f i (suc k) =
    let e : i + k + 1 ≡ i + suc k = omega arith in
    subst (λ m. length (first_of f i) ≤ length (first_of f m)) e
    (omega (arith, first_of-longer f i k, length-first_of f (i + k)))

-- fewer places give no more
pub first_of-mono : (f : ℕ → List ℕ) (i n : ℕ) → i ≤ n
    → length (first_of f i) ≤ length (first_of f n)
first_of-mono f i n h =
    let e : i + (n - i) ≡ n = omega arith in
    subst (λ m. length (first_of f i) ≤ length (first_of f m)) e (first_of-longer f i (n - i))

-- there is room for what one place gives
pub first_of-room : (f : ℕ → List ℕ) (i n : ℕ) → i < n
    → length (first_of f i) + length (f i) ≤ length (first_of f n)
first_of-room f i n h = omega (arith, length-first_of f i, first_of-mono f (i + 1) n (omega arith))

-- where each place gives at most one, no more than there are places
first_of-few : (f : ℕ → List ℕ) → ((i : ℕ) → length (f i) ≤ 1) → (i : ℕ) → length (first_of f i) ≤ i
first_of-few f h zero = omega arith
first_of-few f h (suc i) =
    let e : i + 1 ≡ suc i = omega arith in
    subst (λ m. length (first_of f m) ≤ m) e (omega
    (arith, first_of-few f h i, length-first_of f i, h i))

few_present : (o : Option ℕ) → length (present_place o) ≤ 1
few_present None = omega arith
few_present (Some k) = omega arith

pub present-few : (j : Column) (i : ℕ) → length (first_of (present_at j) i) ≤ i
present-few j = first_of-few (present_at j) (λ i. few_present (option_place_at j i))

few_tagged : (b : Bool) (k : ℕ) → length (if b then k ∷ [] else []) ≤ 1
few_tagged true k = omega arith
few_tagged false k = omega arith

pub tagged-few : (t j : Column) (a i : ℕ) → length (first_of (tagged_at t j a) i) ≤ i
tagged-few t j a =
    first_of-few (tagged_at t j a) (λ i. few_tagged (a == place_at t i) (place_at j i))

pub ruleset counting = (length-first_of, present-few)
