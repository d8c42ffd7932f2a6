-- How many items the lanes of a packed node need of its contents: those that stand there.
use Rattle.std.proofs.Common.{◌≡◌, ◌<◌, ℕ, suc, ◌+◌, Bool, true, false, cond, List, [], ◌∷◌, ◌++◌}
use Rattle.std.proofs.Common.{length, get_or, map, max, refl, sym, ap, ◌∙◌, arith, length-append}
use Rattle.std.proofs.Common.{pos}
use Rattle.std.specs.Prelude.{filter, ◌==◌, if◌then◌else◌}
use Rattle.std.specs.List.{range_with_len, AllByRecursion}
use Rattle.std.specs.Ordering.{int_eq}
use Rattle.std.proofs.lemmas.Int.{ints}
use Rattle.std.proofs.lemmas.Bool.Decides.{Decides-int_eq, nat_tests}
use Rattle.awk_types.specs.DataType.{greatest}
use Rattle.awk_types.specs.Parts.{IsAlternative}
use Rattle.awk_types.specs.Value.{Value, null, alt}
use Rattle.awk_valid.specs.Needs.{greatest_below, reach, behind, behind_at}
use Rattle.awk_columns.specs.Columns.{list_items, joined_items, is_present, alternative_values}
use Rattle.awk_columns.specs.Columns.{offsets, option_index, tags, one_more, union_index}
use Rattle.awk_readback.proofs.IndexLanes.{offsets-head}

-- ---- lists

raised : (n w : ℕ) → max n (reach (pos n) (pos (n + w))) ≡ n + w
raised n w = by (int_eq (pos n) (pos (n + w))) refl
  where
    by : (b : Bool) → int_eq (pos n) (pos (n + w)) ≡ b → max n (cond b 0 (n + w)) ≡ n + w
    by true e =
        let same : pos n ≡ pos (n + w) = (Decides-int_eq (pos n) (pos (n + w))).0 e in
        omega (arith, ints)
    by false e = omega arith

-- the greatest stop of a list that is not empty is where the last one ends
offsets-reach : (n a : ℕ) (vs : List Value) (f : ℕ → ℕ)
    → ((j : ℕ) → j < length vs
    → f (a + j) ≡ reach (get_or (offsets n vs) j (pos 0)) (get_or (offsets n vs) (suc j) (pos 0)))
    → max n (greatest (map f (range_with_len a (length vs)))) ≡ n + length (joined_items vs)
offsets-reach n a [] f h = omega arith
offsets-reach n a (v ∷ vs) f h =
    let w = length (list_items v) in
    let first : a + 0 ≡ a = omega arith in
    let here : f a ≡ reach (pos n) (pos (n + w)) =
    rw first at (h 0 (omega arith)) ∙ ap (reach (pos n)) (offsets-head (n + w) vs) in
    let later = offsets-reach (n + w) (a + 1) vs f (λ j l.
    let e : a + suc j ≡ a + 1 + j = omega arith in rw e at (h (suc j) (omega arith))) in
    omega (arith, here, raised n w, later, length-append (list_items v) (joined_items vs))

pub offsets-needs : (vs : List Value) (f : ℕ → ℕ)
    → ((j : ℕ) → j < length vs
    → f j ≡ reach (get_or (offsets 0 vs) j (pos 0)) (get_or (offsets 0 vs) (suc j) (pos 0)))
    → greatest_below (length vs) f ≡ length (joined_items vs)
offsets-needs vs f h =
    let most = offsets-reach 0 0 vs f (λ j l. let e : 0 + j ≡ j = omega arith in rw e (h j l)) in
    omega (arith, most)

-- ---- options

option_index-behind : (n a : ℕ) (vs : List Value) (f : ℕ → ℕ)
    → ((j : ℕ) → j < length vs → f (a + j) ≡ behind (get_or (option_index n vs) j (pos 0)))
    → max n (greatest (map f (range_with_len a (length vs)))) ≡ n + length (filter is_present vs)
option_index-behind n a [] f h = omega arith
option_index-behind n a (null ∷ vs) f h =
    let first : a + 0 ≡ a = omega arith in
    let here : f a ≡ 0 = rw first at (h 0 (omega arith)) in
    let later = option_index-behind n (a + 1) vs f (λ j l.
    let e : a + suc j ≡ a + 1 + j = omega arith in rw e at (h (suc j) (omega arith))) in
    omega (arith, here, later)
option_index-behind n a (v ∷ vs) f h =
    let first : a + 0 ≡ a = omega arith in
    let here : f a ≡ n + 1 = rw first at (h 0 (omega arith)) in
    let later = option_index-behind (suc n) (a + 1) vs f (λ j l.
    let e : a + suc j ≡ a + 1 + j = omega arith in rw e at (h (suc j) (omega arith))) in
    omega (arith, here, later)

pub option_index-needs : (vs : List Value) (f : ℕ → ℕ)
    → ((j : ℕ) → j < length vs → f j ≡ behind (get_or (option_index 0 vs) j (pos 0)))
    → greatest_below (length vs) f ≡ length (filter is_present vs)
option_index-needs vs f h =
    let most = option_index-behind 0 0 vs f (λ j l.
    let e : 0 + j ≡ j = omega arith in rw e (h j l)) in
    omega (arith, most)

-- ---- unions

same_tag : (k t n : ℕ) → behind_at k (pos t) (pos n) ≡ cond (k == t) (n + 1) 0
same_tag k t n = by (k == t) refl
  where
    apart : (k == t) ≡ false → int_eq (pos t) (pos k) ≡ false
    apart e = grind (arith, ints, Decides-int_eq, nat_tests)

    by : (b : Bool) → (k == t) ≡ b → behind_at k (pos t) (pos n) ≡ cond b (n + 1) 0
    by true e =
        let same : k ≡ t = grind arith in
        rw ((Decides-int_eq (pos t) (pos k)).1 (ap pos (sym same))) refl
    by false e = rw (apart e) refl

counted : (b : Bool) (c ct g n : ℕ) → (b ≡ true → ct ≡ c)
    → max (cond b (suc c) c) g ≡ cond b (suc c) c + n
    → max c (max (cond b (ct + 1) 0) g) ≡ c + (cond b 1 0 + n)
counted true c ct g n same h = omega (arith, same refl)
counted false c ct g n same h = omega arith

given : (b : Bool) (w : Value) (ws : List Value)
    → length ((if b then w ∷ [] else []) ++ ws) ≡ cond b 1 0 + length ws
given true w ws = omega arith
given false w ws = omega arith

union_index-behind : (k a : ℕ) (counts : ℕ → ℕ) (vs : List Value) (f : ℕ → ℕ)
    → AllByRecursion IsAlternative vs
    → ((j : ℕ) → j < length vs
    → f (a + j) ≡ behind_at k (get_or (tags vs) j (pos 0))
    (get_or (union_index counts vs) j (pos 0)))
    → max (counts k) (greatest (map f (range_with_len a (length vs))))
    ≡ counts k + length (alternative_values k vs)
union_index-behind k a counts [] f are h = omega arith
union_index-behind k a counts (alt t w ∷ vs) f are h =
    let first : a + 0 ≡ a = omega arith in
    let here : f a ≡ cond (k == t) (counts t + 1) 0 =
    rw first at (h 0 (omega arith)) ∙ same_tag k t (counts t) in
    let later = union_index-behind k (a + 1) (one_more t counts) vs f are.1 (λ j l.
    let e : a + suc j ≡ a + 1 + j = omega arith in rw e at (h (suc j) (omega arith))) in
    let g = greatest (map f (range_with_len (a + 1) (length vs))) in
    let n = length (alternative_values k vs) in
    let step = counted (k == t) (counts k) (counts t) g n
    (λ e. let same : k ≡ t = grind arith in ap counts (sym same)) later in
    let size = given (k == t) w (alternative_values k vs) in
    omega (arith, here, step, size)
union_index-behind k a counts (v ∷ vs) f are h = absurd are.0

-- the items that the alternative at place k needs are those that it has
pub union_index-needs : (k : ℕ) (vs : List Value) (f : ℕ → ℕ) → AllByRecursion IsAlternative vs
    → ((j : ℕ) → j < length vs
    → f j ≡ behind_at k (get_or (tags vs) j (pos 0)) (get_or (union_index (λ i. 0) vs) j (pos 0)))
    → greatest_below (length vs) f ≡ length (alternative_values k vs)
union_index-needs k vs f are h =
    let most = union_index-behind k 0 (λ i. 0) vs f are (λ j l.
    let e : 0 + j ≡ j = omega arith in rw e (h j l)) in
    omega (arith, most)
