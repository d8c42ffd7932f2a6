-- Runs of values, as lists.
use Rattle.std.proofs.Common.{◌≡◌, ℕ, zero, suc, ◌+◌, ◌∷◌, map, length, ap, ◌∙◌, refl, arith}
use Rattle.std.specs.List.{range_with_len}
use Rattle.std.proofs.lemmas.List.FromFn.{length-map-range_with_len, get_or-map-range_with_len}
use Rattle.std.proofs.lemmas.List.FromFn.{fill_by_all}
use Rattle.std.specs.Prelude.{◌<◌, ◌≤◌, get_or}
use Rattle.awk_types.specs.Value.{Value, value_list, value, null}
use Rattle.awk_layout.specs.Item.{run}

pub value_list-run : (f : ℕ → Value) (first n : ℕ)
    → value_list (run f first n) ≡ map f (range_with_len first n)
value_list-run f first zero = refl
value_list-run f first (suc n) =
    let e : suc first ≡ first + 1 = omega arith in
    ap (λ vs. f first ∷ vs) (value_list-run f (suc first) n ∙ ap (λ k. map f (range_with_len k n))
    e)

pub length-run : (f : ℕ → Value) (first n : ℕ) → length (value_list (run f first n)) ≡ n
length-run f first n = ap length (value_list-run f first n) ∙ length-map-range_with_len f first n

-- functions that agree there give the same run
pub run-same : (f g : ℕ → Value) (a n : ℕ) → ((i : ℕ) → a ≤ i → i < a + n → f i ≡ g i)
    → run f a n ≡ run g a n
run-same f g a zero e = refl
run-same f g a (suc n) e =
    let rest : run f (suc a) n ≡ run g (suc a) n =
    run-same f g (suc a) n (λ i p q. e i (omega (arith, p)) (omega (arith, q))) in
    ap (λ v. value v (run f (suc a) n)) (e a (omega arith) (omega arith)) ∙ ap (value (g a)) rest

-- the same values at other places
pub run-moved : (f g : ℕ → Value) (a b n : ℕ) → ((j : ℕ) → j < n → f (a + j) ≡ g (b + j))
    → run f a n ≡ run g b n
run-moved f g a b zero e = refl
run-moved f g a b (suc n) e =
    let l : a ≡ a + 0 = omega arith in
    let r : b + 0 ≡ b = omega arith in
    let first : f a ≡ g b = ap f l ∙ e 0 (omega arith) ∙ ap g r in
    let rest : run f (suc a) n ≡ run g (suc b) n = run-moved f g (suc a) (suc b) n (λ j p.
    let m : suc a + j ≡ a + suc j = omega arith in
    let k : b + suc j ≡ suc b + j = omega arith in
    ap f m ∙ e (suc j) (omega (arith, p)) ∙ ap g k) in
    ap (λ v. value v (run f (suc a) n)) first ∙ ap (value (g b)) rest

-- an item of a run
pub get-run : (h : ℕ → Value) (a n k : ℕ) → k < n
    → get_or (value_list (run h a n)) k null ≡ h (a + k)
get-run h a n k p =
    ap (λ xs. get_or xs k null) (value_list-run h a n)
    ∙ get_or-map-range_with_len h a n k (a + k) null p refl

-- items by their place in the run
pub run-by : (h f : ℕ → Value) (a n : ℕ) → ((j : ℕ) → j < n → h (a + j) ≡ f j)
    → value_list (run h a n) ≡ map f (range_with_len 0 n)
run-by h f a n e =
    fill_by_all f (value_list (run h a n)) n null (length-run h a n)
    (λ k p. get-run h a n k p ∙ e k p)
