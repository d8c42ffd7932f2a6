-- The items of lists one after another: parts of them, and how many there are.
use Rattle.std.specs.Prelude.{◌≡◌, ℕ, zero, suc, ◌+◌, ◌-◌, ◌<◌, ◌≤◌, refl, List, [], ◌∷◌, ◌++◌}
use Rattle.std.specs.Prelude.{length, map, take, drop, get_or, sum}
use Rattle.std.specs.List.{flat_map}
use Rattle.std.proofs.Common.{arith, ap, sym, ◌∙◌, subst, add-one}
use Rattle.std.proofs.Math.Seq.{drop-append_seam, take-append_seam}
use Rattle.std.proofs.lemmas.Grind.{flat_map-append}
use Rattle.std.proofs.lemmas.List.{length-append, take-append-drop, drop-take, take_all}
use Rattle.std.proofs.lemmas.List.Concat.{length-flat_map}
use Rattle.std.proofs.lemmas.List.Folds.{flat_map-map}
use Rattle.std.proofs.lemmas.List.Sums.{sum-map}
use Rattle.awk_types.specs.Value.{Value, null}
use Rattle.awk_columns.specs.Columns.{joined_items, list_items}
use Rattle.awk_lists.specs.Listed.{items_before}
use Rattle.awk_list_ends.proofs.KeptItems.{take-take}

-- ---- parts

joined-split : (vs : List Value) (a : ℕ)
    → joined_items vs ≡ joined_items (take a vs) ++ joined_items (drop a vs)
joined-split vs a =
    ap joined_items (sym (take-append-drop a vs))
    ∙ flat_map-append list_items (take a vs) (drop a vs)

pub drop-joined : (vs : List Value) (a : ℕ)
    → drop (items_before vs a) (joined_items vs) ≡ joined_items (drop a vs)
drop-joined vs a =
    ap (drop (items_before vs a)) (joined-split vs a)
    ∙ drop-append_seam (joined_items (take a vs)) (joined_items (drop a vs))

pub take-joined : (vs : List Value) (n : ℕ)
    → take (items_before vs n) (joined_items vs) ≡ joined_items (take n vs)
take-joined vs n =
    ap (take (items_before vs n)) (joined-split vs n)
    ∙ take-append_seam (joined_items (take n vs)) (joined_items (drop n vs))

-- lists counted in two parts
pub items_before-add : (vs : List Value) (a n : ℕ)
    → items_before vs (a + n) ≡ items_before vs a + items_before (drop a vs) n
items_before-add vs a n =
    ap length (joined-split (take (a + n) vs) a)
    ∙ length-append (joined_items (take a (take (a + n) vs)))
    (joined_items (drop a (take (a + n) vs)))
    ∙ ap (λ ws. length (joined_items ws) + length (joined_items (drop a (take (a + n) vs))))
    (take-take vs a n)
    ∙ ap (λ ws. items_before vs a + length (joined_items ws)) (drop-take a n vs)

pub items_before-mono : (vs : List Value) (a b : ℕ) → a ≤ b → items_before vs a ≤ items_before vs b
items_before-mono vs a b p =
    let e : a + (b - a) ≡ b = omega (arith, p) in
    subst (λ k. items_before vs a ≤ items_before vs k) e
    (omega (arith, items_before-add vs a (b - a)))

pub items_before-all : (vs : List Value) (n : ℕ) → length vs ≤ n
    → items_before vs n ≡ length (joined_items vs)
items_before-all vs n p = ap (λ ws. length (joined_items ws)) (take_all n vs p)

before-suc : (vs : List Value) (i : ℕ) → i < length vs
    → items_before vs (suc i) ≡ items_before vs i + length (list_items (get_or vs i null))
before-suc [] i p = absurd (omega (arith, p))
before-suc (v ∷ vs) zero p = omega (arith, length-append (list_items v) [])
before-suc (v ∷ vs) (suc i) p =
    let more = before-suc vs i (omega (arith, p)) in
    let a = length-append (list_items v) (joined_items (take (suc i) vs)) in
    let b = length-append (list_items v) (joined_items (take i vs)) in
    omega (arith, more, a, b)

pub items_before-next : (vs : List Value) (i : ℕ) → i < length vs
    → items_before vs (i + 1) ≡ items_before vs i + length (list_items (get_or vs i null))
items_before-next vs i p = rw add-one (before-suc vs i p)

-- the items of neighbouring lists
pub slice-joined : (vs : List Value) (a n : ℕ)
    → take (items_before (drop a vs) n) (drop (items_before vs a) (joined_items vs))
    ≡ joined_items (take n (drop a vs))
slice-joined vs a n =
    ap (take (items_before (drop a vs) n)) (drop-joined vs a) ∙ take-joined (drop a vs) n

-- ---- how many there are

flat_map-twice : {X Y Z : Type 0} (g : Y → List Z) (f : X → List Y) (xs : List X)
    → flat_map g (flat_map f xs) ≡ flat_map (λ x. flat_map g (f x)) xs
flat_map-twice g f [] = refl
flat_map-twice g f (x ∷ xs) =
    flat_map-append g (f x) (flat_map f xs)
    ∙ ap (λ zs. flat_map g (f x) ++ zs) (flat_map-twice g f xs)

pub count-joined : {X : Type 0} (f : X → List Value) (xs : List X)
    → sum (map (λ vs. length (joined_items vs)) (map f xs)) ≡ length (joined_items (flat_map f xs))
count-joined f xs =
    sum-map (λ (vs : List Value). length (joined_items vs)) (map f xs)
    ∙ sym (length-flat_map joined_items (map f xs))
    ∙ ap length (flat_map-map joined_items f xs ∙ sym (flat_map-twice list_items f xs))
