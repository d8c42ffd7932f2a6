-- How many names come before the first that a test does not hold of.
use Rattle.std.proofs.Common.{◌≡◌, ℕ, suc, ◌+◌, ◌≤◌, ◌&&◌, ◌||◌, Bool, true, false, List, [], ◌∷◌}
use Rattle.std.proofs.Common.{length, drop, min, slice_get, Some, if◌then◌else◌, refl, ap, ◌∙◌}
use Rattle.std.proofs.Common.{arith}
use Rattle.std.proofs.lemmas.List.{drop_all}
use Rattle.awk_types.specs.DataType.{Name, DataType}
use Rattle.awk_types.specs.Names.{same_name, is_among, place_of}
use Rattle.awk_base.proofs.Lists.{drop-get}
use Rattle.awk_lanes.specs.Column.{Column}
use Rattle.awk_layout.specs.Layout.{Layout, empty, flat, layouts_from}
use Rattle.awk_layout.specs.Typing.{layout_type, layout_types}
use Rattle.awk_name_places.specs.Places as known
use Rattle.awk_view.specs.Choice.{has_field, all_have_field, first_absent}
use Rattle.awk_view.specs.Leading.{leading}

-- ---- the place of a name, by a map

pub place_in-of : (ns : List Name) (k : Name) → known.place_in ns k ≡ place_of k ns
place_in-of [] k = refl
place_in-of (n ∷ ns) k = ap (λ p. if same_name n k then 0 else suc p) (place_in-of ns k)

pub among-beyond : (k : Name) (ns : List Name) → place_of k ns ≡ length ns → is_among k ns ≡ false
among-beyond k [] e = refl
among-beyond k (n ∷ ns) e = step (same_name n k) e (among-beyond k ns)
  where
    step : (b : Bool) → (if b then 0 else suc (place_of k ns)) ≡ suc (length ns)
        → (place_of k ns ≡ length ns → is_among k ns ≡ false) → (b || is_among k ns) ≡ false
    step true h g = absurd (omega (arith, h))
    step false h g = g (omega (arith, h))

pub among-within : (k : Name) (ns : List Name) → (place_of k ns ≡ length ns → ⊥)
    → is_among k ns ≡ true
among-within k [] d = absurd (d refl)
among-within k (n ∷ ns) d = step (same_name n k) d (among-within k ns)
  where
    step : (b : Bool) → ((if b then 0 else suc (place_of k ns)) ≡ suc (length ns) → ⊥)
        → ((place_of k ns ≡ length ns → ⊥) → is_among k ns ≡ true) → (b || is_among k ns) ≡ true
    step true h g = refl
    step false h g = g (λ e. h (ap suc e))

-- ---- from left to right

module _ (p : Name → Bool) where
  pub leading-≤ : (ns : List Name) → leading p ns ≤ length ns
  leading-≤ [] = omega arith
  leading-≤ (n ∷ ns) = step (p n) (leading-≤ ns)
    where
      step : (b : Bool) → leading p ns ≤ length ns
          → (if b then suc (leading p ns) else 0) ≤ suc (length ns)
      step true h = omega (arith, h)
      step false h = omega arith

  pub leading-next : (ns : List Name) (i : ℕ) (n : Name) → slice_get ns i ≡ Some n → p n ≡ true
      → leading p ns ≡ i + leading p (drop i ns)
      → leading p ns ≡ (i + 1) + leading p (drop (i + 1) ns)
  leading-next ns i n e h k =
      let one : leading p (drop i ns) ≡ suc (leading p (drop (i + 1) ns)) =
      ap (leading p) (drop-get ns i n e)
      ∙ ap (λ b. if b then suc (leading p (drop (i + 1) ns)) else 0) h in
      omega (arith, one, k)

  pub leading-stops : (ns : List Name) (i : ℕ) (n : Name) → slice_get ns i ≡ Some n → p n ≡ false
      → leading p ns ≡ i + leading p (drop i ns) → i ≡ leading p ns
  leading-stops ns i n e h k =
      let none : leading p (drop i ns) ≡ 0 =
      ap (leading p) (drop-get ns i n e)
      ∙ ap (λ b. if b then suc (leading p (drop (i + 1) ns)) else 0) h in
      omega (arith, none, k)

leading-none : (ns : List Name) → 0 ≡ leading (λ n. false) ns
leading-none [] = refl
leading-none (n ∷ ns) = refl

-- what is no record has no name
pub empty_leads : (x : Layout) (ns : List Name) → empty ≡ x
    → 0 ≡ leading (λ n. has_field n (layout_type x)) ns
empty_leads x ns e =
    leading-none ns ∙ ap (λ y. leading (λ n. has_field n (layout_type y)) ns) e

pub numbers_lead : (x : Layout) (c : Column) (ns : List Name) → flat c ≡ x
    → 0 ≡ leading (λ n. has_field n (layout_type x)) ns
numbers_lead x c ns e =
    leading-none ns ∙ ap (λ y. leading (λ n. has_field n (layout_type y)) ns) e

pub leading-all : (ns : List Name) → leading (λ n. true) ns ≡ length ns
leading-all [] = refl
leading-all (n ∷ ns) = ap suc (leading-all ns)

-- both of two tests hold up to the nearer place
pub leading-both : (p q : Name → Bool) (ns : List Name)
    → leading (λ n. p n && q n) ns ≡ min (leading p ns) (leading q ns)
leading-both p q [] = refl
leading-both p q (n ∷ ns) = step (p n) (q n) (leading-both p q ns)
  where
    step : (a b : Bool) → leading (λ m. p m && q m) ns ≡ min (leading p ns) (leading q ns)
        → (if a && b then suc (leading (λ m. p m && q m) ns) else 0)
        ≡ min (if a then suc (leading p ns) else 0) (if b then suc (leading q ns) else 0)
    step true true h = omega (arith, h)
    step true false h = omega arith
    step false true h = omega arith
    step false false h = omega arith

-- ---- alternatives one after another

pub least_next : (ns : List Name) (xs : List Layout) (i : ℕ) (y : Layout) (least here new : ℕ)
    → slice_get xs i ≡ Some y → here ≡ leading (λ n. has_field n (layout_type y)) ns
    → new ≡ min least here
    → min least (leading (λ n. all_have_field n (layout_types (layouts_from (drop i xs)))) ns)
    ≡ leading (λ n. all_have_field n (layout_types (layouts_from xs))) ns
    → min new (leading (λ n. all_have_field n (layout_types (layouts_from (drop (i + 1) xs)))) ns)
    ≡ leading (λ n. all_have_field n (layout_types (layouts_from xs))) ns
least_next ns xs i y least here new e h m k =
    let both : leading (λ n. all_have_field n (layout_types (layouts_from (drop i xs)))) ns
    ≡ min (leading (λ n. has_field n (layout_type y)) ns)
    (leading (λ n. all_have_field n (layout_types (layouts_from (drop (i + 1) xs)))) ns) =
    ap (λ ys. leading (λ n. all_have_field n (layout_types (layouts_from ys))) ns)
    (drop-get xs i y e)
    ∙ leading-both (λ n. has_field n (layout_type y))
    (λ n. all_have_field n (layout_types (layouts_from (drop (i + 1) xs)))) ns in
    omega (arith, both, h, m, k)

pub least_start : (ns : List Name) (xs : List Layout) (least : ℕ) → least ≡ length ns
    → min least (leading (λ n. all_have_field n (layout_types (layouts_from xs))) ns)
    ≡ leading (λ n. all_have_field n (layout_types (layouts_from xs))) ns
least_start ns xs least e =
    omega (arith, e, leading-≤ (λ n. all_have_field n (layout_types (layouts_from xs))) ns)

pub least_end : (ns : List Name) (xs : List Layout) (i least : ℕ) → length xs ≤ i
    → least ≤ length ns
    → min least (leading (λ n. all_have_field n (layout_types (layouts_from (drop i xs)))) ns)
    ≡ leading (λ n. all_have_field n (layout_types (layouts_from xs))) ns
    → least ≡ leading (λ n. all_have_field n (layout_types (layouts_from xs))) ns
least_end ns xs i least l w k =
    let rest : leading (λ n. all_have_field n (layout_types (layouts_from (drop i xs)))) ns
    ≡ length ns =
    ap (λ ys. leading (λ n. all_have_field n (layout_types (layouts_from ys))) ns) (drop_all i xs l)
    ∙ leading-all ns in
    omega (arith, rest, w, k)

-- ---- the name itself

pub absent-leading : (t : DataType) (ns : List Name)
    → slice_get ns (leading (λ n. has_field n t) ns) ≡ first_absent ns t
absent-leading t [] = refl
absent-leading t (n ∷ ns) = step (has_field n t) (absent-leading t ns)
  where
    step : (b : Bool) → slice_get ns (leading (λ m. has_field m t) ns) ≡ first_absent ns t
        → slice_get (n ∷ ns) (if b then suc (leading (λ m. has_field m t) ns) else 0)
        ≡ (if b then first_absent ns t else Some n)
    step true h = h
    step false h = refl
