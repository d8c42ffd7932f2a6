-- Counts of the items of each alternative.
use Rattle.std.proofs.Common.{◌≡◌, ◌≢◌, ℕ, ◌+◌, ◌<◌, ◌≤◌, List, [], ◌∷◌, length, get_or, arith}
use Rattle.std.proofs.Common.{refl, ap, sym, ◌∙◌}
use Rattle.std.specs.Prelude.{Bool, true, false, slice_set, ◌==◌, if◌then◌else◌, pos}
use Rattle.std.proofs.lemmas.Grind.{get_or-set_at}
use Rattle.std.proofs.lemmas.List.{ext_get_or, get_or-set_other}
use Rattle.std.proofs.lemmas.List.FromFn.{length-map-range_with_len, get_or-map-range_with_len}
use Rattle.awk_lanes.specs.Column.{Column}
use Rattle.awk_lanes.specs.Places.{place_at, size_of}
use Rattle.awk_counts.specs.Counted.{first_of, tagged_at, tagged_places, counted_tag, tag_counts}
use Rattle.awk_counts.proofs.FirstPlaces.{length-first_of, tagged-few}

-- counts of the items of each of so many alternatives among the first i
abbrev pub AreCounts : Column → Column → ℕ → ℕ → List ℕ → Type 0
AreCounts t j many i ns = (a : ℕ) → a < many → get_or ns a 0 ≡ length (first_of (tagged_at t j a) i)

-- one item more
pub counts_more : (t j : Column) (many i a n : ℕ) (ns : List ℕ) → length ns ≡ many
    → a ≡ place_at t i → a < many → n ≡ get_or ns a 0 → AreCounts t j many i ns
    → AreCounts t j many (i + 1) (slice_set ns a (n + 1))
counts_more t j many i a n ns l e h g c b k = go (b == place_at t i) refl
  where
    go : (same : Bool) → (b == place_at t i) ≡ same
        → get_or (slice_set ns a (n + 1)) b 0 ≡ length (first_of (tagged_at t j b) (i + 1))
    go true q =
        let d : b ≡ a = grind arith in
        let one : length (tagged_at t j b i) ≡ 1 = ap
        (λ s. length (if s then place_at j i ∷ [] else [])) q in
        get_or-set_at ns a b (n + 1) 0 d (omega arith)
        ∙ (let w : n + 1 ≡ length (first_of (tagged_at t j b) (i + 1)) =
        omega (
          arith,
          ap (λ m. get_or ns m 0) d,
          c b k,
          g,
          one,
          length-first_of (tagged_at t j b)
              i,
        ) in w)
    go false q =
        let d : b ≢ a = λ f. grind arith in
        let none : length (tagged_at t j b i) ≡ 0 = ap
        (λ s. length (if s then place_at j i ∷ [] else [])) q in
        get_or-set_other ns a b (n + 1) 0 d ∙ omega
        (arith, c b k, none, length-first_of (tagged_at t j b) i)

-- what is counted before an item is less than its place, or the same
pub count_before : (t j : Column) (many i a n : ℕ) (ns : List ℕ) → a ≡ place_at t i → a < many
    → n ≡ get_or ns a 0 → AreCounts t j many i ns → (pos n ≡ counted_tag t j i) × (n ≤ i)
count_before t j many i a n ns e h g c = (
  ap pos (g ∙ c a h) ∙ ap (λ b. pos (length (first_of (tagged_at t j b) i))) e,
  omega (arith, g, c a h, tagged-few t j a i),
)

pub tag_counts-at : (t j : Column) (many a : ℕ) → a < many
    → get_or (tag_counts t j many) a 0 ≡ length (tagged_places t j a)
tag_counts-at t j many a h =
    get_or-map-range_with_len (λ b. length (tagged_places t j b)) 0 many a a 0 h (omega arith)

-- when all items are counted
pub counts_all : (t j : Column) (many i : ℕ) (ns : List ℕ) → i ≡ size_of t → length ns ≡ many
    → AreCounts t j many i ns → ns ≡ tag_counts t j many
counts_all t j many i ns e l c =
    ext_get_or 0 ns (tag_counts t j many)
    (l ∙ sym (length-map-range_with_len (λ a. length (tagged_places t j a)) 0 many))
    (λ a h. let g : a < many = omega (arith, l, h) in
    c a g ∙ ap (λ m. length (first_of (tagged_at t j a) m)) e ∙ sym (tag_counts-at t j many a g))
