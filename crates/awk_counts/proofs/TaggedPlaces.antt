-- The places of the items of each alternative, while they are parted.
use Rattle.std.proofs.Common.{◌≡◌, ◌≢◌, ℕ, ◌+◌, ◌<◌, List, [], ◌∷◌, map, length, get_or, arith}
use Rattle.std.proofs.Common.{refl, ap, sym, ◌∙◌, subst, slice_get, Some}
use Rattle.std.specs.Prelude.{Bool, true, false, slice_set, ◌==◌, if◌then◌else◌, pos}
use Rattle.std.proofs.lemmas.Grind.{get_or-set_at}
use Rattle.std.proofs.lemmas.List.{ext_get_or, get_or-map, get_or-set_other, length-map}
use Rattle.std.proofs.lemmas.List.{length-set}
use Rattle.std.proofs.lemmas.List.FromFn.{length-map-range_with_len, get_or-map-range_with_len}
use Rattle.std.proofs.lemmas.Option.{get_or_from_slice_get, slice_get_within}
use Rattle.awk_lanes.specs.declared.kind.Kind.TheVariants.{I64}
use Rattle.awk_lanes.specs.Column.{Column}
use Rattle.awk_lanes.specs.Making.{Making, with_item}
use Rattle.awk_lanes.specs.Places.{place_at, size_of}
use Rattle.awk_counts.specs.Counted.{first_of, places_lane, tagged_at, tagged_places, tag_counts}
use Rattle.awk_counts.specs.Counted.{tagged_lanes, begun, made_at, lane_made}
use Rattle.awk_counts.proofs.PlaceLanes.{ArePlaces, given_pushed, given_none, given_room}
use Rattle.awk_counts.proofs.TaggedCounts.{tag_counts-at}

-- the places of each alternative among the first i items are made, of so many
abbrev pub AreParted : Column → Column → List ℕ → ℕ → List Making → Type 0
AreParted t j ns i ms =
    (a : ℕ) → a < length ns
    → ArePlaces (get_or ns a 0) (first_of (tagged_at t j a) i) (made_at ms a)

-- lanes that are begun
pub parted_none : (t j : Column) (ns : List ℕ) (ms : List Making) → ms ≡ map begun ns
    → AreParted t j ns 0 ms
parted_none t j ns ms e a h =
    subst (ArePlaces (get_or ns a 0) [])
    (sym (ap (λ xs. made_at xs a) e ∙ get_or-map begun ns a 0 (begun 0) h))
    (record { kind = refl; room = refl; items = refl })

-- the place of an item is that of its alternative
tagged_own : (same : Bool) (t j : Column) (a i : ℕ) → (a == place_at t i) ≡ same → a ≡ place_at t i
    → tagged_at t j a i ≡ place_at j i ∷ []
tagged_own true t j a i q e = ap (λ s. if s then place_at j i ∷ [] else []) q
tagged_own false t j a i q e = absurd (grind arith)

pub parted_room : (t j : Column) (ns : List ℕ) (i a : ℕ) (ms : List Making)
    → ns ≡ tag_counts t j (length ns) → i < size_of t → a ≡ place_at t i → a < length ns
    → AreParted t j ns i ms → length (made_at ms a).items < (made_at ms a).room
parted_room t j ns i a ms c l e h p =
    given_room (tagged_at t j a) (get_or ns a 0) i (place_at j i) (size_of t) (made_at ms a)
    (ap (λ xs. get_or xs a 0) c ∙ tag_counts-at t j (length ns) a h) l
    (tagged_own _ t j a i refl e) (p a h)

-- one item more
parted_more : (t j : Column) (ns : List ℕ) (i a k : ℕ) (ms : List Making)
    → length ms ≡ length ns → a ≡ place_at t i → a < length ns → k ≡ place_at j i
    → AreParted t j ns i ms
    → AreParted t j ns (i + 1) (slice_set ms a (with_item (made_at ms a) (pos k)))
parted_more t j ns i a k ms l e h g p b w = go (b == place_at t i) refl
  where
    go : (same : Bool) → (b == place_at t i) ≡ same
        → ArePlaces (get_or ns b 0) (first_of (tagged_at t j b) (i + 1))
        (made_at (slice_set ms a (with_item (made_at ms a) (pos k))) b)
    go true q =
        let d : b ≡ a = grind arith in
        let one : tagged_at t j b i ≡ k ∷ [] = ap
        (λ s. if s then place_at j i ∷ [] else []) q ∙ ap (λ x. x ∷ []) (sym g) in
        given_pushed (tagged_at t j b) (get_or ns b 0) i k (pos k) (made_at ms b) _ one
        (get_or-set_at ms a b (with_item (made_at ms a) (pos k)) (begun 0) d (omega arith)
        ∙ ap (λ c. with_item (made_at ms c) (pos k)) (sym d)) refl (p b w)
    go false q =
        let d : b ≢ a = λ f. grind arith in
        let none : tagged_at t j b i ≡ [] = ap (λ s. if s then place_at j i ∷ [] else []) q in
        subst (ArePlaces (get_or ns b 0) (first_of (tagged_at t j b) (i + 1)))
        (sym (get_or-set_other ms a b (with_item (made_at ms a) (pos k)) (begun 0) d))
        (given_none (tagged_at t j b) (get_or ns b 0) i (made_at ms b) none (p b w))

pub parted_pushed : (t j : Column) (ns : List ℕ) (i a k : ℕ) (ms new : List Making)
    → new ≡ slice_set ms a (with_item (made_at ms a) (pos k)) → length ms ≡ length ns
    → a ≡ place_at t i → a < length ns → k ≡ place_at j i → AreParted t j ns i ms
    → (length new ≡ length ns) × AreParted t j ns (i + 1) new
parted_pushed t j ns i a k ms new d l e h g p = (
  ap length d ∙ length-set ms a (with_item (made_at ms a) (pos k)) ∙ l,
  subst (AreParted t j ns (i + 1)) (sym d) (parted_more t j ns i a k ms l e h g p),
)

-- when all items are parted
pub parted_all : (t j : Column) (ns : List ℕ) (i : ℕ) (ms : List Making) → i ≡ size_of t
    → length ms ≡ length ns → AreParted t j ns i ms
    → map lane_made ms ≡ tagged_lanes t j (length ns)
parted_all t j ns i ms e l p =
    let f : ℕ → Column = λ a. places_lane (tagged_places t j a) in
    ext_get_or (lane_made (begun 0)) (map lane_made ms) (tagged_lanes t j (length ns))
    (length-map ms lane_made ∙ l ∙ sym (length-map-range_with_len f 0 (length ns)))
    (λ a h.
    let w : a < length ns = omega (arith, h, length-map ms lane_made, l) in
    get_or-map lane_made ms a (begun 0) (lane_made (begun 0)) (omega (arith, l, w))
    ∙ ap (λ zs. record { kind = I64; items = zs }) (p a w).items
    ∙ ap (λ m. places_lane (first_of (tagged_at t j a) m)) e
    ∙ sym (get_or-map-range_with_len f 0 (length ns) a a (lane_made (begun 0)) w (omega arith)))

pub length-tag_counts : (t j : Column) (many : ℕ) → length (tag_counts t j many) ≡ many
length-tag_counts t j many =
    length-map-range_with_len (λ a. length (tagged_places t j a)) 0 many

pub length-tagged_lanes : (t j : Column) (many : ℕ) → length (tagged_lanes t j many) ≡ many
length-tagged_lanes t j many =
    length-map-range_with_len (λ a. places_lane (tagged_places t j a)) 0 many

-- those of one alternative
pub tagged_lanes-get : (t j : Column) (many a : ℕ) (c : Column)
    → slice_get (tagged_lanes t j many) a ≡ Some c → c ≡ places_lane (tagged_places t j a)
tagged_lanes-get t j many a c e =
    let f : ℕ → Column = λ b. places_lane (tagged_places t j b) in
    let w : a < many = omega
    (arith, slice_get_within _ a c e, length-map-range_with_len f 0 many) in
    sym (get_or_from_slice_get _ a c (lane_made (begun 0)) e)
    ∙ get_or-map-range_with_len f 0 many a a (lane_made (begun 0)) w (omega arith)
