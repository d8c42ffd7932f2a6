-- The numbers of groups of bytes at the places that an index names.
use Rattle.std.proofs.Common.{◌≡◌, ◌≢◌, ℕ, suc, zero, ◌+◌, ◌*◌, ◌/◌, ◌<◌, List, [], ◌∷◌, ◌++◌}
use Rattle.std.proofs.Common.{length, get_or, map, refl, ap, ap₂, sym, ◌∙◌, arith}
use Rattle.std.specs.Prelude.{pos, Some}
use Rattle.std.specs.List.{range_with_len, flat_map}
use Rattle.std.specs.Simd.{first_chunks}
use Rattle.std.proofs.lemmas.List.{map-append, append-nil}
use Rattle.awk_base.proofs.Lists.{length-chunk, length-chunks}
use Rattle.awk_lanes.specs.declared.kind.Kind.TheVariants.{Bool as Truths, I64}
use Rattle.awk_lanes.specs.Column.{Column}
use Rattle.awk_lanes.specs.Numbers.{width, number, numbers, element}
use Rattle.awk_lanes.specs.Places.{size_of, at, option_place, IsOptionalIndex}
use Rattle.awk_lanes.proofs.PlaceLaws.{element-same}
use Rattle.awk_gather_lanes.specs.Moved.{eight}
use Rattle.awk_gather_lanes.proofs.MovedGroups.{number-group, length-groups, numbers-flat}
use Rattle.awk_counts.specs.Counted.{first_of, present_place, present_at, AreBelow}
use Rattle.awk_counts.proofs.FirstPlaces.{first_of-more}
use Rattle.awk_counts.proofs.PlacesBelow.{below-get}
use Rattle.awk_present.specs.Named.{place_group, named_places, ArePlacesOf}
use Rattle.awk_present.proofs.SliceLaws.{map-places}
use Rattle.awk_present.proofs.TakenLanes.{named_within}

-- ---- groups, one more

-- the groups at the places of the first i
abbrev pub so_far : List (List ℕ) → ℕ → List ℕ
so_far ps i = first_of (place_group ps) i

-- a place more
pub named_more : (gs ps : List (List ℕ)) (i k : ℕ) (x : List ℕ) (old new : List (List ℕ))
    → option_place (eight (get_or ps i [])) ≡ Some k → new ≡ old ++ x ∷ [] → x ≡ get_or gs k []
    → old ≡ map (λ k. get_or gs k []) (so_far ps i)
    → new ≡ map (λ k. get_or gs k []) (so_far ps (i + 1))
named_more gs ps i k x old new o e g h =
    e ∙ ap₂ (λ ys y. ys ++ y ∷ []) h g
    ∙ sym (map-append (λ k. get_or gs k []) (so_far ps i) (k ∷ []))
    ∙ ap (λ ks. map (λ k. get_or gs k []) (so_far ps i ++ ks)) (sym (ap present_place o))
    ∙ ap (map (λ k. get_or gs k [])) (sym (first_of-more (place_group ps) i))

-- none more
pub places_same : (ps : List (List ℕ)) (i : ℕ) → place_group ps i ≡ []
    → so_far ps (i + 1) ≡ so_far ps i
places_same ps i o =
    first_of-more (place_group ps) i ∙ ap (λ ks. so_far ps i ++ ks) o ∙ append-nil (so_far ps i)

-- ---- an index in bytes

first_of-same : (f g : ℕ → List ℕ) (n : ℕ) → ((i : ℕ) → i < n → f i ≡ g i)
    → first_of f n ≡ first_of g n
first_of-same f g n h = go 0 n (λ i l. h i (omega (arith, l)))
  where
    go : (a m : ℕ) → ((i : ℕ) → i < a + m → f i ≡ g i)
        → flat_map f (range_with_len a m) ≡ flat_map g (range_with_len a m)
    go a zero e = refl
    go a (suc m) e =
        ap₂ (λ ks ls. ks ++ ls) (e a (omega arith))
        (go (a + 1) m (λ i l. e i (omega (arith, l))))

module _ (j : Column) (b : List ℕ) (kind : j.kind ≡ I64)
    (size : length b ≡ size_of j * width j.kind) (same : numbers j.kind (size_of j) b ≡ j.items)
  where
    abbrev ps : List (List ℕ)
    ps = first_chunks 8 (length b / 8) b

    pub places-count : length ps ≡ size_of j
    places-count =
        ap (λ k. length (first_chunks (width k) (length b / width k) b)) (sym kind)
        ∙ length-groups j b size same

    eight_at : (i : ℕ) → i < size_of j → eight (get_or ps i []) ≡ at j i
    eight_at i l =
        ap (λ k. number k (get_or (first_chunks (width k) (length b / width k) b) i [])) (sym kind)
        ∙ number-group j b size same i l
        ∙ ap (λ k. element k (get_or j.items i (pos 0))) (sym kind)

    pub named_same : named_places ps ≡ first_of (present_at j) (size_of j)
    named_same =
        ap (first_of (place_group ps)) places-count
        ∙ first_of-same (place_group ps) (present_at j) (size_of j)
        (λ i l. ap (λ z. present_place (option_place z)) (eight_at i l))

    pub places_within : (n : ℕ) → IsOptionalIndex j n → ArePlacesOf n ps
    places_within n h i k l e =
        let l' : i < size_of j = omega (arith, l, places-count) in
        named_within j n i k h l' (ap option_place (sym (eight_at i l')) ∙ e)

-- ---- the numbers

module _ (c : Column) (b : List ℕ) (w : ℕ) (plain : c.kind ≢ Truths) (wide : width c.kind ≡ w)
    (some : 0 < w) (size : length b ≡ size_of c * width c.kind)
    (same : numbers c.kind (size_of c) b ≡ c.items) where
  abbrev gs : List (List ℕ)
  gs = first_chunks w (length b / w) b

  abbrev own : List (List ℕ)
  own = first_chunks (width c.kind) (length b / width c.kind) b

  same_groups : gs ≡ own
  same_groups = ap (λ v. first_chunks v (length b / v) b) (sym wide)

  pub groups-count : length gs ≡ size_of c
  groups-count = ap length same_groups ∙ length-groups c b size same

  number_at : (k : ℕ) → k < size_of c → number c.kind (get_or gs k []) ≡ at c k
  number_at k l =
      ap (λ xs. number c.kind (get_or xs k [])) same_groups
      ∙ number-group c b size same k l
      ∙ sym (element-same c.kind (get_or c.items k (pos 0)) plain)

  whole : length b / w ≡ size_of c
  whole = sym (length-chunks w (length b / w) b) ∙ groups-count

  long_at : (k : ℕ) → k < size_of c → length (get_or gs k []) ≡ width c.kind
  long_at k l =
      length-chunk w (length b / w) b k
      (omega (arith, size, ap (λ v. size_of c * v) wide, ap (λ m. m * w) whole))
      (omega (arith, l, whole))
      ∙ sym wide

  module _ (ks : List ℕ) (below : AreBelow (size_of c) ks) where
    pub numbers-named : (flat : List ℕ) (named : List (List ℕ))
        → named ≡ map (λ k. get_or gs k []) ks → flat ≡ flat_map (λ x. x) named
        → length flat ≡ length named * w
        → numbers c.kind (length flat / width c.kind) flat ≡ map (at c) ks
    numbers-named flat named e f l =
        numbers-flat c.kind w (length ks) (λ i. get_or gs (get_or ks i 0) [])
        (λ i. at c (get_or ks i 0)) wide some
        (λ i m. long_at (get_or ks i 0) (below-get (size_of c) ks i below m))
        (λ i m. number_at (get_or ks i 0) (below-get (size_of c) ks i below m))
        named (e ∙ map-places (λ k. get_or gs k []) ks 0) flat f l
        ∙ sym (map-places (at c) ks 0)
