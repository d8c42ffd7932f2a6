-- The numbers of a lane at places that lists give.
use Rattle.std.proofs.Common.{◌≡◌, ℕ, zero, suc, ◌+◌, ◌*◌, ◌/◌, ◌<◌, ◌≤◌, List, [], ◌∷◌, ◌++◌}
use Rattle.std.proofs.Common.{length, get_or, map, refl, ap, sym, ◌∙◌, arith, append_assoc}
use Rattle.std.specs.Prelude.{pos}
use Rattle.std.specs.List.{range_with_len, flat_map}
use Rattle.std.specs.Simd.{first_chunks}
use Rattle.std.proofs.lemmas.List.{length-map, get_or-map, map-append}
use Rattle.std.proofs.lemmas.List.FromFn.{map-range_with_len_more, length-map-range_with_len}
use Rattle.std.proofs.lemmas.List.FromFn.{fill_by_all}
use Rattle.std.proofs.Math.Nat.{mul-div_left, div-mul-le_self}
use Rattle.awk_base.proofs.Each.{each_of-more, length-each_of}
use Rattle.awk_base.proofs.Every.{all-each, all-map, all-at}
use Rattle.awk_base.proofs.Lists.{length-chunk}
use Rattle.awk_lanes.specs.Column.{Column}
use Rattle.awk_lanes.specs.Counted.{before}
use Rattle.awk_lanes.specs.Numbers.{width, number, numbers}
use Rattle.awk_lanes.specs.Places.{size_of}
use Rattle.awk_lanes.proofs.CountedLanes.{before-next, before_mono}
use Rattle.awk_counts.specs.Counted.{numbers_at}
use Rattle.awk_gather_lanes.proofs.MovedGroups.{number-group, numbers-flat}
use Rattle.awk_list_numbers.specs.ListPlaces.{list_places, groups_at, ArePlaces}

module _ (m : ℕ → ℕ) (p : ℕ → ℕ → ℕ) where
  abbrev list_at : ℕ → List ℕ
  list_at i = map (p i) (range_with_len 0 (m i))

  -- there is room for one item more
  pub item_room : (n i k : ℕ) → i < n → k < m i → before m i + k < before m n
  item_room n i k l q =
      let b : before m (i + 1) ≤ before m n = before_mono m (i + 1) n (omega (arith, l)) in
      omega (arith, b, before-next m i, q)

  -- one group more
  pub group_pushed : (gs : List (List ℕ)) (i k : ℕ) (x : List ℕ) (old new : List (List ℕ))
      → new ≡ old ++ x ∷ [] → x ≡ get_or gs (p i k) []
      → old ≡ groups_at gs (list_places m p i ++ map (p i) (range_with_len 0 k))
      → new ≡ groups_at gs (list_places m p i ++ map (p i) (range_with_len 0 (k + 1)))
  group_pushed gs i k x old new e f g =
      let ks : List ℕ = list_places m p i in
      let js : List ℕ = map (p i) (range_with_len 0 k) in
      e ∙ ap (λ os. os ++ x ∷ []) g
      ∙ ap (λ y. groups_at gs (ks ++ js) ++ y ∷ []) f
      ∙ sym (map-append (λ j. get_or gs j []) (ks ++ js) (p i k ∷ []))
      ∙ ap (groups_at gs) (append_assoc ks js (p i k ∷ []))
      ∙ ap (λ ws. groups_at gs (ks ++ ws))
      (sym (map-range_with_len_more (p i) 0 k k (omega arith)))

  -- all items of a list
  pub list_done : (gs : List (List ℕ)) (i k : ℕ) (made : List (List ℕ)) → k ≡ m i
      → made ≡ groups_at gs (list_places m p i ++ map (p i) (range_with_len 0 k))
      → made ≡ groups_at gs (list_places m p (i + 1))
  list_done gs i k made e f =
      f ∙ ap (λ q. groups_at gs (list_places m p i ++ map (p i) (range_with_len 0 q))) e
      ∙ ap (groups_at gs) (sym (each_of-more list_at i))

  pub length-list_places : (n : ℕ) → length (list_places m p n) ≡ before m n
  length-list_places zero = refl
  length-list_places (suc n) =
      let e : n + 1 ≡ suc n = omega arith in
      let l : length (list_places m p (n + 1)) ≡ length (list_places m p n) + length (list_at n) =
      length-each_of list_at n in
      sym (ap (λ k. length (list_places m p k)) e)
      ∙ omega (arith, l, length-list_places n, length-map-range_with_len (p n) 0 (m n))

  pub place_within : (size n : ℕ) → ArePlaces size m p n → (j : ℕ)
      → j < length (list_places m p n) → get_or (list_places m p n) j 0 < size
  place_within size n a j l =
      all-at (λ k. k < size) (list_places m p n) j 0
      (all-each (λ k. k < size) list_at 0 n (λ i q. all-map (λ k. k < size) (p i) 0 (m i)
      (λ k r. a i k (omega (arith, q)) (omega (arith, r))))) l

-- the numbers of the groups that were moved are those at the places
module _ (c : Column) (b : List ℕ) (w n : ℕ) (m : ℕ → ℕ) (p : ℕ → ℕ → ℕ) (wide : width c.kind ≡ w)
    (some : 0 < w) (size : length b ≡ size_of c * width c.kind)
    (same : numbers c.kind (size_of c) b ≡ c.items) (places : ArePlaces (size_of c) m p n) where
  abbrev groups : List (List ℕ)
  groups = first_chunks (width c.kind) (length b / width c.kind) b

  abbrev ks : List ℕ
  ks = list_places m p n

  abbrev group_at : ℕ → List ℕ
  group_at j = get_or groups (get_or ks j 0) []

  count : length b / width c.kind ≡ size_of c
  count = ap (λ k. k / width c.kind) size ∙ mul-div_left (size_of c) (rw wide some)

  group-wide : (j : ℕ) → j < length ks → length (group_at j) ≡ width c.kind
  group-wide j l =
      length-chunk (width c.kind) (length b / width c.kind) b (get_or ks j 0)
      (div-mul-le_self (length b) (width c.kind))
      (omega (arith, count, place_within m p (size_of c) n places j l))

  group-number : (j : ℕ) → j < length ks
      → number c.kind (group_at j) ≡ get_or c.items (get_or ks j 0) (pos 0)
  group-number j l =
      number-group c b size same (get_or ks j 0) (place_within m p (size_of c) n places j l)

  pub moved_numbers : (moved : List (List ℕ))
      → moved ≡ groups_at (first_chunks w (length b / w) b) (list_places m p n)
      → (flat : List ℕ) → flat ≡ flat_map (λ x. x) moved → length flat ≡ length moved * w
      → numbers c.kind (length flat / width c.kind) flat ≡ (numbers_at c (list_places m p n)).items
  moved_numbers moved e flat f g =
      let gs : List (List ℕ) = first_chunks w (length b / w) b in
      let each : moved ≡ map group_at (range_with_len 0 (length ks)) =
      fill_by_all group_at moved (length ks) []
      (ap length e ∙ length-map ks (λ k. get_or gs k []))
      (λ j l.
      ap (λ xs. get_or xs j []) e
      ∙ get_or-map (λ k. get_or gs k []) ks j 0 [] l
      ∙ ap (λ v. get_or (first_chunks v (length b / v) b) (get_or ks j 0) []) (sym wide)) in
      numbers-flat c.kind w (length ks) group_at (λ j. get_or c.items (get_or ks j 0) (pos 0))
      wide some group-wide group-number moved each flat f g
      ∙ sym (fill_by_all (λ j. get_or c.items (get_or ks j 0) (pos 0))
      (map (λ k. get_or c.items k (pos 0)) ks) (length ks) (pos 0)
      (length-map ks (λ k. get_or c.items k (pos 0)))
      (λ j l. get_or-map (λ k. get_or c.items k (pos 0)) ks j 0 (pos 0) l))
