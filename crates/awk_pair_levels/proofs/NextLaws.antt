-- What each share gives to the rows below.
use Rattle.std.proofs.Common.{◌≡◌, ℕ, ◌+◌, ◌<◌, ◌≤◌, ap, arith, sym, subst, ◌∙◌}
use Rattle.std.proofs.Common.{take, drop, true, false}
use Rattle.std.specs.Prelude.{List, [], ◌∷◌, ◌++◌, length, map, get_or, slice_get, Some}
use Rattle.std.specs.List.{flat_map, list_all, range_with_len}
use Rattle.std.proofs.lemmas.Bool.{and_parts}
use Rattle.std.proofs.lemmas.List.{take_all}
use Rattle.std.proofs.lemmas.List.FromFn.{get_or-range_with_len, length-map-range_with_len}
use Rattle.std.proofs.lemmas.List.FromFn.{get_or-map-range_with_len}
use Rattle.awk_base.proofs.Truths.{not-both}
use Rattle.awk_base.proofs.Lists.{drop-get, take-get}
use Rattle.awk_types.specs.ItemLimit.{item_limit}
use Rattle.awk_lanes.specs.Column.{Column}
use Rattle.awk_lanes.specs.Counted.{before, offsets_by}
use Rattle.awk_lanes.specs.Places.{size_of, place_at, IsIndex}
use Rattle.awk_lanes.proofs.CountedLanes.{before-same, before-room}
use Rattle.awk_layout.specs.Layout.{Layout, flat}
use Rattle.awk_gather.specs.Arrays.{array_item, IsGathered}
use Rattle.awk_counts.specs.Counted.{first_of, numbers_at, span_at, spans}
use Rattle.awk_counts.proofs.ListLaws.{offsets-same}
use Rattle.awk_list_numbers.specs.ListPlaces.{list_places}
use Rattle.awk_columns.specs.Reached.{IsReached}
use Rattle.awk_columns.specs.ListClass.{Class}
use Rattle.awk_columns.specs.Lists.{Listed, length_of}
use Rattle.awk_columns.proofs.MovedNumbers.{numbers_reached}
use Rattle.awk_columns.proofs.ReachedContents.{first_of-at, reached-len, reached-item}
use Rattle.awk_pair_sides.specs.Levels.{common_class}
use Rattle.awk_pair_sides.proofs.PlaceLaws.{places_of, repeats_index, size-places_of}
use Rattle.awk_pair_sides.proofs.PlaceLaws.{place-places_of}
use Rattle.awk_pair_sides.proofs.RangeLaws.{length-flat, length-range}
use Rattle.awk_list_rows.proofs.WholeLaws.{spans-before}
use Rattle.awk_pair_levels.specs.Shares.{length_at, share_class, IsEven, AreEven}
use Rattle.awk_pair_levels.specs.Shares.{any_differ, IsAmong, IsNext, AreNext, AreSharedRows}
use Rattle.awk_pair_levels.specs.Shares.{is_flat, is_plain, IsRepeated, AreRepeats}
use Rattle.awk_pair_levels.specs.declared.shares.Share.{Share}
use Rattle.awk_pair_levels.specs.declared.shares.Share.TheVariants.{Lists, Items}
use Rattle.awk_pair_levels.proofs.EvenLaws.{length_at-among, none_differ, even_by}

-- ---- lists

pub next_lists : (n : ℕ) (m : ℕ → ℕ) (l : Listed) (z : Layout) → size_of l.starts ≡ n
    → IsEven m n (Lists l) → IsReached l.content (spans l.starts l.stops) z → IsNext m n (Lists l) z
next_lists n m l z e v r =
    let f : ℕ → List ℕ = span_at l.starts l.stops in
    let b : (i : ℕ) → i ≤ n → length (first_of f i) ≡ before m i =
    λ i h. spans-before l i ∙ before-same (length_of l) m i (λ j q. v j (omega (arith, h, q))) in
    let all : length (spans l.starts l.stops) ≡ before m n =
    ap (λ k. length (first_of f k)) e ∙ b n (omega arith) in
    record {
      size = reached-len l.content z (spans l.starts l.stops) r ∙ all;
      typ = r.typ;
      items = λ i k h q.
          let s : k < length (f i) =
          omega (arith, length-range (place_at l.starts i) (length_of l i), v i h, q) in
          let w : before m i + k < length (spans l.starts l.stops) =
          omega (arith, all, before-room m n i k h q) in
          reached-item l.content z (spans l.starts l.stops) (before m i + k) r w
          ∙ ap (array_item l.content)
          (ap (λ c. get_or (first_of f (size_of l.starts)) (c + k) 0) (sym (b i (omega (arith, h))))
          ∙ first_of-at f i (size_of l.starts) k 0 (omega (arith, h, e)) s
          ∙ get_or-range_with_len (place_at l.starts i) (length_of l i) k 0
          (omega (arith, v i h, q)));
    }

-- ---- items repeated

pub next_items : (n : ℕ) (m : ℕ → ℕ) (p : Column) (y z : Layout) → p ≡ places_of m n
    → IsGathered y p z → IsNext m n (Items y) z
next_items n m p y z e g = record {
  size = g.size ∙ ap size_of e ∙ size-places_of m n;
  typ = g.typ;
  items = λ i k h l.
      let q : before m i + k < size_of p =
      omega (arith, ap size_of e, size-places_of m n, before-room m n i k h l) in
      g.each (before m i + k) q
      ∙ ap (λ c. array_item y (place_at c (before m i + k))) e
      ∙ ap (array_item y) (place-places_of m n i k h l);
}

-- numbers repeated at once
pub next_repeats : (n : ℕ) (m : ℕ → ℕ) (c r : Column)
    → r ≡ numbers_at c (list_places m (λ i k. i) n) → IsNext m n (Items (flat c)) (flat r)
next_repeats n m c r e =
    let f : ℕ → List ℕ = λ i. map (λ k. i) (range_with_len 0 (m i)) in
    let g : IsReached (flat c) (first_of f n) (flat r) = numbers_reached c r (first_of f n) e in
    let b : (i : ℕ) → length (first_of f i) ≡ before m i =
    λ i. length-flat f i
    ∙ before-same (λ j. length (f j)) m i
    (λ j h. length-map-range_with_len (λ k. j) 0 (m j)) in
    record {
      size = reached-len (flat c) (flat r) (first_of f n) g ∙ b n;
      typ = g.typ;
      items = λ i k h l.
          let q : before m i + k < length (first_of f n) =
          omega (arith, b n, before-room m n i k h l) in
          let s : k < length (f i) = omega (arith, l, length-map-range_with_len (λ j. i) 0 (m i)) in
          reached-item (flat c) (flat r) (first_of f n) (before m i + k) g q
          ∙ ap (array_item (flat c))
          (ap (λ d. get_or (first_of f n) (d + k) 0) (sym (b i))
          ∙ first_of-at f i n k 0 h s
          ∙ get_or-map-range_with_len (λ j. i) 0 (m i) k k 0 l (omega arith));
    }

-- ---- what a share is made of

module _ (m : ℕ → ℕ) (n : ℕ) (ks : Column) where
  pub no_repeats : (ps : List Share) → list_all is_plain ps ≡ true → AreRepeats m n ks ps
  no_repeats [] e = tt
  no_repeats (Lists l ∷ ps) e =
      (tt, no_repeats ps (and_parts true (list_all is_plain ps) e).1)
  no_repeats (Items y ∷ ps) e =
      let both : (is_flat y ≡ true) × (list_all is_plain ps ≡ true) =
      and_parts (is_flat y) (list_all is_plain ps) e in
      ((λ h. absurd (not-both (is_flat y) h both.0)), no_repeats ps both.1)

  pub all_repeats : (ps : List Share) → ks ≡ places_of m n → AreRepeats m n ks ps
  all_repeats [] e = tt
  all_repeats (Lists l ∷ ps) e = (tt, all_repeats ps e)
  all_repeats (Items y ∷ ps) e = ((λ h. e), all_repeats ps e)

  pub repeat_get : (ps : List Share) (i : ℕ) (p : Share) → slice_get ps i ≡ Some p
      → AreRepeats m n ks (drop i ps) → IsRepeated m n ks p × AreRepeats m n ks (drop (i + 1) ps)
  repeat_get ps i p e h = subst (AreRepeats m n ks) (drop-get ps i p e) h

-- places of what is repeated
pub places_there : (m : ℕ → ℕ) (n l : ℕ) (ks : Column) → ks ≡ places_of m n → l ≡ n → IsIndex ks l
places_there m n l ks e a =
    subst (λ k. IsIndex k l) (sym e) (subst (IsIndex (places_of m n)) (sym a) (repeats_index m n))

-- as many items as lists have that are as long as others
pub even_count : (m : ℕ → ℕ) (n : ℕ) (l : Listed) (c : ℕ) → size_of l.starts ≡ n
    → IsEven m n (Lists l) → c ≡ before m n → c ≡ before (length_of l) (size_of l.starts)
even_count m n l c a v e =
    e ∙ sym (before-same (length_of l) m n v) ∙ ap (before (length_of l)) (sym a)

-- ---- one share after another

pub next_append : (m : ℕ → ℕ) (n : ℕ) (ps : List Share) (zs : List Layout) (p : Share) (z : Layout)
    → AreNext m n ps zs → IsNext m n p z → AreNext m n (ps ++ p ∷ []) (zs ++ z ∷ [])
next_append m n [] [] p z h g = (g, tt)
next_append m n (q ∷ ps) (y ∷ zs) p z h g = (h.0, next_append m n ps zs p z h.1 g)
next_append m n [] (y ∷ zs) p z h g = absurd h
next_append m n (q ∷ ps) [] p z h g = absurd h

next-one : (m k : ℕ → ℕ) (n : ℕ) (p : Share) (z : Layout) → ((i : ℕ) → i < n → m i ≡ k i)
    → IsNext m n p z → IsNext k n p z
next-one m k n p z e h = record {
  size = h.size ∙ before-same m k n e;
  typ = h.typ;
  items = λ i j a b.
      ap (λ q. array_item z (q + j)) (sym (before-same m k i (λ c r. e c (omega arith))))
      ∙ h.items i j a (omega (arith, e i a));
}

-- the items of lists that are as long as others
pub even_next : (m : ℕ → ℕ) (n : ℕ) (l : Listed) (z : Layout) → size_of l.starts ≡ n
    → IsEven m n (Lists l) → IsNext (length_of l) (size_of l.starts) (Lists l) z
    → IsNext m n (Lists l) z
even_next m n l z a v h =
    next-one (length_of l) m n (Lists l) z v
    (subst (λ j. IsNext (length_of l) j (Lists l) z) a h)

pub next_by : (m k : ℕ → ℕ) (n : ℕ) (ps : List Share) (zs : List Layout)
    → ((i : ℕ) → i < n → m i ≡ k i) → AreNext m n ps zs → AreNext k n ps zs
next_by m k n [] [] e h = tt
next_by m k n (p ∷ ps) (z ∷ zs) e h = (next-one m k n p z e h.0, next_by m k n ps zs e h.1)
next_by m k n [] (z ∷ zs) e h = absurd h
next_by m k n (p ∷ ps) [] e h = absurd h

pub next_push : (m : ℕ → ℕ) (n : ℕ) (ps : List Share) (zs ws : List Layout) (i : ℕ) (p : Share)
    (z : Layout) → slice_get ps i ≡ Some p → ws ≡ zs ++ z ∷ [] → AreNext m n (take i ps) zs
    → IsNext m n p z → AreNext m n (take (i + 1) ps) ws
next_push m n ps zs ws i p z e f h g =
    subst (λ w. AreNext m n (take (i + 1) ps) w) (sym f)
    (subst (λ w. AreNext m n w (zs ++ z ∷ [])) (sym (take-get ps i p e))
    (next_append m n (take i ps) zs p z h g))

pub next_all : (m : ℕ → ℕ) (n : ℕ) (ps : List Share) (zs : List Layout) (i : ℕ) → length ps ≤ i
    → AreNext m n (take i ps) zs → AreNext m n ps zs
next_all m n ps zs i l h = subst (λ w. AreNext m n w zs) (take_all i ps l) h

-- ---- by the lists of one operand

module _ (l : Listed) (n : ℕ) (ps : List Share) where
  abbrev ByLead : Type 0
  ByLead = IsAmong l ps × AreEven (length_of l) n ps

  lead-same : ByLead → (i : ℕ) → i < n → length_of l i ≡ length_at ps i
  lead-same g i h = sym (length_at-among l n i ps h g.0 g.1)

  pub rows_large : ByLead → item_limit < before (length_of l) n
      → (any_differ ps n ≡ false) × (item_limit < before (length_at ps) n)
  rows_large g h = (
    none_differ (length_of l) n ps g.1,
    omega (arith, h, before-same (length_of l) (length_at ps) n (lead-same g)),
  )

  pub rows_given : (c : Class) (o : Column) (m : ℕ) (zs : List Layout) → ByLead
      → c ≡ common_class (flat_map share_class ps) → o ≡ offsets_by (length_of l) n
      → m ≡ before (length_of l) n → before (length_of l) n ≤ item_limit
      → AreNext (length_of l) n ps zs → AreSharedRows n ps c o m zs
  rows_given c o m zs g e f k h a = record {
    even = none_differ (length_of l) n ps g.1;
    alike = even_by (length_of l) (length_at ps) n ps (lead-same g) g.1;
    few = omega (arith, k, h);
    class = e;
    offsets = f ∙ offsets-same (length_of l) (length_at ps) n (lead-same g);
    count = k ∙ before-same (length_of l) (length_at ps) n (lead-same g);
    next = next_by (length_of l) (length_at ps) n ps zs (lead-same g) a;
  }
