-- Keys of parts of cells, and the places that they tell when they are in order.
use Rattle.std.proofs.Common.{◌≡◌, ℕ, zero, suc, ◌+◌, ◌-◌, ◌*◌, ◌<◌, ◌≤◌, refl, ap, ap₂}
use Rattle.std.proofs.Common.{sym, ◌∙◌, subst, arith, List, [], ◌∷◌, ◌++◌, map, length, get_or}
use Rattle.std.proofs.Common.{length-append, take, drop, append_assoc, take_all, ◌⊎◌, inl, inr}
use Rattle.std.specs.Prelude.{ℤ, pos, Bool, true, Option, Some, None}
use Rattle.std.specs.List.{range_with_len, slice_range}
use Rattle.std.proofs.lemmas.List.{length-map, take-append-le, drop_at}
use Rattle.std.proofs.lemmas.List.FromFn.{length-map-range_with_len, get_or-map-range_with_len}
use Rattle.std.proofs.lemmas.List.FromFn.{map-range_with_len_more, length-range_with_len}
use Rattle.std.proofs.lemmas.Slice.{between_is}
use Rattle.awk_base.proofs.Ranges.{map-same}
use Rattle.awk_lanes.specs.Column.{Column}
use Rattle.awk_lanes.specs.Numbers.{element}
use Rattle.awk_lanes.specs.Places.{place_at}
use Rattle.awk_lanes.specs.declared.kind.Kind.TheVariants as kind
use Rattle.awk_parts.specs.Parts.{part_at}
use Rattle.awk_sorting.specs.Cells.{cell_at, cells_from, cells_of_part, height, key, keys_from}
use Rattle.awk_sorting.specs.Cells.{place_of, IsRanked, AreRanked, OrdersLane}
use Rattle.awk_sorting.specs.Order.{number_first, stands_first, order, sort_numbers}
use Rattle.awk_sorting.proofs.InsertLaws.{length-sort}
use Rattle.awk_sorting.proofs.KeyLaws.{order_by_keys}
use Rattle.awk_sorting.proofs.LaneLaws.{same_numbers}
use Rattle.awk_sorting.proofs.PartLaws.{less_or_last, map-append}

-- ---- one key after another

slice_before : {X : Type 0} (xs ys : List X) (a b : ℕ) → b ≤ length xs
    → slice_range (xs ++ ys) a b ≡ slice_range xs a b
slice_before xs ys a b l =
    between_is (xs ++ ys) a b ∙ ap (drop a) (take-append-le b xs ys l) ∙ sym (between_is xs a b)

slice_after : {X : Type 0} (xs ys : List X) (a b : ℕ) → a ≡ length xs
    → b ≡ length xs + length ys → slice_range (xs ++ ys) a b ≡ ys
slice_after xs ys a b e f =
    ap (take (b - a)) (drop_at xs ys a (sym e))
    ∙ take_all (b - a) ys (omega (arith, e, f))

module _ (up : Bool) (least last : ℕ) (c : Column) (j : Option Column) where
  more_keys : (start m : ℕ) (was : List ℤ)
      → (was ++ keys_from up least last c j start m)
      ++ key up least last (cell_at c j (start + m)) m ∷ []
      ≡ was ++ keys_from up least last c j start (m + 1)
  more_keys start m was =
      let at_place : ℕ → ℤ = λ i. key up least last (cell_at c j (start + i)) i in
      append_assoc was (keys_from up least last c j start m) (at_place m ∷ [])
      ∙ ap (λ zs. was ++ zs) (sym (map-range_with_len_more at_place 0 m m (omega arith)))

  pub key_pushed : {X : Type 0} (number : X → ℤ) (start i : ℕ) (was before now : List X) (k : X)
      (r : ℕ) → start ≤ i
      → map number before ≡ map number was ++ keys_from up least last c j start (i - start)
      → now ≡ before ++ k ∷ [] → number k ≡ pos (r * 4294967296 + (i - start))
      → r ≡ height up least last (cell_at c j i)
      → map number now ≡ map number was ++ keys_from up least last c j start (i + 1 - start)
  key_pushed number start i was before now k r l b e ke re =
      let there : start + (i - start) ≡ i = omega (arith, l) in
      let next : i - start + 1 ≡ i + 1 - start = omega (arith, l) in
      ap (map number) e ∙ map-append number before (k ∷ [])
      ∙ ap₂ (λ zs z. zs ++ z ∷ []) b
      (ke ∙ ap (λ n. pos (n * 4294967296 + (i - start)))
      (re ∙ ap (λ q. height up least last (cell_at c j q)) (sym there)))
      ∙ more_keys start (i - start) (map number was)
      ∙ ap (λ m. map number was ++ keys_from up least last c j start m) next

-- ---- the places of one part after another

take_more : {X : Type 0} (xs : List X) (i : ℕ) (d : X) → i < length xs
    → take (suc i) xs ≡ take i xs ++ get_or xs i d ∷ []
take_more [] i d l = absurd (omega (arith, l))
take_more (x ∷ xs) zero d l = refl
take_more (x ∷ xs) (suc i) d l = ap (λ ys. x ∷ ys) (take_more xs i d (omega (arith, l)))

pub place_pushed : {X : Type 0} (number : X → ℤ) (ks : List X) (i : ℕ) (d : X)
    (was before now : List ℤ) (p : ℤ) → i < length ks
    → before ≡ was ++ map place_of (map number (take i ks)) → now ≡ before ++ p ∷ []
    → p ≡ place_of (number (get_or ks i d))
    → now ≡ was ++ map place_of (map number (take (i + 1) ks))
place_pushed number ks i d was before now p l b e f =
    let next : i + 1 ≡ suc i = omega arith in
    let k = get_or ks i d in
    let places : List ℤ = map place_of (map number (take i ks)) in
    let more : map place_of (map number (take (i + 1) ks)) ≡ places ++ place_of (number k) ∷ [] =
    ap (λ m. map place_of (map number (take m ks))) next
    ∙ ap (λ xs. map place_of (map number xs)) (take_more ks i d l)
    ∙ ap (map place_of) (map-append number (take i ks) (k ∷ []))
    ∙ map-append place_of (map number (take i ks)) (number k ∷ []) in
    e ∙ ap₂ (λ zs z. zs ++ z ∷ []) b f ∙ append_assoc was places (place_of (number k) ∷ [])
    ∙ ap (λ zs. was ++ zs) (sym more)

-- the places of each of n parts in the order of its cells, one part after another
pub record AreOrdered (up : Bool) (c : Column) (j : Option Column) (o : Column) (n : ℕ)
    (zs : List ℤ) : Type 0 where
  pub size : length zs ≡ place_at o n
  pub parts : (i : ℕ) → i < n → slice_range zs (place_at o i) (place_at o (i + 1))
      ≡ map pos (order up (cells_of_part c j o i))

length-places : (up : Bool) (c : Column) (j : Option Column) (start m : ℕ)
    → length (map pos (order up (cells_from c j start m))) ≡ m
length-places up c j start m =
    let os : List (Option ℤ) = cells_from c j start m in
    length-map (order up os) pos ∙ length-sort (stands_first up os) (range_with_len 0 (length os))
    ∙ length-range_with_len 0 (length os)
    ∙ length-map-range_with_len (λ k. cell_at c j (start + k)) 0 m

pub ordered_more : (up : Bool) (c : Column) (j : Option Column) (o : Column) (i : ℕ)
    (was now : List ℤ) → ((k : ℕ) → k < i → place_at o (k + 1) ≤ place_at o i)
    → place_at o i ≤ place_at o (i + 1) → AreOrdered up c j o i was
    → now ≡ was ++ map pos (order up (cells_of_part c j o i))
    → AreOrdered up c j o (i + 1) now
ordered_more up c j o i was now before next h e = record {
  size = ap length e ∙ length-append was more ∙ omega (arith, many, h.size, next);
  parts = λ k l. by_place k (less_or_last k i (omega (arith, l)));
}
  where
    more : List ℤ
    more = map pos (order up (cells_of_part c j o i))

    many : length more ≡ place_at o (i + 1) - place_at o i
    many = length-places up c j (place_at o i) (place_at o (i + 1) - place_at o i)

    by_place : (k : ℕ) → (k < i) ⊎ (k ≡ i)
        → slice_range now (place_at o k) (place_at o (k + 1))
        ≡ map pos (order up (cells_of_part c j o k))
    by_place k (inl l) =
        ap (λ xs. slice_range xs (place_at o k) (place_at o (k + 1))) e
        ∙ slice_before was more (place_at o k) (place_at o (k + 1))
        (omega (arith, before k l, h.size))
        ∙ h.parts k l
    by_place k (inr q) =
        subst (λ k. slice_range now (place_at o k) (place_at o (k + 1))
        ≡ map pos (order up (cells_of_part c j o k))) (sym q)
        (ap (λ xs. slice_range xs (place_at o i) (place_at o (i + 1))) e
        ∙ slice_after was more (place_at o i) (place_at o (i + 1)) (sym h.size)
        (omega (arith, many, h.size, next)))

-- ---- ranks

ranked_wider : (up : Bool) (a b x y : ℕ) (o : Option ℤ) → x ≤ a → b ≤ y → IsRanked up a b o
    → IsRanked up x y o
ranked_wider up a b x y None l m h = tt
ranked_wider up a b x y (Some z) l m h = (h.0, omega (arith, l, h.1), omega (arith, m, h.2))

pub none_ranked : (up : Bool) (c : Column) (j : Option Column) (a b : ℕ) → AreRanked up c j 0 a b
none_ranked up c j a b = record { ranked = λ k l. absurd (omega (arith, l)) }

-- one cell more, within a reach that is no narrower
pub ranked_more : (up : Bool) (c : Column) (j : Option Column) (i a b x y : ℕ) (o : Option ℤ)
    → AreRanked up c j i a b → x ≤ a → b ≤ y → o ≡ cell_at c j i → IsRanked up x y o
    → AreRanked up c j (i + 1) x y
ranked_more up c j i a b x y o h l m e k = record {
  ranked = λ q r. by_place q (less_or_last q i (omega (arith, r)));
}
  where
    by_place : (q : ℕ) → (q < i) ⊎ (q ≡ i) → IsRanked up x y (cell_at c j q)
    by_place q (inl r) = ranked_wider up a b x y (cell_at c j q) l m (h.ranked q r)
    by_place q (inr s) =
        subst (IsRanked up x y) (e ∙ ap (cell_at c j) (sym s)) k

-- ---- the places of a part

places_of_part : (up : Bool) (least last : ℕ) (c : Column) (j : Option Column) (start m : ℕ)
    (zs : List ℤ) → m < 4294967296
    → ((k : ℕ) → k < m → IsRanked up least last (cell_at c j (start + k)))
    → zs ≡ sort_numbers true (keys_from up least last c j start m)
    → map place_of zs ≡ map pos (order up (cells_from c j start m))
places_of_part up least last c j start m zs few ranked s =
    let cell : ℕ → Option ℤ = λ k. cell_at c j (start + k) in
    let os : List (Option ℤ) = cells_from c j start m in
    let long : length os ≡ m = length-map-range_with_len cell 0 m in
    let there : (k : ℕ) → k < m → cell k ≡ get_or os k None =
    λ k l. sym (get_or-map-range_with_len cell 0 m k k None l (omega arith)) in
    order_by_keys up least last os (omega (arith, long, few))
    (λ p l. subst (IsRanked up least last) (there p (omega (arith, l, long)))
    (ranked p (omega (arith, l, long)))) zs
    (s
    ∙ ap (sort_numbers true)
    (map-same (λ k. key up least last (cell k) k)
    (λ p. key up least last (get_or os p None) p) 0 m
    (λ k l r. ap (λ x. key up least last x k) (there k (omega (arith, r))))
    ∙ ap (λ n. map (λ p. key up least last (get_or os p None) p) (range_with_len 0 n))
    (sym long)))

-- sorted keys tell the places of a part
pub order_told : {X : Type 0} (number : X → ℤ) (up : Bool) (least last : ℕ) (c : Column)
    (j : Option Column) (n start stop : ℕ) (ks ys : List X) (was now : List ℤ)
    → AreRanked up c j n least last → start ≤ stop → stop ≤ n → n ≤ 1073741824
    → map number ks ≡ keys_from up least last c j start (stop - start)
    → map number ys ≡ sort_numbers true (map number ks)
    → now ≡ was ++ map place_of (map number ys)
    → now ≡ was ++ map pos (order up (cells_from c j start (stop - start)))
order_told number up least last c j n start stop ks ys was now a l m few k s e =
    e
    ∙ ap (λ zs. was ++ zs)
    (places_of_part up least last c j start (stop - start) (map number ys)
    (omega (arith, few, m)) (λ q r. a.ranked (start + q) (omega (arith, r, l, m)))
    (s ∙ ap (sort_numbers true) k))

-- there are as many as cells
pub keys_many : {X : Type 0} (number : X → ℤ) (up : Bool) (least last : ℕ) (c : Column)
    (j : Option Column) (start m : ℕ) (ks ys : List X)
    → map number ks ≡ keys_from up least last c j start m
    → map number ys ≡ sort_numbers true (map number ks) → length ys ≡ m
keys_many number up least last c j start m ks ys k s =
    sym (length-map ys number) ∙ ap length s ∙ length-sort (number_first true) (map number ks)
    ∙ ap length k
    ∙ length-map-range_with_len (λ i. key up least last (cell_at c j (start + i)) i) 0 m

-- ---- the lane of all places

pub ordered_lane : (up : Bool) (c : Column) (j : Option Column) (o : Column) (n : ℕ) (r : Column)
    → r.kind ≡ kind.I64 → AreOrdered up c j o n r.items → OrdersLane up c j o n r
ordered_lane up c j o n r k h = record {
  kind = k;
  size = h.size;
  parts = λ i l.
      ap (λ zs. part_at zs o i)
      (ap (λ q. map (element q) r.items) k ∙ same_numbers r.items) ∙ h.parts i l;
}
