-- An array cut by counts.
use Rattle.std.specs.Prelude.{◌≡◌, ℕ, zero, suc, ◌+◌, ◌-◌, ◌<◌, ◌≤◌, ◌^◌, ◌==◌, nat_eq, nat_lt}
use Rattle.std.specs.Prelude.{refl, true, false, ◌||◌, not, List, [], ◌∷◌, length, map, take, drop}
use Rattle.std.specs.Prelude.{get_or, sum_by, pos, Some, None, Ok, Err, if◌then◌else◌}
use Rattle.std.specs.List.{list_any, range_with_len}
use Rattle.std.proofs.Common.{arith, ap, ap₂, sym, ◌∙◌}
use Rattle.std.proofs.lemmas.List.{length-map, take_all}
use Rattle.std.proofs.lemmas.List.Folds.{list_any_at, list_any_more}
use Rattle.std.proofs.lemmas.List.FromFn.{fill_by_all}
use Rattle.std.proofs.lemmas.List.Sums.{sum_by-cons, sum_by_more, sum_by-take-le}
use Rattle.std.proofs.Math.Bool.{or-true}
use Rattle.awk_base.proofs.Truths.{or_second, same_number, equal_right, unequal_wrong}
use Rattle.awk_base.proofs.Ranges.{map-same}
use Rattle.awk_types.specs.DataType.{DataType, var}
use Rattle.awk_types.specs.Datum.{arr}
use Rattle.awk_types.specs.Gives.{refused_or, ◌or◌}
use Rattle.awk_types.specs.Simple.{simple_value}
use Rattle.awk_types.specs.Value.{Value, null, int, list, values_from}
use Rattle.awk_types.specs.ItemLimit.{item_limit, too_many}
use Rattle.awk_types.specs.declared.fault.Fault.TheVariants.{Lengths, Size}
use Rattle.awk_types.proofs.Trees.{values_from-list}
use Rattle.awk_lanes.specs.Column.{Column}
use Rattle.awk_lanes.specs.Numbers.{nat_of}
use Rattle.awk_lanes.specs.Places.{at, place_at}
use Rattle.awk_lanes.specs.declared.kind.Kind.TheVariants.{I64}
use Rattle.awk_layout.specs.Layout.{Layout, offset_lists}
use Rattle.awk_layout.specs.Item.{item}
use Rattle.awk_layout.specs.Shown.{count_of}
use Rattle.awk_layout.specs.Typing.{layout_type, array_type, array_items, array_datum}
use Rattle.awk_layout.specs.Valid.{len}
use Rattle.awk_layout.proofs.ArrayItems.{length-array_items, get_or-array_items}
use Rattle.awk_gather.specs.Arrays.{array_item}
use Rattle.awk_lanes.specs.Made.{lane_of}
use Rattle.awk_lanes.proofs.MadeLanes.{size-lane_of, at-lane_of}
use Rattle.awk_columns.specs.Joined.{AreOffsets}
use Rattle.awk_columns.proofs.ArrayLaws.{array_items-at, run_in_list}
use Rattle.awk_lists.specs.Numbers.{AreCounts}
use Rattle.awk_lists.specs.Unflatten.{is_negative, counted_before, do_not_add_up, cut_by, lists_by}
use Rattle.awk_lists.specs.Unflatten.{cut_items}
use Rattle.awk_lists.proofs.Ends.{rising_offsets}
use Rattle.awk_list_ends.proofs.KeptItems.{run-slice}

-- ---- counts by place

pub count_at : (x : Layout) (c : Column) → AreCounts x c → (i : ℕ) → i < len x
    → get_or (array_items x) i null ≡ int (at c i)
count_at x c a i p = get_or-array_items x i p ∙ a.items i p

pub counted_next : (x : Layout) (c : Column) → AreCounts x c → (i : ℕ) → i < len x
    → counted_before (array_items x) (i + 1)
    ≡ counted_before (array_items x) i + nat_of (at c i)
counted_next x c a i p =
    sum_by_more count_of (array_items x) i null (omega (arith, p, length-array_items x))
    ∙ ap (λ v. counted_before (array_items x) i + count_of v) (count_at x c a i p)

pub counted_few : (cs : List Value) (i : ℕ) → counted_before cs i ≤ sum_by count_of cs
counted_few cs i = sum_by-take-le count_of cs i

pub negative_next : (x : Layout) (c : Column) → AreCounts x c → (i : ℕ) → i < len x
    → is_negative (int (at c i)) ≡ false → list_any is_negative (take i (array_items x)) ≡ false
    → list_any is_negative (take (i + 1) (array_items x)) ≡ false
negative_next x c a i p e h =
    list_any_more is_negative (array_items x) i null (omega (arith, p, length-array_items x))
    ∙ ap₂ (λ u v. u || v) h (ap is_negative (count_at x c a i p) ∙ e)

-- ---- counts that do not add up

pub negative_wrong : (x : Layout) (c : Column) (n : ℕ) → AreCounts x c → (i : ℕ) → i < len x
    → is_negative (int (at c i)) ≡ true → do_not_add_up n (array_items x) ≡ true
negative_wrong x c n a i p e =
    ap (λ b. b || not (sum_by count_of (array_items x) == n))
    (list_any_at is_negative (array_items x) i null (omega (arith, p, length-array_items x))
    (ap is_negative (count_at x c a i p) ∙ e))

pub over_wrong : (cs : List Value) (n : ℕ) → n < sum_by count_of cs → do_not_add_up n cs ≡ true
over_wrong cs n p =
    ap (λ b. list_any is_negative cs || b)
    (unequal_wrong (sum_by count_of cs) n (λ e. omega (arith, p, e)))
    ∙ or-true (list_any is_negative cs)

pub under_wrong : (cs : List Value) (n : ℕ) → sum_by count_of cs < n → do_not_add_up n cs ≡ true
under_wrong cs n p =
    ap (λ b. list_any is_negative cs || b)
    (unequal_wrong (sum_by count_of cs) n (λ e. omega (arith, p, e)))
    ∙ or-true (list_any is_negative cs)

pub adds_up : (cs : List Value) (n : ℕ) → list_any is_negative cs ≡ false → sum_by count_of cs ≡ n
    → do_not_add_up n cs ≡ false
adds_up cs n h e = ap₂ (λ u v. u || v) h (equal_right (sum_by count_of cs) n e)

pub counted_whole : (cs : List Value) (n : ℕ) → do_not_add_up n cs ≡ false → sum_by count_of cs ≡ n
counted_whole cs n h =
    same_number (sum_by count_of cs) n (or_second (list_any is_negative cs) _ h)

pub all_added : (cs : List Value) (n left i : ℕ) → length cs ≤ i
    → list_any is_negative (take i cs) ≡ false → counted_before cs i + left ≡ n
    → not (nat_eq left 0) ≡ do_not_add_up n cs
all_added cs n left i p h e =
    let whole = take_all i cs p in
    let none : list_any is_negative cs ≡ false = ap (list_any is_negative) (sym whole) ∙ h in
    let sum : counted_before cs i ≡ sum_by count_of cs = ap (sum_by count_of) whole in
    go left none (omega (arith, sum, e))
  where
    go : (k : ℕ) → list_any is_negative cs ≡ false → sum_by count_of cs + k ≡ n
        → not (nat_eq k 0) ≡ do_not_add_up n cs
    go zero a b = sym (adds_up cs n a (omega (arith, b)))
    go (suc k) a b =
        let f : not (nat_eq (suc k) 0) ≡ true = grind arith in
        f ∙ sym (under_wrong cs n (omega (arith, b)))

-- ---- the offsets

abbrev pub count_offsets : List Value → ℕ → Column
count_offsets cs n = lane_of I64 (n + 1) (λ i. pos (counted_before cs i))

module _ (x counts : Layout) (c : Column) (a : AreCounts counts c) (fits : len counts < 2 ^ 63)
    (whole : sum_by count_of (array_items counts) ≡ len x) where
  abbrev cs : List Value
  cs = array_items counts

  abbrev o : Column
  o = count_offsets (array_items counts) (len counts)

  at-counts : (i : ℕ) → i ≤ len counts → at o i ≡ pos (counted_before cs i)
  at-counts i p = at-lane_of I64 (len counts + 1) (λ k. pos (counted_before cs k)) i
      (omega (arith, p))

  place-counts : (i : ℕ) → i ≤ len counts → place_at o i ≡ counted_before cs i
  place-counts i p = ap nat_of (at-counts i p)

  pub cut_offsets : AreOffsets o (len counts) (len x)
  cut_offsets =
      rising_offsets o (len counts) (len x) (counted_before cs) tt
      (size-lane_of I64 (len counts + 1) (λ k. pos (counted_before cs k)))
      fits at-counts
      (λ i p. omega (arith, counted_next counts c a i p)) refl
      (all_counted cs (len counts) (length-array_items counts) ∙ whole)
    where
      all_counted : (vs : List Value) (n : ℕ) → length vs ≡ n
          → counted_before vs n ≡ sum_by count_of vs
      all_counted vs n e = ap (sum_by count_of) (take_all n vs (omega (arith, e)))

  -- ---- the lists

  cut_value : (i : ℕ) → i < len counts → array_item (offset_lists o x) i
      ≡ list (values_from (take (count_of (get_or cs i null)) (drop (counted_before cs i)
      (array_items x))))
  cut_value i p =
      let first = place-counts i (omega (arith, p)) in
      let next : place_at o (i + 1) ≡ counted_before cs i + count_of (get_or cs i null) =
      place-counts (i + 1) (omega (arith, p))
      ∙ sum_by_more count_of cs i null (omega (arith, p, length-array_items counts)) in
      let size : place_at o (i + 1) - place_at o i ≡ count_of (get_or cs i null) =
      omega (arith, first, next) in
      let within = cut_offsets.within i p in
      run_in_list (simple_value (layout_type x)) (item x) (place_at o i)
      (place_at o (i + 1) - place_at o i)
      ∙ ap list (sym (values_from-list _)
      ∙ ap values_from (run-slice x (place_at o i) (place_at o (i + 1) - place_at o i) within
      ∙ ap (λ k. take k (drop (place_at o i) (array_items x))) size
      ∙ ap (λ k. take (count_of (get_or cs i null)) (drop k (array_items x))) first))

-- ---- lists by counts, one after another

pub length-cut : (ns : List ℕ) (vs : List Value) → length (cut_by ns vs) ≡ length ns
length-cut [] vs = refl
length-cut (n ∷ ns) vs = ap suc (length-cut ns (drop n vs))

drop-none : (n : ℕ) → drop {A = Value} n [] ≡ []
drop-none zero = refl
drop-none (suc n) = refl

drop-drop : (vs : List Value) (a b : ℕ) → drop a (drop b vs) ≡ drop (b + a) vs
drop-drop vs a zero = let z : a ≡ 0 + a = omega arith in ap (λ k. drop k vs) z
drop-drop [] a (suc b) = drop-none a ∙ sym (drop-none (suc b + a))
drop-drop (v ∷ vs) a (suc b) =
    let e : suc (b + a) ≡ suc b + a = omega arith in
    drop-drop vs a b ∙ ap (λ k. drop k (v ∷ vs)) e

cut_at : (cs vs : List Value) (k : ℕ) → k < length cs
    → get_or (cut_by (map count_of cs) vs) k null
    ≡ list (values_from (take (count_of (get_or cs k null)) (drop (counted_before cs k) vs)))
cut_at [] vs k p = absurd (omega (arith, p))
cut_at (c ∷ cs) vs zero p = refl
cut_at (c ∷ cs) vs (suc k) p =
    cut_at cs (drop (count_of c) vs) k (omega (arith, p))
    ∙ ap (λ ws. list (values_from (take (count_of (get_or cs k null)) ws)))
    (drop-drop vs (counted_before cs k) (count_of c)
    ∙ ap (λ n. drop n vs) (sym (sum_by-cons count_of c (take k cs))))

cut_lists : (cs vs : List Value) → cut_by (map count_of cs) vs
    ≡ map (λ k. list (values_from (take (count_of (get_or cs k null))
    (drop (counted_before cs k) vs)))) (range_with_len 0 (length cs))
cut_lists cs vs =
    fill_by_all (λ k. list (values_from (take (count_of (get_or cs k null))
    (drop (counted_before cs k) vs)))) (cut_by (map count_of cs) vs) (length cs) null
    (length-cut (map count_of cs) vs ∙ length-map cs count_of) (λ k p. cut_at cs vs k p)

pub lists_cut : (x counts : Layout) (c : Column) → AreCounts counts c → len counts < 2 ^ 63
    → do_not_add_up (len x) (array_items counts) ≡ false
    → array_datum (offset_lists (count_offsets (array_items counts) (len counts)) x)
    ≡ lists_by (array_type x) (array_items x) (array_items counts)
lists_cut x counts c a fits h =
    let whole = counted_whole (array_items counts) (len x) h in
    let o : Column = count_offsets (array_items counts) (len counts) in
    let n = cut_offsets x counts c a fits whole in
    let size : len (offset_lists o x) ≡ len counts = omega (arith, n.size) in
    ap (arr (var (array_type x)))
    (array_items-at (offset_lists o x)
    ∙ ap (λ k. map (array_item (offset_lists o x)) (range_with_len 0 k)) size
    ∙ map-same (array_item (offset_lists o x))
    (λ k. list (values_from (take (count_of (get_or (array_items counts) k null))
    (drop (counted_before (array_items counts) k) (array_items x))))) 0 (len counts)
    (λ i p q. cut_value x counts c a fits whole i (omega (arith, q)))
    ∙ ap (λ k. map (λ j. list (values_from (take (count_of (get_or (array_items counts) j null))
    (drop (counted_before (array_items counts) j) (array_items x)))))
    (range_with_len 0 k)) (sym (length-array_items counts))
    ∙ sym (cut_lists (array_items counts) (array_items x)))

-- ---- what is told

pub told_lengths : (t : DataType) (vs cs : List Value) (n : ℕ) → length vs ≡ n
    → do_not_add_up n cs ≡ true → cut_items t vs cs ≡ Err Lengths
told_lengths t vs cs n e h =
    ap (λ b. refused_or ((if b then Some Lengths else None) or too_many (length cs))
    (lists_by t vs cs)) (ap (λ k. do_not_add_up k cs) e ∙ h)

pub told_size : (t : DataType) (vs cs : List Value) (n m : ℕ) → length vs ≡ n → length cs ≡ m
    → do_not_add_up n cs ≡ false → item_limit < m → cut_items t vs cs ≡ Err Size
told_size t vs cs n m e f h p =
    let q : nat_lt item_limit (length cs) ≡ true = grind (arith, f, p) in
    ap (λ b. refused_or ((if b then Some Lengths else None) or too_many (length cs))
    (lists_by t vs cs)) (ap (λ k. do_not_add_up k cs) e ∙ h)
    ∙ ap (λ b. refused_or (if b then Some Size else None) (lists_by t vs cs)) q

pub told_lists : (t : DataType) (vs cs : List Value) (n m : ℕ) → length vs ≡ n → length cs ≡ m
    → do_not_add_up n cs ≡ false → m ≤ item_limit → cut_items t vs cs ≡ Ok (lists_by t vs cs)
told_lists t vs cs n m e f h p =
    let q : nat_lt item_limit (length cs) ≡ false = grind (arith, f, p) in
    ap (λ b. refused_or ((if b then Some Lengths else None) or too_many (length cs))
    (lists_by t vs cs)) (ap (λ k. do_not_add_up k cs) e ∙ h)
    ∙ ap (λ b. refused_or (if b then Some Size else None) (lists_by t vs cs)) q
