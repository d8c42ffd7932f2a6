-- The laws of histograms.
use Rattle.std.proofs.Common.{◌≡◌, ℕ, ◌+◌, ◌≤◌, List, [], ◌∷◌, ◌++◌, length, map, refl, ap}
use Rattle.std.proofs.Common.{ap₂, sym, ◌∙◌, arith, append_assoc, append-nil}
use Rattle.std.specs.Prelude.{ℤ, nat_lt, Bool, true, false, cond, int_lt, int_le}
use Rattle.std.specs.Prelude.{Option, Some, None, Ok, if◌then◌else◌}
use Rattle.std.specs.List.{count_by, flat_map, fold, range_with_len, sum}
use Rattle.std.proofs.lemmas.Bool.{ltb-false}
use Rattle.std.proofs.lemmas.Grind.{flat_map-append}
use Rattle.std.proofs.lemmas.List.{length-append}
use Rattle.std.proofs.lemmas.List.Elements.{filter-append}
use Rattle.std.proofs.lemmas.List.Sums.{sum_by-append}
use Rattle.awk_types.specs.DataType.{DataType, unknown, leaf, var, reg, rec, tup, opt, uni}
use Rattle.awk_types.specs.Datum.{Datum, arr, one}
use Rattle.awk_types.specs.Gives.{refused_or, ◌or◌}
use Rattle.awk_types.specs.ItemLimit.{item_limit, too_many}
use Rattle.awk_types.specs.Predicates.{is_null}
use Rattle.awk_types.specs.Value.{Value, list, row, values_from}
use Rattle.awk_types.specs.declared.fault.Fault.{Fault}
use Rattle.awk_types.specs.declared.fault.Fault.TheVariants.{Size}
use Rattle.awk_types.proofs.RefusalLaws.{refused_or-Ok, or-both, or-None}
use Rattle.awk_columns.specs.Columns.{is_present, present_values, list_items, joined_items}
use Rattle.awk_present.specs.Numbers.{numbers}
use Rattle.awk_bins.specs.Bins.{intervals, count_in, count_under, count_over}
use Rattle.awk_bins.specs.Edges.{are_edges, edge_at, lies_in}
use Rattle.awk_hist.specs.Bins.{bins, bins_type, count_nulls, count_value}
use Rattle.awk_hist.specs.Hist.{leaves, leaves_of, hist_of, hist_refused, lists_refused}
use Rattle.awk_hist.specs.Hist.{type_refused}
use Rattle.awk_hist.specs.Totals.{counts_total}
use Rattle.awk_hist.proofs.TotalLaws.{bins-total}
use Rattle.awk_number_laws.proofs.HistogramLists.{each_counted}
use Rattle.awk_number_laws.specs.Histograms.{added, all_added, AddUpTo, HistogramLaws}
use Rattle.awk_number_laws.proofs.NumberLaws.{numbers-append}

-- ---- all counts

leaves_are : (es : List ℤ) (d made : Datum) → are_edges es ≡ true → hist_of es d ≡ Ok made
    → counts_total made ≡ length (leaves_of d)
leaves_are es d made h e =
    let k = refused_or-Ok (hist_refused d) (one bins_type (bins es (leaves_of d))) made e in
    ap counts_total (sym k.1) ∙ bins-total es (leaves_of d) h

-- ---- two lists

count-append : {X : Type 0} (p : X → Bool) (xs ys : List X)
    → count_by p (xs ++ ys) ≡ count_by p xs + count_by p ys
count-append p xs ys = sum_by-append (λ x. cond (p x) 1 0) xs ys

count_joined : (p : ℤ → Bool) (us vs : List Value)
    → count_by p (numbers (us ++ vs)) ≡ count_by p (numbers us) + count_by p (numbers vs)
count_joined p us vs =
    ap (count_by p) (numbers-append us vs) ∙ count-append p (numbers us) (numbers vs)

counts_added : (f g : ℕ → ℕ) (is : List ℕ)
    → all_added (values_from (map count_value (map f is)))
    (values_from (map count_value (map g is)))
    ≡ map count_value (map (λ i. f i + g i) is)
counts_added f g [] = refl
counts_added f g (i ∷ is) = ap (λ vs. count_value (f i + g i) ∷ vs) (counts_added f g is)

each_same : (f g : ℕ → ℕ) → ((i : ℕ) → f i ≡ g i) → (is : List ℕ) → map f is ≡ map g is
each_same f g h [] = refl
each_same f g h (i ∷ is) = ap₂ (λ n ns. n ∷ ns) (h i) (each_same f g h is)

abbrev row_of : List Value → ℕ → ℕ → ℕ → Value
row_of counts under over nulls =
    row (values_from (list (values_from counts) ∷ count_value under ∷ count_value over
    ∷ count_value nulls ∷ []))

joined_is : (es : List ℤ) (us vs : List Value)
    → bins es (us ++ vs) ≡ added (bins es us) (bins es vs)
joined_is es us vs =
    let f = count_in es (numbers us) in
    let g = count_in es (numbers vs) in
    let is = range_with_len 0 (intervals es) in
    let under = λ (ws : List Value). count_under es (numbers ws) in
    let over = λ (ws : List Value). count_over es (numbers ws) in
    ap (λ ns. row_of (map count_value ns) (under (us ++ vs)) (over (us ++ vs))
    (count_nulls (us ++ vs)))
    (each_same (count_in es (numbers (us ++ vs))) (λ i. f i + g i)
    (λ i. count_joined (lies_in es i) us vs) is)
    ∙ ap (λ n. row_of (map count_value (map (λ i. f i + g i) is)) n (over (us ++ vs))
    (count_nulls (us ++ vs))) (count_joined (λ z. int_lt z (edge_at es 0)) us vs)
    ∙ ap₂ (λ n m. row_of (map count_value (map (λ i. f i + g i) is)) (under us + under vs) n m)
    (count_joined (λ z. int_le (edge_at es (intervals es)) z) us vs)
    (count-append is_null us vs)
    ∙ ap (λ ws. row_of ws (under us + under vs) (over us + over vs)
    (count_nulls us + count_nulls vs)) (sym (counts_added f g is))

-- ---- many lists

parts_from : (es : List ℤ) (done : List Value) (ls : List (List Value))
    → bins es (done ++ flat_map (λ l. l) ls) ≡ fold added (bins es done) (map (bins es) ls)
parts_from es done [] = ap (bins es) (append-nil done)
parts_from es done (l ∷ ls) =
    ap (bins es) (sym (append_assoc done l (flat_map (λ l. l) ls)))
    ∙ parts_from es (done ++ l) ls
    ∙ ap (λ v. fold added v (map (bins es) ls)) (joined_is es done l)

-- ---- arrays

few_more : (n m : ℕ) → m ≤ n → too_many n ≡ None → too_many m ≡ None
few_more n m l e = go (nat_lt item_limit n) refl e
  where
    go : (b : Bool) → nat_lt item_limit n ≡ b → (if b then Some Size else None) ≡ None
        → too_many m ≡ None
    go true f g = absurd (cc)
    go false f g =
        let p : n ≤ item_limit = ltb-false item_limit n f in
        let q : nat_lt item_limit m ≡ false = grind (arith, l, p) in
        ap (λ b. if b then Some Size else None) q

abbrev AreBoth : (List Value → Option Fault) → List Value → List Value → Type 0
AreBoth f us vs = (f us ≡ None) × (f vs ≡ None)

none_of : (a b : Option Fault) → a ≡ None → b ≡ None → (a or b) ≡ None
none_of a b e f = or-None a b e ∙ f

-- a column of lists, and what is inside
items_both : (f : List Value → Option Fault) (us vs : List Value)
    → (too_many (length (joined_items (us ++ vs))) or f (joined_items (us ++ vs))) ≡ None
    → ((us vs : List Value) → f (us ++ vs) ≡ None → AreBoth f us vs)
    → AreBoth (λ ws. too_many (length (joined_items ws)) or f (joined_items ws)) us vs
items_both f us vs e h =
    let whole = length (joined_items (us ++ vs)) in
    let j = flat_map-append list_items us vs in
    let k = or-both (too_many whole) (f (joined_items (us ++ vs))) e in
    let n = ap length j ∙ length-append (joined_items us) (joined_items vs) in
    let i = h (joined_items us) (joined_items vs) (ap f (sym j) ∙ k.1) in
    let here = few_more whole (length (joined_items us)) (omega (arith, n)) k.0 in
    let there = few_more whole (length (joined_items vs)) (omega (arith, n)) k.0 in (
      none_of (too_many (length (joined_items us))) (f (joined_items us)) here i.0,
      none_of (too_many (length (joined_items vs))) (f (joined_items vs)) there i.1,
    )

lists_both : (t : DataType) (us vs : List Value) → lists_refused t (us ++ vs) ≡ None
    → AreBoth (lists_refused t) us vs
lists_both unknown us vs e = (refl, refl)
lists_both (leaf p) us vs e = (refl, refl)
lists_both (var t) us vs e = items_both (lists_refused t) us vs e (lists_both t)
lists_both (reg n t) us vs e = items_both (lists_refused t) us vs e (lists_both t)
lists_both (rec ns ts) us vs e = (refl, refl)
lists_both (tup ts) us vs e = (refl, refl)
lists_both (opt t) us vs e =
    lists_both t (present_values us) (present_values vs)
    (ap (lists_refused t) (sym (filter-append is_present us vs)) ∙ e)
lists_both (uni ts) us vs e = (refl, refl)

arrays_are : (es : List ℤ) (t : DataType) (us vs : List Value) (made : Datum)
    → hist_of es (arr t (us ++ vs)) ≡ Ok made → AddUpTo es t us vs made
arrays_are es t us vs made e =
    let k = refused_or-Ok (hist_refused (arr t (us ++ vs)))
    (one bins_type (bins es (flat_map (leaves t) (us ++ vs)))) made e in
    let a = or-both (type_refused t) (too_many (length (us ++ vs)) or lists_refused t (us ++ vs))
    k.0 in
    let b = or-both (too_many (length (us ++ vs))) (lists_refused t (us ++ vs)) a.1 in
    let c = lists_both t us vs b.1 in
    let n = length-append us vs in
    record {
      first_row = bins es (flat_map (leaves t) us);
      second_row = bins es (flat_map (leaves t) vs);
      first = fine us (few_more (length (us ++ vs)) (length us) (omega (arith, n)) b.0) a.0 c.0;
      second = fine vs (few_more (length (us ++ vs)) (length vs) (omega (arith, n)) b.0) a.0 c.1;
      sum =
          sym k.1
          ∙ ap (λ ws. one bins_type (bins es ws)) (flat_map-append (leaves t) us vs)
          ∙ ap (one bins_type) (joined_is es (flat_map (leaves t) us) (flat_map (leaves t) vs));
    }
  where
    fine : (ws : List Value) → too_many (length ws) ≡ None → type_refused t ≡ None
        → lists_refused t ws ≡ None
        → hist_of es (arr t ws) ≡ Ok (one bins_type (bins es (flat_map (leaves t) ws)))
    fine ws p q r =
        ap (λ o. refused_or o (one bins_type (bins es (flat_map (leaves t) ws))))
        (none_of (type_refused t) (too_many (length ws) or lists_refused t ws) q
        (none_of (too_many (length ws)) (lists_refused t ws) p r))

pub histograms_law : HistogramLaws
histograms_law = record {
  total = bins-total;
  leaves = leaves_are;
  joined = joined_is;
  parts = λ es ls. parts_from es [] ls;
  arrays = arrays_are;
  each = each_counted;
}
