-- Lists whose items are lists too: how many items these have in the column.
use Rattle.std.specs.Prelude.{◌≡◌, ℕ, ◌-◌, ◌<◌, nat_lt, refl, Bool, true, false}
use Rattle.std.specs.Prelude.{List, [], ◌∷◌, map, sum, length}
use Rattle.std.proofs.Common.{arith, ap, sym, ◌∙◌}
use Rattle.std.proofs.lemmas.Bool.{lt-ltb}
use Rattle.std.proofs.lemmas.List.{length-append}
use Rattle.awk_base.proofs.Sums.{sum-cons}
use Rattle.awk_types.specs.DataType.{DataType}
use Rattle.awk_types.specs.Value.{Value}
use Rattle.awk_types.specs.ItemLimit.{item_limit}
use Rattle.awk_lanes.specs.Column.{Column}
use Rattle.awk_lanes.specs.Places.{place_at, AreSpans}
use Rattle.awk_layout.specs.Layout.{Layout}
use Rattle.awk_layout.specs.Valid.{len}
use Rattle.awk_layout.specs.Typing.{array_type}
use Rattle.awk_layout.proofs.Runs.{length-run}
use Rattle.awk_counts.specs.Counted.{AreBelow, spans}
use Rattle.awk_gather.specs.Arrays.{array_item}
use Rattle.awk_columns.specs.Columns.{list_items, joined_items}
use Rattle.awk_columns.specs.ListClass.{Class}
use Rattle.awk_columns.specs.Lists.{Listed, span_length}
use Rattle.awk_columns.specs.ListValues.{list_values}
use Rattle.awk_columns.proofs.JoinedLists.{joined_items-is, spans_below}
use Rattle.awk_list_ends.specs.Inside.{total_inside}
use Rattle.awk_list_ends.proofs.InsideLaws.{inside-spans}
use Rattle.awk_open.specs.Opens.{OpensLists}
use Rattle.awk_open.specs.declared.opening.Opened.TheVariants.{Items}
use Rattle.awk_pack.specs.Canon.{is_too_large}
use Rattle.awk_pack.specs.Packing.{IsColumn, AreTooMany, ReachTooMany}
use Rattle.awk_pack.proofs.LargeLaws.{large_below, large_of}

-- the lists at places have as many items as their ends say
count-places : (class : Class) (a b : Column) (d c : Layout) → OpensLists class a b d c
    → (ks : List ℕ) → AreBelow (len c) ks
    → length (joined_items (map (array_item c) ks)) ≡ sum (map (span_length a b) ks)
count-places class a b d c o [] h = refl
count-places class a b d c o (k ∷ ks) h =
    let rest = joined_items (map (array_item c) ks) in
    omega (
      arith,
      length-append (list_items (array_item c k)) rest,
      ap (λ v. length (list_items v)) (o.items k h.0),
      length-run (array_item d) (place_at a k) (place_at b k - place_at a k),
      count-places class a b d c o ks h.1,
      sum-cons (span_length a b k) (map (span_length a b) ks),
    )

-- the items of the lists that are items of lists
count-inside : (class : Class) (a b s t : Column) (d c : Layout) → OpensLists class a b d c
    → AreSpans s t (len c)
    → length (joined_items (joined_items (list_values s t c)))
    ≡ total_inside (span_length a b) s t
count-inside class a b s t d c o h =
    ap (λ vs. length (joined_items vs)) (joined_items-is s t c)
    ∙ count-places class a b d c o (spans s t) (spans_below s t (len c) h)
    ∙ sym (inside-spans (span_length a b) s t)

-- where these are too many, a column below is too long
large_inside : (class : Class) (a b : Column) (d : Layout) (l : Listed)
    → OpensLists class a b d l.content → AreSpans l.starts l.stops (len l.content)
    → item_limit < total_inside (span_length a b) l.starts l.stops
    → (t : DataType) → (vs : List Value) → IsColumn t vs (Items l) → is_too_large t vs ≡ true
large_inside class a b d l o p m t vs h =
    let items = list_values l.starts l.stops l.content in
    let many : nat_lt item_limit (length (joined_items (joined_items items))) ≡ true =
    ap (nat_lt item_limit) (count-inside class a b l.starts l.stops d l.content o p)
    ∙ lt-ltb item_limit (total_inside (span_length a b) l.starts l.stops) m in
    large_below l.class t (array_type l.content) vs h.kind
    (large_of class (array_type l.content) (array_type d) (joined_items vs) o.typ
    (ap (λ ws. nat_lt item_limit (length (joined_items (joined_items ws)))) h.order ∙ many))

-- what is counted tells it
pub reach_inside : (class : Class) (a b : Column) (d : Layout) (l : Listed)
    → OpensLists class a b d l.content → AreSpans l.starts l.stops (len l.content)
    → (r : Bool) → AreTooMany (total_inside (span_length a b) l.starts l.stops) r
    → ReachTooMany l r
reach_inside class a b d l o p true m = large_inside class a b d l o p m
reach_inside class a b d l o p false m = tt
