-- Lists above an axis that lie over one another: what is told of them, and what they are where they
-- lie.
use Rattle.std.specs.Prelude.{◌≡◌, ℕ, ◌-◌, ◌<◌, ◌≤◌, nat_lt, refl, Bool, true, false}
use Rattle.std.specs.Prelude.{List, [], ◌∷◌, map, sum, length, Option, Some, None, if◌then◌else◌}
use Rattle.std.specs.List.{range_with_len, flat_map}
use Rattle.std.proofs.Common.{arith, ap, ap₂, sym, ◌∙◌}
use Rattle.std.proofs.lemmas.List.{length-append, length-map}
use Rattle.std.proofs.lemmas.List.Folds.{flat_map-map}
use Rattle.std.proofs.lemmas.Simd.{map-map}
use Rattle.awk_base.proofs.Sums.{sum-cons}
use Rattle.awk_base.proofs.Truths.{nat_lt-none}
use Rattle.awk_types.specs.DataType.{DataType, var}
use Rattle.awk_types.specs.Value.{Value, list, value_list, values_from}
use Rattle.awk_types.specs.Simple.{simple_value, in_list}
use Rattle.awk_types.specs.ItemLimit.{item_limit}
use Rattle.awk_types.proofs.Trees.{values_from-list, value_list-from}
use Rattle.awk_lanes.specs.Column.{Column}
use Rattle.awk_lanes.specs.Places.{size_of, at, place_at, AreSpans}
use Rattle.awk_layout.specs.Layout.{Layout}
use Rattle.awk_layout.specs.Layout.{lists as spanned}
use Rattle.awk_layout.specs.Valid.{len}
use Rattle.awk_layout.specs.Typing.{array_type, array_items}
use Rattle.awk_layout.proofs.Runs.{run-same, length-run}
use Rattle.awk_counts.specs.Counted.{AreBelow, spans}
use Rattle.awk_gather.specs.Arrays.{array_item}
use Rattle.awk_columns.specs.Columns.{lists_among, joined_items, list_items}
use Rattle.awk_columns.specs.Joined.{total}
use Rattle.awk_columns.specs.ListClass.{Class, list_type}
use Rattle.awk_columns.specs.Lists.{Listed, items_at, span_length}
use Rattle.awk_columns.specs.ListValues.{list_at}
use Rattle.awk_columns.proofs.ArrayLaws.{run_in_list}
use Rattle.awk_columns.proofs.JoinedLists.{joined_items-is, spans_below}
use Rattle.awk_columns.proofs.ListNodes.{simple_value-list}
use Rattle.awk_list_ends.specs.Inside.{total_inside}
use Rattle.awk_list_ends.proofs.InsideLaws.{inside-spans}
use Rattle.awk_list_ends.proofs.SpanLaws.{start_there}
use Rattle.awk_list_functions.specs.declared.causes.Spoil.TheVariants.{Size}
use Rattle.awk_list_functions.specs.declared.place.Reach.{Reach}
use Rattle.awk_list_functions.specs.Reach.{here, inner}
use Rattle.awk_list_functions.specs.Causes.{first_spoil}
use Rattle.awk_list_functions.specs.Counted.{CountsGiven, given_spoil}
use Rattle.awk_list_functions.specs.ListFunction.{Giving, lists, singles, ListFunction, NeverIndex}
use Rattle.awk_list_functions.specs.ListFunction.{given_type, given_value, gives_lists}
use Rattle.awk_list_functions.specs.Lift.{lifted_type, lifted_value}
use Rattle.awk_list_functions.specs.Made.{IsColumn, IsMapped}
use Rattle.awk_list_functions.specs.Spoils.{spoil_at, too_many}
use Rattle.awk_list_functions.proofs.CauseLaws.{first_spoil-none}
use Rattle.awk_list_functions.proofs.IndexLaws.{spoil_at-never, first_spoil-size}
use Rattle.awk_open.specs.Opens.{OpensLists}
use Rattle.awk_open.proofs.OpenedKinds.{item-lists}
use Rattle.awk_axis.specs.declared.lift.Mapped.{Mapped}
use Rattle.awk_axis.specs.declared.lift.Mapped.TheVariants as mapped
use Rattle.awk_axis.specs.Mapped.{IsAtAxis, IsLifted}
use Rattle.awk_axis.specs.Over.{IsOver, IsLaid, items_reached}
use Rattle.awk_axis.proofs.LiftLaws.{spoil-list, spoil-list_here, type-list, value-list}
use Rattle.awk_axis.proofs.LiftedLaws.{column_as, above_spoil, lists_here, over}

-- ---- lists at places

-- functions that agree below n give the same at places below n
map_below : {A : Type 0} (f g : ℕ → A) (n : ℕ) (ks : List ℕ) → AreBelow n ks
    → ((i : ℕ) → i < n → f i ≡ g i) → map f ks ≡ map g ks
map_below f g n [] b e = refl
map_below {A} f g n (k ∷ ks) b e = ap₂ (λ (x : A) xs. x ∷ xs) (e k b.0) (map_below f g n ks b.1 e)

among_lists : (h : ℕ → List Value) (ks : List ℕ)
    → lists_among (map (λ i. list (values_from (h i))) ks) ≡ map h ks
among_lists h [] = refl
among_lists h (k ∷ ks) = ap₂ (λ l ls. l ∷ ls) (value_list-from (h k)) (among_lists h ks)

count_joined : (h : ℕ → List Value) (ks : List ℕ)
    → length (joined_items (map (λ i. list (values_from (h i))) ks))
    ≡ sum (map (λ i. length (h i)) ks)
count_joined h [] = refl
count_joined h (k ∷ ks) =
    let vs = value_list (values_from (h k)) in
    let rest = joined_items (map (λ i. list (values_from (h i))) ks) in
    omega (
      arith,
      length-append vs rest,
      ap length (value_list-from (h k)),
      count_joined h ks,
      sum-cons (length (h k)) (map (λ i. length (h i)) ks),
    )

-- ---- what lists reach

-- the lists that are items of lists, each as often as it is reached
reached_lists : (s t : Column) (c : Layout) (class : Class) (a b : Column) (d : Layout)
    → AreSpans s t (len c) → OpensLists class a b d c
    → flat_map (items_at s t c) (range_with_len 0 (size_of s))
    ≡ map (λ i. list (values_from (items_at a b d i))) (spans s t)
reached_lists s t c class a b d p o =
    sym (flat_map-map list_items (list_at s t c) (range_with_len 0 (size_of s)))
    ∙ joined_items-is s t c
    ∙ map_below (array_item c) (λ i. list (values_from (items_at a b d i))) (len c) (spans s t)
    (spans_below s t (len c) p) (λ i q. o.items i q ∙ ap list (sym (values_from-list _)))

-- how many items they have
pub reached-inside : (s t : Column) (c : Layout) (class : Class) (a b : Column) (d : Layout)
    → AreSpans s t (len c) → OpensLists class a b d c
    → total_inside (span_length a b) s t ≡ items_reached s t c
reached-inside s t c class a b d p o =
    inside-spans (span_length a b) s t
    ∙ ap sum (map_below (span_length a b) (λ i. length (list_items (array_item c i))) (len c)
    (spans s t) (spans_below s t (len c) p)
    (λ i q. sym (ap (λ v. length (list_items v)) (o.items i q)
    ∙ length-run (array_item d) (place_at a i) (place_at b i - place_at a i))))

-- ---- lists that are above the axis, like those inside

pub over_many : (f : ListFunction) (k : Reach) (l : Listed) (class : Class) (a b : Column)
    (d : Layout) → NeverIndex f → here k (array_type l.content) ≡ false
    → here (inner k) (array_type d) ≡ false → OpensLists class a b d l.content
    → item_limit < total_inside (span_length a b) l.starts l.stops
    → IsOver f k l (Some (mapped.Spoiled Size))
over_many f k l class a b d n e e' o m = λ x ox.
    let s = l.starts in
    let t = l.stops in
    let c = l.content in
    let vs = flat_map (items_at s t c) (range_with_len 0 (size_of s)) in
    let many : item_limit < length (joined_items vs) =
    omega (
      arith,
      m,
      inside-spans (span_length a b) s t,
      ap (λ ws. length (joined_items ws)) (reached_lists s t c class a b d ox.lists.spans o),
      count_joined (items_at a b d) (spans s t),
      ap sum (lengths a b d (spans s t)),
    ) in
    above_spoil f k l.class s t c x e ox
    ∙ ap (first_spoil (too_many (total s t c))) (ap (λ u. spoil_at f (inner k) u vs) o.typ
    ∙ spoil-list f (inner k) class (array_type d) vs e'
    ∙ ap (λ r. first_spoil (if r then Some Size else None) (spoil_at f (inner (inner k))
    (array_type d) (joined_items vs))) (over item_limit (length (joined_items vs)) many)
    ∙ first_spoil-size _ (spoil_at-never f n (inner (inner k)) (array_type d) (joined_items vs)))
    ∙ size_after (nat_lt item_limit (total s t c))
  where
    size_after : (r : Bool) → first_spoil (if r then Some Size else None) (Some Size) ≡ Some Size
    size_after true = refl
    size_after false = refl

    lengths : (a b : Column) (d : Layout) (ks : List ℕ)
        → map (λ i. length (items_at a b d i)) ks ≡ map (span_length a b) ks
    lengths a b d [] = refl
    lengths a b d (i ∷ ks) = ap₂ (λ m ms. m ∷ ms)
        (length-run (array_item d) (place_at a i) (place_at b i - place_at a i))
        (lengths a b d ks)

-- ---- what is given for lists at places

module _ (class : Class → Class) (typ : DataType → DataType)
    (items : DataType → List Value → List Value) (c : Class) (t : DataType) (h : ℕ → List Value)
    (n : ℕ) (w : Layout)
    (m : IsColumn (list_type (class c) (typ t)) (λ i. list (values_from (items t (h i)))) n w) where
  given_length : (i : ℕ) → i < n → length (list_items (array_item w i)) ≡ length (items t (h i))
  given_length i p =
      let vs = value_list (values_from (items t (h i))) in
      ap (λ v. length (list_items v)) (m.items i p
      ∙ simple_value-list (class c) (typ t) (list (values_from (items t (h i)))))
      ∙ ap length (value_list-from (map (simple_value (typ t)) vs))
      ∙ length-map vs (simple_value (typ t))
      ∙ ap length (value_list-from (items t (h i)))

  given_count : (ks : List ℕ) → AreBelow n ks → sum (map (λ l. length (items t l)) (map h ks))
      ≡ sum (map (λ i. length (list_items (array_item w i))) ks)
  given_count ks b =
      ap sum (map-map (λ (l : List Value). length (items t l)) h ks
      ∙ map_below (λ i. length (items t (h i))) (λ i. length (list_items (array_item w i))) n ks b
      (λ i p. sym (given_length i p)))

given_few : (g : Giving) (c : Class) (t : DataType) (h : ℕ → List Value) (n : ℕ) (w : Layout)
    (ks : List ℕ) → IsColumn (given_type g c t) (λ i. given_value g t (h i)) n w → AreBelow n ks
    → (gives_lists g ≡ true
    → sum (map (λ i. length (list_items (array_item w i))) ks) ≤ item_limit)
    → given_spoil g t (map h ks) ≡ None
given_few (lists class typ items) c t h n w ks m b e =
    let few : sum (map (λ l. length (items t l)) (map h ks)) ≤ item_limit =
    omega (arith, e refl, given_count class typ items c t h n w m ks b) in
    ap (λ r. if r then Some Size else None) (nat_lt-none item_limit _ few)
given_few (singles typ value) c t h n w ks m b e = refl

given_many : (g : Giving) (c : Class) (t : DataType) (h : ℕ → List Value) (n : ℕ) (w : Layout)
    (ks : List ℕ) → IsColumn (given_type g c t) (λ i. given_value g t (h i)) n w → AreBelow n ks
    → gives_lists g ≡ true
    → item_limit < sum (map (λ i. length (list_items (array_item w i))) ks)
    → given_spoil g t (map h ks) ≡ Some Size
given_many (lists class typ items) c t h n w ks m b e p =
    let many : item_limit < sum (map (λ l. length (items t l)) (map h ks)) =
    omega (arith, p, given_count class typ items c t h n w m ks b) in
    ap (λ r. if r then Some Size else None) (over item_limit _ many)
given_many (singles typ value) c t h n w ks m b e p = cc

-- ---- lists above the axis over lists at the axis

-- each list over what is made of the items of the content
spans_column : (u : DataType) (g : Value → Value) (s t : Column) (c x y : Layout)
    → OpensLists None s t c x → IsMapped u g c y
    → IsMapped (var u) (in_list g) x (spanned s t y)
spans_column u g s t c x y opens m = record {
  valid = (opens.lists.fits, rw m.size opens.lists.spans, m.valid);
  size = opens.size;
  typ = ap var m.typ;
  items = λ i p.
      let q : i < size_of s = omega (arith, p, opens.size) in
      let a = place_at s i in
      let n = place_at t i - place_at s i in
      item-lists s t y i
      ∙ ap list (run-same (array_item y) (λ k. simple_value u (g (array_item c k))) a n
      (λ k l r. let some : 0 < n = omega (arith, l, r) in
      m.items k (omega (
        arith,
        r,
        (start_there (len c) (at s i) (at t i) (opens.lists.spans.ordered i q) some).1,
      ))))
      ∙ sym (simple_value-list None u (in_list g (array_item x i))
      ∙ ap (λ v. in_list (simple_value u) (in_list g v)) (opens.items i p)
      ∙ ap (in_list (simple_value u)) (run_in_list g (array_item c) a n)
      ∙ run_in_list (simple_value u) (λ k. g (array_item c k)) a n);
}

-- the lists are refused as the function refuses the lists that are reached
over_spoil : (f : ListFunction) (k : Reach) (l : Listed) (class : Class) (a b : Column)
    (d x : Layout) → CountsGiven f → here k (array_type l.content) ≡ false
    → here (inner k) (array_type d) ≡ true → total l.starts l.stops l.content ≤ item_limit
    → OpensLists class a b d l.content → OpensLists l.class l.starts l.stops l.content x
    → spoil_at f k (array_type x) (array_items x)
    ≡ given_spoil f.giving (array_type d) (map (items_at a b d) (spans l.starts l.stops))
over_spoil f k l class a b d x n e e' p o ox =
    let s = l.starts in
    let t = l.stops in
    let c = l.content in
    let vs = flat_map (items_at s t c) (range_with_len 0 (size_of s)) in
    above_spoil f k l.class s t c x e ox
    ∙ ap (λ r. first_spoil (if r then Some Size else None) (spoil_at f (inner k) (array_type c) vs))
    (nat_lt-none item_limit (total s t c) p)
    ∙ first_spoil-none _
    ∙ ap (λ u. spoil_at f (inner k) u vs) o.typ
    ∙ spoil-list_here f (inner k) class (array_type d) vs e'
    ∙ ap (f.spoil (array_type d))
    (ap lists_among (reached_lists s t c class a b d ox.lists.spans o)
    ∙ among_lists (items_at a b d) (spans s t))
    ∙ n (array_type d) (map (items_at a b d) (spans s t))

pub over_laid : (f : ListFunction) (k : Reach) (l : Listed) (class : Class) (a b : Column)
    (d w : Layout) (r : Option Mapped) → CountsGiven f → l.class ≡ None
    → here k (array_type l.content) ≡ false → here (inner k) (array_type d) ≡ true
    → total l.starts l.stops l.content ≤ item_limit → OpensLists class a b d l.content
    → IsAtAxis f class a b d (mapped.Column w) → IsLaid f.giving l.starts l.stops w r
    → IsOver f k l r
over_laid f k l class a b d w None n u e e' p o h laid = tt
over_laid f k l class a b d w (Some (mapped.Spoiled why)) n u e e' p o h laid = λ x ox.
    over_spoil f k l class a b d x n e e' p o ox
    ∙ given_many f.giving class (array_type d) (items_at a b d) (size_of a) w
    (spans l.starts l.stops) h.1
    (rw o.size (spans_below l.starts l.stops (len l.content) ox.lists.spans)) laid.1 laid.2
    ∙ ap Some (sym laid.0)
over_laid f k l class a b d w (Some (mapped.Column z)) n u e e' p o h laid = λ x ox.
    let s = l.starts in
    let t = l.stops in
    let c = l.content in
    let typ : array_type x ≡ var (array_type c) = ox.typ
    ∙ ap (λ j. list_type j (array_type c)) u in
    let g = f.giving in
    let inside : IsLifted f (inner k) c (mapped.Column w) =
    lists_here f (inner k) class a b d c (mapped.Column w) e' o h in
    let column : IsMapped (var (lifted_type g (inner k) (array_type c)))
    (in_list (lifted_value g (inner k) (array_type c))) x (spanned s t w) =
    spans_column (lifted_type g (inner k) (array_type c)) (lifted_value g (inner k) (array_type c))
    s t c x w (rw (← u) ox) inside.1 in (
      over_spoil f k l class a b d x n e e' p o ox
          ∙ given_few g class (array_type d) (items_at a b d) (size_of a) w (spans s t) h.1
          (rw o.size (spans_below s t (len c) ox.lists.spans)) laid.1,
      rw laid.0 (column_as _ _ _ _ _ _ (sym (ap (lifted_type g k) typ
          ∙ type-list g k None (array_type c) e))
          (λ i q. sym (ap (λ v. lifted_value g k v (array_item x i)) typ
          ∙ value-list g k None (array_type c) (array_item x i) e)) column),
    )
