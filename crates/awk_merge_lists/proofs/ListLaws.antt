-- Lists of any length merged: where they lie, and the column of them over the merged items.
use Rattle.std.specs.Prelude.{◌≡◌, ◌≢◌, ◌+◌, ◌-◌, ◌<◌, ◌≤◌, ◌^◌, ◌++◌, [], ℕ, ℤ, pos, negsuc, List}
use Rattle.std.specs.Prelude.{length, map, take, get_or, max, min, slice_get, None, Some, refl}
use Rattle.std.specs.List.{AllByRecursion}
use Rattle.std.proofs.Common.{arith, ap, sym, subst, ◌∙◌, inl, inr}
use Rattle.std.proofs.lemmas.Bool.{cases_lt}
use Rattle.std.proofs.lemmas.Int.{ints}
use Rattle.std.proofs.lemmas.List.{ext_get_or, length-append, get_or_append_left, get_or-append-add}
use Rattle.std.proofs.lemmas.List.FromFn.{length-map-range_with_len, get_or-map-range_with_len}
use Rattle.awk_types.specs.DataType.{DataType, var}
use Rattle.awk_types.specs.Has.{Has}
use Rattle.awk_types.specs.Simple.{simple_value}
use Rattle.awk_types.specs.Value.{Value, null, list}
use Rattle.awk_lanes.specs.Column.{Column}
use Rattle.awk_lanes.specs.Making.{Making}
use Rattle.awk_lanes.specs.Numbers.{element, nat_of}
use Rattle.awk_lanes.specs.Places.{size_of, at, place_at, IsSpan, AreSpans, IsIndexKind}
use Rattle.awk_lanes.specs.declared.kind.Kind.TheVariants.{I64}
use Rattle.awk_lanes.proofs.PlaceLaws.{span-wider}
use Rattle.awk_layout.specs.Item.{item, run}
use Rattle.awk_layout.specs.Layout.{Layout, lists}
use Rattle.awk_layout.specs.Typing.{layout_type, array_type, array_items}
use Rattle.awk_layout.specs.Valid.{len}
use Rattle.awk_layout.proofs.ArrayItems.{length-array_items, get_or-array_items}
use Rattle.awk_gather.specs.Arrays.{array_item}
use Rattle.awk_columns.specs.ListClass.{Class, list_type}
use Rattle.awk_columns.proofs.ArrayLaws.{run_in_list}
use Rattle.awk_columns.proofs.RowLaws.{span_rises}
use Rattle.awk_unify.specs.Carry.{Carry, carried}
use Rattle.awk_layout.proofs.Runs.{run-moved}
use Rattle.awk_merge_lists.specs.ListLevels.{cut, IsListLevel, AreListSides}
use Rattle.awk_merge_sides.specs.Lifts.{items_carry}
use Rattle.awk_merge_lists.specs.Lists.{moved_place, moved_places, HasRoom, HoldsLists, PutsLists}
use Rattle.awk_merge_sides.specs.Sides.{Side, sides_of, side_items, merged_items, AreSides, IsSide}
use Rattle.awk_merge_sides.specs.Sides.{with_side, IsCounted, IsMerged}
use Rattle.awk_merge_lists.specs.declared.lists.ListLevel.{ListLevel}
use Rattle.awk_merge_lists.specs.declared.lists.ListMaker.{ListMaker}
use Rattle.awk_merge_sides.specs.declared.sides.Sides.{Sides}
use Rattle.awk_merge_lists.proofs.CarriedLists.{carried-run, over_carried}
use Rattle.awk_merge_sides.proofs.SideLaws.{length-side_items, get_or-side_items, get_or-carried}
use Rattle.awk_merge_sides.proofs.SideLaws.{length-carried, item_has, merged_items-with_side}
use Rattle.awk_merge_sides.proofs.SideLaws.{AreSides-with_side, IsSide-get, merged_items-next}
use Rattle.awk_merge_sides.proofs.SideLaws.{merged_items-all, total-within, total-with_side}

-- ---- spans

-- what holds of each number below another and of each other number
pub below_or : {P : Type 0} (i m : ℕ) → (i < m → P) → (m ≤ i → P) → P
below_or {P} i m f g = elim (cases_lt i m) as (λ _. P) [ inl p ↦ f p | inr p ↦ g p ]

-- a list that holds an item ends within
span_top : (n : ℕ) (a b : ℤ) → IsSpan n a b → nat_of b ≤ max n (nat_of a)
span_top n (pos k) (pos l) h = below_or k l (λ p.
    let d : pos k ≢ pos l = λ e. let f : k ≡ l = ap nat_of e in omega (arith, f, p) in
    let q : l ≤ n = omega (arith, ints, (h d).2) in
    omega (arith, q)) (λ p. omega (arith, p))
span_top n (pos k) (negsuc l) h = omega arith
span_top n (negsuc k) (pos l) h =
    let d : negsuc k ≢ pos l = λ e. cc in
    absurd (omega (arith, ints, (h d).0))
span_top n (negsuc k) (negsuc l) h = omega arith

-- ---- lists behind others

abbrev start_of : List ℤ → ℕ → ℤ
start_of a i = get_or a i (pos 0)

-- the values from one number on below another
abbrev cut_from : List Value → ℤ → ℤ → Value
cut_from ws a b = cut ws (nat_of a) (nat_of b - nat_of a)

-- values that are lists, where each lies among its items
pub record AreCut (vs : List Value) (a b : List ℤ) (ws : List Value) : Type 0 where
  pub starts : length a ≡ length vs
  pub stops : length b ≡ length vs
  pub spans : (i : ℕ) → i < length vs → IsSpan (length ws) (start_of a i) (start_of b i)
  pub items : (i : ℕ) → i < length vs → get_or vs i null
      ≡ cut_from ws (start_of a i) (start_of b i)

-- lists stay what they are where further items follow
cut_before : (ws more : List Value) (a b : ℤ) → IsSpan (length ws) a b
    → cut_from ws a b ≡ cut_from (ws ++ more) a b
cut_before ws more a b h =
    let top = span_top (length ws) a b h in
    ap list (run-moved (λ i. get_or ws i null) (λ i. get_or (ws ++ more) i null) (nat_of a)
    (nat_of a) (nat_of b - nat_of a) (λ j p.
    sym (get_or_append_left ws more null (nat_of a + j) (omega (arith, top, p)))))

-- how long a list is that is moved
moved_length : (base n p q : ℕ) → p ≤ q → q ≤ max n p → q - p ≡ base + min q n - (base + min p n)
moved_length base n p q r t = omega (arith, r, t)

-- and lists over further items are the same over all
cut_behind : (ws more : List Value) (n p q : ℕ) → p ≤ q → q ≤ max n p → cut more p (q - p)
    ≡ cut (ws ++ more) (length ws + min p n) (length ws + min q n - (length ws + min p n))
cut_behind ws more n p q r t =
    let f : ℕ → Value = λ i. get_or more i null in
    let g : ℕ → Value = λ i. get_or (ws ++ more) i null in
    ap list (run-moved f g p (length ws + min p n) (q - p) (λ j l.
    let e : length ws + (p + j) ≡ length ws + min p n + j = omega (arith, r, t, l) in
    sym (get_or-append-add ws more (p + j) null) ∙ ap g e)
    ∙ ap (run g (length ws + min p n)) (moved_length (length ws) n p q r t))

span_moved : (base n p q m : ℕ) → p ≤ q → base + n ≤ m
    → IsSpan m (pos (base + min p n)) (pos (base + min q n))
span_moved base n p q m r l =
    λ _. (omega (arith, ints), omega (arith, ints, r), omega (arith, ints, l))

length-moved : (base n : ℕ) (c : Column) → length (moved_places base n c) ≡ size_of c
length-moved base n c = length-map-range_with_len (moved_place base n c) 0 (size_of c)

-- a number of further lists
start-behind : (a : List ℤ) (base n : ℕ) (c : Column) (m i : ℕ) → length a ≡ m → m ≤ i
    → i < m + size_of c
    → start_of (a ++ moved_places base n c) i ≡ pos (base + min (place_at c (i - m)) n)
start-behind a base n c m i e l p =
    let j : i ≡ length a + (i - m) = omega (arith, e, l) in
    ap (start_of (a ++ moved_places base n c)) j
    ∙ get_or-append-add a (moved_places base n c) (i - m) (pos 0)
    ∙ get_or-map-range_with_len (moved_place base n c) 0 (size_of c) (i - m) (i - m) (pos 0)
    (omega (arith, l, p)) (omega arith)

start-before : (a more : List ℤ) (m i : ℕ) → length a ≡ m → i < m
    → start_of (a ++ more) i ≡ start_of a i
start-before a more m i e p = get_or_append_left a more (pos 0) i (omega (arith, e, p))

module _ (vs us : List Value) (a b : List ℤ) (ws more : List Value) (s t : Column)
    (h : AreCut vs a b ws) (size : size_of s ≡ length us) (spans : AreSpans s t (length more))
    (items : (i : ℕ) → i < length us → get_or us i null
    ≡ cut more (place_at s i) (place_at t i - place_at s i)) where
  abbrev n : ℕ
  n = length more

  abbrev m : ℕ
  m = length vs

  abbrev base : ℕ
  base = length ws

  whole : length (ws ++ more) ≡ base + n
  whole = length-append ws more

  all : length (vs ++ us) ≡ m + length us
  all = length-append vs us

  rises : (j : ℕ) → j < size_of s → place_at s j ≤ place_at t j
  rises j p = span_rises n (at s j) (at t j) (spans.ordered j p)

  top : (j : ℕ) → j < size_of s → place_at t j ≤ max n (place_at s j)
  top j p = span_top n (at s j) (at t j) (spans.ordered j p)

  starts-early : (i : ℕ) → i < m
      → start_of (a ++ moved_places base n s) i ≡ start_of a i
  starts-early i q = start-before a (moved_places base n s) m i h.starts q

  stops-early : (i : ℕ) → i < m → start_of (b ++ moved_places base n t) i ≡ start_of b i
  stops-early i q = start-before b (moved_places base n t) m i h.stops q

  starts-late : (i : ℕ) → m ≤ i → i < length (vs ++ us)
      → start_of (a ++ moved_places base n s) i ≡ pos (base + min (place_at s (i - m)) n)
  starts-late i q p =
      start-behind a base n s m i h.starts q (omega (arith, p, all, size))

  stops-late : (i : ℕ) → m ≤ i → i < length (vs ++ us)
      → start_of (b ++ moved_places base n t) i ≡ pos (base + min (place_at t (i - m)) n)
  stops-late i q p =
      start-behind b base n t m i h.stops q (omega (arith, p, all, size, spans.same_size))

  span_at_place : (i : ℕ) → i < length (vs ++ us)
      → IsSpan (length (ws ++ more)) (start_of (a ++ moved_places base n s) i)
      (start_of (b ++ moved_places base n t) i)
  span_at_place i p = below_or i m
      (λ q. rw (starts-early i q, stops-early i q)
      (span-wider base (length (ws ++ more)) (start_of a i) (start_of b i) (omega (arith, whole))
      (h.spans i q)))
      (λ q. rw (starts-late i q p, stops-late i q p)
      (span_moved base n (place_at s (i - m)) (place_at t (i - m)) (length (ws ++ more))
      (rises (i - m) (omega (arith, q, p, all, size))) (omega (arith, whole))))

  item_at_place : (i : ℕ) → i < length (vs ++ us) → get_or (vs ++ us) i null
      ≡ cut_from (ws ++ more) (start_of (a ++ moved_places base n s) i)
      (start_of (b ++ moved_places base n t) i)
  item_at_place i p = below_or i m
      (λ q. rw (starts-early i q, stops-early i q)
      (get_or_append_left vs us null i q ∙ h.items i q
      ∙ cut_before ws more (start_of a i) (start_of b i) (h.spans i q)))
      (λ q.
      let l : i - m < size_of s = omega (arith, q, p, all, size) in
      let j : i ≡ m + (i - m) = omega (arith, q) in
      rw (starts-late i q p, stops-late i q p)
      (ap (λ k. get_or (vs ++ us) k null) j ∙ get_or-append-add vs us (i - m) null
      ∙ items (i - m) (omega (arith, l, size))
      ∙ cut_behind ws more n (place_at s (i - m)) (place_at t (i - m)) (rises (i - m) l)
      (top (i - m) l)))

  -- the lists of one column more
  pub cut_more : AreCut (vs ++ us) (a ++ moved_places base n s) (b ++ moved_places base n t)
      (ws ++ more)
  cut_more = record {
    starts = length-append a (moved_places base n s)
        ∙ omega (arith, h.starts, length-moved base n s, size, all);
    stops = length-append b (moved_places base n t)
        ∙ omega (arith, h.stops, length-moved base n t, size, all, spans.same_size);
    spans = span_at_place;
    items = item_at_place;
  }

-- the same, of lists that are known by equations
pub cut_put : (vs us vs0 : List Value) (a b a0 b0 : List ℤ) (ws more ws0 : List Value)
    (s t : Column) (n : ℕ) → length more ≡ n → AreCut vs a b ws → size_of s ≡ length us
    → AreSpans s t n → ((i : ℕ) → i < length us → get_or us i null
    ≡ cut more (place_at s i) (place_at t i - place_at s i))
    → vs0 ≡ vs ++ us → a0 ≡ a ++ moved_places (length ws) n s
    → b0 ≡ b ++ moved_places (length ws) n t → ws0 ≡ ws ++ more → AreCut vs0 a0 b0 ws0
cut_put vs us vs0 a b a0 b0 ws more ws0 s t n e h size spans items v x y w =
    let there : AreSpans s t (length more) = rw e spans in
    let all : AreCut (vs ++ us) (a ++ moved_places (length ws) n s)
    (b ++ moved_places (length ws) n t) (ws ++ more) =
    rw (sym e) (cut_more vs us a b ws more s t h size there items) in
    rw (v, x, y, w) all

-- ---- columns of lists

-- where the carried lists of a column lie
pub side_cut : (d : Class) (u : DataType) (x : Side) (s t : Column) (y : Layout)
    → IsSide (list_type d u) x → AllByRecursion (Has (array_type x.column)) (array_items x.column)
    → HoldsLists x.column s t y → (i : ℕ) → i < len x.column → get_or (side_items x) i null
    ≡ cut (map (carried (items_carry x.carry)) (array_items y)) (place_at s i)
    (place_at t i - place_at s i)
side_cut d u x s t y h all l i p =
    let g = items_carry x.carry in
    let a = place_at s i in
    let n = place_at t i - place_at s i in
    let e : array_item x.column i ≡ list (run (array_item y) a n) = l.items i p in
    let has : Has (list_type d u) (carried x.carry (list (run (array_item y) a n))) =
    subst (λ v. Has (list_type d u) (carried x.carry v)) e
    (h.values (array_item x.column i) (item_has x.column i all p)) in
    let top : place_at t i ≤ max (len y) a =
    span_top (len y) (at s i) (at t i) (l.spans.ordered i (omega (arith, p, l.size))) in
    get_or-side_items x i p ∙ ap (carried x.carry) e ∙ carried-run x.carry d u (array_item y) a n
    has
    ∙ ap list (run-moved (λ k. carried g (array_item y k))
    (λ k. get_or (map (carried g) (array_items y)) k null) a a n (λ j r.
    sym (get_or-carried y g (a + j) (omega (arith, top, r)))))

-- ---- while the level is made

-- the lists of the first i columns
pub record IsListing (ss : List Side) (i : ℕ) (m : ListMaker) : Type 0 where
  pub starts_kind : m.starts.kind ≡ I64
  pub stops_kind : m.stops.kind ≡ I64
  pub starts_room : m.starts.room ≡ length (merged_items ss)
  pub stops_room : m.stops.room ≡ length (merged_items ss)
  pub counted : IsCounted m.sides
  pub sides : (u : DataType) → AreSides (var u) ss → AreSides u (sides_of m.sides)
  pub lists : (u : DataType) → AreSides (var u) ss → AreCut (merged_items (take i ss))
      m.starts.items m.stops.items (merged_items (sides_of m.sides))

-- the items of one column more are no more than a column may have
pub put_fits : (before now : Sides) (y : Layout) (f : Carry)
    → sides_of now ≡ with_side (sides_of before) y f → IsCounted before → IsCounted now
    → before.total + len y < 2 ^ 63
put_fits before now y f e b k =
    let w = total-with_side (sides_of before) y f in
    let l : length (merged_items (sides_of now)) ≡ length
    (merged_items (with_side (sides_of before) y f)) =
    ap (λ ss. length (merged_items ss)) e in
    omega (arith, w, l, b.total, k.total, k.fits)

empty_cut : AreCut [] [] [] []
empty_cut = record {
  starts = refl;
  stops = refl;
  spans = λ i p. absurd (omega (arith, p));
  items = λ i p. absurd (omega (arith, p));
}

-- before the first
pub listing_none : (ss : List Side) (n k : ℕ) (m : ListMaker) → n ≡ length (merged_items ss)
    → k ≡ length (merged_items ss) → m.starts ≡ record { kind = I64; room = n; items = [] }
    → m.stops ≡ record { kind = I64; room = k; items = [] } → sides_of m.sides ≡ []
    → IsCounted m.sides → IsListing ss 0 m
listing_none ss n k m e f a b s c = record {
  starts_kind = ap (λ (x : Making). x.kind) a;
  stops_kind = ap (λ (x : Making). x.kind) b;
  starts_room = ap (λ (x : Making). x.room) a ∙ e;
  stops_room = ap (λ (x : Making). x.room) b ∙ f;
  counted = c;
  sides = λ u h. rw s tt;
  lists = λ u h. rw (ap (λ (x : Making). x.items) a, ap (λ (x : Making). x.items) b, s) empty_cut;
}

-- there is room for the next
pub listing_room : (ss : List Side) (i : ℕ) (x : Side) (m : ListMaker) → slice_get ss i ≡ Some x
    → AreListSides ss → IsListing ss i m
    → HasRoom (len x.column) m.starts × HasRoom (len x.column) m.stops
listing_room ss i x m e p h =
    let l = h.lists p.0 p.1 in
    let w = total-within ss i x e in (
      record { kind = h.starts_kind; room = omega (arith, l.starts, w, h.starts_room) },
      record { kind = h.stops_kind; room = omega (arith, l.stops, w, h.stops_room) },
    )

-- one column more
pub listing_next : (ss : List Side) (i : ℕ) (x : Side) (before now : ListMaker)
    → slice_get ss i ≡ Some x
    → AllByRecursion (Has (array_type x.column)) (array_items x.column)
    → PutsLists x.column x.carry before now → IsListing ss i before → IsListing ss (i + 1) now
listing_next ss i x before now e all p h = record {
  starts_kind = ap (λ (m : Making). m.kind) p.starts ∙ h.starts_kind;
  stops_kind = ap (λ (m : Making). m.kind) p.stops ∙ h.stops_kind;
  starts_room = ap (λ (m : Making). m.room) p.starts ∙ h.starts_room;
  stops_room = ap (λ (m : Making). m.room) p.stops ∙ h.stops_room;
  counted = p.counted;
  sides = λ u k.
      let side : IsSide (var u) x = IsSide-get (var u) ss i x e k in
      rw p.sides (AreSides-with_side u (sides_of before.sides) p.content (items_carry x.carry)
      (h.sides u k) (over_carried None u x p.content side p.lists.over));
  lists = λ u k.
      let side : IsSide (var u) x = IsSide-get (var u) ss i x e k in
      let g = items_carry x.carry in
      let long = length-side_items x in
      cut_put (merged_items (take i ss)) (side_items x) (merged_items (take (i + 1) ss))
      before.starts.items before.stops.items now.starts.items now.stops.items
      (merged_items (sides_of before.sides)) (map (carried g) (array_items p.content))
      (merged_items (sides_of now.sides)) p.from p.to (len p.content) (length-carried p.content g)
      (h.lists u k) (p.lists.size ∙ sym long) p.lists.spans
      (λ j q. side_cut None u x p.from p.to p.content side all p.lists j (omega (arith, q, long)))
      (merged_items-next ss i x e) (ap (λ (m : Making). m.items) p.starts)
      (ap (λ (m : Making). m.items) p.stops)
      (ap merged_items p.sides
      ∙ merged_items-with_side (sides_of before.sides) p.content g);
}

at-made : (c : Column) (zs : List ℤ) (i : ℕ) → c.kind ≡ I64 → c.items ≡ zs
    → at c i ≡ start_of zs i
at-made c zs i k e =
    ap (λ q. element q (get_or c.items i (pos 0))) k ∙ ap (λ a. start_of a i) e

-- all columns
pub level_listed : (ss : List Side) (i : ℕ) (m : ListMaker) (r : ListLevel) → length ss ≤ i
    → length (merged_items ss) < 2 ^ 63 → r.starts.kind ≡ m.starts.kind
    → r.starts.items ≡ m.starts.items → r.stops.kind ≡ m.stops.kind
    → r.stops.items ≡ m.stops.items → r.sides ≡ m.sides → IsListing ss i m → (u : DataType)
    → AreSides (var u) ss → IsListLevel u ss r
level_listed ss i m r n fits sk si tk ti e h u k =
    let ws = merged_items (sides_of m.sides) in
    let all : merged_items (take i ss) ≡ merged_items ss =
    merged_items-all ss i n in
    let l : AreCut (merged_items ss) m.starts.items m.stops.items ws =
    subst (λ vs. AreCut vs m.starts.items m.stops.items ws) all (h.lists u k) in
    let a : (j : ℕ) → at r.starts j ≡ start_of m.starts.items j =
    λ j. at-made r.starts m.starts.items j (sk ∙ h.starts_kind) si in
    let b : (j : ℕ) → at r.stops j ≡ start_of m.stops.items j =
    λ j. at-made r.stops m.stops.items j (tk ∙ h.stops_kind) ti in
    let size : size_of r.starts ≡ length (merged_items ss) = ap length si ∙ l.starts in
    let more : size_of r.stops ≡ length (merged_items ss) = ap length ti ∙ l.stops in
    let kind : IsIndexKind r.starts.kind = rw (sk, h.starts_kind) tt in
    let other : IsIndexKind r.stops.kind = rw (tk, h.stops_kind) tt in
    record {
      sides = rw e (h.sides u k);
      counted = rw e h.counted;
      fits = omega (arith, size, fits);
      spans = record {
        start_kind = kind;
        stop_kind = other;
        same_size = size ∙ sym more;
        ordered = λ j p. rw (e, a j, b j) (l.spans j (omega (arith, p, size)));
      };
      size = sym size;
      items = λ j p. rw (e, a j, b j) (l.items j (omega (arith, p, size)));
    }

-- ---- the node

module _ (u : DataType) (ss : List Side) (r : ListLevel) (y : Layout) (h : IsListLevel u ss r)
    (m : IsMerged u (sides_of r.sides) y) where
  whole-merged : length (merged_items (sides_of r.sides)) ≡ len y
  whole-merged = sym (ap length m.items) ∙ length-array_items y

  -- the lists lie within the merged items
  pub list_spans : AreSpans r.starts r.stops (len y)
  list_spans = subst (λ n. AreSpans r.starts r.stops n) whole-merged h.spans

  list-at : (i : ℕ) → i < size_of r.starts
      → array_item (lists r.starts r.stops y) i ≡ get_or (merged_items ss) i null
  list-at i p =
      let a = place_at r.starts i in
      let n = place_at r.stops i - place_at r.starts i in
      let top : place_at r.stops i ≤ max (len y) a =
      span_top (len y) (at r.starts i) (at r.stops i) (list_spans.ordered i p) in
      run_in_list (simple_value (layout_type y)) (item y) a n
      ∙ ap list (run-moved (array_item y) (λ k. get_or (array_items y) k null) a a n
      (λ j q. sym (get_or-array_items y (a + j) (omega (arith, top, q)))))
      ∙ ap (λ vs. cut vs a n) m.items ∙ sym (h.items i p)

  -- a column of lists over the merged items
  pub list_merged : IsMerged (var u) ss (lists r.starts r.stops y)
  list_merged = record {
    typ = ap var m.typ;
    items =
        let long = length-array_items (lists r.starts r.stops y) in
        ext_get_or null (array_items (lists r.starts r.stops y)) (merged_items ss)
        (long ∙ sym h.size)
        (λ i p. get_or-array_items (lists r.starts r.stops y) i (omega (arith, p, long))
        ∙ list-at i (omega (arith, p, long)));
  }
