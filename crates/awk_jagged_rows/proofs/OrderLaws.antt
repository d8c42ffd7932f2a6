-- Lists in pairs whose rows lie in order.
use Rattle.std.specs.Prelude.{◌≡◌, ℕ, zero, suc, ◌+◌, ◌-◌, ◌<◌, ◌≤◌, ◌^◌, refl, nat_lt, Bool, true}
use Rattle.std.specs.Prelude.{false, Some, None, length}
use Rattle.std.proofs.Common.{arith, ap, ap₂, sym, ◌∙◌, subst}
use Rattle.awk_types.specs.ItemLimit.{item_limit}
use Rattle.awk_types.specs.Value.{value_list}
use Rattle.awk_lanes.proofs.CountedLanes.{before-next, before_mono, before-same}
use Rattle.awk_lanes.specs.Column.{Column}
use Rattle.awk_lanes.specs.Counted.{before, offsets_by}
use Rattle.awk_lanes.specs.Cut.{cut_of}
use Rattle.awk_lanes.specs.Numbers.{nat_of}
use Rattle.awk_lanes.specs.Places.{size_of, at, place_at, option_place, option_place_at, AreSpans}
use Rattle.awk_lanes.specs.declared.counted.Offsets.{Offsets}
use Rattle.awk_lanes.proofs.CutLaws.{size-cut, at-cut}
use Rattle.awk_layout.specs.Item.{run}
use Rattle.awk_layout.specs.Layout.{Layout}
use Rattle.awk_layout.specs.Valid.{len, IsValid}
use Rattle.awk_gather.specs.Arrays.{array_item}
use Rattle.awk_columns.specs.Lists.{Listed, AreLists, length_of}
use Rattle.awk_jagged_rows.specs.InOrder.{IsFirst, AreFirsts, AreRowsFrom, AreRowsInOrder}
use Rattle.awk_jagged_rows.specs.Levels.{AreRows, AreRowsBy, row_count, rows_before, pair_lane}
use Rattle.awk_jagged_rows.specs.RowLists.{list_place, AreRowsOf}
use Rattle.awk_jagged_rows.specs.Rows.{place_by, AreAlike, AreListsIn, items_or_none, pair_number}
use Rattle.awk_jagged_rows.specs.declared.in_order.Firsts.{Firsts}
use Rattle.awk_jagged_rows.specs.declared.levels.Rows.{Rows}
use Rattle.awk_jagged_rows.specs.declared.row_lists.RowLists.{RowLists}
use Rattle.awk_jagged_rows.proofs.FlatPlaces.{IsIn, find}
use Rattle.awk_jagged_rows.proofs.LevelLaws.{pair-size, pair-place, rows-made}

-- ---- lists that lie in order

-- the first i lists lie in order
pub record AreInOrder (l : Listed) (i first count : ℕ) : Type 0 where
  pub counted : count ≡ before (length_of l) i
  pub within : first + count ≤ len l.content
  pub order : (k : ℕ) → k < i → 0 < length_of l k
      → place_at l.starts k ≡ first + before (length_of l) k

pub order-begun : (l : Listed) → AreInOrder l 0 0 0
order-begun l = record {
  counted = refl;
  within = omega arith;
  order = λ k p z. absurd (omega (arith, p));
}

-- nothing lies before a place where nothing is counted
none_before : (m : ℕ → ℕ) (i k : ℕ) → before m i ≡ 0 → k < i → m k ≡ 0
none_before m i k e p =
    omega (arith, e, before-next m k, before_mono m (k + 1) i (omega (arith, p)))

order_more : (l : Listed) (i : ℕ) (P : ℕ → ℕ → Type 0)
    → ((k : ℕ) → k < i → 0 < length_of l k → P k (before (length_of l) k))
    → (0 < length_of l i → P i (before (length_of l) i))
    → (k : ℕ) → k < i + 1 → 0 < length_of l k → P k (before (length_of l) k)
order_more l i P h e k q z = go (nat_lt k i) refl
  where
    go : (b : Bool) → nat_lt k i ≡ b → P k (before (length_of l) k)
    go true f = h k (grind (arith, f)) z
    go false f =
        let s : i ≡ k = grind (arith, f, q) in
        subst (λ j. 0 < length_of l j → P j (before (length_of l) j)) s e z

pub order-none : (l : Listed) (i first count : ℕ) → AreInOrder l i first count
    → length_of l i ≡ 0 → AreInOrder l (i + 1) first count
order-none l i first count h e = record {
  counted = omega (arith, h.counted, before-next (length_of l) i, e);
  within = h.within;
  order = order_more l i (λ k b. place_at l.starts k ≡ first + b) h.order
      (λ z. absurd (omega (arith, z, e)));
}

pub order-some : (l : Listed) (i first count begin start length : ℕ)
    → AreInOrder l i first count → (count ≡ 0 → begin ≡ start) → (0 < count → begin ≡ first)
    → start ≡ place_at l.starts i → length ≡ length_of l i → start ≡ begin + count
    → start + length ≤ len l.content → AreInOrder l (i + 1) begin (count + length)
order-some l i first count begin start length h none some s n e w = record {
  counted = omega (arith, h.counted, before-next (length_of l) i, n);
  within = omega (arith, e, w);
  order = order_more l i (λ k b. place_at l.starts k ≡ begin + b) (earlier count refl)
      (λ z. omega (arith, s, e, h.counted));
}
  where
    earlier : (c : ℕ) → c ≡ count → (k : ℕ) → k < i → 0 < length_of l k
        → place_at l.starts k ≡ begin + before (length_of l) k
    earlier zero f k p z =
        let b : before (length_of l) i ≡ 0 = omega (arith, f, h.counted) in
        absurd (omega (arith, z, none_before (length_of l) i k b p))
    earlier (suc c) f k p z =
        omega (arith, h.order k p z, some (omega (arith, f)))

pub some-length : (n : ℕ) → (n ≡ 0 → ⊥) → 0 < n
some-length zero h = absurd (h refl)
some-length (suc n) h = omega arith

-- where nothing is counted the list's start fits, and else what is counted does
pub begin-fits : (count begin first start n : ℕ) → (count ≡ 0 → begin ≡ start)
    → (0 < count → begin ≡ first) → start < 2 ^ 63 → first + count ≤ n → n < 2 ^ 63
    → begin + count < 2 ^ 64
begin-fits zero begin first start n none some s h f = omega (arith, none refl, s)
begin-fits (suc c) begin first start n none some s h f =
    omega (arith, some (omega arith), h, f)

pub order-whole : (l : Listed) (i first count : ℕ) → i ≡ size_of l.starts
    → AreInOrder l i first count → IsFirst l first
order-whole l i first count e h = record {
  within = omega (arith, h.within, h.counted, ap (before (length_of l)) e);
  order = λ k p z. h.order k (omega (arith, p, e)) z;
}

-- ---- rows from a place on

module _ (r : RowLists) (first count : ℕ)
    (spans : AreSpans r.starts r.stops (len r.content)) (valid : IsValid r.content)
    (within : first + count ≤ size_of r.starts) (small : size_of r.starts < 2 ^ 63) where
  size_from : (c : Column) → size_of c ≡ size_of r.starts
      → size_of (cut_of c first (first + count)) ≡ count
  size_from c e =
      omega (arith, size-cut c first (first + count) (omega arith) (omega (arith, within, e)))

  at_from : (c : Column) (k : ℕ) → k < count
      → at (cut_of c first (first + count)) k ≡ at c (first + k)
  at_from c k p = at-cut c first (first + count) k (omega (arith, p))

  pub from-lists : AreLists None (cut_of r.starts first (first + count))
      (cut_of r.stops first (first + count)) r.content
  from-lists = record {
    spans = record {
      start_kind = spans.start_kind;
      stop_kind = spans.stop_kind;
      same_size = size_from r.starts refl ∙ sym (size_from r.stops (sym spans.same_size));
      ordered = λ k p.
          let p' : k < count = omega (arith, p, size_from r.starts refl) in
          rw (at_from r.starts k p', at_from r.stops k p')
          (spans.ordered (first + k) (omega (arith, p', within)));
    };
    fits = omega (arith, size_from r.starts refl, within, small);
    valid = valid;
    same_class = tt;
  }

  pub rows-from : (l : Listed) → l ≡ record {
    class = None;
    starts = cut_of r.starts first (first + count);
    stops = cut_of r.stops first (first + count);
    content = r.content;
  } → AreRowsFrom r first count l
  rows-from l e = rw e (record {
    size = size_from r.starts refl;
    content = refl;
    lists = λ k p.
        ap₂ (λ a b. value_list (run (array_item r.content) a (b - a)))
        (ap nat_of (at_from r.starts k p)) (ap nat_of (at_from r.stops k p));
  })

-- ---- the rows of lists in pairs

-- the rows of an array that are not optional are as many as its items, or more
pub whole-rows : (x : Layout) (r : RowLists) → AreRowsOf x r → r.index ≡ None
    → len x ≤ size_of r.starts
whole-rows x r h e = go (len x) refl
  where
    go : (n : ℕ) → len x ≡ n → n ≤ size_of r.starts
    go zero f = omega arith
    go (suc n) f = h.places n n (omega (arith, f)) (ap (λ j. list_place j n) e)

-- where an item of lists that lie in order is
first_place : (l : Listed) (first i k : ℕ) → IsFirst l first → i < size_of l.starts
    → k < length_of l i → place_by l i k ≡ first + (rows_before l i + k)
first_place l first i k h p q = omega (arith, h.order i p (omega (arith, q)))

module _ (xs ws : Listed) (x w : RowLists) (pairs : size_of xs.starts ≡ size_of ws.starts)
    (alike : AreAlike xs ws) (hx : AreRowsOf xs.content x) (hw : AreRowsOf ws.content w)
    (f : Firsts) (h : AreFirsts xs ws x w f) where
  same_before : (i : ℕ) → i ≤ size_of ws.starts → rows_before xs i ≡ rows_before ws i
  same_before i p =
      before-same (length_of xs) (length_of ws) i (λ k q. alike k (omega (arith, p, q)))

  pub first-within : (total : ℕ) → total ≡ row_count ws → f.x + total ≤ size_of x.starts
  first-within total e =
      omega (
        arith,
        e,
        h.first.within,
        ap (rows_before xs) pairs,
        same_before (size_of ws.starts) (omega arith),
        whole-rows xs.content x hx h.x_whole,
      )

  pub second-within : (total : ℕ) → total ≡ row_count ws → f.w + total ≤ size_of w.starts
  second-within total e =
      omega (arith, e, h.second.within, whole-rows ws.content w hw h.w_whole)

  -- the list that is named is where it lies
  first_named : (i k : ℕ) → i < size_of ws.starts → k < length_of ws i
      → option_place_at (pair_lane false xs ws x w) (rows_before ws i + k)
      ≡ Some (f.x + (rows_before ws i + k))
  first_named i k p q =
      pair-place false xs ws x w i k p q
      ∙ ap₂ (λ j o. option_place (pair_number false (list_place j (place_by xs i k))
      (list_place o (place_by ws i k)))) h.x_whole h.w_whole
      ∙ ap (λ j. Some j)
      (first_place xs f.x i k h.first (omega (arith, p, pairs)) (omega (arith, q, alike i p))
      ∙ ap (λ b. f.x + (b + k)) (same_before i (omega (arith, p))))

  second_named : (i k : ℕ) → i < size_of ws.starts → k < length_of ws i
      → option_place_at (pair_lane true xs ws x w) (rows_before ws i + k)
      ≡ Some (f.w + (rows_before ws i + k))
  second_named i k p q =
      pair-place true xs ws x w i k p q
      ∙ ap₂ (λ j o. option_place (pair_number true (list_place j (place_by xs i k))
      (list_place o (place_by ws i k)))) h.x_whole h.w_whole
      ∙ ap (λ j. Some j) (first_place ws f.w i k h.second p q)

  lists_named : (second : Bool) (y : RowLists) (first total : ℕ) (l : Listed)
      → total ≡ row_count ws
      → ((i k : ℕ) → i < size_of ws.starts → k < length_of ws i
      → option_place_at (pair_lane second xs ws x w) (rows_before ws i + k)
      ≡ Some (first + (rows_before ws i + k)))
      → AreRowsFrom y first total l → AreListsIn (pair_lane second xs ws x w) y l
  lists_named second y first total l e named r = record {
    size = r.size ∙ e ∙ sym (pair-size second xs ws x w);
    content = r.content;
    lists = λ t p.
        let n : size_of (pair_lane second xs ws x w) ≡ row_count ws =
        pair-size second xs ws x w in
        let s : IsIn (length_of ws) (size_of ws.starts) t =
        find (length_of ws) (size_of ws.starts) t (omega (arith, p, n)) in
        r.lists t (omega (arith, p, n, e))
        ∙ sym (ap (items_or_none y)
        (ap (option_place_at (pair_lane second xs ws x w)) s.place
        ∙ named s.list s.item s.within s.below ∙ ap (λ j. Some (first + j)) (sym s.place)));
  }

  rows_by_order : (o : Offsets) (r : Rows) → o.total ≡ row_count ws → AreRowsInOrder x w f o r
      → AreRowsBy xs ws x w o.lane r
  rows_by_order o r e g = record {
    offsets = g.offsets;
    first = lists_named false x f.x o.total r.xs e first_named g.first;
    second = lists_named true w f.w o.total r.ws e second_named g.second;
    index = rw (h.x_whole, h.w_whole, g.index) refl;
  }

  pub rows-ordered : AreSpans xs.starts xs.stops (len xs.content)
      → AreSpans ws.starts ws.stops (len ws.content) → (o : Offsets) (r : Rows)
      → o.total ≡ row_count ws → row_count ws ≤ item_limit
      → o.lane ≡ offsets_by (length_of ws) (size_of ws.starts) → AreRowsInOrder x w f o r
      → AreRows xs ws r
  rows-ordered xspans wspans o r e few eo g =
      rows-made xs ws x w pairs alike xspans wspans hx hw o.lane r few eo (rows_by_order o r e g)
