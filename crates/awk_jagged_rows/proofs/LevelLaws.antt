-- One level down from lists in pairs, by the lanes that are made of it.
use Rattle.std.specs.Prelude.{◌≡◌, ℕ, ◌+◌, ◌<◌, ◌≤◌, ◌^◌, refl, Bool, true, false, ◌||◌, Option}
use Rattle.std.specs.Prelude.{Some, None, is_some, ℤ, IfSome, if◌then◌else◌}
use Rattle.std.proofs.Common.{arith, ap, ap₂, sym, ◌∙◌}
use Rattle.awk_types.specs.ItemLimit.{item_limit}
use Rattle.awk_types.specs.Value.{Value}
use Rattle.awk_lanes.proofs.CountedLanes.{length-numbers, numbers-at}
use Rattle.awk_lanes.proofs.MadeLanes.{size-lane_of, at-lane_of}
use Rattle.awk_lanes.specs.Column.{Column}
use Rattle.awk_lanes.specs.Counted.{offsets_by}
use Rattle.awk_lanes.specs.Places.{size_of, option_place, option_place_at, AreSpans, index_or_null}
use Rattle.awk_lanes.specs.declared.kind.Kind.TheVariants.{I64}
use Rattle.awk_layout.specs.Item.{at_option}
use Rattle.awk_layout.specs.Typing.{array_type}
use Rattle.awk_layout.specs.Valid.{len}
use Rattle.awk_gather.proofs.GatheredArrays.{at-I64}
use Rattle.awk_columns.specs.Lists.{Listed, length_of}
use Rattle.awk_columns.specs.ListValues.{list_at}
use Rattle.awk_jagged_rows.specs.Levels.{AreRows, IsIndexOf, IsRowIndex, AllPresent, row_at}
use Rattle.awk_jagged_rows.specs.Levels.{row_count, rows_before, pair_lane, AreRowsBy}
use Rattle.awk_jagged_rows.specs.Sides.{sides, are_lists}
use Rattle.awk_jagged_rows.specs.RowLists.{list_place, AreRowsOf}
use Rattle.awk_jagged_rows.specs.Rows.{place_by, AreAlike, pair_number, pair_at, AreIn, AreReady}
use Rattle.awk_jagged_rows.specs.Rows.{ArePlaced, IsSmallIndex, items_or_none}
use Rattle.awk_jagged_rows.specs.declared.levels.Rows.{Rows}
use Rattle.awk_jagged_rows.specs.declared.row_lists.RowLists.{RowLists}
use Rattle.awk_jagged_rows.proofs.FlatPlaces.{IsIn, find, flat_within}
use Rattle.awk_jagged_rows.proofs.SpanLaws.{item_in}

-- ---- one row

-- the list of a row, and null of none
abbrev pub row_value : RowLists → Option ℕ → Value
row_value r p = at_option p (list_at r.starts r.stops r.content)

pair_first : (p q : Option ℕ) (k : ℕ) → option_place (pair_number false p q) ≡ Some k → p ≡ Some k
pair_first (Some a) (Some b) k e = e
pair_first (Some a) None k e = absurd cc
pair_first None (Some b) k e = absurd cc
pair_first None None k e = absurd cc

pair_second : (p q : Option ℕ) (k : ℕ) → option_place (pair_number true p q) ≡ Some k → q ≡ Some k
pair_second (Some a) (Some b) k e = e
pair_second (Some a) None k e = absurd cc
pair_second None (Some b) k e = absurd cc
pair_second None None k e = absurd cc

pair_sides : (x w : RowLists) (p q : Option ℕ)
    → (
      items_or_none x (option_place (pair_number false p q)),
      items_or_none w (option_place (pair_number true p q)),
    )
    ≡ sides (row_value x p) (row_value w q)
pair_sides x w (Some a) (Some b) = refl
pair_sides x w (Some a) None = refl
pair_sides x w None (Some b) = refl
pair_sides x w None None = refl

pair_present : (x w : RowLists) (p q : Option ℕ) (t : ℕ)
    → option_place (index_or_null t (option_place (pair_number true p q)))
    ≡ (if are_lists (row_value x p) (row_value w q) then Some t else None)
pair_present x w (Some a) (Some b) t = refl
pair_present x w (Some a) None t = refl
pair_present x w None (Some b) t = refl
pair_present x w None None t = refl

-- ---- all rows

pub pair-size : (second : Bool) (xs ws : Listed) (x w : RowLists)
    → size_of (pair_lane second xs ws x w) ≡ row_count ws
pair-size second xs ws x w =
    length-numbers (length_of ws) (pair_at second xs ws x w) (size_of ws.starts)

pub pair-small : (second : Bool) (xs ws : Listed) (x w : RowLists) → row_count ws ≤ item_limit
    → IsSmallIndex (pair_lane second xs ws x w)
pair-small second xs ws x w few = (tt, omega (arith, few, pair-size second xs ws x w))

pub pair-place : (second : Bool) (xs ws : Listed) (x w : RowLists) (i k : ℕ) → i < size_of ws.starts
    → k < length_of ws i
    → option_place_at (pair_lane second xs ws x w) (rows_before ws i + k)
    ≡ option_place (pair_at second xs ws x w i k)
pair-place second xs ws x w i k p q =
    ap option_place
    (at-I64 (pair_lane second xs ws x w) (rows_before ws i + k) refl
    ∙ numbers-at (length_of ws) (pair_at second xs ws x w) i k (size_of ws.starts) p q)

module _ (xs ws : Listed) (x w : RowLists) (pairs : size_of xs.starts ≡ size_of ws.starts)
    (alike : AreAlike xs ws) (xspans : AreSpans xs.starts xs.stops (len xs.content))
    (wspans : AreSpans ws.starts ws.stops (len ws.content)) (hx : AreRowsOf xs.content x)
    (hw : AreRowsOf ws.content w) where
  x_in : (i k : ℕ) → i < size_of ws.starts → k < length_of ws i → place_by xs i k < len xs.content
  x_in i k p q =
      (item_in xs i k xspans (omega (arith, p, pairs)) (omega (arith, q, alike i p))).1

  w_in : (i k : ℕ) → i < size_of ws.starts → k < length_of ws i → place_by ws i k < len ws.content
  w_in i k p q = (item_in ws i k wspans p q).1

  placed : (l : Listed) (r : RowLists) → AreRowsOf l.content r → ArePlaced (len l.content) r
  placed l r h i p = (h.there i p, go (list_place r.index i) (h.places i))
    where
      go : (o : Option ℕ) → ((k : ℕ) → i < len l.content → o ≡ Some k → k < size_of r.starts)
          → IfSome o (λ k. k < 2 ^ 63)
      go None f = tt
      go (Some k) f = omega (arith, f k p refl, h.small)

  pub ready : AreReady xs ws x w
  ready = record {
    pairs = pairs;
    alike = alike;
    first = placed xs x hx;
    second = placed ws w hw;
  }

  pub first_in : AreIn (pair_lane false xs ws x w) x
  first_in t p = go (option_place_at (pair_lane false xs ws x w) t) refl
    where
      go : (o : Option ℕ) → option_place_at (pair_lane false xs ws x w) t ≡ o
          → IfSome o (λ k. k < size_of x.starts)
      go None e = tt
      go (Some k) e =
          let s : IsIn (length_of ws) (size_of ws.starts) t =
          find (length_of ws) (size_of ws.starts) t
          (omega (arith, p, pair-size false xs ws x w)) in
          let here : option_place (pair_at false xs ws x w s.list s.item) ≡ Some k =
          sym (pair-place false xs ws x w s.list s.item s.within s.below)
          ∙ sym (ap (option_place_at (pair_lane false xs ws x w)) s.place) ∙ e in
          hx.places (place_by xs s.list s.item) k (x_in s.list s.item s.within s.below)
          (pair_first (list_place x.index (place_by xs s.list s.item))
          (list_place w.index (place_by ws s.list s.item)) k here)

  pub second_in : AreIn (pair_lane true xs ws x w) w
  second_in t p = go (option_place_at (pair_lane true xs ws x w) t) refl
    where
      go : (o : Option ℕ) → option_place_at (pair_lane true xs ws x w) t ≡ o
          → IfSome o (λ k. k < size_of w.starts)
      go None e = tt
      go (Some k) e =
          let s : IsIn (length_of ws) (size_of ws.starts) t =
          find (length_of ws) (size_of ws.starts) t
          (omega (arith, p, pair-size true xs ws x w)) in
          let here : option_place (pair_at true xs ws x w s.list s.item) ≡ Some k =
          sym (pair-place true xs ws x w s.list s.item s.within s.below)
          ∙ sym (ap (option_place_at (pair_lane true xs ws x w)) s.place) ∙ e in
          hw.places (place_by ws s.list s.item) k (w_in s.list s.item s.within s.below)
          (pair_second (list_place x.index (place_by xs s.list s.item))
          (list_place w.index (place_by ws s.list s.item)) k here)

  x_row : (i k : ℕ) → i < size_of ws.starts → k < length_of ws i
      → row_at xs i k ≡ row_value x (list_place x.index (place_by xs i k))
  x_row i k p q = hx.items (place_by xs i k) (x_in i k p q)

  w_row : (i k : ℕ) → i < size_of ws.starts → k < length_of ws i
      → row_at ws i k ≡ row_value w (list_place w.index (place_by ws i k))
  w_row i k p q = hw.items (place_by ws i k) (w_in i k p q)

  present_at : (i k : ℕ) → i < size_of ws.starts → k < length_of ws i
      → option_place (index_or_null (rows_before ws i + k)
      (option_place_at (pair_lane true xs ws x w) (rows_before ws i + k)))
      ≡ (if are_lists (row_at xs i k) (row_at ws i k) then Some (rows_before ws i + k) else None)
  present_at i k p q =
      ap (λ o. option_place (index_or_null (rows_before ws i + k) o))
      (pair-place true xs ws x w i k p q)
      ∙ pair_present x w (list_place x.index (place_by xs i k))
      (list_place w.index (place_by ws i k)) (rows_before ws i + k)
      ∙ ap₂ (λ v u. if are_lists v u then Some (rows_before ws i + k) else None)
      (sym (x_row i k p q)) (sym (w_row i k p q))

  -- nothing is null where no column is optional
  whole_rows : (jx jw : Option Column) → x.index ≡ jx → w.index ≡ jw
      → (is_some jx || is_some jw) ≡ false → AllPresent xs ws
  whole_rows None None ex ew f i k p q =
      ap₂ (λ v u. are_lists v u)
      (x_row i k p q ∙ ap (λ j. row_value x (list_place j (place_by xs i k))) ex)
      (w_row i k p q ∙ ap (λ j. row_value w (list_place j (place_by ws i k))) ew)
  whole_rows None (Some jw) ex ew f i k p q = absurd cc
  whole_rows (Some jx) jw ex ew f i k p q = absurd cc

  row_index : (j : Option Column) → IsIndexOf (pair_lane true xs ws x w) x.index w.index j
      → IsRowIndex xs ws j
  row_index None h = whole_rows x.index w.index refl refl h
  row_index (Some j) h =
      let p : Column = pair_lane true xs ws x w in
      let f : ℕ → ℤ = λ i. index_or_null i (option_place_at p i) in
      let n : size_of p ≡ row_count ws = pair-size true xs ws x w in
      rw h.1 (record {
        kind = refl;
        size = size-lane_of I64 (size_of p) f ∙ n;
        places = λ i k a b.
            let t : rows_before ws i + k < size_of p = omega (arith, n, within i k a b) in
            ap option_place (at-lane_of I64 (size_of p) f (rows_before ws i + k) t)
            ∙ present_at i k a b;
      })
    where
      within : (i k : ℕ) → i < size_of ws.starts → k < length_of ws i
          → rows_before ws i + k < row_count ws
      within i k a b = flat_within (length_of ws) (size_of ws.starts) i k a b

  optional_index : (p : Column) (j : Option Column) → IsIndexOf p x.index w.index j
      → is_some j ≡ (is_some x.index || is_some w.index)
  optional_index p None h = sym h
  optional_index p (Some j) h = sym h.0

  pub rows-made : (o : Column) (r : Rows) → row_count ws ≤ item_limit
      → o ≡ offsets_by (length_of ws) (size_of ws.starts) → AreRowsBy xs ws x w o r
      → AreRows xs ws r
  rows-made o r few eo h = record {
    alike = alike;
    few = few;
    offsets = h.offsets ∙ eo;
    first_size = h.first.size ∙ pair-size false xs ws x w;
    second_size = h.second.size ∙ pair-size true xs ws x w;
    first = is_some x.index;
    second = is_some w.index;
    first_type = hx.typ ∙ ap (λ y. Some (is_some x.index, array_type y)) (sym h.first.content);
    second_type = hw.typ ∙ ap (λ y. Some (is_some w.index, array_type y)) (sym h.second.content);
    optional = optional_index (pair_lane true xs ws x w) r.index h.index;
    index = row_index r.index h.index;
    rows = λ i k p q.
        let t : rows_before ws i + k < row_count ws =
        flat_within (length_of ws) (size_of ws.starts) i k p q in
        ap₂ (λ vs us. (vs, us))
        (h.first.lists (rows_before ws i + k) (omega (arith, t, pair-size false xs ws x w))
        ∙ ap (items_or_none x) (pair-place false xs ws x w i k p q))
        (h.second.lists (rows_before ws i + k) (omega (arith, t, pair-size true xs ws x w))
        ∙ ap (items_or_none w) (pair-place true xs ws x w i k p q))
        ∙ pair_sides x w (list_place x.index (place_by xs i k))
        (list_place w.index (place_by ws i k))
        ∙ ap₂ (λ v u. sides v u) (sym (x_row i k p q)) (sym (w_row i k p q));
  }
