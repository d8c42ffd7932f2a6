-- Outcomes: of leaves, of rows, and of lists that are looked at one by one.
use Rattle.std.specs.Prelude.{◌≡◌, ◌≢◌, ℕ, ◌<◌, ◌==◌, refl, Bool, true, false, not, List, length}
use Rattle.std.specs.Prelude.{map, Option, Some, None, is_some, ℤ, option_map, if◌then◌else◌}
use Rattle.std.specs.List.{range_with_len}
use Rattle.std.proofs.Common.{arith, ap, ap₂, sym, ◌∙◌, eq-eqb, ne_eqb}
use Rattle.std.proofs.lemmas.List.{length-map}
use Rattle.std.proofs.lemmas.List.FromFn.{length-map-range_with_len}
use Rattle.std.proofs.lemmas.Bool.{or_left}
use Rattle.awk_types.specs.DataType.{DataType, unknown, opt}
use Rattle.awk_types.specs.Gives.{◌or◌}
use Rattle.awk_types.specs.ItemLimit.{item_limit, too_many}
use Rattle.awk_types.specs.Simple.{present, is_option, simple}
use Rattle.awk_types.specs.Value.{Value}
use Rattle.awk_types.specs.declared.fault.Fault.TheVariants.{Size}
use Rattle.awk_types.proofs.SimpleLaws.{simple_twice}
use Rattle.awk_lanes.specs.Column.{Column}
use Rattle.awk_lanes.specs.Counted.{before}
use Rattle.awk_lanes.specs.Places.{size_of, AreSpans}
use Rattle.awk_layout.specs.Typing.{array_type, array_items, layout_type}
use Rattle.awk_layout.specs.Valid.{len}
use Rattle.awk_gather.specs.Arrays.{pick}
use Rattle.awk_columns.specs.Columns.{joined_items}
use Rattle.awk_columns.specs.Lists.{Listed, length_of}
use Rattle.awk_types.specs.Predicates.{is_leaf}
use Rattle.awk_types.proofs.ItemLimits.{over_limit, within_limit}
use Rattle.awk_lanes.proofs.CountedLanes.{before-same}
use Rattle.awk_counts.proofs.ListLaws.{offsets-same}
use Rattle.awk_select.specs.Picks.{is_mask}
use Rattle.awk_jagged.specs.Jagged.{is_jagged, picked_items, size_refused, rows_by, pick_type}
use Rattle.awk_jagged_rows.specs.RowTypes.{rows_of}
use Rattle.awk_jagged_places.specs.Leaves.{take_numbers, mask_numbers, AreTested}
use Rattle.awk_jagged.specs.PickedAt.{ArePlacesOr, IsPickedAt}
use Rattle.awk_jagged_rows.specs.Levels.{AreUnlike, row_at, row_count}
use Rattle.awk_jagged.specs.Outcomes.{IsOutcomeOf}
use Rattle.awk_jagged.specs.Pairs.{AreEven, HaveAll, picks, picked_length}
use Rattle.awk_jagged_rows.specs.Rows.{lists_by, AreAlike}
use Rattle.awk_jagged.specs.declared.leaves.Outcome.{Outcome}
use Rattle.awk_jagged.specs.declared.leaves.Outcome.TheVariants as outcome
use Rattle.awk_jagged.specs.declared.leaves.Places.{Places}
use Rattle.awk_jagged_places.proofs.FlatLists.{each_same, length-each}
use Rattle.awk_jagged.proofs.LeafLaws.{take-picks, mask-picks, take-has, take-lacks, map_each}
use Rattle.awk_jagged.proofs.LeafLaws.{at_number}
use Rattle.awk_jagged.proofs.LeafTypes.{TakesBy, MasksBy, takes, masks}
use Rattle.awk_jagged.proofs.PairLaws.{Unrolls, unrolls, rows_by-map}
use Rattle.awk_jagged.proofs.PickedTypes.{leaf_typ, rows-index}
use Rattle.awk_jagged_rows.proofs.SpanLaws.{list-items, length-list}

-- ---- leaves

-- what is picked of leaves by numbers of places, list by list
pub record ByNumbers (xs ws : Listed) (numbers : ℕ → List ℤ) : Type 0 where
  pub leaf : is_leaf (present (array_type ws.content)) ≡ true
  pub size : (rs : List Value) → size_refused (array_type ws.content) rs ≡ too_many (length rs)
  pub even : AreEven (array_type ws.content) (lists_by xs) (lists_by ws) (size_of ws.starts)
  pub have : HaveAll (array_type ws.content) (lists_by xs) (lists_by ws) (size_of ws.starts)
  pub picks : (i : ℕ) → i < size_of ws.starts → pick (array_items xs.content) (numbers i)
      ≡ picked_items (array_type ws.content) (lists_by xs i) (lists_by ws i)

module _ (xs ws : Listed) (numbers : ℕ → List ℤ) (b : ByNumbers xs ws numbers) where
  lengths : (i : ℕ) → i < size_of ws.starts → length (numbers i)
      ≡ picked_length (array_type ws.content) (lists_by xs) (lists_by ws) i
  lengths i p =
      sym (length-map (numbers i) (at_number (array_items xs.content)))
      ∙ ap length (b.picks i p)

  -- how many items are picked together
  total : length (picks (array_type ws.content) (lists_by xs) (lists_by ws) (size_of ws.starts))
      ≡ before (λ i. length (numbers i)) (size_of ws.starts)
  total =
      length-each (λ i. picked_items (array_type ws.content) (lists_by xs i) (lists_by ws i))
      (size_of ws.starts)
      ∙ sym (before-same (λ i. length (numbers i))
      (picked_length (array_type ws.content) (lists_by xs) (lists_by ws)) (size_of ws.starts)
      lengths)

  typ_at : (t u : DataType) (y : DataType) → simple t ≡ t → is_leaf (present u) ≡ true
      → y ≡ (if is_option u then simple (opt t) else t)
      → option_map simple (pick_type u t) ≡ Some y
  typ_at t u y s l e =
      leaf_typ u t l
      ∙ ap (λ v. Some (if is_option u then simple (opt t) else v)) s
      ∙ ap (λ v. Some v) (sym e)

  pub leaf-outcome : (places : Option Places) (o : Outcome)
      → ArePlacesOr numbers (size_of ws.starts) places
      → IsPickedAt (is_option (array_type ws.content)) xs.content places o
      → IsOutcomeOf xs ws o
  leaf-outcome None outcome.TooMany h g = record {
    even = b.even;
    have = b.have;
    many = b.size _ ∙ ap too_many total
        ∙ over_limit (before (λ i. length (numbers i)) (size_of ws.starts)) h;
  }
  leaf-outcome None outcome.Uneven h g = absurd g
  leaf-outcome None outcome.Outside h g = absurd g
  leaf-outcome None (outcome.Lists o y) h g = absurd g
  leaf-outcome (Some p) outcome.TooMany h g = absurd g
  leaf-outcome (Some p) outcome.Uneven h g = absurd g
  leaf-outcome (Some p) outcome.Outside h g = absurd g
  leaf-outcome (Some p) (outcome.Lists o y) h g = record {
    even = b.even;
    have = b.have;
    few = b.size _ ∙ ap too_many total
        ∙ within_limit (before (λ i. length (numbers i)) (size_of ws.starts)) h.few;
    typ = typ_at (array_type xs.content) (array_type ws.content) (array_type y)
        (simple_twice (layout_type xs.content)) b.leaf g.1.typ;
    valid = g.1.valid;
    offsets = g.0 ∙ h.offsets ∙ offsets-same (λ i. length (numbers i))
        (picked_length (array_type ws.content) (lists_by xs) (lists_by ws)) (size_of ws.starts)
        lengths;
    items = g.1.items
        ∙ ap (λ (c : Column). pick (array_items xs.content) c.items) h.lane
        ∙ map_each (at_number (array_items xs.content)) numbers (size_of ws.starts)
        ∙ each_same _ _ (size_of ws.starts) b.picks;
  }

pub by-takes : (xs ws : Listed) → size_of xs.starts ≡ size_of ws.starts
    → AreSpans xs.starts xs.stops (len xs.content)
    → is_leaf (present (array_type ws.content)) ≡ true
    → is_mask (array_type ws.content) ≡ false → AreTested xs ws false
    → ByNumbers xs ws (take_numbers xs ws)
by-takes xs ws pairs sx l m inside =
    let t : TakesBy (array_type ws.content) = takes (array_type ws.content) l m in
    record {
      leaf = l;
      size = t.size;
      even = λ i p. t.uneven (lists_by xs i) (lists_by ws i);
      have = λ i p. t.lacks (lists_by xs i) (lists_by ws i) ∙ take-has xs ws i (inside i p);
      picks = λ i p. take-picks xs ws i sx (omega (arith, p, pairs))
          ∙ sym (t.picked (lists_by xs i) (lists_by ws i));
    }

pub outside-told : (xs ws : Listed) → is_leaf (present (array_type ws.content)) ≡ true
    → is_mask (array_type ws.content) ≡ false → AreTested xs ws true
    → IsOutcomeOf xs ws outcome.Outside
outside-told xs ws l m h =
    let t : TakesBy (array_type ws.content) = takes (array_type ws.content) l m in (
      λ i p. t.uneven (lists_by xs i) (lists_by ws i),
      (
        h.0,
        h.1,
        t.lacks (lists_by xs h.0) (lists_by ws h.0)
            ∙ take-lacks xs ws h.0 h.2.0 h.2.1 h.2.2,
      ),
    )

alike_here : (xs ws : Listed) (i : ℕ) → length_of xs i ≡ length_of ws i
    → not (length (lists_by xs i) == length (lists_by ws i)) ≡ false
alike_here xs ws i e =
    ap not (eq-eqb (length (lists_by xs i)) (length (lists_by ws i))
    (length-list xs i ∙ e ∙ sym (length-list ws i)))

unlike_here : (xs ws : Listed) (i : ℕ) → length_of xs i ≢ length_of ws i
    → not (length (lists_by xs i) == length (lists_by ws i)) ≡ true
unlike_here xs ws i e =
    ap not (ne_eqb (length (lists_by xs i)) (length (lists_by ws i))
    (λ s. e (sym (length-list xs i) ∙ s ∙ length-list ws i)))

pub by-masks : (xs ws : Listed) → size_of xs.starts ≡ size_of ws.starts → AreAlike xs ws
    → AreSpans xs.starts xs.stops (len xs.content)
    → is_leaf (present (array_type ws.content)) ≡ true
    → is_mask (array_type ws.content) ≡ true → ByNumbers xs ws (mask_numbers xs ws)
by-masks xs ws pairs alike sx l m =
    let t : MasksBy (array_type ws.content) = masks (array_type ws.content) l m in
    record {
      leaf = l;
      size = t.size;
      even = λ i p. t.uneven (lists_by xs i) (lists_by ws i) ∙ alike_here xs ws i (alike i p);
      have = λ i p. t.lacks (lists_by xs i) (lists_by ws i);
      picks = λ i p. mask-picks xs ws i sx (omega (arith, p, pairs)) (alike i p)
          ∙ sym (t.picked (lists_by xs i) (lists_by ws i));
    }

pub unlike-masks : (xs ws : Listed) → is_leaf (present (array_type ws.content)) ≡ true
    → is_mask (array_type ws.content) ≡ true → AreUnlike xs ws
    → IsOutcomeOf xs ws outcome.Uneven
unlike-masks xs ws l m h =
    let t : MasksBy (array_type ws.content) = masks (array_type ws.content) l m in
    (h.0, h.1, t.uneven (lists_by xs h.0) (lists_by ws h.0) ∙ unlike_here xs ws h.0 h.2)

-- ---- rows

abbrev item_of : Option (Bool × DataType) → DataType
item_of None = unknown
item_of (Some p) = p.1

abbrev flag_of : Option (Bool × DataType) → Bool
flag_of None = false
flag_of (Some p) = p.0

parts_of : (o : Option (Bool × DataType)) → is_some o ≡ true → o ≡ Some (flag_of o, item_of o)
parts_of None e = absurd cc
parts_of (Some p) e = refl

unrolled : (u : DataType) → is_jagged u ≡ true → Unrolls u (item_of (rows_of u))
unrolled u j = unrolls u (item_of (rows_of u)) (flag_of (rows_of u)) j
    (parts_of (rows_of u) (rows-index u j))

pub unlike-rows : (xs ws : Listed) → is_jagged (array_type ws.content) ≡ true → AreUnlike xs ws
    → IsOutcomeOf xs ws outcome.Uneven
unlike-rows xs ws j h =
    let t = unrolled (array_type ws.content) j in (
      h.0,
      h.1,
      t.uneven (lists_by xs h.0) (lists_by ws h.0)
          ∙ or_left _ _ (unlike_here xs ws h.0 h.2),
    )

-- too many rows together
pub many-rows : (xs ws : Listed) → is_jagged (array_type ws.content) ≡ true → AreAlike xs ws
    → item_limit < row_count ws
    → size_refused (array_type ws.content)
    (picks (array_type ws.content) (lists_by xs) (lists_by ws) (size_of ws.starts)) ≡ Some Size
many-rows xs ws j alike h =
    let u : DataType = array_type ws.content in
    let t : Unrolls u (item_of (rows_of u)) = unrolled u j in
    let rs : List Value = picks u (lists_by xs) (lists_by ws) (size_of ws.starts) in
    t.size rs
    ∙ ap (λ o. o or size_refused (item_of (rows_of u)) (joined_items rs))
    (ap too_many (length-each (λ i. picked_items u (lists_by xs i) (lists_by ws i))
    (size_of ws.starts)
    ∙ before-same (picked_length u (lists_by xs) (lists_by ws)) (length_of ws) (size_of ws.starts)
    (λ i p. ap length (t.picked (lists_by xs i) (lists_by ws i)
    ∙ ap₂ (λ vs us. rows_by (picked_items (item_of (rows_of u))) vs us)
    (list-items xs i ∙ ap (λ n. map (row_at xs i) (range_with_len 0 n)) (alike i p))
    (list-items ws i)
    ∙ rows_by-map (picked_items (item_of (rows_of u))) (row_at xs i) (row_at ws i) 0
    (length_of ws i))
    ∙ length-map-range_with_len _ 0 (length_of ws i)))
    ∙ over_limit (row_count ws) h)
