-- Lists at places of others, by their ends.
use Rattle.std.specs.Prelude.{◌≡◌, ℕ, ◌-◌, ◌<◌, refl, ℤ, pos, negsuc}
use Rattle.std.specs.Prelude.{Option, Some, None, IfSome}
use Rattle.std.proofs.Common.{arith, ap, ap₂, sym, ◌∙◌}
use Rattle.std.proofs.lemmas.Int.{ints}
use Rattle.awk_types.specs.Value.{value_list}
use Rattle.awk_lanes.proofs.MadeLanes.{size-lane_of, at-lane_of}
use Rattle.awk_lanes.specs.Column.{Column}
use Rattle.awk_lanes.specs.Made.{lane_of}
use Rattle.awk_lanes.specs.Numbers.{nat_of}
use Rattle.awk_lanes.specs.Places.{size_of, at, option_place_at, AreSpans, IsSpan}
use Rattle.awk_lanes.specs.declared.kind.Kind.TheVariants.{I64}
use Rattle.awk_layout.specs.Item.{run}
use Rattle.awk_layout.specs.Valid.{len, IsValid}
use Rattle.awk_gather.specs.Arrays.{array_item}
use Rattle.awk_columns.specs.Lists.{Listed, AreLists}
use Rattle.awk_jagged_rows.specs.Rows.{end_number, IsSmallIndex, AreIn, AreListsIn}
use Rattle.awk_jagged_rows.specs.Rows.{items_or_none}
use Rattle.awk_jagged_rows.specs.declared.row_lists.RowLists.{RowLists}

-- the ends of lists at places, as a lane
abbrev pub ends_at : Column → Column → Column
ends_at j c = lane_of I64 (size_of j) (λ i. end_number c (option_place_at j i))

-- ends as places are ends
nat_span : (n : ℕ) (a b : ℤ) → IsSpan n a b → IsSpan n (pos (nat_of a)) (pos (nat_of b))
nat_span n (pos a) (pos b) h = h
nat_span n (pos a) (negsuc b) h =
    absurd (omega (arith, ints, (h (λ e. omega (arith, ints, e))).1))
nat_span n (negsuc a) (pos b) h =
    absurd (omega (arith, ints, (h (λ e. omega (arith, ints, e))).0))
nat_span n (negsuc a) (negsuc b) h = λ d. absurd (d refl)

end_span : (s t : Column) (n : ℕ) (o : Option ℕ) → AreSpans s t n → IfSome o (λ k. k < size_of s)
    → IsSpan n (end_number s o) (end_number t o)
end_span s t n None h p = λ d. absurd (d refl)
end_span s t n (Some k) h p = nat_span n (at s k) (at t k) (h.ordered k p)

module _ (j : Column) (r : RowLists) (s : IsSmallIndex j) (i : AreIn j r)
    (h : AreSpans r.starts r.stops (len r.content)) (v : IsValid r.content) where
  at_end : (c : Column) (k : ℕ) → k < size_of j
      → at (ends_at j c) k ≡ end_number c (option_place_at j k)
  at_end c k p = at-lane_of I64 (size_of j) (λ i. end_number c (option_place_at j i)) k p

  size_end : (c : Column) → size_of (ends_at j c) ≡ size_of j
  size_end c = size-lane_of I64 (size_of j) (λ i. end_number c (option_place_at j i))

  pub are-lists : AreLists None (ends_at j r.starts) (ends_at j r.stops) r.content
  are-lists = record {
    spans = record {
      start_kind = tt;
      stop_kind = tt;
      same_size = size_end r.starts ∙ sym (size_end r.stops);
      ordered = λ k p.
          let p' : k < size_of j = omega (arith, p, size_end r.starts) in
          rw (at_end r.starts k p', at_end r.stops k p')
          (end_span r.starts r.stops (len r.content) (option_place_at j k) h (i k p'));
    };
    fits = omega (arith, size_end r.starts, s.1);
    valid = v;
    same_class = tt;
  }

  items_at_end : (o : Option ℕ)
      → value_list (run (array_item r.content) (nat_of (end_number r.starts o))
      (nat_of (end_number r.stops o) - nat_of (end_number r.starts o))) ≡ items_or_none r o
  items_at_end None = refl
  items_at_end (Some k) = refl

  pub lists-in : (l : Listed) → l ≡ record {
    class = None;
    starts = ends_at j r.starts;
    stops = ends_at j r.stops;
    content = r.content;
  } → AreListsIn j r l
  lists-in l e = rw e (record {
    size = size_end r.starts;
    content = refl;
    lists = λ k p.
        ap₂ (λ a b. value_list (run (array_item r.content) a (b - a)))
        (ap nat_of (at_end r.starts k p)) (ap nat_of (at_end r.stops k p))
        ∙ items_at_end (option_place_at j k);
  })
