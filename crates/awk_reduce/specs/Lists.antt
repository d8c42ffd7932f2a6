-- What is made of the lists of a column, by the numbers of their items.
use Rattle.std.specs.Prelude.{◌≡◌, ℕ, ◌<◌, ◌≤◌, ◌^◌, ℤ, pos, Bool, true, false, List, position}
use Rattle.std.specs.Prelude.{Option, Some, None}
use Rattle.std.specs.Ordering.{int_eq}
use Rattle.awk_types.specs.DataType.{DataType}
use Rattle.awk_types.specs.ItemLimit.{item_limit}
use Rattle.awk_types.specs.Value.{Value}
use Rattle.awk_lanes.specs.Column.{Column}
use Rattle.awk_lanes.specs.Counted.{before}
use Rattle.awk_lanes.specs.Made.{lane_of}
use Rattle.awk_lanes.specs.declared.kind.Kind.TheVariants.{I64}
use Rattle.awk_layout.specs.Kinds.{kind_of}
use Rattle.awk_layout.specs.Typing.{array_type}
use Rattle.awk_list_functions.specs.Made.{IsColumn}
use Rattle.awk_list_functions.specs.declared.causes.Spoil.TheVariants.{Overflow}
use Rattle.awk_list_functions.specs.declared.function.Made.{Made}
use Rattle.awk_list_functions.specs.declared.function.Made.TheVariants as made
use Rattle.awk_columns.specs.Lists.{Listed, items_at}
use Rattle.awk_numbers.specs.Folds.{lane_numbers}
use Rattle.awk_parts.specs.Spans.{span_count, span_part, span_size, AreSpanned}
use Rattle.awk_parts.specs.declared.parts.Spans.{Spans}
use Rattle.awk_present.specs.Numbers.{leaf_of, numbers, number_place}
use Rattle.awk_reduce.specs.Reduce.{overflows}
use Rattle.awk_reduce.specs.Reducers.{reduced_type, reduced}
use Rattle.awk_reduce.specs.declared.ready.ReadyLists.{ReadyLists}
use Rattle.awk_reduce.specs.declared.reducer.Reducer.{Reducer}

-- the items of list i
abbrev pub list_in : Listed → ℕ → List Value
list_in l i = items_at l.starts l.stops l.content i

-- lists of leaves none of which is null, and the numbers of their items
pub record AreReady (x : ReadyLists) : Type 0 where
  pub kind : x.lane.now.kind ≡ kind_of (leaf_of (array_type x.lists.now.content))
  pub spans : AreSpanned (lane_numbers x.lane.now) x.spans.now
  pub fits : span_count x.spans.now < 2 ^ 63
  pub parts : (i : ℕ) → i < span_count x.spans.now
      → span_part (lane_numbers x.lane.now) x.spans.now i ≡ numbers (list_in x.lists.now i)
  pub places : (i q : ℕ) (z : ℤ) → i < span_count x.spans.now
      → position (int_eq z) (span_part (lane_numbers x.lane.now) x.spans.now i) ≡ Some q
      → number_place (list_in x.lists.now i) z ≡ Some q

-- what is made of lists, n of them, whose items are of a type
abbrev pub IsReduced : Reducer → DataType → (ℕ → List Value) → ℕ → Made → Type 0
IsReduced how t ls n (made.Spoiled why) =
    (why ≡ Overflow) × ((i : ℕ) × (i < n) × (overflows how t (ls i) ≡ true))
IsReduced how t ls n (made.Lists o z) = ⊥
IsReduced how t ls n (made.Even z) = ⊥
IsReduced how t ls n (made.Spans a b z) = ⊥
IsReduced how t ls n (made.Singles z) =
    ((i : ℕ) → i < n → overflows how t (ls i) ≡ false)
    × IsColumn (reduced_type how t) (λ i. reduced how t (ls i)) n z

-- of these lists
abbrev pub AreReduced : Reducer → ReadyLists → Made → Type 0
AreReduced how x m =
    let l = x.lists.now in
    IsReduced how (array_type l.content) (list_in l) (span_count x.spans.now) m

-- whether n items are no more than the limit
abbrev pub IsWithin : Bool → ℕ → Type 0
IsWithin true n = n ≤ item_limit
IsWithin false n = item_limit < n

-- the lengths of parts as a lane, or none where they have more numbers together than the limit
abbrev pub AreLengths : Spans → Option Column → Type 0
AreLengths p None = item_limit < before (span_size p) (span_count p)
AreLengths p (Some r) =
    (before (span_size p) (span_count p) ≤ item_limit)
    × (r ≡ lane_of I64 (span_count p) (λ i. pos (span_size p i)))
