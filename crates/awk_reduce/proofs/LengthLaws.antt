-- Counts of lists of which no item is null: their lengths.
use Rattle.std.proofs.Common.{◌≡◌, ℕ, zero, suc, ◌+◌, ◌<◌, ◌≤◌, refl, ap, sym, ◌∙◌, arith, subst}
use Rattle.std.specs.Prelude.{ℤ, pos, negsuc, true, false, cond, List, ◌∷◌, length, map}
use Rattle.std.specs.List.{range_with_len}
use Rattle.std.proofs.lemmas.Int.{ints}
use Rattle.std.proofs.lemmas.List.{length-map}
use Rattle.awk_types.specs.DataType.{DataType, unknown, leaf, var, reg, rec, tup, opt, uni}
use Rattle.awk_types.specs.Parts.{number_of}
use Rattle.awk_types.specs.Predicates.{is_leaf}
use Rattle.awk_types.specs.Simple.{is_option}
use Rattle.awk_types.specs.Value.{Value, int}
use Rattle.awk_types.specs.declared.primitive.Primitive.TheVariants as primitive
use Rattle.awk_lanes.specs.Made.{lane_of}
use Rattle.awk_lanes.specs.Numbers.{nat_of}
use Rattle.awk_lanes.specs.Places.{size_of, at, place_at, IsSpan}
use Rattle.awk_lanes.specs.declared.kind.Kind.TheVariants.{I64}
use Rattle.awk_layout.specs.Layout.{Layout, flat}
use Rattle.awk_layout.specs.Typing.{array_type}
use Rattle.awk_layout.specs.Valid.{len}
use Rattle.awk_layout.proofs.Runs.{value_list-run}
use Rattle.awk_gather.specs.Arrays.{array_item}
use Rattle.awk_open.proofs.ItemShapes.{present_item}
use Rattle.awk_columns.specs.Columns.{is_present, present_values}
use Rattle.awk_columns.specs.Lists.{Listed, AreLists, span_length}
use Rattle.awk_columns.proofs.PresentItems.{not_null}
use Rattle.awk_list_functions.specs.Made.{IsColumn}
use Rattle.awk_list_functions.specs.declared.function.Made.TheVariants as made
use Rattle.awk_parts.specs.Spans.{span_count, span_size, AreEnds}
use Rattle.awk_parts.specs.declared.parts.Spans.{Spans}
use Rattle.awk_present.specs.Numbers.{numbers}
use Rattle.awk_reduce.specs.Lists.{list_in, IsReduced}
use Rattle.awk_reduce.specs.Reducers.{reduced}
use Rattle.awk_reduce.specs.declared.reducer.Reducer.TheVariants.{Count}
use Rattle.awk_reduce.proofs.ColumnLaws.{flat_column}
use Rattle.awk_reduce.proofs.SpanLaws.{size-is}

-- ---- items that are present

leaf_plain : (t : DataType) → is_leaf t ≡ true → is_option t ≡ false
leaf_plain unknown h = refl
leaf_plain (leaf p) h = refl
leaf_plain (var t) h = refl
leaf_plain (reg n t) h = refl
leaf_plain (rec ns ts) h = refl
leaf_plain (tup ts) h = refl
leaf_plain (opt t) h = cc
leaf_plain (uni ts) h = refl

count_all : (f : ℕ → Value) (a k : ℕ)
    → ((q : ℕ) → a ≤ q → q < a + k → is_present (f q) ≡ true)
    → length (present_values (map f (range_with_len a k))) ≡ k
count_all f a zero h = refl
count_all f a (suc k) h =
    let rest : List Value = present_values (map f (range_with_len (a + 1) k)) in
    ap (λ b. length (cond b (f a ∷ rest) rest)) (h a (omega arith) (omega arith))
    ∙ ap suc (count_all f (a + 1) k (λ q l m. h q (omega (arith, l)) (omega (arith, m))))

-- a place in a list is one of the content
pub span_place : (n q : ℕ) (a b : ℤ) → IsSpan n a b → nat_of a ≤ q → q < nat_of b → q < n
span_place n q (pos a) (pos b) h l m =
    let f = h (λ e. let g : nat_of (pos a) ≡ nat_of (pos b) = ap nat_of e in
    omega (arith, g, l, m)) in
    omega (arith, ints, f.2, m)
span_place n q (pos a) (negsuc b) h l m = absurd (omega (arith, m))
span_place n q (negsuc a) (pos b) h l m =
    let f = h (λ e. cc) in
    absurd (omega (arith, ints, f.0))
span_place n q (negsuc a) (negsuc b) h l m = absurd (omega (arith, m))

module _ (l : Listed) (lists : AreLists l.class l.starts l.stops l.content)
    (leaves : is_leaf (array_type l.content) ≡ true) (p : Spans)
    (ends : AreEnds (size_of l.starts) (at l.starts) (at l.stops) p) where
  abbrev t : DataType
  t = array_type l.content

  abbrev y : Layout
  y = l.content

  count_of : (i : ℕ) → i < size_of l.starts → length (numbers (list_in l i)) ≡ span_size p i
  count_of i k =
      let size = span_length l.starts l.stops i in
      length-map (present_values (list_in l i)) number_of
      ∙ ap (λ vs. length (present_values vs))
      (value_list-run (array_item y) (place_at l.starts i) size)
      ∙ count_all (array_item y) (place_at l.starts i) size
      (λ q a b.
      not_null (array_item y q) (present_item y q lists.valid
      (span_place (len y) q (at l.starts i) (at l.stops i) (lists.spans.ordered i k) a
      (omega (arith, a, b)))
      (leaf_plain t leaves)))
      ∙ sym (size-is l.starts l.stops p ends i k)

  -- the lengths of lists as their counts
  pub lengths_made : (z : Layout) → z ≡ flat (lane_of I64 (span_count p) (λ i. pos (span_size p i)))
      → IsReduced Count t (list_in l) (span_count p) (made.Singles z)
  lengths_made z ze = (
    λ i k. refl,
    subst (IsColumn (leaf primitive.I64) (λ i. reduced Count t (list_in l i)) (span_count p))
        (sym ze)
        (flat_column I64 (span_count p) (λ i. pos (span_size p i))
        (λ i. reduced Count t (list_in l i)) (omega (arith, ends.starts, lists.fits))
        (λ i k. ap (λ n. int (pos n)) (sym (count_of i (omega (arith, k, ends.starts)))))),
  )
