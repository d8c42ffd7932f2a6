-- Lists of leaves of which some may be null, by a lane of numbers and a way there.
use Rattle.std.proofs.Common.{◌≡◌, ℕ, suc, ◌<◌, List, [], ◌∷◌, ◌++◌, map, get_or, refl, ap, ap₂}
use Rattle.std.proofs.Common.{sym, ◌∙◌, arith}
use Rattle.std.specs.Prelude.{ℤ, pos, Bool, cond, ◌&&◌, position, Option, Some, None}
use Rattle.std.specs.List.{range_with_len, flat_map}
use Rattle.std.specs.Option.{option_map, option_and_then}
use Rattle.std.specs.Ordering.{int_eq}
use Rattle.awk_base.proofs.Lists.{position-cons}
use Rattle.awk_types.specs.DataType.{DataType}
use Rattle.awk_types.specs.Parts.{number_of}
use Rattle.awk_types.specs.Value.{Value, int, truth}
use Rattle.awk_types.specs.declared.primitive.Primitive.{Primitive}
use Rattle.awk_lanes.specs.Column.{Column}
use Rattle.awk_lanes.specs.Numbers.{element, is_nonzero}
use Rattle.awk_lanes.specs.Places.{size_of, at, place_at}
use Rattle.awk_lanes.specs.declared.kind.Kind.{Kind}
use Rattle.awk_lanes.specs.declared.kind.Kind.TheVariants as kind
use Rattle.awk_layout.specs.Item.{leaf_value, at_option}
use Rattle.awk_layout.specs.Kinds.{kind_of}
use Rattle.awk_layout.specs.Typing.{array_type}
use Rattle.awk_layout.specs.Valid.{len}
use Rattle.awk_layout.proofs.Runs.{value_list-run}
use Rattle.awk_gather.specs.Arrays.{array_item}
use Rattle.awk_columns.specs.Columns.{is_present, present_values}
use Rattle.awk_columns.specs.Lists.{Listed, span_length}
use Rattle.awk_base.proofs.Ranges.{map-same}
use Rattle.awk_numbers.specs.Folds.{first_extreme, extreme_of}
use Rattle.awk_lanes.proofs.PlaceLaws.{is_nonzero-bit}
use Rattle.awk_lanes.proofs.CountedLanes.{one_within}
use Rattle.awk_numbers.specs.declared.extremes.Extreme.{Extreme}
use Rattle.awk_numbers.specs.declared.extremes.Extreme.TheVariants.{Least, Greatest}
use Rattle.awk_parts.specs.Lanes.{some_place, place_or_zero}
use Rattle.awk_present.specs.Numbers.{leaf_of, numbers, extreme_place, number_place}
use Rattle.awk_present.proofs.FlagLaws.{leads_back}
use Rattle.awk_present.proofs.LeafLaws.{present-leaf_value, number_of-leaf_value}
use Rattle.awk_nullable.specs.Extremes as null
use Rattle.awk_nullable.specs.Numbers.{leaf_number, number_list}
use Rattle.awk_nullable_lists.specs.Lists.{numbers_at, extreme_at, local_at, or_zero, AreNullable}
use Rattle.awk_reduce.specs.Lists.{list_in}
use Rattle.awk_reduce.specs.Nullable.{AreLeafLists}
use Rattle.awk_reduce.specs.Reducers.{reduced, item_or_null, place_or_null}
use Rattle.awk_reduce.specs.Totals.{item_reducer, place_reducer}
use Rattle.awk_reduce.proofs.ExtremeLaws.{extreme_found}
use Rattle.awk_reduce.proofs.LengthLaws.{span_place}
use Rattle.awk_reduce.proofs.ListLaws.{total-before}
use Rattle.awk_reduce.proofs.PlaceLaws.{none_of, some_of, item_value, place_value}
use Rattle.awk_reduce.proofs.ReadyLaws.{AreNumbered}

-- ---- of one list

-- what is read of a number is the same value
value-twice : (k : Kind) (z : ℤ) → leaf_value k (element k z) ≡ leaf_value k z
value-twice kind.Bool z = ap truth (is_nonzero-bit (is_nonzero z))
value-twice kind.I8 z = refl
value-twice kind.I16 z = refl
value-twice kind.I32 z = refl
value-twice kind.I64 z = refl
value-twice kind.U8 z = refl
value-twice kind.U16 z = refl
value-twice kind.U32 z = refl
value-twice kind.U64 z = refl

some_extreme : (how : Extreme) (z : ℤ) (zs : List ℤ) → extreme_of how (z ∷ zs) ≡ None → ⊥
some_extreme Least z zs e = cc
some_extreme Greatest z zs e = cc

-- the extreme of numbers as a value, or null
item_case : (how : Extreme) (k : Kind) (p : Primitive) (zs : List ℤ) (o : Option ℤ)
    → k ≡ kind_of p → extreme_of how zs ≡ o
    → at_option (some_place zs) (λ q. leaf_value k (element k (or_zero o))) ≡ item_or_null p o
item_case how k p [] o e h = ap (item_or_null p) (sym (none_of how) ∙ h)
item_case how k p (z ∷ zs) None e h = absurd (some_extreme how z zs h)
item_case how k p (z ∷ zs) (Some w) e h = value-twice k w ∙ ap (λ k. leaf_value k w) e

-- the place of the extreme, or null
place_case : (how : Extreme) (vs : List Value) (o : Option ℕ) (zs : List ℤ) (f : Option ℕ)
    → zs ≡ numbers vs → o ≡ extreme_place how vs → first_extreme how zs ≡ f
    → at_option (some_place zs) (λ q. int (place_or_zero o))
    ≡ place_or_null (extreme_place how vs)
place_case how vs o [] f e s h =
    sym (ap (λ ns. place_or_null (option_and_then (number_place vs) (extreme_of how ns))) (sym e)
    ∙ ap (λ m. place_or_null (option_and_then (number_place vs) m)) (none_of how))
place_case how vs o (w ∷ ws) None e s h = absurd (some_of how w ws h)
place_case how vs o (w ∷ ws) (Some q) e s h =
    let found = extreme_found how (w ∷ ws) q h in
    let z = get_or (w ∷ ws) q (pos 0) in
    let there = leads_back vs z q (ap (position (int_eq z)) (sym e) ∙ found.2) in
    let same : extreme_place how vs ≡ Some there.0 =
    ap (option_and_then (number_place vs)) (ap (extreme_of how) (sym e) ∙ found.1) ∙ there.1 in
    ap (λ o. int (place_or_zero o)) (s ∙ same) ∙ sym (ap place_or_null same)

-- ---- items by a lane and a way there

module _ (f : ℕ → Option ℕ) (c : Column) where
  abbrev leaf_at : ℕ → Value
  leaf_at k = leaf_value c.kind (at c k)

  abbrev there : ℕ → Value
  there i = at_option (f i) leaf_at

  abbrev g : ℕ → Option ℤ
  g i = leaf_number f c i

  numbers_first : (o : Option ℕ) (vs : List Value) (zs : List ℤ) → numbers vs ≡ zs
      → numbers (at_option o leaf_at ∷ vs) ≡ number_list (option_map (at c) o) ++ zs
  numbers_first None vs zs h = h
  numbers_first (Some k) vs zs h =
      ap (λ b. map number_of (cond b (leaf_at k ∷ present_values vs) (present_values vs)))
      (present-leaf_value c.kind (at c k))
      ∙ ap₂ (λ z zs. z ∷ zs) (number_of-leaf_value c.kind (get_or c.items k (pos 0))) h

  numbers_there : (is : List ℕ)
      → numbers (map there is) ≡ flat_map (λ i. number_list (g i)) is
  numbers_there [] = refl
  numbers_there (i ∷ is) =
      numbers_first (f i) (map there is) (flat_map (λ i. number_list (g i)) is) (numbers_there is)

  one : (z : ℤ) (o : Option ℕ) → null.is_some_number z (option_map (at c) o)
      ≡ (is_present (at_option o leaf_at) && int_eq z (number_of (at_option o leaf_at)))
  one z None = refl
  one z (Some k) =
      sym (ap₂ (λ b y. b && int_eq z y) (present-leaf_value c.kind (at c k))
      (number_of-leaf_value c.kind (get_or c.items k (pos 0))))

  place_there : (z : ℤ) (is : List ℕ) → position (λ i. null.is_some_number z (g i)) is
      ≡ number_place (map there is) z
  place_there z [] = refl
  place_there z (i ∷ is) =
      position-cons (λ i. null.is_some_number z (g i)) i is
      ∙ ap₂ (λ b o. cond b (Some 0) (option_map suc o)) (one z (f i)) (place_there z is)
      ∙ sym (position-cons (λ v. is_present v && int_eq z (number_of v)) (there i) (map there is))

-- ---- of lists

module _ (l : Listed) (f : ℕ → Option ℕ) (m : ℕ) (c : Column) (r : AreLeafLists l f m c) where
  abbrev way : ℕ → Option ℤ
  way = leaf_number f c

  abbrev n : ℕ
  n = size_of l.starts

  abbrev t : DataType
  t = array_type l.content

  list_there : (i : ℕ) → i < n → list_in l i
      ≡ map (there f c) (range_with_len (place_at l.starts i) (span_length l.starts l.stops i))
  list_there i k =
      value_list-run (array_item l.content) (place_at l.starts i)
      (span_length l.starts l.stops i)
      ∙ map-same (array_item l.content) (there f c) (place_at l.starts i)
      (span_length l.starts l.stops i)
      (λ q a b.
      let inside : q < len l.content =
      span_place (len l.content) q (at l.starts i) (at l.stops i) (r.lists.spans.ordered i k) a
      (omega (arith, a, b)) in
      r.leaves.items q (omega (arith, inside, r.leaves.size)))

  pub numbers_same : (i : ℕ) → i < n → numbers_at l way i ≡ numbers (list_in l i)
  numbers_same i k =
      sym (ap numbers (list_there i k)
      ∙ numbers_there f c
      (range_with_len (place_at l.starts i) (span_length l.starts l.stops i)))

  pub leaves_numbered : AreNumbered l n (numbers_at l way)
  leaves_numbered = record { fits = r.lists.fits; parts = numbers_same }

  pub leaves_nullable : AreNullable l f m c
  leaves_nullable = record {
    size = r.leaves.size;
    leads = r.leaves.leads;
    few = λ i k.
        omega (
          arith,
          one_within (span_length l.starts l.stops) n i k,
          total-before l.starts l.stops l.content,
          r.few,
        );
  }

  module _ (how : Extreme) where
    pub item_there : (i : ℕ) → i < n
        → at_option (some_place (numbers_at l way i))
        (λ q. leaf_value c.kind (element c.kind (extreme_at how l way i)))
        ≡ reduced (item_reducer how) t (list_in l i)
    item_there i k =
        item_case how c.kind (leaf_of t) (numbers_at l way i)
        (extreme_of how (numbers_at l way i)) r.leaves.kind refl
        ∙ ap (item_or_null (leaf_of t)) (ap (extreme_of how) (numbers_same i k))
        ∙ item_value how t (list_in l i)

    place_same : (i : ℕ) → i < n
        → null.extreme_place how way (place_at l.starts i) (span_length l.starts l.stops i)
        ≡ extreme_place how (list_in l i)
    place_same i k =
        ap (option_and_then (null.number_place way (place_at l.starts i)
        (span_length l.starts l.stops i)))
        (ap (extreme_of how) (numbers_same i k))
        ∙ by (extreme_of how (numbers (list_in l i)))
      where
        by : (o : Option ℤ)
            → option_and_then (null.number_place way (place_at l.starts i)
            (span_length l.starts l.stops i)) o
            ≡ option_and_then (number_place (list_in l i)) o
        by None = refl
        by (Some z) =
            place_there f c z
            (range_with_len (place_at l.starts i) (span_length l.starts l.stops i))
            ∙ ap (λ vs. number_place vs z) (sym (list_there i k))

    pub local_there : (i : ℕ) → i < n
        → at_option (some_place (numbers_at l way i)) (λ q. int (local_at how l way i))
        ≡ reduced (place_reducer how) t (list_in l i)
    local_there i k =
        place_case how (list_in l i)
        (null.extreme_place how way (place_at l.starts i) (span_length l.starts l.stops i))
        (numbers_at l way i) (first_extreme how (numbers_at l way i)) (numbers_same i k)
        (place_same i k) refl
        ∙ place_value how t (list_in l i)
