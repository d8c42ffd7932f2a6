-- The laws of reducers.
use Rattle.std.proofs.Common.{◌≡◌, ℕ, ◌+◌, ◌-◌, ◌<◌, ◌≤◌, refl, ap, ap₂, sym, ◌∙◌, arith}
use Rattle.std.proofs.Common.{true≢false, List, [], ◌∷◌, map, length, get_or}
use Rattle.std.specs.Prelude.{ℤ, pos, ◌+ℤ◌, nat_lt, sum, Bool, true, false, not, ◌||◌, Option, Some}
use Rattle.std.specs.Prelude.{None, Result, Ok, if◌then◌else◌}
use Rattle.std.specs.List.{AllByRecursion, count_by, flat_map, list_any}
use Rattle.std.specs.Option.{option_and_then}
use Rattle.std.proofs.lemmas.Bool.{ltb-false}
use Rattle.std.proofs.lemmas.List.{length-map, length-append, get_or-map, get_or_default}
use Rattle.std.proofs.lemmas.List.Sums.{sum_by-cons}
use Rattle.awk_base.proofs.Sums.{sum-one}
use Rattle.awk_types.specs.DataType.{DataType, unknown, leaf, var, reg, rec, tup, opt, uni}
use Rattle.awk_types.specs.Datum.{Datum, arr, one}
use Rattle.awk_types.specs.Gives.{refused_or}
use Rattle.awk_types.specs.Has.{Has}
use Rattle.awk_types.specs.ItemLimit.{item_limit}
use Rattle.awk_types.specs.Parts.{number_of, option_number}
use Rattle.awk_types.specs.Predicates.{is_leaf, is_null}
use Rattle.awk_types.specs.Simple.{present}
use Rattle.awk_types.specs.Value.{Value, int, truth, null, list, row, alt, value_list}
use Rattle.awk_types.specs.declared.fault.Fault.{Fault}
use Rattle.awk_types.specs.declared.primitive.Primitive.{Primitive}
use Rattle.awk_types.specs.declared.primitive.Primitive.TheVariants as primitive
use Rattle.awk_layout.specs.Item.{leaf_value}
use Rattle.awk_layout.specs.Kinds.{kind_of}
use Rattle.awk_columns.specs.Columns.{is_present, present_values, joined_items, lists_among}
use Rattle.awk_kernels.specs.Kernels.{total}
use Rattle.awk_list_functions.specs.Causes.{first_spoil}
use Rattle.awk_list_functions.specs.Lift.{on_list}
use Rattle.awk_list_functions.specs.Lifting.{first_told}
use Rattle.awk_list_functions.specs.Spoils.{too_many}
use Rattle.awk_list_functions.specs.declared.causes.Spoil.{Spoil}
use Rattle.awk_list_functions.specs.declared.causes.Spoil.TheVariants.{Size, Overflow}
use Rattle.awk_numbers.specs.Folds.{extreme_of}
use Rattle.awk_numbers.specs.declared.extremes.Extreme.{Extreme}
use Rattle.awk_numbers.specs.declared.extremes.Extreme.TheVariants.{Least, Greatest}
use Rattle.awk_primitives.specs.Fits.{fits}
use Rattle.awk_present.specs.Numbers.{leaf_of, numbers, extreme_place, number_place}
use Rattle.awk_reduce.specs.Reduce.{reduce_of, overflows, overflow_spoil, reduced_spoil}
use Rattle.awk_reduce.specs.Reducers.{wide, reduced, reduced_type, item_or_null, place_or_null}
use Rattle.awk_reduce.specs.Totals.{item_reducer, place_reducer}
use Rattle.awk_reduce.specs.declared.reducer.Reducer.TheVariants.{Sum, Count}
use Rattle.awk_reduce.proofs.PlaceLaws.{none_of}
use Rattle.awk_order.proofs.ValueLaws.{value_of, all_numbers}
use Rattle.awk_hist.proofs.InnermostLaws.{present_few}
use Rattle.awk_number_laws.specs.Extremes.{IsExtreme}
use Rattle.awk_number_laws.specs.Reducers.{ReducerLaws}
use Rattle.awk_number_laws.proofs.ExtremeLaws.{extreme_told, extreme_item, number_there, number_is}
use Rattle.awk_number_laws.proofs.ExtremeLaws.{no_numbers, placed, first_place, place_there}
use Rattle.awk_number_laws.proofs.NumberLaws.{numbers-append}
use Rattle.awk_number_laws.proofs.ReducedLeaves.{reduced_are}
use Rattle.awk_number_laws.proofs.Overflows.{no_overflow, overflow}
use Rattle.awk_number_laws.proofs.SumsJoined.{sums_joined}
use Rattle.awk_number_laws.proofs.SumLaws.{numbers-ints, total-append, total-joined, totals_are}

-- ---- sums

sum_is : (t : DataType) (ls : List (List Value))
    → reduced Sum t (flat_map (λ l. l) ls)
    ≡ reduced Sum (reduced_type Sum t) (map (reduced Sum t) ls)
sum_is t ls =
    ap (λ z. int z) (total-joined ls
    ∙ ap total (sym (numbers-ints (λ l. total (numbers l)) ls)))

-- ---- sums of arrays of lists

-- the sums of lists, as what is lifted to them gives
abbrev sums_of : List Value → List Value
sums_of vs = map (λ v. on_list (λ ws. int (total (numbers ws))) v) vs

abbrev AreLists : DataType → List Value → Type 0
AreLists t vs = AllByRecursion (Has (var t)) vs

lists_total : (t : DataType) (vs : List Value) → AreLists t vs
    → total (numbers (sums_of vs)) ≡ total (numbers (joined_items vs))
lists_total t [] h = refl
lists_total t (list ws ∷ vs) h =
    ap (λ n. total (numbers (value_list ws)) +ℤ n) (lists_total t vs h.1)
    ∙ sym (total-append (numbers (value_list ws)) (numbers (joined_items vs)))
    ∙ ap total (sym (numbers-append (value_list ws) (joined_items vs)))
lists_total t (int z ∷ vs) h = absurd h.0
lists_total t (truth b ∷ vs) h = absurd h.0
lists_total t (null ∷ vs) h = absurd h.0
lists_total t (row ws ∷ vs) h = absurd h.0
lists_total t (alt k w ∷ vs) h = absurd h.0

lists_length : (t : DataType) (vs : List Value) → AreLists t vs
    → sum (map length (lists_among vs)) ≡ length (joined_items vs)
lists_length t [] h = refl
lists_length t (list ws ∷ vs) h =
    sum_first (length (value_list ws)) (map length (lists_among vs))
    ∙ omega (arith, lists_length t vs h.1, length-append (value_list ws) (joined_items vs))
  where
    sum_first : (n : ℕ) (ns : List ℕ) → sum (n ∷ ns) ≡ n + sum ns
    sum_first n ns = sum_by-cons (λ x. x) n ns
lists_length t (int z ∷ vs) h = absurd h.0
lists_length t (truth b ∷ vs) h = absurd h.0
lists_length t (null ∷ vs) h = absurd h.0
lists_length t (row ws ∷ vs) h = absurd h.0
lists_length t (alt k w ∷ vs) h = absurd h.0

wide_twice : (p : Primitive) → wide (wide p) ≡ wide p
wide_twice primitive.Bool = refl
wide_twice primitive.I8 = refl
wide_twice primitive.I16 = refl
wide_twice primitive.I32 = refl
wide_twice primitive.I64 = refl
wide_twice primitive.U8 = refl
wide_twice primitive.U16 = refl
wide_twice primitive.U32 = refl
wide_twice primitive.U64 = refl

-- the sum of one list, by whether its items are too many and whether it fits
abbrev sum_by : Bool → Bool → Primitive → ℤ → Result Datum Fault
sum_by many past q z =
    refused_or
    (first_told None None
    (if many then Some Size else if past || false then Some Overflow else None))
    (one (leaf q) (int z))

abbrev sum_one : Primitive → List Value → Result Datum Fault
sum_one q ws = sum_by (nat_lt item_limit (sum (length ws ∷ [])))
    (not (fits q (total (numbers ws)))) q (total (numbers ws))

few : (n : ℕ) → n ≤ item_limit → nat_lt item_limit (sum (n ∷ [])) ≡ false
few n l =
    let e : nat_lt item_limit n ≡ false = grind (arith, l) in
    ap (nat_lt item_limit) (sum-one n) ∙ e

sums_same : (q : Primitive) (us vs : List Value) → length us ≤ item_limit
    → length vs ≤ item_limit → total (numbers us) ≡ total (numbers vs)
    → sum_one (wide (wide q)) us ≡ sum_one (wide q) vs
sums_same q us vs l m e =
    ap (λ q. sum_one q us) (wide_twice q)
    ∙ ap₂ (λ b z. sum_by b (not (fits (wide q) z)) (wide q) z) (few (length us) l ∙ sym
    (few (length vs) m)) e

-- nothing is told of lists that are not refused
none_told : (s : Option Spoil) (d e : Datum) → refused_or (first_told None None s) d ≡ Ok e
    → (s ≡ None) × (d ≡ e)
none_told None d e h = (refl, cc)
none_told (Some s) d e h = absurd (cc)

abbrev size_by : Bool → Option Spoil
size_by b = if b then Some Size else None

abbrev spoil_by : Bool → Option Spoil → Option Spoil
spoil_by b s = if b then Some Size else s

sizes : (b c : Bool) (t : DataType) (ls : List (List Value))
    → first_spoil (size_by b) (spoil_by c (overflow_spoil Sum t ls)) ≡ None
    → (b ≡ false) × (c ≡ false)
sizes b c t ls h = go b c (list_any (overflows Sum t) ls) h
  where
    go : (b c d : Bool)
        → first_spoil (size_by b) (spoil_by c (if d then Some Overflow else None)) ≡ None
        → (b ≡ false) × (c ≡ false)
    go false false d h = (refl, refl)
    go true true true h = absurd (cc)
    go true true false h = absurd (cc)
    go true false true h = absurd (cc)
    go true false false h = absurd (cc)
    go false true true h = absurd (cc)
    go false true false h = absurd (cc)

length-sums : (vs : List Value) → length (sums_of vs) ≡ length vs
length-sums vs = length-map vs (λ v. on_list (λ ws. int (total (numbers ws))) v)

-- of lists of leaves of one type
module _ (t : DataType) (vs : List Value) (h : AreLists t vs) (sums : Datum)
    (e : refused_or (first_told None None
    (first_spoil (too_many (length vs)) (reduced_spoil Sum t (lists_among vs))))
    (arr (leaf (wide (leaf_of t))) (sums_of vs)) ≡ Ok sums) where
  told : (first_spoil (too_many (length vs)) (reduced_spoil Sum t (lists_among vs)) ≡ None)
      × (arr (leaf (wide (leaf_of t))) (sums_of vs) ≡ sums)
  told =
      none_told (first_spoil (too_many (length vs)) (reduced_spoil Sum t (lists_among vs)))
      (arr (leaf (wide (leaf_of t))) (sums_of vs)) sums e

  small : (nat_lt item_limit (length vs) ≡ false)
      × (nat_lt item_limit (sum (map length (lists_among vs))) ≡ false)
  small =
      sizes (nat_lt item_limit (length vs)) (nat_lt item_limit (sum (map length (lists_among vs))))
      t (lists_among vs) told.0

  sums_one : sum_one (wide (wide (leaf_of t))) (sums_of vs)
      ≡ sum_one (wide (leaf_of t)) (joined_items vs)
  sums_one =
      sums_same (leaf_of t) (sums_of vs) (joined_items vs)
      (omega (arith, length-sums vs, ltb-false item_limit (length vs) small.0))
      (omega (
        arith,
        sym (lists_length t vs h),
        ltb-false item_limit (sum (map length (lists_among vs))) small.1,
      ))
      (lists_total t vs h)

  leaf_sums : reduce_of Sum sums ≡ sum_one (wide (leaf_of t)) (joined_items vs)
  leaf_sums = ap (reduce_of Sum) (sym told.1) ∙ sums_one

sums_are : (t : DataType) (vs : List Value) (sums : Datum) → is_leaf (present t) ≡ true
    → AreLists t vs → reduce_of Sum (arr (var t) vs) ≡ Ok sums
    → reduce_of Sum sums ≡ reduce_of Sum (arr t (joined_items vs))
sums_are unknown vs sums l h e = leaf_sums unknown vs h sums e
sums_are (leaf p) vs sums l h e = leaf_sums (leaf p) vs h sums e
sums_are (opt unknown) vs sums l h e = leaf_sums (opt unknown) vs h sums e
sums_are (opt (leaf p)) vs sums l h e = leaf_sums (opt (leaf p)) vs h sums e
sums_are (var t) vs sums l h e = absurd (true≢false (sym l))
sums_are (reg n t) vs sums l h e = absurd (true≢false (sym l))
sums_are (rec ns ts) vs sums l h e = absurd (true≢false (sym l))
sums_are (tup ts) vs sums l h e = absurd (true≢false (sym l))
sums_are (uni ts) vs sums l h e = absurd (true≢false (sym l))
sums_are (opt (var t)) vs sums l h e = absurd (true≢false (sym l))
sums_are (opt (reg n t)) vs sums l h e = absurd (true≢false (sym l))
sums_are (opt (rec ns ts)) vs sums l h e = absurd (true≢false (sym l))
sums_are (opt (tup ts)) vs sums l h e = absurd (true≢false (sym l))
sums_are (opt (opt t)) vs sums l h e = absurd (true≢false (sym l))
sums_are (opt (uni ts)) vs sums l h e = absurd (true≢false (sym l))

-- ---- counts

count_is : (t : DataType) (vs : List Value)
    → reduced Count t vs ≡ int (pos (length vs - count_by is_null vs))
count_is t vs =
    ap (λ n. int (pos n))
    (length-map (present_values vs) number_of ∙ omega (arith, present_few vs))

-- ---- extremes

item_said : (how : Extreme) (t : DataType) (vs : List Value)
    → reduced (item_reducer how) t vs ≡ item_or_null (leaf_of t) (extreme_of how (numbers vs))
item_said Least t vs = refl
item_said Greatest t vs = refl

place_said : (how : Extreme) (t : DataType) (vs : List Value)
    → reduced (place_reducer how) t vs ≡ place_or_null (extreme_place how vs)
place_said Least t vs = refl
place_said Greatest t vs = refl

present_number : (v : Value) → is_present v ≡ true → option_number v ≡ Some (number_of v)
present_number null e = absurd (true≢false (sym e))
present_number (int z) e = refl
present_number (truth b) e = refl
present_number (list ws) e = refl
present_number (row ws) e = refl
present_number (alt k w) e = refl

-- an item of a type, where it is not null, is what its number is as an item of the leaf
module _ (t : DataType) (vs : List Value) (l : is_leaf (present t) ≡ true)
    (h : AllByRecursion (Has t) vs) where
  typed_item : (i : ℕ) (z : ℤ) → i < length vs → is_present (get_or vs i null) ≡ true
      → z ≡ number_of (get_or vs i null)
      → get_or vs i null ≡ item_or_null (leaf_of t) (Some z)
  typed_item i z m p n =
      let k = kind_of (leaf_of t) in
      let v = get_or vs i null in
      ap (λ ws. get_or ws i null) (all_numbers t vs l h)
      ∙ get_or-map (value_of k) (map option_number vs) i None null
      (omega (arith, m, length-map vs option_number))
      ∙ ap (value_of k) (get_or-map option_number vs i null None m ∙ present_number v p)
      ∙ ap (leaf_value k) (sym n)

  item_is : (how : Extreme) (v : Value) → reduced (item_reducer how) t vs ≡ v
      → is_present v ≡ true → IsExtreme how vs v
  item_is how v e p = go (extreme_of how (numbers vs)) refl (sym (item_said how t vs) ∙ e)
    where
      go : (o : Option ℤ) → extreme_of how (numbers vs) ≡ o → item_or_null (leaf_of t) o ≡ v
          → IsExtreme how vs v
      go None f g = absurd (true≢false (sym (ap is_present g ∙ p)))
      go (Some z) f g =
          let n = number_there vs z (extreme_told how (numbers vs) z f).number in
          let w = get_or vs n.0 null in
          let q = number_is z w n.2 in
          let same : w ≡ v = typed_item n.0 z n.1 q.0 q.1 ∙ g in
          extreme_item how vs z v f (n.0, n.1, get_or_default vs n.0 v null n.1 ∙ same) p
          (ap number_of (sym same) ∙ sym q.1)

  found_is : (how : Extreme) (k : ℕ) → extreme_place how vs ≡ Some k
      → get_or vs k null ≡ reduced (item_reducer how) t vs
  found_is how k e =
      let q = placed how vs k e in
      typed_item k q.0 q.1.inside q.1.present (sym q.1.number)
      ∙ ap (item_or_null (leaf_of t)) (sym q.1.extreme) ∙ sym (item_said how t vs)

place_told : (o : Option ℕ) (k : ℕ) → place_or_null o ≡ int (pos k) → o ≡ Some k
place_told None k e = absurd (cc)
place_told (Some j) k e = cc

place_is : (how : Extreme) (t : DataType) (vs : List Value) (k : ℕ)
    → reduced (place_reducer how) t vs ≡ int (pos k) → extreme_place how vs ≡ Some k
place_is how t vs k e = place_told (extreme_place how vs) k (sym (place_said how t vs) ∙ e)

some_is : (how : Extreme) (t : DataType) (vs : List Value) (i : ℕ) → i < length vs
    → is_present (get_or vs i null) ≡ true
    → (k : ℕ) × (reduced (place_reducer how) t vs ≡ int (pos k))
some_is how t vs i l p =
    let h = place_there how vs i l p in
    (h.0, place_said how t vs ∙ ap place_or_null h.1)

none_is : (how : Extreme) (t : DataType) (vs : List Value)
    → AllByRecursion (λ v. is_null v ≡ true) vs
    → (reduced (item_reducer how) t vs ≡ null) × (reduced (place_reducer how) t vs ≡ null)
none_is how t vs h =
    let e : extreme_of how (numbers vs) ≡ None =
    ap (extreme_of how) (no_numbers vs h) ∙ none_of how in (
      item_said how t vs ∙ ap (item_or_null (leaf_of t)) e,
      place_said how t vs
          ∙ ap (λ o. place_or_null (option_and_then (number_place vs) o)) e,
    )

pub reducers_law : ReducerLaws
reducers_law = record {
  sum = sum_is;
  sums = sums_are;
  count = count_is;
  item = λ how t vs v l h e p. item_is t vs l h how v e p;
  place = λ how t vs k e. first_place how vs k (place_is how t vs k e);
  found = λ how t vs k l h e. found_is t vs l h how k (place_is how t vs k e);
  some = some_is;
  none = none_is;
  nested = reduced_are;
  no_overflow = no_overflow;
  overflow = overflow;
  sums_joined = sums_joined;
  totals = totals_are;
}
