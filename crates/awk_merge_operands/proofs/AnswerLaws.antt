-- What the parts of joining answer, as parts of the whole.
use Rattle.std.proofs.Common.{◌≡◌, ◌∙◌, ◌+◌, ◌*◌, ◌==◌, ◌&&◌, ◌≤◌, ◌∷◌, [], ℕ, suc, Bool, true}
use Rattle.std.proofs.Common.{false, List, Option, Some, None, Result, Ok, Err, ap, ap₂, sym, subst}
use Rattle.std.proofs.Common.{refl, map, drop, length, slice_get, arith}
use Rattle.std.specs.Prelude.{if◌then◌else◌, option_map, IsErrAnd}
use Rattle.std.proofs.lemmas.List.{drop_all}
use Rattle.awk_base.proofs.Lists.{drop-get}
use Rattle.awk_types.proofs.RefusalLaws.{Told-first, refused_or-Ok, refused_or-Err, or-assoc}
use Rattle.awk_types.proofs.RefusalLaws.{or-both}
use Rattle.awk_types.specs.DataType.{DataType}
use Rattle.awk_types.specs.Datum as shown
use Rattle.awk_types.specs.Faults.{fault_of, fault_told, limit_fault}
use Rattle.awk_types.specs.Gives.{Told, Gives, refused_or, ◌or◌}
use Rattle.awk_types.specs.ItemLimit.{too_many}
use Rattle.awk_types.specs.Limit.{Limit, limit, limit_told, depth_limit, size_limit}
use Rattle.awk_types.specs.Value.{Value}
use Rattle.awk_types.specs.declared.fault.Fault.{Fault}
use Rattle.awk_types.specs.declared.fault.Fault.TheVariants as fault
use Rattle.awk_types.specs.declared.limit.TypeFault.{TypeFault}
use Rattle.awk_types.specs.declared.limit.TypeFault.TheVariants as refused
use Rattle.awk_layout.specs.Array.{IsArrayType}
use Rattle.awk_layout.specs.Datum.{datum_of, kept}
use Rattle.awk_layout.specs.Layout.{Layout}
use Rattle.awk_layout.specs.Typing.{array_datum}
use Rattle.awk_layout.specs.Valid.{len}
use Rattle.awk_layout.specs.declared.datum.Datum.{Datum}
use Rattle.awk_layout.proofs.ArrayItems.{length-array_items}
use Rattle.awk_columns.specs.Columns.{joined_items}
use Rattle.awk_unify.specs.Carry.{Carry}
use Rattle.awk_unify.specs.UnifyList.{UnificationList, UnifiesAll, unification_list, within_list}
use Rattle.awk_merge_operands.specs.Concatenate.{operand_types, operand_items, carried_columns}
use Rattle.awk_merge_operands.specs.Concatenate.{stacked, joined_rows, row_count, are_long}
use Rattle.awk_merge_operands.specs.Concatenate.{lengths_fault, values_fault, joined_values, joined}
use Rattle.awk_merge_operands.specs.Concatenate.{joined_as, concatenate_at}
use Rattle.awk_merge_operands.specs.Operands.{column_in, stacked_rows, rows_datum, rows_refused}
use Rattle.awk_merge_operands.specs.Operands.{joined_datum, AreLawful, AreCarriedOperands}
use Rattle.awk_merge_operands.specs.declared.operands.Axis.{Axis}
use Rattle.awk_merge_operands.specs.declared.operands.Axis.TheVariants.{Rows}
use Rattle.awk_merge_operands.proofs.OperandLaws.{length-lifts, operand_columns}
use Rattle.awk_merge_operands.proofs.StackLaws.{carried_long, carried_rows, length-carried_columns}
use Rattle.awk_merge_operands.proofs.StackLaws.{length-stacked, rows-stacked}

-- ---- the lengths of operands, one by one

pub long_next : (ds : List Datum) (i n : ℕ) (d : Datum) (all : Bool) → slice_get ds i ≡ Some d
    → length (column_in d) ≡ n → are_long n (map column_in (drop i ds)) ≡ all
    → are_long n (map column_in (drop (i + 1) ds)) ≡ all
long_next ds i n d all e f h =
    let same : (length (column_in d) == n) ≡ true = grind (arith, f) in
    sym (ap (λ xs. are_long n (map column_in xs)) (drop-get ds i d e)
    ∙ ap (λ b. b && are_long n (map column_in (drop (i + 1) ds))) same) ∙ h

pub long_fails : (ds : List Datum) (i n : ℕ) (d : Datum) (all : Bool) → slice_get ds i ≡ Some d
    → (length (column_in d) == n) ≡ false → are_long n (map column_in (drop i ds)) ≡ all
    → false ≡ all
long_fails ds i n d all e f h =
    sym (ap (λ xs. are_long n (map column_in xs)) (drop-get ds i d e)
    ∙ ap (λ b. b && are_long n (map column_in (drop (i + 1) ds))) f) ∙ h

pub long_last : (ds : List Datum) (i n : ℕ) (all : Bool) → length ds ≤ i
    → are_long n (map column_in (drop i ds)) ≡ all → true ≡ all
long_last ds i n all l h =
    sym (ap (λ xs. are_long n (map column_in xs)) (drop_all i ds l)) ∙ h

pub length-column : (d : Datum) → length (column_in d) ≡ len (kept d)
length-column d = length-array_items (kept d)

-- ---- rows

-- the first operand has as many items as all must have
pub first_rows : (ds : List Datum) (d : Datum) → slice_get ds 0 ≡ Some d
    → row_count (map column_in ds) ≡ len (kept d)
first_rows [] d e = absurd (cc)
first_rows (x ∷ ds) d e = let f : x ≡ d = cc in length-column x ∙ ap (λ y. len (kept y)) f

module _ (ds : List Datum) (fs : List Carry) (t : DataType) (n : ℕ)
    (c : AreCarriedOperands ds fs t) (r : row_count (map column_in ds) ≡ n) where
  abbrev columns : List (List Value)
  columns = carried_columns fs (map column_in ds)

  each : (xs : List Datum) → length (map column_in xs) ≡ length xs
  each [] = refl
  each (x ∷ xs) = ap suc (each xs)

  same_length : length fs ≡ length (map column_in ds)
  same_length = length-lifts ds fs t c ∙ sym (each ds)

  pub count-columns : length columns ≡ length ds
  count-columns = length-carried_columns fs (map column_in ds) same_length ∙ each ds

  rows-are : row_count columns ≡ n
  rows-are = carried_rows fs (map column_in ds) same_length ∙ r

  long-are : (m : ℕ) → are_long m columns ≡ are_long m (map column_in ds)
  long-are m = carried_long fs (map column_in ds) m same_length

  refused-are : (lengths_fault columns or too_many (row_count columns))
      ≡ rows_refused n (map column_in ds)
  refused-are =
      ap (λ m. (if are_long m columns then None else Some fault.Lengths) or too_many m) rows-are
      ∙ ap (λ b. (if b then None else Some fault.Lengths) or too_many n) (long-are n)

  -- where the rows are refused
  pub rows_told_first : (o : Option Fault)
      → Told o (refused_or (rows_refused n (map column_in ds)) (tt {0}))
      → Told o (joined_datum Rows t columns)
  rows_told_first o h =
      subst (λ f. Told o (refused_or f (shown.arr t (joined_rows columns))))
      (or-assoc (lengths_fault columns) (too_many (row_count columns))
      (too_many (length (joined_items (joined_rows columns)))))
      (Told-first o (lengths_fault columns or too_many (row_count columns))
      (too_many (length (joined_items (joined_rows columns)))) (tt {0})
      (shown.arr t (joined_rows columns))
      (subst (λ f. Told o (refused_or f (tt {0}))) (sym refused-are) h))

  module _ (none : rows_refused n (map column_in ds) ≡ None) where
    fine : (lengths_fault columns ≡ None) × (too_many (row_count columns) ≡ None)
    fine = or-both (lengths_fault columns) (too_many (row_count columns)) (refused-are ∙ none)

    is_long : (b : Bool) → (if b then None else Some fault.Lengths) ≡ None → b ≡ true
    is_long true e = refl
    is_long false e = absurd (cc)

    all_long : are_long n columns ≡ true
    all_long =
        sym (ap (λ m. are_long m columns) rows-are)
        ∙ is_long (are_long (row_count columns) columns) fine.0

    pub length-joined : length (stacked columns) ≡ length ds * n
    length-joined = length-stacked columns n all_long ∙ ap (λ m. m * n) count-columns

    pub rows_gives : rows_datum t (stacked_rows n (length ds) (stacked columns))
        ≡ joined_datum Rows t columns
    rows_gives =
        ap (λ k. rows_datum t (stacked_rows n k (stacked columns))) (sym count-columns)
        ∙ ap (rows_datum t) (rows-stacked columns n (sym rows-are) all_long)
        ∙ sym (ap (λ f. refused_or f (shown.arr t (joined_rows columns)))
        (ap₂ (λ a b. a or b or too_many (length (joined_items (joined_rows columns)))) fine.0
        fine.1))

-- ---- types

limit_first : (l : Option Limit) (rest : Option Fault) (e : TypeFault) (u : UnificationList)
    (d : shown.Datum) → Told (limit_told e) (refused_or l u)
    → Told (fault_told (fault_of e)) (refused_or (option_map limit_fault l or rest) d)
limit_first l rest refused.NoMemory u d h = tt
limit_first l rest refused.Depth u d h =
    ap (λ m. refused_or (option_map limit_fault m or rest) d) (refused_or-Err l u depth_limit h)
limit_first l rest refused.Size u d h =
    ap (λ m. refused_or (option_map limit_fault m or rest) d) (refused_or-Err l u size_limit h)

module _ (axis : Axis) (ds : List Datum) (ts : List DataType)
    (e : operand_types axis (map datum_of ds) ≡ Some ts) where
  whole_is : concatenate_at (Some axis) (map datum_of ds)
      ≡ joined axis (unification_list ts) (map column_in ds)
  whole_is =
      ap₂ (λ o vss. joined_as axis o vss) e (operand_columns axis ds ts e)

  pub told_by_limit : (f : TypeFault) → Told (limit_told f) (within_list (unification_list ts))
      → Told (fault_told (fault_of f)) (concatenate_at (Some axis) (map datum_of ds))
  told_by_limit f h =
      let u : UnificationList = unification_list ts in
      subst (Told (fault_told (fault_of f))) (sym whole_is)
      (limit_first (limit u.typ) (values_fault axis (carried_columns u.lifts (map column_in ds))) f
      u
      (shown.arr u.typ (joined_values axis (carried_columns u.lifts (map column_in ds)))) h)

  pub joined_is : (t : DataType) (fs : List Carry)
      → within_list (unification_list ts) ≡ Ok (record { typ = t; lifts = fs })
      → joined_datum axis t (carried_columns fs (map column_in ds))
      ≡ concatenate_at (Some axis) (map datum_of ds)
  joined_is t fs h =
      let u : UnificationList = unification_list ts in
      let both = refused_or-Ok (limit u.typ) u (record { typ = t; lifts = fs }) h in
      let whole : (v : UnificationList) → u ≡ v
      → joined axis u (map column_in ds) ≡ joined_datum axis v.typ
      (carried_columns v.lifts (map column_in ds)) =
      λ v f. ap (λ l. refused_or (option_map limit_fault l
      or values_fault axis (carried_columns u.lifts (map column_in ds)))
      (shown.arr u.typ (joined_values axis (carried_columns u.lifts (map column_in ds))))) both.0
      ∙ ap (λ w. joined_datum axis w.typ (carried_columns w.lifts (map column_in ds))) f in
      sym (whole_is ∙ whole (record { typ = t; lifts = fs }) both.1)

pub none_joined : (axis : Axis) (ds : List Datum) → operand_types axis (map datum_of ds) ≡ None
    → concatenate_at (Some axis) (map datum_of ds) ≡ Err fault.Axis
none_joined axis ds e = ap (λ o. joined_as axis o (map operand_items (map datum_of ds))) e

pub array_type_is : (ts : List DataType) (u : UnificationList) → AreLawful ts → UnifiesAll ts u
    → limit u.typ ≡ None → IsArrayType u.typ
array_type_is ts u h l n = record {
  is_type = l.is_type h.are_types;
  is_simple = l.is_simple h.are_simple;
  within_limits = n;
}

-- a call that fails as the type is refused
pub limit_gives : (axis : Axis) (ds : List Datum) (ts : List DataType)
    → operand_types axis (map datum_of ds) ≡ Some ts → (f : TypeFault) (r : Result Layout Fault)
    → IsErrAnd r (λ e. e ≡ fault_of f) → Told (limit_told f) (within_list (unification_list ts))
    → Gives array_datum fault_told r (concatenate_at (Some axis) (map datum_of ds))
limit_gives axis ds ts e f (Ok y) h k = absurd h
limit_gives axis ds ts e f (Err x) h k =
    subst (λ z. Told (fault_told z) (concatenate_at (Some axis) (map datum_of ds))) (sym h)
    (told_by_limit axis ds ts e f k)
