-- The parts of a call as parts of its definition.
use Rattle.std.specs.Prelude.{◌≡◌, ◌==◌, refl, ℕ, ◌<◌, ◌^◌, Bool, true, false, ◌&&◌, if◌then◌else◌}
use Rattle.std.specs.Prelude.{List, [], ◌∷◌, length, map, Option, Some, None, option_map, Result}
use Rattle.std.specs.Prelude.{Ok, Err, IsErrAnd}
use Rattle.std.specs.List.{AllByRecursion, slice_get}
use Rattle.std.proofs.Common.{arith, ap, ap₂, sym, ◌∙◌, subst}
use Rattle.awk_types.specs.DataType.{DataType}
use Rattle.awk_types.specs.Datum as shown
use Rattle.awk_types.specs.Faults.{fault_of, fault_told, limit_fault}
use Rattle.awk_types.specs.Gives.{Told, Gives, refused_or, ◌or◌}
use Rattle.awk_types.specs.ItemLimit.{too_many}
use Rattle.awk_types.specs.Limit.{Limit, limit, limit_told, within, depth_limit, size_limit}
use Rattle.awk_types.specs.Simple.{simple, IsSimple}
use Rattle.awk_types.specs.Value.{Value}
use Rattle.awk_types.specs.declared.fault.Fault.{Fault}
use Rattle.awk_types.specs.declared.fault.Fault.TheVariants as fault
use Rattle.awk_types.specs.declared.limit.TypeFault.{TypeFault}
use Rattle.awk_types.specs.declared.limit.TypeFault.TheVariants as refused
use Rattle.awk_types.proofs.RefusalLaws.{Told-first, Told-same, refused_or-Ok, refused_or-Err}
use Rattle.awk_types.proofs.RefusalLaws.{or-assoc, or-both}
use Rattle.awk_types.proofs.SimpleLaws.{simple_stays}
use Rattle.awk_types.proofs.ItemLimits.{limit_kept}
use Rattle.awk_layout.specs.Datum.{datum_of, kept}
use Rattle.awk_layout.specs.Valid.{len}
use Rattle.awk_layout.specs.Layout.{Layout}
use Rattle.awk_layout.specs.Typing.{array_datum}
use Rattle.awk_layout.specs.declared.datum.Datum.{Datum}
use Rattle.awk_merge_operands.proofs.AnswerLaws.{first_rows}
use Rattle.awk_merge_operands.specs.Concatenate.{are_long, row_count, lengths_fault}
use Rattle.awk_merge_operands.specs.Operands.{column_in, rows_refused}
use Rattle.awk_merge_operands.specs.declared.operands.Axis.{Axis}
use Rattle.awk_merge_operands.specs.declared.operands.Axis.TheVariants.{Arrays, Rows}
use Rattle.awk_cartesian.specs.Cartesian.{item_types, product_type, product, product_by}
use Rattle.awk_cartesian.specs.Cartesian.{product_fault, product_values, cartesian_at}
use Rattle.awk_cartesian.specs.Products.{count_of, rows_fault, tuples_fault, counted_product}
use Rattle.awk_cartesian.specs.Sources.{rows_in, IsListed}
use Rattle.awk_cartesian.proofs.TypeLaws.{operand_columns, all_listed}

-- ---- what is told, in order

fault_parts : (axis : Axis) (places : Bool) (vss : List (List Value))
    → product_fault axis places vss ≡ (rows_fault axis vss or tuples_fault axis places vss)
fault_parts Arrays places vss = refl
fault_parts Rows places vss =
    sym (or-assoc (lengths_fault vss) (too_many (row_count vss)) (tuples_fault Rows places vss))

-- ---- a call whose operands have types

module _ (axis : Axis) (places : Bool) (ds : List Datum) (u : DataType)
    (e : Some u
    ≡ option_map (product_type axis places (map datum_of ds)) (item_types axis (map datum_of ds)))
  where
    abbrev vss : List (List Value)
    vss = map column_in ds

    whole : (o : Option (List DataType)) → item_types axis (map datum_of ds) ≡ o
        → Some u ≡ option_map (product_type axis places (map datum_of ds)) o
        → cartesian_at (Some axis) places (map datum_of ds) ≡ product axis places u vss
    whole None f g = absurd (cc)
    whole (Some ts) f g =
        let t : product_type axis places (map datum_of ds) ts ≡ u = cc in
        ap (product_by axis places (map datum_of ds)) f
        ∙ ap₂ (product axis places) t (operand_columns axis ds ts f)

    pub whole_is : cartesian_at (Some axis) places (map datum_of ds) ≡ product axis places u vss
    whole_is = whole (item_types axis (map datum_of ds)) refl e

    -- what the type passes is told first
    limit_first : (l : Option Limit) (rest : Option Fault) (f : TypeFault) (d : shown.Datum)
        → Told (limit_told f) (refused_or l u)
        → Told (fault_told (fault_of f)) (refused_or (option_map limit_fault l or rest) d)
    limit_first l rest refused.NoMemory d h = tt
    limit_first l rest refused.Depth d h =
        ap (λ m. refused_or (option_map limit_fault m or rest) d) (refused_or-Err l u depth_limit h)
    limit_first l rest refused.Size d h =
        ap (λ m. refused_or (option_map limit_fault m or rest) d) (refused_or-Err l u size_limit h)

    pub limit_gives : IsSimple u → (f : TypeFault) (r : Result Layout Fault)
        → IsErrAnd r (λ x. x ≡ fault_of f) → Told (limit_told f) (within (simple u))
        → Gives array_datum fault_told r (cartesian_at (Some axis) places (map datum_of ds))
    limit_gives s f (Ok y) h k = absurd h
    limit_gives s f (Err x) h k =
        subst (λ z. Told (fault_told z) (cartesian_at (Some axis) places (map datum_of ds))) (sym h)
        (subst (Told (fault_told (fault_of f))) (sym whole_is)
        (limit_first (limit u) (product_fault axis places vss) f
        (shown.arr u (product_values axis places vss))
        (subst (λ t. Told (limit_told f) (within t)) (simple_stays u s) k)))

    module _ (fine : limit u ≡ None) where
      after_limit : product axis places u vss
          ≡ refused_or (rows_fault axis vss or tuples_fault axis places vss)
          (shown.arr u (product_values axis places vss))
      after_limit =
          ap (λ l. refused_or (option_map limit_fault l or product_fault axis places vss)
          (shown.arr u (product_values axis places vss))) fine
          ∙ ap (λ f. refused_or f (shown.arr u (product_values axis places vss)))
          (fault_parts axis places vss)

      -- then what the rows are refused for
      pub rows_told : (o : Option Fault)
          → Told o (refused_or (rows_fault axis vss) (count_of axis vss))
          → Told o (cartesian_at (Some axis) places (map datum_of ds))
      rows_told o h =
          subst (Told o) (sym (whole_is ∙ after_limit))
          (Told-first o (rows_fault axis vss) (tuples_fault axis places vss) (count_of axis vss)
          (shown.arr u (product_values axis places vss)) h)

      -- then how many tuples there are
      pub counted_is : rows_fault axis vss ≡ None
          → counted_product axis places u vss ≡ cartesian_at (Some axis) places (map datum_of ds)
      counted_is n =
          sym (whole_is ∙ after_limit
          ∙ ap (λ f. refused_or (f or tuples_fault axis places vss)
          (shown.arr u (product_values axis places vss))) n)

-- ---- columns of operands

-- what the rows are refused for
pub rows_judged : (axis : Axis) (ds : List Datum) (d : Datum) (n : ℕ) → axis ≡ Rows
    → slice_get ds 0 ≡ Some d → n ≡ len (kept d) → (o : Option Fault)
    → Told o (refused_or (rows_refused n (map column_in ds)) (tt {0}))
    → Told o (refused_or (rows_fault axis (map column_in ds)) (count_of axis (map column_in ds)))
rows_judged axis ds d n a e m o h =
    let vss : List (List Value) = map column_in ds in
    Told-same o (rows_fault axis vss) (rows_refused n vss) (tt {0}) (count_of axis vss)
    (ap (λ a. rows_fault a vss) a
    ∙ ap (λ k. rows_refused k vss) (first_rows ds d e ∙ sym m)) h

-- the type within the limits
pub type_fine : (u t : DataType) → IsSimple u → within (simple u) ≡ Ok t
    → (limit t ≡ None) × (u ≡ t)
type_fine u t s e =
    let both = refused_or-Ok (limit (simple u)) (simple u) t e in
    (ap limit (sym both.1) ∙ both.0, sym (simple_stays u s) ∙ both.1)

pub listed_by : (axis : Axis) (places : Bool) (ds : List Datum) (u : DataType)
    → Some u ≡ option_map (product_type axis places (map datum_of ds))
    (item_types axis (map datum_of ds))
    → AllByRecursion (IsListed axis) ds
listed_by axis places ds u e = go (item_types axis (map datum_of ds)) refl e
  where
    go : (o : Option (List DataType)) → item_types axis (map datum_of ds) ≡ o
        → Some u ≡ option_map (product_type axis places (map datum_of ds)) o
        → AllByRecursion (IsListed axis) ds
    go None f g = absurd (cc)
    go (Some ts) f g = all_listed axis ds ts f

-- ---- rows that are not refused

is_long : (b : Bool) → (if b then None else Some fault.Lengths) ≡ None → b ≡ true
is_long true e = refl
is_long false e = absurd (cc)

each_long : (n : ℕ) (ds : List Datum) → are_long n (map column_in ds) ≡ true
    → AllByRecursion (λ d. length (rows_in Rows d) ≡ n) ds
each_long n [] e = tt
each_long n (d ∷ ds) e = go (length (column_in d) == n) refl e (λ g. each_long n ds g)
  where
    go : (b : Bool) → (length (column_in d) == n) ≡ b → (b && are_long n (map column_in ds)) ≡ true
        → (are_long n (map column_in ds) ≡ true
        → AllByRecursion (λ d. length (rows_in Rows d) ≡ n) ds)
        → AllByRecursion (λ d. length (rows_in Rows d) ≡ n) (d ∷ ds)
    go true f g h = (grind (arith, f), h g)
    go false f g h = absurd (cc)

each_one : (ds : List Datum) → AllByRecursion (λ d. length (rows_in Arrays d) ≡ 1) ds
each_one [] = tt
each_one (d ∷ ds) = (refl, each_one ds)

module _ (n : ℕ) (ds : List Datum) where
  pub rows_long : (axis : Axis) → rows_fault axis (map column_in ds) ≡ None
      → count_of axis (map column_in ds) ≡ n
      → AllByRecursion (λ d. length (rows_in axis d) ≡ n) ds
  rows_long Arrays e f =
      subst (λ m. AllByRecursion (λ d. length (rows_in Arrays d) ≡ m) ds) f (each_one ds)
  rows_long Rows e f =
      let vss : List (List Value) = map column_in ds in
      let both = or-both (lengths_fault vss) (too_many (row_count vss)) e in
      each_long n ds
      (sym (ap (λ m. are_long m vss) f) ∙ is_long (are_long (row_count vss) vss) both.0)

  pub rows_few : (axis : Axis) → rows_fault axis (map column_in ds) ≡ None
      → count_of axis (map column_in ds) ≡ n → n < 2 ^ 63
  rows_few Arrays e f = omega (arith, f)
  rows_few Rows e f =
      let vss : List (List Value) = map column_in ds in
      let both = or-both (lengths_fault vss) (too_many (row_count vss)) e in
      omega (arith, f, limit_kept (row_count vss) both.1)
