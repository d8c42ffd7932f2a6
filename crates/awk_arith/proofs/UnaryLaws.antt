-- What an operation on one datum answers, where all its ends are leaves.
use Rattle.std.proofs.Common.{◌≡◌, ◌<◌, Bool, true, false, not, ap, sym, subst, ◌∙◌, arith}
use Rattle.std.specs.Prelude.{List, [], ◌∷◌, map, length, slice_get, Option, Some, None, Result, Ok}
use Rattle.std.specs.Prelude.{Err, if◌then◌else◌}
use Rattle.std.proofs.lemmas.Simd.{map-map}
use Rattle.awk_types.specs.DataType.{DataType}
use Rattle.awk_types.specs.Datum.{Datum, datum_type}
use Rattle.awk_types.specs.Faults.{fault_told, limit_refused}
use Rattle.awk_types.specs.Gives.{Told, refused_or}
use Rattle.awk_types.specs.Predicates.{is_leaf}
use Rattle.awk_types.specs.Value.{Value}
use Rattle.awk_types.specs.declared.fault.Fault.{Fault}
use Rattle.awk_types.specs.declared.primitive.Primitive.{Primitive}
use Rattle.awk_types.proofs.RefusalLaws.{refused_or-Ok}
use Rattle.awk_columns.specs.Columns.{part_at}
use Rattle.awk_columns.specs.Parts.{AreParts}
use Rattle.awk_lanes.specs.Column.{Column}
use Rattle.awk_layout.specs.Datum.{datum_of}
use Rattle.awk_layout.specs.Layout.{Layout, flat}
use Rattle.awk_layout.specs.Typing.{array_type, array_items}
use Rattle.awk_layout.specs.Valid.{len}
use Rattle.awk_layout.specs.declared.datum.Datum.TheVariants.{Arr, One}
use Rattle.awk_layout.specs.declared.datum.Operand.{Operand}
use Rattle.awk_leaves.specs.Table.{unary_judged}
use Rattle.awk_leaves.specs.Values.{unary_at, unary_values, all_values, in_judged}
use Rattle.awk_leaves.specs.declared.operation.Unary.{Unary}
use Rattle.awk_pair_operands.specs.Answer.{single_or_fault, shared_ends}
use Rattle.awk_pair_operands.specs.First.{all_data}
use Rattle.awk_pair_operands.specs.Pairs.{has_wrong_end, leaf_types, pair_refused, some_array}
use Rattle.awk_pointwise.specs.Sides.{lane_values}
use Rattle.awk_ends.specs.Operands.{leaf_in, in_primitive}
use Rattle.awk_ends.proofs.ColumnLaws.{AreEnds, ends-count, ends-leaf, parts-at}
use Rattle.awk_ends.proofs.LaneLaws.{column_is}
use Rattle.awk_arith.specs.AtLeaves.{at_leaves, result_type, row_values, value_or_null, first_fault}
use Rattle.awk_arith.specs.Unary.{unary_row, judged_unary}
use Rattle.awk_arith.proofs.AnswerLaws.{told_type, told_pair, told_leaves, IsResult, made}
use Rattle.awk_arith.proofs.ColumnLaws.{ends-long}
use Rattle.awk_arith.proofs.ResultLaws.{Told-fault, all_values-is}
use Rattle.awk_arith.proofs.SideLaws.{leaves-at}
use Rattle.awk_arith.proofs.UnderLaws.{result_is, no_fault, lane_items, lane_size}

module _ (op : Unary) (d : Datum) where
  -- what the type tells
  pub told_primitive : (e : Fault) → Err e ≡ unary_judged op (leaf_in (datum_type d))
      → Told (fault_told e) (judged_unary op d)
  told_primitive e h =
      Told-fault e (judged_unary op d)
      (ap (λ j. in_primitive j (λ p. at_leaves p (unary_row op p) (d ∷ []))) (sym h))

  pub judged-is : (p : Primitive) (ds : List Datum)
      → unary_judged op (leaf_in (datum_type d)) ≡ Ok p → ds ≡ d ∷ []
      → judged_unary op d ≡ at_leaves p (unary_row op p) ds
  judged-is p ds e given =
      ap (λ j. in_primitive j (λ q. at_leaves q (unary_row op q) (d ∷ []))) e
      ∙ ap (at_leaves p (unary_row op p)) (sym given)

-- a column at the ends of one datum
pub record IsSingle (d : Datum) (es : List Value) (y : Layout) : Type 0 where
  pub leaf : is_leaf (array_type y) ≡ true
  pub typ : leaf_in (array_type y) ≡ leaf_in (datum_type d)
  pub items : array_items y ≡ map (part_at 0) es

-- the results of leaves, as those of rows
rows_said : (op : Unary) (p : Primitive) (d : Datum) (es : List Value) (y : Layout)
    → unary_judged op (leaf_in (datum_type d)) ≡ Ok p → IsSingle d es y
    → unary_values op (leaf_in (array_type y)) (array_items y)
    ≡ refused_or (first_fault (map (unary_row op p) es))
    (map value_or_null (map (unary_row op p) es))
rows_said op p d es y judged s =
    ap (λ j. in_judged j (λ q. all_values (map (unary_at op q) (array_items y))))
    (ap (unary_judged op) s.typ ∙ judged)
    ∙ ap (λ vs. all_values (map (unary_at op p) vs)) s.items
    ∙ ap all_values (map-map (unary_at op p) (part_at 0) es)
    ∙ all_values-is (map (unary_row op p) es)

module _ (op : Unary) (d : Datum) (xs : List Operand) (p : Primitive)
    (given : all_data xs ≡ d ∷ [])
    (judged : unary_judged op (leaf_in (datum_type d)) ≡ Ok p) where
  abbrev row : Value → Result Value Fault
  row = unary_row op p

  abbrev rows_ends : List Value
  rows_ends = shared_ends false None (all_data xs)

  abbrev type_said : Result DataType Fault
  type_said =
      refused_or (limit_refused (result_type p (all_data xs))) (result_type p (all_data xs))

  -- the results of the leaves of a column
  abbrev leaves_said : Layout → Result (List Value) Fault
  leaves_said y = unary_values op (leaf_in (array_type y)) (array_items y)

  pub told_limit : (o : Option Fault) → Told o type_said → Told o (judged_unary op d)
  told_limit o h =
      subst (Told o) (sym (judged-is op d p (all_data xs) judged given))
      (told_type p row (all_data xs) o h)

  pub told_paired : (o : Option Fault) (t : DataType) → type_said ≡ Ok t
      → Told o (single_or_fault false None (all_data xs)) → Told o (judged_unary op d)
  told_paired o t limit h =
      subst (Told o) (sym (judged-is op d p (all_data xs) judged given))
      (told_pair p row (all_data xs) o
      (refused_or-Ok (limit_refused (result_type p (all_data xs))) (result_type p (all_data xs)) t
      limit).0 h)

  columns : (ys : List Layout) → AreParts 0 rows_ends ys
      → map array_type ys ≡ leaf_types None (all_data xs) → AreEnds None (d ∷ []) rows_ends ys
  columns ys parts types = record {
    parts = parts;
    types = types ∙ ap (leaf_types None) given;
  }

  pub some_column : (ys : List Layout) → AreParts 0 rows_ends ys
      → map array_type ys ≡ leaf_types None (all_data xs) → 0 < length ys
  some_column ys parts types =
      omega (arith, ends-count None (d ∷ []) rows_ends ys (columns ys parts types))

  pub column : (ys : List Layout) (y : Layout) → AreParts 0 rows_ends ys
      → map array_type ys ≡ leaf_types None (all_data xs)
      → has_wrong_end None (all_data xs) ≡ false → slice_get ys 0 ≡ Some y
      → IsSingle d rows_ends y
  column ys y parts types right at =
      let ends : AreEnds None (d ∷ []) rows_ends ys = columns ys parts types in
      subst (IsSingle d rows_ends) (column_is ys 0 y at) (record {
        leaf = (leaves-at (length rows_ends) ys 0
            (ends-long (d ∷ []) rows_ends ys ends (sym (ap (has_wrong_end None) given) ∙ right))
            (some_column ys parts types)).1;
        typ = ends-leaf None (d ∷ []) rows_ends ys 0 ends;
        items = parts-at rows_ends 0 ys 0 ends.parts (some_column ys parts types);
      })

  pub column_judged : (y : Layout) → IsSingle d rows_ends y
      → unary_judged op (leaf_in (array_type y)) ≡ Ok p
  column_judged y s = ap (unary_judged op) s.typ ∙ judged

  pub told_rows : (o : Option Fault) (t : DataType) (single : Bool) (y : Layout)
      → type_said ≡ Ok t → single_or_fault false None (all_data xs) ≡ Ok single
      → IsSingle d rows_ends y → Told o (leaves_said y) → Told o (judged_unary op d)
  told_rows o t single y limit paired s h =
      subst (Told o) (sym (judged-is op d p (all_data xs) judged given))
      (told_leaves p row (all_data xs) o (map value_or_null (map row rows_ends))
      (refused_or-Ok (limit_refused (result_type p (all_data xs))) (result_type p (all_data xs)) t
      limit).0
      (refused_or-Ok (pair_refused false None (all_data xs)) (not (some_array (all_data xs))) single
      paired).0
      (subst (Told o) (rows_said op p d rows_ends y judged s) h))

  module _ (y : Layout) (lane : Column) (s : IsSingle d rows_ends y)
      (said : leaves_said y ≡ Ok (lane_values lane)) where
    rows_are : refused_or (first_fault (map row rows_ends))
        (map value_or_null (map row rows_ends)) ≡ Ok (lane_values lane)
    rows_are = sym (rows_said op p d rows_ends y judged s) ∙ said

    pub lane_is : array_items (flat lane) ≡ map (λ v. value_or_null (row v)) rows_ends
    lane_is = lane_items row rows_ends lane rows_are

    pub lane_long : len (flat lane) ≡ length rows_ends
    lane_long = lane_size row rows_ends lane rows_are

    pub result : (single : Bool) (t : DataType) (node : Layout) → type_said ≡ Ok t
        → single_or_fault false None (all_data xs) ≡ Ok single
        → array_type node ≡ result_type p (all_data xs)
        → array_items node ≡ row_values row (all_data xs)
        → IsResult p row (all_data xs) single node
    result single t node limit paired typ items =
        result_is p row (all_data xs) single t node limit paired
        (no_fault row rows_ends lane rows_are) typ items

  pub answer : (single : Bool) (node : Layout) → IsResult p row (all_data xs) single node
      → judged_unary op d ≡ Ok (datum_of (if single then One node else Arr node))
  answer single node h =
      judged-is op d p (all_data xs) judged given ∙ made p row (all_data xs) single node h
