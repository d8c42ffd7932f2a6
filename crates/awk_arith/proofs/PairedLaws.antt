-- What an operation on operands answers, where some are data and all ends are leaves.
use Rattle.std.proofs.Common.{◌≡◌, ◌<◌, Bool, false, not, ap, sym, subst, ◌∙◌, arith}
use Rattle.std.specs.Prelude.{List, map, length, Option, None, Result, Ok, if◌then◌else◌}
use Rattle.std.proofs.lemmas.List.{length-map}
use Rattle.awk_types.specs.DataType.{DataType}
use Rattle.awk_types.specs.Faults.{limit_refused}
use Rattle.awk_types.specs.Gives.{Told, refused_or}
use Rattle.awk_types.specs.Value.{Value}
use Rattle.awk_types.specs.declared.fault.Fault.{Fault}
use Rattle.awk_types.specs.declared.primitive.Primitive.{Primitive}
use Rattle.awk_types.proofs.RefusalLaws.{refused_or-Ok}
use Rattle.awk_columns.specs.Parts.{AreParts}
use Rattle.awk_lanes.specs.Column.{Column}
use Rattle.awk_layout.specs.Datum.{datum_of}
use Rattle.awk_layout.specs.Filler.{filler_of}
use Rattle.awk_layout.specs.Layout.{Layout, flat}
use Rattle.awk_layout.specs.Single.{own_datum}
use Rattle.awk_layout.specs.Typing.{array_type, array_items}
use Rattle.awk_layout.specs.Valid.{len}
use Rattle.awk_layout.specs.declared.datum.Datum.TheVariants.{Arr, One}
use Rattle.awk_layout.specs.declared.datum.Operand.{Operand}
use Rattle.awk_leaves.specs.Table.{binary_judged}
use Rattle.awk_leaves.specs.Values.{binary_values}
use Rattle.awk_leaves.specs.declared.operation.Binary.{Binary}
use Rattle.awk_pair_operands.specs.Answer.{single_or_fault, shared_ends}
use Rattle.awk_pair_operands.specs.First.{all_data}
use Rattle.awk_pair_operands.specs.Pairs.{has_wrong_end, leaf_types, pair_refused, some_array}
use Rattle.awk_pointwise.specs.Sides.{lane_values}
use Rattle.awk_ends.specs.Operands.{leaf_of, both_data}
use Rattle.awk_ends.specs.Columns.{leaf_at, values_at, data_before, ends_of}
use Rattle.awk_ends.proofs.ColumnLaws.{AreEnds, ends-count}
use Rattle.awk_arith.specs.AtLeaves.{result_type, row_values, value_or_null, first_fault}
use Rattle.awk_arith.specs.Binary.{binary_row, judged_binary}
use Rattle.awk_arith.proofs.AnswerLaws.{told_type, told_pair, told_leaves, IsResult, made}
use Rattle.awk_arith.proofs.BinaryLaws.{judged-is, rows_said, sides_judged}
use Rattle.awk_arith.proofs.ColumnLaws.{AreSides, sides}
use Rattle.awk_arith.proofs.UnderLaws.{result_is, no_fault, lane_items, lane_size}

module _ (op : Binary) (x y : Operand) (xs : List Operand) (p : Primitive)
    (given : all_data xs ≡ both_data (filler_of x) (filler_of y))
    (judged : binary_judged op (leaf_of (filler_of x)) (leaf_of (filler_of y)) ≡ Ok p) where
  abbrev row : Value → Result Value Fault
  row = binary_row op p (filler_of x) (filler_of y)

  abbrev rows_ends : List Value
  rows_ends = shared_ends false None (all_data xs)

  abbrev type_said : Result DataType Fault
  type_said =
      refused_or (limit_refused (result_type p (all_data xs))) (result_type p (all_data xs))

  -- the results of the leaves in columns
  abbrev leaves_said : List Layout → Result (List Value) Fault
  leaves_said ys =
      binary_values op (leaf_at x 0 ys) (leaf_at y (data_before x) ys)
      (values_at (ends_of ys) x 0 ys) (values_at (ends_of ys) y (data_before x) ys)

  pub told_limit : (o : Option Fault) → Told o type_said
      → Told o (judged_binary op (filler_of x) (filler_of y))
  told_limit o h =
      subst (Told o) (sym (judged-is op (filler_of x) (filler_of y) p (all_data xs) judged given))
      (told_type p row (all_data xs) o h)

  pub told_paired : (o : Option Fault) (t : DataType) → type_said ≡ Ok t
      → Told o (single_or_fault false None (all_data xs))
      → Told o (judged_binary op (filler_of x) (filler_of y))
  told_paired o t limit h =
      subst (Told o) (sym (judged-is op (filler_of x) (filler_of y) p (all_data xs) judged given))
      (told_pair p row (all_data xs) o
      (refused_or-Ok (limit_refused (result_type p (all_data xs))) (result_type p (all_data xs)) t
      limit).0 h)

  pub columns : (ys : List Layout) → AreParts 0 rows_ends ys
      → map array_type ys ≡ leaf_types None (all_data xs) → 0 < length xs
      → has_wrong_end None (all_data xs) ≡ false → AreSides x y rows_ends ys
  columns ys parts types some right =
      let ends : AreEnds None (both_data (filler_of x) (filler_of y)) rows_ends ys = record {
        parts = parts;
        types = types ∙ ap (leaf_types None) given;
      } in
      sides rows_ends ys x y ends (sym (ap (has_wrong_end None) given) ∙ right)
      (omega (
        arith,
        some,
        length-map xs own_datum,
        ap length given,
        ends-count None (both_data (filler_of x) (filler_of y)) rows_ends ys ends,
      ))

  pub columns_judged : (ys : List Layout) → AreSides x y rows_ends ys
      → binary_judged op (leaf_at x 0 ys) (leaf_at y (data_before x) ys) ≡ Ok p
  columns_judged ys s = sides_judged op p x y rows_ends ys judged s

  pub told_rows : (o : Option Fault) (t : DataType) (single : Bool) (ys : List Layout)
      → type_said ≡ Ok t → single_or_fault false None (all_data xs) ≡ Ok single
      → AreSides x y rows_ends ys → Told o (leaves_said ys)
      → Told o (judged_binary op (filler_of x) (filler_of y))
  told_rows o t single ys limit paired s h =
      subst (Told o) (sym (judged-is op (filler_of x) (filler_of y) p (all_data xs) judged given))
      (told_leaves p row (all_data xs) o (map value_or_null (map row rows_ends))
      (refused_or-Ok (limit_refused (result_type p (all_data xs))) (result_type p (all_data xs)) t
      limit).0
      (refused_or-Ok (pair_refused false None (all_data xs)) (not (some_array (all_data xs))) single
      paired).0
      (subst (Told o) (rows_said op p x y rows_ends ys judged s) h))

  module _ (ys : List Layout) (lane : Column) (s : AreSides x y rows_ends ys)
      (said : leaves_said ys ≡ Ok (lane_values lane)) where
    rows_are : refused_or (first_fault (map row rows_ends))
        (map value_or_null (map row rows_ends)) ≡ Ok (lane_values lane)
    rows_are = sym (rows_said op p x y rows_ends ys judged s) ∙ said

    pub lane_is : array_items (flat lane) ≡ map (λ v. value_or_null (row v)) rows_ends
    lane_is = lane_items row rows_ends lane rows_are

    pub lane_long : len (flat lane) ≡ length rows_ends
    lane_long = lane_size row rows_ends lane rows_are

    pub result : (single : Bool) (t : DataType) (node : Layout) → type_said ≡ Ok t
        → single_or_fault false None (all_data xs) ≡ Ok single
        → array_type node ≡ result_type p (all_data xs)
        → array_items node ≡ row_values row (all_data xs)
        → IsResult p row (all_data xs) single node
    result single t node limit paired typ items =
        result_is p row (all_data xs) single t node limit paired (no_fault row rows_ends lane
        rows_are) typ items

  pub answer : (single : Bool) (node : Layout) → IsResult p row (all_data xs) single node
      → judged_binary op (filler_of x) (filler_of y)
      ≡ Ok (datum_of (if single then One node else Arr node))
  answer single node h =
      judged-is op (filler_of x) (filler_of y) p (all_data xs) judged given
      ∙ made p row (all_data xs) single node h
