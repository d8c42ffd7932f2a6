-- What an operation on two operands answers, by its parts.
use Rattle.std.proofs.Common.{◌≡◌, true, false, ap, sym, ◌∙◌}
use Rattle.std.specs.Prelude.{List, map, length, None, Result, Ok, Err, if◌then◌else◌}
use Rattle.awk_types.specs.Datum.{Datum}
use Rattle.awk_types.specs.Faults.{fault_told}
use Rattle.awk_types.specs.Gives.{Told, refused_or}
use Rattle.awk_types.specs.Value.{Value}
use Rattle.awk_types.specs.declared.fault.Fault.{Fault}
use Rattle.awk_types.specs.declared.fault.Fault.TheVariants.{WrongType}
use Rattle.awk_types.specs.declared.primitive.Primitive.{Primitive}
use Rattle.awk_layout.specs.Filler.{Filler, filler_of}
use Rattle.awk_layout.specs.Layout.{Layout}
use Rattle.awk_layout.specs.declared.datum.Operand.{Operand}
use Rattle.awk_leaves.specs.Table.{binary_judged}
use Rattle.awk_leaves.specs.Values.{binary_values}
use Rattle.awk_leaves.specs.declared.operation.Binary.{Binary}
use Rattle.awk_pair_operands.specs.Pairs.{has_wrong_end}
use Rattle.awk_ends.specs.Operands.{in_primitive, data_in, leaf_of, at_end, both_data}
use Rattle.awk_ends.specs.Columns.{leaf_at, values_at, data_before, ends_of}
use Rattle.awk_arith.specs.AtLeaves.{at_leaves, first_fault, value_or_null}
use Rattle.awk_arith.specs.Binary.{binary_row, judged_binary, binary_of}
use Rattle.awk_arith.proofs.ColumnLaws.{AreSides}
use Rattle.awk_arith.proofs.ResultLaws.{Told-fault, binary_values-rows}

module _ (op : Binary) (a b : Filler) where
  -- what the types tell
  pub told_primitive : (r : Result Primitive Fault) (e : Fault) → r ≡ Err e
      → r ≡ binary_judged op (leaf_of a) (leaf_of b)
      → Told (fault_told e) (judged_binary op a b)
  told_primitive r e is h =
      Told-fault e (judged_binary op a b)
      (ap (λ j. in_primitive j (λ p. at_leaves p (binary_row op p a b) (both_data a b)))
      (sym h ∙ is))

  pub judged-is : (p : Primitive) (ds : List Datum)
      → binary_judged op (leaf_of a) (leaf_of b) ≡ Ok p
      → ds ≡ both_data a b → judged_binary op a b ≡ at_leaves p (binary_row op p a b) ds
  judged-is p ds e given =
      ap (λ j. in_primitive j (λ q. at_leaves q (binary_row op q a b) (both_data a b))) e
      ∙ ap (at_leaves p (binary_row op p a b)) (sym given)

  -- what the ends tell
  pub wrong_end : (ds : List Datum) → ds ≡ both_data a b → has_wrong_end None ds ≡ true
      → binary_of op a b ≡ Err WrongType
  wrong_end ds given e =
      ap (λ w. if w then Err WrongType else judged_binary op a b)
      (ap (has_wrong_end None) (sym given) ∙ e)

  pub right_ends : (ds : List Datum) → ds ≡ both_data a b → has_wrong_end None ds ≡ false
      → judged_binary op a b ≡ binary_of op a b
  right_ends ds given e =
      sym (ap (λ w. if w then Err WrongType else judged_binary op a b)
      (ap (has_wrong_end None) (sym given) ∙ e))

pub sides_judged : (op : Binary) (p : Primitive) (x y : Operand) (es : List Value)
    (ys : List Layout)
    → binary_judged op (leaf_of (filler_of x)) (leaf_of (filler_of y)) ≡ Ok p
    → AreSides x y es ys → binary_judged op (leaf_at x 0 ys) (leaf_at y (data_before x) ys) ≡ Ok p
sides_judged op p x y es ys judged s =
    ap (λ a. binary_judged op a (leaf_at y (data_before x) ys)) s.first_leaf
    ∙ ap (λ b. binary_judged op (leaf_of (filler_of x)) b) s.second_leaf ∙ judged

-- the results of two operands' leaves, as those of rows
pub rows_said : (op : Binary) (p : Primitive) (x y : Operand) (es : List Value)
    (ys : List Layout) → binary_judged op (leaf_of (filler_of x)) (leaf_of (filler_of y)) ≡ Ok p
    → AreSides x y es ys
    → binary_values op (leaf_at x 0 ys) (leaf_at y (data_before x) ys)
    (values_at (ends_of ys) x 0 ys) (values_at (ends_of ys) y (data_before x) ys)
    ≡ refused_or (first_fault (map (binary_row op p (filler_of x) (filler_of y)) es))
    (map value_or_null (map (binary_row op p (filler_of x) (filler_of y)) es))
rows_said op p x y es ys judged s =
    binary_values-rows op p (leaf_at x 0 ys) (leaf_at y (data_before x) ys)
    (at_end (filler_of x) 0) (at_end (filler_of y) (length (data_in (filler_of x)))) es
    (values_at (ends_of ys) x 0 ys) (values_at (ends_of ys) y (data_before x) ys)
    (sides_judged op p x y es ys judged s) s.first_values s.second_values
