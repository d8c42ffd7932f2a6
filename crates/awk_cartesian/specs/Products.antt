-- The node of the tuples of operands, and what is told of them where their rows are judged.
use Rattle.std.specs.Prelude.{◌≡◌, ℕ, ◌+◌, Bool, List, length, Option, Some, None, Result}
use Rattle.awk_types.specs.DataType.{DataType}
use Rattle.awk_types.specs.Datum.{Datum, arr}
use Rattle.awk_types.specs.Gives.{refused_or, ◌or◌}
use Rattle.awk_types.specs.ItemLimit.{too_many}
use Rattle.awk_types.specs.Value.{Value}
use Rattle.awk_types.specs.declared.fault.Fault.{Fault}
use Rattle.awk_lanes.specs.Column.{Column}
use Rattle.awk_lanes.specs.Places.{size_of, IsOptionalIndex}
use Rattle.awk_layout.specs.Layout.{Layout, offset_lists, optional}
use Rattle.awk_columns.specs.Columns.{joined_items}
use Rattle.awk_merge_operands.specs.Concatenate.{row_count, lengths_fault}
use Rattle.awk_merge_operands.specs.declared.operands.Axis.{Axis}
use Rattle.awk_merge_operands.specs.declared.operands.Axis.TheVariants.{Arrays, Rows}
use Rattle.awk_cartesian.specs.Cartesian.{rows_tuples, product_values}
use Rattle.awk_products.specs.Tuples.{tuples_of}
use Rattle.awk_products.specs.declared.tuples.Tuples.{Tuples}

-- an index over the lists that offsets tell
abbrev pub IsIndexOf : Option Column → Column → Type 0
IsIndexOf None o = Unit {0}
IsIndexOf (Some j) o = (size_of o ≡ size_of j + 1) × IsOptionalIndex j (size_of j)

abbrev pub row_node : Option Column → Tuples → Layout
row_node None t = offset_lists t.offsets t.node
row_node (Some j) t = optional j (offset_lists t.offsets t.node)

abbrev pub product_node : Axis → Option Column → Tuples → Layout
product_node Arrays index t = t.node
product_node Rows index t = row_node index t

-- how many rows there are, and what is told of them before a tuple is counted
abbrev pub count_of : Axis → List (List Value) → ℕ
count_of Arrays vss = 1
count_of Rows vss = row_count vss

abbrev pub rows_fault : Axis → List (List Value) → Option Fault
rows_fault Arrays vss = None
rows_fault Rows vss = lengths_fault vss or too_many (row_count vss)

-- what is told of how many tuples there are
abbrev pub tuples_fault : Axis → Bool → List (List Value) → Option Fault
tuples_fault Arrays places vss = too_many (length (tuples_of places vss))
tuples_fault Rows places vss = too_many (length (joined_items (rows_tuples places vss)))

abbrev pub counted_product : Axis → Bool → DataType → List (List Value) → Result Datum Fault
counted_product axis places t vss =
    refused_or (tuples_fault axis places vss) (arr t (product_values axis places vss))
