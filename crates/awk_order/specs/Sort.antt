-- Each innermost list in order, and the places of its items in order.
use Rattle.std.specs.Prelude.{ℕ, pos, Bool, List, length, map, sum, Some, None, Result}
use Rattle.std.specs.Prelude.{if◌then◌else◌}
use Rattle.awk_types.specs.DataType.{DataType, leaf}
use Rattle.awk_types.specs.Datum.{Datum}
use Rattle.awk_types.specs.Predicates.{is_leaf}
use Rattle.awk_types.specs.Simple.{present}
use Rattle.awk_types.specs.Value.{Value, int}
use Rattle.awk_types.specs.declared.fault.Fault.{Fault}
use Rattle.awk_types.specs.declared.primitive.Primitive.TheVariants.{I64}
use Rattle.awk_list_functions.specs.Lifting.{deep}
use Rattle.awk_list_functions.specs.ListFunction.{ListFunction, lists}
use Rattle.awk_list_functions.specs.Spoils.{too_many}
use Rattle.awk_list_functions.specs.declared.causes.Refusal.TheVariants as refused
use Rattle.awk_order.specs.Order.{item_order, items_in_order}

-- the places of a list's items in order, as items
abbrev pub place_items : Bool → List Value → List Value
place_items up vs = map (λ (p : ℕ). int (pos p)) (item_order up vs)

-- lists of leaves keep their class, and every list of the operand is counted
abbrev pub leaf_lists : (DataType → DataType) → (List Value → List Value) → ListFunction
leaf_lists typ items = record {
  refusal = λ t. if is_leaf (present t) then None else Some refused.WrongType;
  giving = lists (λ class. class) typ (λ t vs. items vs);
  spoil = λ t ls. too_many (sum (map length ls));
}

abbrev pub sort_function : Bool → ListFunction
sort_function up = leaf_lists (λ t. t) (items_in_order up)

abbrev pub argsort_function : Bool → ListFunction
argsort_function up = leaf_lists (λ t. leaf I64) (place_items up)

-- the items of each innermost list in order
abbrev pub sort_of : Bool → Datum → Result Datum Fault
sort_of up d = deep (sort_function up) d

-- the places of the items of each innermost list, in the order of the items
abbrev pub argsort_of : Bool → Datum → Result Datum Fault
argsort_of up d = deep (argsort_function up) d
