-- Laws of arrays joined one after another.
use Rattle.std.specs.Prelude.{◌≡◌, ℕ, ◌+◌, List, [], ◌∷◌, ◌++◌, length, map, sum_by, pos}
use Rattle.std.specs.Prelude.{Some, None, Result, Ok}
use Rattle.awk_types.specs.DataType.{DataType}
use Rattle.awk_types.specs.Datum.{Datum, arr, datum_type}
use Rattle.awk_types.specs.Limit.{limit}
use Rattle.awk_types.specs.Value.{Value}
use Rattle.awk_types.specs.declared.fault.Fault.{Fault}
use Rattle.awk_merge_operands.specs.Concatenate.{concatenate_of, operand_items}
use Rattle.awk_select.specs.Picks.{step_range_of}
use Rattle.awk_unify.specs.Carries.{carry_at}
use Rattle.awk_unify.specs.Carry.{carried}
use Rattle.awk_unify.specs.UnifyList.{UnificationList, unification_list}
use Rattle.awk_law_chains.specs.Arrays.{AreFew}

-- how many items parts have together
abbrev pub items_in : List Datum → ℕ
items_in ds = sum_by (λ d. length (operand_items d)) ds

-- what the types of the parts unify to, and how the items of each are carried
abbrev pub unified : List Datum → UnificationList
unified ds = unification_list (map datum_type ds)

-- the items of the part behind so many others
abbrev pub carried_items : List Datum → ℕ → Datum → List Value
carried_items ds k part = map (carried (carry_at (unified ds).lifts k)) (operand_items part)

-- the range of a part's places
abbrev pub part_range : List Datum → Datum → Datum → Result Datum Fault
part_range before part whole =
    step_range_of (Some (pos (items_in before)))
    (Some (pos (items_in before + length (operand_items part)))) (pos 1) whole

pub record ConcatenationLaws : Type 0 where
  -- arrays joined are as long as their parts together
  pub length_of_parts : (ds : List Datum) (whole : Datum) → concatenate_of (pos 0) ds ≡ Ok whole
      → length (operand_items whole) ≡ items_in ds
  -- the range of a part's places is that part's items, carried to the type that all unify to
  pub range_of_part : (before after : List Datum) (part whole : Datum)
      → let ds = before ++ part ∷ after in concatenate_of (pos 0) ds ≡ Ok whole
      → part_range before part whole
      ≡ Ok (arr (unified ds).typ (carried_items ds (length before) part))
  -- of arrays of one type it is the part itself
  pub range_of_like_part : (t : DataType) (before after : List (List Value)) (vs : List Value)
      (whole : Datum)
      → concatenate_of (pos 0) (map (arr t) before ++ arr t vs ∷ map (arr t) after) ≡ Ok whole
      → part_range (map (arr t) before) (arr t vs) whole ≡ Ok (arr t vs)
  -- one array alone is the array
  pub one_array : (t : DataType) (vs : List Value) → limit t ≡ None → AreFew vs
      → concatenate_of (pos 0) (arr t vs ∷ []) ≡ Ok (arr t vs)
