-- Laws of picks.
use Rattle.std.specs.Prelude.{◌≡◌, ℕ, suc, true, List, None, Ok, pos}
use Rattle.awk_types.specs.DataType.{DataType}
use Rattle.awk_types.specs.Datum.{Datum, arr}
use Rattle.awk_types.specs.Limit.{limit}
use Rattle.awk_types.specs.Parts.{list_depth}
use Rattle.awk_types.specs.Simple.{IsSimple}
use Rattle.awk_types.specs.Value.{Value}
use Rattle.awk_list_functions.specs.declared.place.Reach.TheVariants.{Axis}
use Rattle.awk_jagged.specs.Jagged.{jagged_of}
use Rattle.awk_lists.specs.LocalIndex.{local_index_of}
use Rattle.awk_select.specs.Picks.{mask_of, take_of}
use Rattle.awk_law_chains.specs.Arrays.{AreItems, any_length_at, is_lists_to, picks_by_place}

pub record PickingLaws : Type 0 where
  -- a pick by local_index is the array
  pub take_of_local_index : (t : DataType) (vs : List Value) (index : Datum) → limit t ≡ None
      → local_index_of (pos 0) (arr t vs) ≡ Ok index → take_of (arr t vs) index ≡ Ok (arr t vs)
  -- row by row too, at each axis down to which the array is lists, optional or not: the lists are
  -- of any length where they were of one
  pub jagged_of_local_index : (a : ℕ) (t : DataType) (vs : List Value) (index : Datum)
      → AreItems t vs → is_lists_to (Axis a) t ≡ true → limit t ≡ None
      → local_index_of (pos (suc a)) (arr t vs) ≡ Ok index
      → jagged_of (arr t vs) index ≡ Ok (arr (any_length_at (Axis a) t) vs)
  -- a pick by a mask is the pick by the places of its true items, with null at each null: by what
  -- the mask picks of local_index
  pub take_of_masked_places : (x mask index places : Datum)
      → local_index_of (pos 0) x ≡ Ok index → mask_of index mask ≡ Ok places
      → take_of x places ≡ mask_of x mask
  -- row by row too, of a mask whose lists lie as deep as those of the places
  pub jagged_of_masked_places : (a : ℕ) (t u w : DataType) (vs is ms : List Value) (places : Datum)
      → AreItems t vs → is_lists_to (Axis a) t ≡ true → limit t ≡ None
      → IsSimple w → list_depth u ≡ list_depth w
      → local_index_of (pos (suc a)) (arr t vs) ≡ Ok (arr u is)
      → jagged_of (arr u is) (arr w ms) ≡ Ok places
      → jagged_of (arr t vs) places ≡ jagged_of (arr t vs) (arr w ms)
  -- a pick of a pick is the pick by the picked index
  pub take_of_take : (x i j picked index : Datum) → take_of x i ≡ Ok picked
      → take_of i j ≡ Ok index → take_of picked j ≡ take_of x index
  -- row by row too, of an index whose lists lie as deep as those of what picks from it, which is an
  -- index or a mask
  pub jagged_of_jagged : (t u w : DataType) (vs is js : List Value) (picked index : Datum)
      → IsSimple u → IsSimple w → picks_by_place u ≡ true → list_depth u ≡ list_depth w
      → jagged_of (arr t vs) (arr u is) ≡ Ok picked → jagged_of (arr u is) (arr w js) ≡ Ok index
      → jagged_of picked (arr w js) ≡ jagged_of (arr t vs) index
