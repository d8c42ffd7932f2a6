-- Nulls that are filled in the lists at an axis.
use Rattle.std.specs.Prelude.{◌≡◌, ℤ, true, Ok, map, refl}
use Rattle.std.specs.List.{AllByRecursion}
use Rattle.std.proofs.Common.{sym, subst, List, [], ◌∷◌}
use Rattle.awk_types.specs.DataType.{DataType}
use Rattle.awk_types.specs.Datum.{Datum, datum_type}
use Rattle.awk_types.specs.IsType.{IsType}
use Rattle.awk_types.specs.Simple.{IsSimple}
use Rattle.awk_types.specs.Value.{Value}
use Rattle.awk_list_functions.specs.Lifting.{lift}
use Rattle.awk_layout.specs.Filler.{Filler, is_filler}
use Rattle.awk_fill.specs.FillNone.{fill_none_function, fill_none_of, filled, filled_type}
use Rattle.awk_pair_operands.specs.Typed.{IsTyped}
use Rattle.awk_laws.specs.Axes.{TypedList, lists_of}
use Rattle.awk_laws.specs.Nulls.{HasNoNull, IsTypedFiller}
use Rattle.awk_laws.proofs.AxisLists.{allowed-given, each-given, given}
use Rattle.awk_laws.proofs.AxisTypes.{IsAllowed, IsPlain, plain_lists}
use Rattle.awk_laws.proofs.NullLaws.{all_there, by_filler}

module _ (f : Filler) where
  abbrev items_filled : DataType → List Value → List Value
  items_filled t vs = map (filled f t) vs

  abbrev list_filled : TypedList → TypedList
  list_filled l = given (λ c. c) (filled_type f) items_filled l

  each_filled : (ls : List TypedList) → IsTypedFiller f → is_filler f ≡ true
      → AllByRecursion IsPlain ls → AllByRecursion (IsAllowed (fill_none_function f)) ls
      → AllByRecursion HasNoNull (map list_filled ls)
  each_filled [] i j p k = tt
  each_filled (l ∷ ls) i j p k = (
    all_there f l.0 l.1 k.0.0 p.0.0 p.0.1 i j k.0.1,
    each_filled ls i j p.1 k.1,
  )

  pub fill_none_at : (axis : ℤ) (d made : Datum) → IsType (datum_type d) → IsSimple (datum_type d)
      → IsTyped d → IsTypedFiller f → fill_none_of d f axis ≡ Ok made
      → AllByRecursion HasNoNull (lists_of axis made)
  fill_none_at axis d made k s h i e =
      let g = fill_none_function f in
      let a = by_filler (is_filler f) (lift g axis d) made e in
      subst (AllByRecursion HasNoNull)
      (sym (each-given (λ c. c) (filled_type f) items_filled g refl axis d made h s a.1))
      (each_filled (lists_of axis d) i a.0 (plain_lists axis d h s)
      (allowed-given (λ c. c) (filled_type f) items_filled g refl axis d made h s k a.1))
