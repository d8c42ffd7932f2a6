-- Laws of operations on nulls.
use Rattle.std.specs.Prelude.{◌≡◌, ℕ, zero, suc, ◌≤◌, Bool, true, false, List, [], ◌∷◌, map, pos}
use Rattle.std.specs.Prelude.{ℤ, Ok}
use Rattle.std.specs.List.{AllByRecursion}
use Rattle.awk_types.specs.DataType.{DataType}
use Rattle.awk_types.specs.Datum.{Datum, arr, one, datum_type}
use Rattle.awk_types.specs.Has.{Has}
use Rattle.awk_types.specs.IsType.{IsType}
use Rattle.awk_types.specs.Predicates.{is_null}
use Rattle.awk_types.specs.Simple.{IsSimple, is_option}
use Rattle.awk_types.specs.Value.{Value, int, null}
use Rattle.awk_columns.specs.Columns.{list_items, lists_among}
use Rattle.awk_layout.specs.Filler.{Filler, literal, datum}
use Rattle.awk_fill.specs.FillNone.{fill_none_of}
use Rattle.awk_lists.specs.Flatten.{flatten_of}
use Rattle.awk_lists.specs.Num.{num_of}
use Rattle.awk_nulls.specs.DropNone.{drop_none_of}
use Rattle.awk_nulls.specs.Firsts.{firsts_of}
use Rattle.awk_padding.specs.PadNone.{pad_none_of}
use Rattle.awk_nulls.specs.Singletons.{singletons_of}
use Rattle.awk_pair_operands.specs.Typed.{IsTyped}
use Rattle.awk_law_chains.specs.Arrays.{AreItems}
use Rattle.awk_laws.specs.Axes.{TypedList, lists_of}
use Rattle.awk_laws.specs.InPlace.{in_place}

-- whether a list has no first item, or one that is null
abbrev pub lacks_first : List Value → Bool
lacks_first [] = true
lacks_first (v ∷ vs) = is_null v

abbrev pub is_zero : Value → Bool
is_zero (int (pos zero)) = true
is_zero v = false

-- no item of a list is null
abbrev pub HasNoNull : TypedList → Type 0
HasNoNull l = AllByRecursion (λ w. is_null w ≡ false) l.1

abbrev pub is_zero_or_null : Value → Bool
is_zero_or_null null = true
is_zero_or_null v = is_zero v

-- what fills is of its type
abbrev pub IsTypedFiller : Filler → Type 0
IsTypedFiller (literal z) = Unit {0}
IsTypedFiller (datum (arr t vs)) = Unit {0}
IsTypedFiller (datum (one t v)) = IsType t × IsSimple t × Has t v

pub record NullLaws : Type 0 where
  -- drop_none of pad_none, with no list cut, is drop_none
  pub drop_none_of_pad_none : (n : ℕ) (t : DataType) (vs : List Value) (padded : Datum)
      → AreItems t vs → pad_none_of n (pos 0) false (arr t vs) ≡ Ok padded
      → drop_none_of (pos 0) padded ≡ drop_none_of (pos 0) (arr t vs)
  -- so it is at each axis, where both are given
  pub drop_none_of_pad_none_at : (n axis : ℕ) (t : DataType) (vs : List Value)
      (padded unpadded dropped : Datum) → axis ≤ 60 → AreItems t vs
      → pad_none_of n (pos axis) false (arr t vs) ≡ Ok padded
      → drop_none_of (pos axis) padded ≡ Ok unpadded
      → drop_none_of (pos axis) (arr t vs) ≡ Ok dropped → unpadded ≡ dropped
  -- it is the array where its items are not optional
  pub unpadded : (n : ℕ) (t : DataType) (vs : List Value) (padded : Datum)
      → AreItems t vs → is_option t ≡ false → pad_none_of n (pos 0) false (arr t vs) ≡ Ok padded
      → drop_none_of (pos 0) padded ≡ Ok (arr t vs)
  -- fill_none leaves no null
  pub fill_none_leaves_no_null : (t u : DataType) (vs ws : List Value) (filler : Filler)
      → IsType t → AreItems t vs → IsTypedFiller filler
      → fill_none_of (arr t vs) filler (pos 0) ≡ Ok (arr u ws)
      → AllByRecursion (λ w. is_null w ≡ false) ws
  -- so it is of each list at any axis, of any nesting
  pub fill_none_at : (filler : Filler) (axis : ℤ) (d made : Datum) → IsType (datum_type d)
      → IsSimple (datum_type d) → IsTyped d → IsTypedFiller filler
      → fill_none_of d filler axis ≡ Ok made → AllByRecursion HasNoNull (lists_of axis made)
  -- in the places of the lists at an axis of a datum itself stand these lists, besides nulls
  pub lists_in_place : (axis : ℤ) (d : Datum)
      → lists_among (in_place axis d d) ≡ map (λ l. l.1) (lists_of axis d)
  -- firsts of lists is null exactly where a list has no item or its first one is null, or the list
  -- itself is null, at each axis of any nesting
  pub null_firsts : (axis : ℤ) (d made : Datum) → IsSimple (datum_type d) → IsTyped d
      → firsts_of axis d ≡ Ok made
      → map is_null (in_place axis d made)
      ≡ map (λ l. lacks_first (list_items l)) (in_place axis d d)
  -- that is exactly where num is 0, or the list is null, where items are not optional
  pub null_where_num_is_zero : (axis : ℤ) (d made counts : Datum) → IsSimple (datum_type d)
      → IsTyped d → AllByRecursion (λ l. is_option l.0 ≡ false) (lists_of axis d)
      → firsts_of axis d ≡ Ok made → num_of axis d ≡ Ok counts
      → map is_null (in_place axis d made) ≡ map is_zero_or_null (in_place axis d counts)
  -- flatten of singletons is drop_none
  pub flatten_of_singletons : (t : DataType) (vs : List Value) (lists : Datum) → AreItems t vs
      → singletons_of (pos 0) (arr t vs) ≡ Ok lists
      → flatten_of (pos 1) lists ≡ drop_none_of (pos 0) (arr t vs)
  -- so it is at each axis, where both are given
  pub flatten_of_singletons_at : (axis : ℕ) (t : DataType) (vs : List Value)
      (lists joined dropped : Datum) → axis ≤ 60 → AreItems t vs
      → singletons_of (pos axis) (arr t vs) ≡ Ok lists
      → flatten_of (pos (suc axis)) lists ≡ Ok joined
      → drop_none_of (pos axis) (arr t vs) ≡ Ok dropped → joined ≡ dropped
