-- Laws of lists joined and cut.
use Rattle.std.specs.Prelude.{◌≡◌, List, None, Ok, pos}
use Rattle.std.specs.List.{AllByRecursion}
use Rattle.awk_types.specs.DataType.{DataType, leaf, var}
use Rattle.awk_types.specs.Datum.{Datum, arr}
use Rattle.awk_types.specs.Has.{Has}
use Rattle.awk_types.specs.Limit.{limit}
use Rattle.awk_types.specs.Value.{Value}
use Rattle.awk_types.specs.declared.primitive.Primitive.TheVariants.{I64}
use Rattle.awk_columns.specs.ListClass.{Class, list_type}
use Rattle.awk_lists.specs.Flatten.{flatten_of}
use Rattle.awk_lists.specs.Num.{num_of}
use Rattle.awk_lists.specs.Unflatten.{unflatten_of}
use Rattle.awk_law_chains.specs.Arrays.{AreItems, AreFew}

pub record FlatteningLaws : Type 0 where
  -- flatten of unflatten of x by counts is x
  pub flatten_of_unflatten : (t u : DataType) (vs cs : List Value) (lists : Datum)
      → AreItems t vs → AreFew vs → unflatten_of (arr t vs) (arr u cs) ≡ Ok lists
      → flatten_of (pos 1) lists ≡ Ok (arr t vs)
  -- num of unflatten of x by counts is the counts, as int64
  pub num_of_unflatten : (t u : DataType) (vs cs : List Value) (lists : Datum)
      → AllByRecursion (Has u) cs → unflatten_of (arr t vs) (arr u cs) ≡ Ok lists
      → num_of (pos 1) lists ≡ Ok (arr (leaf I64) cs)
  -- unflatten of flatten of lists by their num is the lists, of any length where they were of one
  pub unflatten_of_flatten : (class : Class) (t : DataType) (ls : List Value) (items counts : Datum)
      → AreItems (list_type class t) ls → limit (var t) ≡ None
      → flatten_of (pos 1) (arr (list_type class t) ls) ≡ Ok items
      → num_of (pos 1) (arr (list_type class t) ls) ≡ Ok counts
      → unflatten_of items counts ≡ Ok (arr (var t) ls)
