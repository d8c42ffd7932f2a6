-- What a lane is seen as: its kind, and the numbers that lie in it, a truth value as its byte.
-- So the bytes of a lane are known by its column; `at` of `Places` tells what a number is read as.
use Rattle.std.specs.Prelude.{List, [], ℤ}
use Rattle.awk_lanes.specs.declared.kind.Kind.{Kind}
use Rattle.awk_lanes.specs.declared.kind.Kind.TheVariants.{I64}

pub record Column : Type 0 where
  pub kind : Kind
  pub items : List ℤ

-- no places
abbrev pub no_places : Column
no_places = record { kind = I64; items = [] }
