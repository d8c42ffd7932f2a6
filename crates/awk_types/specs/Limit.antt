-- The limits of a type.
use Rattle.std.specs.Prelude.{ℕ, max, ◌||◌, nat_lt, List, [], ◌∷◌, length, Option, Some, None}
use Rattle.std.specs.Prelude.{Result, if◌then◌else◌}
use Rattle.awk_types.specs.Gives.{refused_or}
use Rattle.awk_types.specs.DataType.{DataType, unknown, leaf, var, reg, rec, tup, opt, uni}
use Rattle.awk_types.specs.DataType.{DataTypes, no_types, type, greatest, depth, nodes}
use Rattle.awk_types.specs.declared.limit.TypeFault.{TypeFault}
use Rattle.awk_types.specs.declared.limit.TypeFault.TheVariants.{Depth, Size, NoMemory}

-- the most alternatives of a union in the type, or 0
abbrev mutual
  pub width : DataType → ℕ
  width unknown = 0
  width (leaf p) = 0
  width (var t) = width t
  width (reg n t) = width t
  width (rec ns ts) = greatest (widths ts)
  width (tup ts) = greatest (widths ts)
  width (opt t) = width t
  width (uni ts) = max (length (widths ts)) (greatest (widths ts))

  pub widths : DataTypes → List ℕ
  widths no_types = []
  widths (type t ts) = width t ∷ widths ts

pub data Limit : Type 0 where
  depth_limit size_limit : Limit

-- the limit that a type passes: its depth first, and then its nodes and the alternatives of its
-- unions
abbrev pub limit : DataType → Option Limit
limit t =
    if nat_lt 60 (depth t) then Some depth_limit
    else if nat_lt 65536 (nodes t) || nat_lt 127 (width t) then Some size_limit
    else None

-- a type that passes no limit, or the limit that it passes
abbrev pub within : DataType → Result DataType Limit
within t = refused_or (limit t) t

-- the limit that a fault of a call tells; want of memory tells none
abbrev pub limit_told : TypeFault → Option Limit
limit_told Depth = Some depth_limit
limit_told Size = Some size_limit
limit_told NoMemory = None
