-- What types unify to, and how their values are carried.
use Rattle.std.specs.Prelude.{ℕ, List}
use Rattle.awk_unify.specs.Carry.{Carry}
use Rattle.awk_types.specs.DataType.{DataType}

-- a type that two unify to, and how the values of each are carried into it
pub record Unification : Type 0 where
  pub typ : DataType
  pub left : Carry
  pub right : Carry

-- of several types, part by part
pub record Unifications : Type 0 where
  pub typs : List DataType
  pub lefts : List Carry
  pub rights : List Carry

-- a type put into alternatives: how those that were there are kept, and where and how its own
-- values go
pub record Placed : Type 0 where
  pub typs : List DataType
  pub kept : List Carry
  pub tag : ℕ
  pub put : Carry

pub record PlacedAll : Type 0 where
  pub typs : List DataType
  pub kept : List Carry
  pub tags : List ℕ
  pub puts : List Carry
