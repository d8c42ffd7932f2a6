-- All items of an array as one list.
use Rattle.std.specs.Prelude.{ℕ, [], ◌∷◌, None, pos}
use Rattle.awk_lanes.specs.declared.kind.Kind.TheVariants.{I64}
use Rattle.awk_lanes.specs.Column.{Column}
use Rattle.awk_layout.specs.Layout.{Layout}
use Rattle.awk_layout.specs.Valid.{len}
use Rattle.awk_columns.specs.Lists.{Listed}

-- a lane of one number
abbrev pub single : ℕ → Column
single n = record { kind = I64; items = pos n ∷ [] }

abbrev pub one_list : Layout → Listed
one_list x = record { class = None; starts = single 0; stops = single (len x); content = x }
