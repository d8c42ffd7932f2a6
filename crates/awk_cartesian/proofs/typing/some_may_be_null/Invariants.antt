use Rattle.std.specs.Prelude.{◌≡◌, map, drop}
use Rattle.std.specs.List.{list_any}
use Rattle.awk_layout.specs.Datum.{datum_of}
use Rattle.awk_cartesian.specs.Cartesian.{has_null_rows}
use Rattle.awk_cartesian.proofs.typing.some_may_be_null.Given as goal

abbrev pub invariant-loop-j : goal.invariant-loop-j
invariant-loop-j l =
    list_any has_null_rows (map datum_of (drop l.j l.xs))
    ≡ list_any has_null_rows (map datum_of l.xs)
