use Rattle.std.proofs.Common.{◌≡◌, ◌++◌, drop, map, option_map}
use Rattle.serde_json.specs.View.{view}
use Rattle.awk_expr.specs.Arguments.{all_of}
use Rattle.awk_expr.specs.WholeNumbers.{whole_of}
use Rattle.awk_expr.proofs.values.whole_numbers.Given as goal

-- the numbers so far, and those of the rest
abbrev pub invariant-loop-value : goal.invariant-loop-value
invariant-loop-value l =
    all_of whole_of (map view l.values) ≡ option_map (λ zs. l.made ++ zs)
    (all_of whole_of (map view (drop l.value-index l.values)))
