use Rattle.std.proofs.Common.{◌≡◌, ◌++◌, drop, map, option_map}
use Rattle.serde_json.specs.View.{view}
use Rattle.awk_expr.specs.Arguments.{all_of}
use Rattle.awk_query.specs.Line.{part_in}
use Rattle.awk_query.proofs.parts.each_part.Given as goal

-- the buffers so far, and those of the rest
abbrev pub invariant-loop-value : goal.invariant-loop-value
invariant-loop-value l =
    all_of part_in (map view l.values) ≡ option_map (λ ps. l.made ++ ps)
    (all_of part_in (map view (drop l.value-index l.values)))
