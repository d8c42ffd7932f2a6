use Rattle.std.proofs.Common.{◌≡◌, ◌++◌, drop, map, option_map}
use Rattle.serde_json.specs.Find.{as_str}
use Rattle.serde_json.specs.View.{view}
use Rattle.awk_expr.specs.Arguments.{all_of}
use Rattle.awk_expr.proofs.values.texts.Given as goal

-- the texts so far, and those of the rest
abbrev pub invariant-loop-value : goal.invariant-loop-value
invariant-loop-value l =
    all_of as_str (map view l.values) ≡ option_map (λ ts. l.names ++ ts)
    (all_of as_str (map view (drop l.value-index l.values)))
