use Rattle.std.proofs.Common.{◌≡◌, drop, map}
use Rattle.awk_types.specs.Names.{is_among}
use Rattle.awk_expr.proofs.values.is_any.Given as goal

-- the names that are left tell what all do
abbrev pub invariant-loop-name : goal.invariant-loop-name
invariant-loop-name l =
    is_among l.text (map (λ name. name.now) l.names)
    ≡ is_among l.text (map (λ name. name.now) (drop l.name-index l.names))
