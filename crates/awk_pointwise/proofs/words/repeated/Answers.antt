use Rattle.std.proofs.Common.{map, ap, ◌∙◌, replicate}
use Rattle.std.specs.Prelude.{pos}
use Rattle.std.specs.Int.{w128}
use Rattle.std.proofs.lemmas.Int.{to_z-of_z}
use Rattle.awk_pointwise.proofs.SideLaws.{map-replicate}
use Rattle.awk_pointwise.proofs.words.repeated.Goals as goal

pub returns-in_ok-vec-2 : goal.returns-in_ok-vec-2
returns-in_ok-vec-2 c =
    ap (map pos) (c.in_ok-vec-2.ensures.items_if_clones_equal (λ y h. h))
    ∙ map-replicate pos c.args.n c.nat_of_wide.result
    ∙ ap (replicate c.args.n)
    (c.nat_of_wide.ensures ∙ to_z-of_z w128 c.args.z c.ranges.z)
