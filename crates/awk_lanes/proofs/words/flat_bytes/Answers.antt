-- The groups, one after another.
use Rattle.std.proofs.Common.{◌∙◌, List, ℕ, ap}
use Rattle.std.specs.List.{flat_map}
use Rattle.awk_lanes.proofs.WordLaws.{flat_map-map}
use Rattle.awk_lanes.proofs.words.flat_bytes.Goals as goal

pub returns-clause-bytes : goal.returns-clause-bytes
returns-clause-bytes g c =
    c.as_flattened.ensures.value
    ∙ ap (λ (gs : List (List ℕ)). flat_map (λ b. b) gs) c.in_ok-groups.ensures
    ∙ flat_map-map _ c.args.words.now
