-- The groups, one after another.
use Rattle.std.proofs.Common.{◌∙◌, List, ℕ, ap}
use Rattle.std.specs.Prelude.{reverse}
use Rattle.std.specs.List.{flat_map}
use Rattle.awk_lanes.proofs.WordLaws.{flat_map-map}
use Rattle.awk_valid.proofs.order.turned_bytes.Goals as goal

pub returns-clause-bytes : goal.returns-clause-bytes
returns-clause-bytes g c =
    c.as_flattened.ensures.value
    ∙ ap (λ (gs : List (List ℕ)). flat_map (λ b. b) gs) c.in_ok-turned.ensures
    ∙ flat_map-map reverse c.as_chunks.result.0.now
    ∙ ap (λ (gs : List (List ℕ)). flat_map reverse gs) c.as_chunks.ensures.front
