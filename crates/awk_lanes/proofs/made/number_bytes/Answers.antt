-- The groups, one after another.
use Rattle.std.proofs.Common.{◌∙◌, ◌*◌, List, ℕ, length, ap}
use Rattle.std.proofs.lemmas.List.FromFn.{length-map-range_with_len}
use Rattle.std.specs.Int.{cast_unsigned, w64}
use Rattle.std.specs.List.{flat_map, range_with_len}
use Rattle.awk_lanes.specs.Words.{low_bytes}
use Rattle.awk_lanes.proofs.WordLaws.{flat_map-map}
use Rattle.awk_lanes.proofs.made.number_bytes.Goals as goal

pub returns-clause-bytes : goal.returns-clause-bytes
returns-clause-bytes g c =
    c.as_flattened.ensures.value
    ∙ ap (λ (gs : List (List ℕ)). flat_map (λ b. b) gs) c.in_ok-groups.ensures.groups
    ∙ flat_map-map _ (range_with_len 0 c.args.n)

pub returns-clause-size : goal.returns-clause-size
returns-clause-size g c =
    c.as_flattened.ensures.len
    ∙ ap (λ m. m * g.row.W) (ap length c.in_ok-groups.ensures.groups
    ∙ length-map-range_with_len
    (λ i. low_bytes g.row.W (cast_unsigned w64 (g.S.Numbers.at c.args.source.now i))) 0 c.args.n)
