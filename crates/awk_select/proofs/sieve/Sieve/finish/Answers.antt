use Rattle.std.proofs.Common.{ap, ◌∙◌, ◌*◌, length, List, ℕ}
use Rattle.std.specs.List.{flat_map}
use Rattle.std.specs.Prelude.{vec_capacity}
use Rattle.awk_lanes.proofs.IndexLaws.{joined}
use Rattle.awk_select.proofs.sieve.Sieve.finish.Goals as goal

pub returns : goal.returns
returns c =
    joined c.self.inside.groups.items (vec_capacity c.self.inside.groups)
    c.as_flattened.result.now c.args.self c.new.result c.self.view_is c.self.invariant.1
    (c.as_flattened.ensures.value
    ∙ ap (λ (gs : List (List ℕ)). flat_map (λ b. b) gs) c.into_bump_slice-groups.ensures)
    (c.as_flattened.ensures.len
    ∙ ap (λ (gs : List (List ℕ)). length gs * 8) c.into_bump_slice-groups.ensures)
    c.new.ensures.kind c.new.ensures.items
