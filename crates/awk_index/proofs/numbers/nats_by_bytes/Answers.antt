-- The unsigned numbers of the groups of bytes are the lane's.
use Rattle.std.proofs.Common.{◌≡◌, length, map, ◌/◌, List, ℕ, ap, ◌∙◌}
use Rattle.std.proofs.lemmas.Result.{IfOk-weaker}
use Rattle.std.specs.Simd.{first_chunks}
use Rattle.awk_lanes.specs.Numbers.{width}
use Rattle.awk_lanes.specs.Words.{integers, unsigned}
use Rattle.awk_index.proofs.NatLaws.{integers-unsigned}
use Rattle.awk_index.proofs.numbers.nats_by_bytes.Goals as goal

pub returns-clause-numbers : goal.returns-clause-numbers
returns-clause-numbers g c =
    let ns : List ℕ = map (unsigned c.kind.result)
    (first_chunks (width c.kind.result) (length c.bulk.result.now / width c.kind.result)
    c.bulk.result.now) in
    let all : integers ns ≡ c.args.lane.now.items = rw c.kind.ensures
    (integers-unsigned _ _ _ _ c.bulk.ensures.size c.bulk.ensures.numbers c.requires) in
    IfOk-weaker c.nats_in.result (λ v. v.items ≡ ns)
    (λ v. integers v.items ≡ c.args.lane.now.items) (λ v e. ap integers e ∙ all)
    c.nats_in.ensures
