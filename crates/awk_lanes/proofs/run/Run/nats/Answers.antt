use Rattle.std.proofs.Common.{◌≡◌, ◌+◌, ◌∙◌, ap, map, List, ℕ}
use Rattle.std.proofs.lemmas.Result.{IfOk-weaker}
use Rattle.std.specs.List.{range_with_len}
use Rattle.awk_lanes.specs.Numbers.{nat_of}
use Rattle.awk_lanes.specs.Runs.{run_at}
use Rattle.awk_lanes.specs.Words.{integers}
use Rattle.awk_lanes.proofs.RunLaws.{run_integers, run_size}
use Rattle.awk_lanes.proofs.run.Run.nats.Goals as goal

pub returns-clause-numbers : goal.returns-clause-numbers
returns-clause-numbers g c =
    let n = c.self.inside.size in
    let first = c.self.inside.first in
    let count = c.self.inside.count in
    let ns : List ℕ = map (λ i. nat_of (run_at first count i)) (range_with_len 0 n) in
    let all : integers ns ≡ c.args.self.now.items =
    run_integers n first count c.args.self.now c.self.view_is c.requires in
    IfOk-weaker c.run_nats.result (λ v. v.items ≡ ns)
    (λ v. integers v.items ≡ c.args.self.now.items) (λ v e. ap integers e ∙ all)
    c.run_nats.ensures

pub returns-clause-cost : goal.returns-clause-cost
returns-clause-cost g c =
    c.add.ensures ∙ ap (λ n. c.args.steps.now + n) (run_size _ _ _ c.args.self.now c.self.view_is)
