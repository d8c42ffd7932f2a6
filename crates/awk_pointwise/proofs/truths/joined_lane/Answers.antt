use Rattle.std.proofs.Common.{ap, ap₂, ◌∙◌, ℕ}
use Rattle.std.specs.Prelude.{ℤ}
use Rattle.std.specs.Int.{from_bool}
use Rattle.awk_lanes.specs.Words.{column, integers}
use Rattle.awk_lanes.specs.declared.kind.Kind.TheVariants.{Bool as Truths}
use Rattle.awk_leaves.specs.Values.{joined, is_nonzero}
use Rattle.awk_pointwise.specs.Numbers.{joined_bytes}
use Rattle.awk_pointwise.proofs.WordLaws.{zip-zip2}
use Rattle.awk_pointwise.proofs.truths.joined_lane.Goals as goal

pub returns : goal.returns
returns c =
    let op = c.args.op in
    let f : ℤ → ℤ → ℕ = λ x y. from_bool (joined op (is_nonzero x) (is_nonzero y)) in
    let a = c.deref.result.now in
    let b = c.deref-2.result.now in
    c.truth_lane.ensures
    ∙ ap (λ bytes. column Truths (integers bytes)) (c.into_bump_slice.ensures
    ∙ c.in_ok-join_bytes.ensures ∙ zip-zip2 f a b
    ∙ ap₂ (joined_bytes op) (c.deref.ensures.value ∙ c.in_ok-a.ensures)
    (c.deref-2.ensures.value ∙ c.in_ok-b.ensures))
