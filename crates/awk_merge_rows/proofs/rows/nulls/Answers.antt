use Rattle.std.proofs.Common.{◌≡◌, arith, refl, ap, sym, subst, ◌∙◌, map}
use Rattle.std.specs.List.{range_with_len}
use Rattle.std.specs.Prelude.{negsuc}
use Rattle.awk_lanes.specs.Places.{IsOptionalIndex}
use Rattle.awk_layout.specs.Valid.{len}
use Rattle.awk_lanes.proofs.MadeLanes.{so_far_pushed}
use Rattle.awk_merge_rows.proofs.RowSides.{null_index}
use Rattle.awk_merge_rows.proofs.rows.nulls.Goals as goal

pub loop-i-preserved : goal.loop-i-preserved
loop-i-preserved g c =
    so_far_pushed _ _ _ c.loop-i.i (negsuc 0) c.loop-i.index c.push.new.self c.push.ensures refl
    c.loop-i.invariant

pub indexed_option-node-requires-clause-valid : goal.indexed_option-node-requires-clause-valid
indexed_option-node-requires-clause-valid g c =
    let all : c.loop-i.i ≡ c.args.n = omega (arith, c.loop-i-test.false, c.loop-i.auto.i-end) in
    subst (λ x. IsOptionalIndex c.finish.result (len x))
    (sym (c.in_ok-none.ensures.ok ∙ c.empty.ensures.node))
    (null_index c.finish.result c.args.n (c.finish.ensures.kind ∙ c.loop-i.invariant.kind)
    (c.finish.ensures.items ∙ c.loop-i.invariant.items
    ∙ ap (λ n. map (λ i. negsuc 0) (range_with_len 0 n)) all))
