-- What was picked of the node is picked of the array.
use Rattle.std.proofs.Common.{◌≡◌, ◌≤◌, ◌+◌, true, arith, ap, subst, ◌∙◌}
use Rattle.std.proofs.lemmas.Result.{IfOk-weaker}
use Rattle.awk_lanes.specs.Places.{size_of}
use Rattle.awk_layout.specs.Induction.{weight-contents}
use Rattle.awk_layout.specs.Layout.{Layout, indexed, is_rows, held, weight}
use Rattle.awk_layout.specs.Valid.{len}
use Rattle.awk_gather.specs.Arrays.{index_over}
use Rattle.awk_gather.specs.Picked.{IsPicked}
use Rattle.awk_gather.proofs.GatheredArrays.{gathered_of, gathered_limit}
use Rattle.awk_gather.proofs.arrays.gather.Goals as goal

pub of_node-requires : goal.of_node-requires
of_node-requires g c =
    let h : IsPicked c.args.x.now c.args.places.now c.in_ok-node.node = subst
    (λ (x : Layout). IsPicked x c.args.places.now c.in_ok-node.node) c.node.ensures
    c.in_ok-node.ensures.node in
    gathered_limit c.args.x.now c.in_ok-node.node c.args.places.now h
    c.typ.ensures.lawful.within_limits

pub returns : goal.returns
returns g c =
    let p = c.args.places.now in
    let made = c.in_ok-node.node in
    let h : IsPicked c.args.x.now p made = subst (λ (x : Layout). IsPicked x p made) c.node.ensures
    c.in_ok-node.ensures.node in
    let over : is_rows c.args.x.now ≡ true → made ≡ indexed (index_over (len c.args.x.now) p)
    c.args.x.now =
    subst (λ (x : Layout). is_rows x ≡ true → made ≡ indexed (index_over (len x) p) x)
    c.node.ensures c.in_ok-node.ensures.rows in
    let spent : is_rows c.args.x.now ≡ true → c.gather_outer.new.steps ≤ c.args.steps.now +
    (size_of p + 1) =
    subst (λ (x : Layout). is_rows x ≡ true → c.gather_outer.new.steps ≤ c.args.steps.now +
    (size_of p + 1)) c.node.ensures c.gather_outer.ensures.cost in
    record {
      gathered =
          IfOk-weaker c.of_node.result _ _
          (λ r e. gathered_of c.args.x.now made r p e c.requires.kind c.requires.places h)
          c.of_node.ensures;
      held =
          IfOk-weaker c.of_node.result _ _ (λ r e. omega (arith, ap held e, h.held_within))
          c.of_node.ensures;
      nodes =
          IfOk-weaker c.of_node.result _ _ (λ r e. omega (arith, ap weight e, h.nodes_within))
          c.of_node.ensures;
      rows = λ k. IfOk-weaker c.of_node.result _ _ (λ r e. e ∙ over k) c.of_node.ensures;
      cost = λ k. omega (arith, spent k, weight-contents c.args.x.now);
    }
