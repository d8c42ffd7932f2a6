use Rattle.std.proofs.Common.{◌≡◌, sym, subst, ◌∙◌}
use Rattle.std.specs.Prelude.{None}
use Rattle.awk_types.specs.Limit.{limit}
use Rattle.awk_layout.specs.Layout.{Layout}
use Rattle.awk_layout.specs.Typing.{array_type}
use Rattle.awk_open.proofs.OpenedKinds.{are_lists}
use Rattle.awk_open.proofs.WholeLanes.{whole_lists}
use Rattle.awk_open.proofs.whole.whole_lists.Goals as goal

pub of_node-requires : goal.of_node-requires
of_node-requires c =
    subst (λ (x : Layout). limit (array_type x) ≡ None) (sym c.in_ok-copy.ensures) c.requires.limit

pub new-requires : goal.new-requires
new-requires c =
    are_lists _ _ (whole_lists c.args.starts.now c.args.stops.now c.copy-2.result c.copy-3.result
    c.args.content.now c.in_ok-content.content c.requires.valid
    (c.in_ok-content.ensures ∙ c.in_ok-copy.ensures) c.copy-2.ensures c.copy-3.ensures)

pub returns : goal.returns
returns c = record {
  opened =
      rw c.new.ensures (whole_lists c.args.starts.now c.args.stops.now c.copy-2.result
      c.copy-3.result c.args.content.now c.in_ok-content.content c.requires.valid
      (c.in_ok-content.ensures ∙ c.in_ok-copy.ensures) c.copy-2.ensures c.copy-3.ensures);
}
