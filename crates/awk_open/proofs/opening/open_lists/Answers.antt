use Rattle.std.proofs.Common.{◌≡◌, sym, subst, ◌∙◌}
use Rattle.std.specs.Prelude.{None}
use Rattle.awk_types.specs.Limit.{limit}
use Rattle.awk_layout.specs.Layout.{Layout}
use Rattle.awk_layout.specs.Typing.{array_type}
use Rattle.awk_open.proofs.OpenedKinds.{opened_lists, are_lists-at}
use Rattle.awk_open.proofs.opening.open_lists.Goals as goal

pub new-requires : goal.new-requires
new-requires g c =
    are_lists-at _ _ _ (opened_lists c.args.starts.now c.args.stops.now c.args.places.now
    c.in_ok-starts.starts c.in_ok-stops.stops c.args.content.now c.in_ok-content.content
    c.requires.valid (c.in_ok-content.ensures ∙ c.in_ok-copy.ensures) c.requires.small
    c.requires.places c.in_ok-starts.ensures.lane c.in_ok-stops.ensures.lane)

pub returns : goal.returns
returns g c = record {
  opened =
      rw c.new.ensures (opened_lists c.args.starts.now c.args.stops.now c.args.places.now
      c.in_ok-starts.starts c.in_ok-stops.stops c.args.content.now c.in_ok-content.content
      c.requires.valid (c.in_ok-content.ensures ∙ c.in_ok-copy.ensures) c.requires.small
      c.requires.places c.in_ok-starts.ensures.lane c.in_ok-stops.ensures.lane);
}

pub of_node-requires : goal.of_node-requires
of_node-requires g c =
    subst (λ (x : Layout). limit (array_type x) ≡ None) (sym c.in_ok-copy.ensures) c.requires.limit
