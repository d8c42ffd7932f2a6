use Rattle.std.proofs.Common.{◌≡◌, ◌-◌, arith, sym, subst, ◌∙◌}
use Rattle.std.specs.Prelude.{None}
use Rattle.awk_types.specs.Limit.{limit}
use Rattle.awk_layout.specs.Layout.{Layout}
use Rattle.awk_layout.specs.Typing.{array_type}
use Rattle.awk_open.proofs.OpenedKinds.{are_lists}
use Rattle.awk_open.proofs.WholeLanes.{whole_offsets, cut_in_row}
use Rattle.awk_open.proofs.whole.whole_offsets.Goals as goal

pub of_node-requires : goal.of_node-requires
of_node-requires g c =
    subst (λ (x : Layout). limit (array_type x) ≡ None) (sym c.in_ok-copy.ensures) c.requires.limit

pub in_row-requires-clause-lists : goal.in_row-requires-clause-lists
in_row-requires-clause-lists g c =
    are_lists _ _ (whole_offsets c.args.offsets.now c.cut-starts.result c.cut-stops.result
    c.len-n.result c.args.content.now c.in_ok-content.content c.requires.valid
    (c.in_ok-content.ensures ∙ c.in_ok-copy.ensures) c.len-n.ensures.len c.cut-starts.ensures.value
    c.cut-stops.ensures.value)

pub in_row-requires-clause-row : goal.in_row-requires-clause-row
in_row-requires-clause-row g c =
    cut_in_row c.args.offsets.now c.cut-starts.result c.cut-stops.result (c.len-n.result - 1)
    c.len-n.result (omega (arith, c.requires.valid.1.some, c.len-n.ensures.len)) c.len-n.ensures.len
    c.cut-starts.ensures.value c.cut-stops.ensures.value

pub returns : goal.returns
returns g c = record {
  opened =
      rw c.in_row.ensures (whole_offsets c.args.offsets.now c.cut-starts.result c.cut-stops.result
      c.len-n.result c.args.content.now c.in_ok-content.content c.requires.valid
      (c.in_ok-content.ensures ∙ c.in_ok-copy.ensures) c.len-n.ensures.len
      c.cut-starts.ensures.value c.cut-stops.ensures.value);
}
