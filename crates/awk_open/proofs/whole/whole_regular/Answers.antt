use Rattle.std.proofs.Common.{◌≡◌, ◌+◌, ◌∙◌, refl, sym, subst, arith}
use Rattle.std.specs.Prelude.{None}
use Rattle.awk_types.specs.Limit.{limit}
use Rattle.awk_layout.specs.Layout.{Layout}
use Rattle.awk_layout.specs.Typing.{array_type}
use Rattle.awk_open.proofs.OpenedKinds.{are_lists}
use Rattle.awk_open.proofs.WholeLanes.{whole_regular, cut_in_row, even-size, even-total}
use Rattle.awk_open.proofs.whole.whole_regular.Goals as goal

pub of_node-requires : goal.of_node-requires
of_node-requires g c =
    subst (λ (x : Layout). limit (array_type x) ≡ None) (sym c.in_ok-copy.ensures) c.requires.limit

pub offsets_of-requires-clause-small : goal.offsets_of-requires-clause-small
offsets_of-requires-clause-small g c =
    even-total c.args.size c.args.n c.args.content.now c.requires.valid

pub cut-starts-requires-clause-within : goal.cut-starts-requires-clause-within
cut-starts-requires-clause-within g c =
    omega (
      arith,
      even-size c.args.size c.args.n c.args.content.now c.requires.valid
          c.in_ok-offsets.offsets.lane c.in_ok-offsets.ensures.1,
    )

pub cut-stops-requires-clause-within : goal.cut-stops-requires-clause-within
cut-stops-requires-clause-within g c =
    omega (
      arith,
      even-size c.args.size c.args.n c.args.content.now c.requires.valid
          c.in_ok-offsets.offsets.lane c.in_ok-offsets.ensures.1,
    )

pub in_row-requires-clause-lists : goal.in_row-requires-clause-lists
in_row-requires-clause-lists g c =
    are_lists _ _ (whole_regular c.args.size c.args.n c.in_ok-offsets.offsets.lane
    c.cut-starts.result c.cut-stops.result c.args.content.now c.in_ok-content.content
    c.requires.valid (c.in_ok-content.ensures ∙ c.in_ok-copy.ensures) c.in_ok-offsets.ensures.1
    c.cut-starts.ensures.value c.cut-stops.ensures.value)

pub in_row-requires-clause-row : goal.in_row-requires-clause-row
in_row-requires-clause-row g c =
    let size =
    even-size c.args.size c.args.n c.args.content.now c.requires.valid c.in_ok-offsets.offsets.lane
    c.in_ok-offsets.ensures.1 in
    cut_in_row c.in_ok-offsets.offsets.lane c.cut-starts.result c.cut-stops.result c.args.n
    (c.args.n + 1) refl (sym size) c.cut-starts.ensures.value c.cut-stops.ensures.value

pub returns : goal.returns
returns g c = record {
  opened =
      rw c.in_row.ensures (whole_regular c.args.size c.args.n c.in_ok-offsets.offsets.lane
      c.cut-starts.result c.cut-stops.result c.args.content.now c.in_ok-content.content
      c.requires.valid (c.in_ok-content.ensures ∙ c.in_ok-copy.ensures)
      c.in_ok-offsets.ensures.1 c.cut-starts.ensures.value c.cut-stops.ensures.value);
}
