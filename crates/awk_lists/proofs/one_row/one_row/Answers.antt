use Rattle.std.proofs.Common.{ap, arith, ◌∙◌}
use Rattle.std.specs.Prelude.{Some, None}
use Rattle.awk_types.specs.Predicates.{is_list_or_unknown}
use Rattle.awk_layout.specs.Laws.{len-fits}
use Rattle.awk_lists.specs.Listed.{IsWhole}
use Rattle.awk_lists.proofs.Flattened.{too_many_joined, few_joined}
use Rattle.awk_lists.proofs.OneRow.{one_given}
use Rattle.awk_lists.proofs.one_row.one_row.Goals as goal

pub all_items-requires : goal.all_items-requires
all_items-requires g c = ap is_list_or_unknown c.requires.row.typ ∙ c.requires.inner

pub one_offsets-requires : goal.one_offsets-requires
one_offsets-requires g c =
    omega (arith, c.len.ensures.len, len-fits c.in-Some.items c.len.ensures.valid)

pub returns-in-None : goal.returns-in-None
returns-in-None g c =
    let s = c.args.lists.now.starts in
    let t = c.args.lists.now.stops in
    let y = c.args.lists.now.content in
    let h : IsWhole c.args.row.now None = rw c.in-None.is at c.in_ok-all_items.ensures in
    too_many_joined s t y c.args.offsets.now c.args.row.now c.requires.row h

pub returns-in_ok-copy-in-Some : goal.returns-in_ok-copy-in-Some
returns-in_ok-copy-in-Some g c =
    let s = c.args.lists.now.starts in
    let t = c.args.lists.now.stops in
    let y = c.args.lists.now.content in
    let z = c.in-Some.items in
    let h : IsWhole c.args.row.now (Some z) = rw c.in-Some.is at c.in_ok-all_items.ensures in
    rw (
      c.in_ok-copy-in-Some.ensures,
      c.node.ensures,
      c.in_ok-offsets-in-Some.ensures,
      c.len.ensures.len,
    ) (
      few_joined s t y c.args.offsets.now c.args.row.now c.requires.row h.0,
      one_given s t y c.args.offsets.now c.args.row.now c.args.lists.now.class
          c.content.ensures.lists c.requires.row c.requires.one z h.1 c.len.ensures.items,
    )
