use Rattle.std.proofs.Common.{◌≡◌, sym, subst}
use Rattle.awk_base.proofs.Results.{if_ok}
use Rattle.awk_layout.specs.Laws.{len-fits}
use Rattle.awk_layout.specs.Layout.{offset_lists}
use Rattle.awk_nulls.specs.Lanes.{AreSingles}
use Rattle.awk_nulls.proofs.SingleLaws.{single_fit, single_offsets, singles_are}
use Rattle.awk_nulls.proofs.singles.singles_of.Goals as goal

pub lists_between-requires-clause-fits : goal.lists_between-requires-clause-fits
lists_between-requires-clause-fits g c =
    single_fit c.args.x.now c.in_ok-items.items.counts c.in_ok-items.items.content
    (len-fits c.args.x.now c.len.ensures.valid) c.in_ok-items.ensures

pub lists_between-requires-clause-offsets : goal.lists_between-requires-clause-offsets
lists_between-requires-clause-offsets g c =
    single_offsets c.args.x.now c.in_ok-items.items.counts c.in_ok-items.items.content
    (len-fits c.args.x.now c.len.ensures.valid) c.in_ok-items.ensures

pub returns : goal.returns
returns g c =
    if_ok (λ node. node ≡ offset_lists c.in_ok-items.items.counts c.in_ok-items.items.content)
    (AreSingles c.args.x.now) c.lists_between.result
    (λ node e. subst (AreSingles c.args.x.now) (sym e)
    (singles_are c.args.x.now c.in_ok-items.items.counts c.in_ok-items.items.content
    (len-fits c.args.x.now c.len.ensures.valid) c.in_ok-items.ensures))
    c.lists_between.ensures
