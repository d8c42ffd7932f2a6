use Rattle.std.proofs.Common.{◌≡◌, sym, subst}
use Rattle.awk_base.proofs.Results.{if_ok}
use Rattle.awk_layout.specs.Layout.{Layout, unmasked}
use Rattle.awk_layout.specs.Valid.{len}
use Rattle.awk_padding.specs.Lanes.{ArePadded}
use Rattle.awk_padding.proofs.PadWhole.{unpadded_given}
use Rattle.awk_padding.proofs.padded.whole_items.Goals as goal

pub returns : goal.returns
returns g c =
    let p = c.args.padded.now.padding in
    let l = c.args.padded.now.lists.now in
    let given = unpadded_given p.size p.clip l.class l.starts l.stops l.content
    c.content-content.ensures.lists c.requires
    (rw c.content-content.ensures.content at c.len.ensures.items) in
    if_ok (λ (node : Layout). node ≡ unmasked (len l.content) l.content)
    (ArePadded p.size p.clip l.starts l.stops l.content) c.option_of_all.result
    (λ node e. subst (ArePadded p.size p.clip l.starts l.stops l.content) (sym e) given)
    (rw c.content-content.ensures.content at c.option_of_all.ensures)
