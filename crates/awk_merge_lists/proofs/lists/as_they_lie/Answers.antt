use Rattle.std.specs.Prelude.{◌≡◌}
use Rattle.std.proofs.Common.{◌∙◌, sym, subst}
use Rattle.awk_merge_lists.specs.Lists.{HoldsLists}
use Rattle.awk_merge_lists.proofs.OpenedLists.{holds_some}
use Rattle.awk_merge_lists.proofs.lists.as_they_lie.Goals as goal

pub returns : goal.returns
returns c x o =
    let l = c.args.lists.now in
    let y = c.in_ok-content.content in
    let starts : c.copy-2.result ≡ l.starts = c.copy-2.ensures ∙ c.starts.ensures in
    let stops : c.copy-3.result ≡ l.stops = c.copy-3.ensures ∙ c.stops.ensures in
    let content : y ≡ l.content = c.in_ok-content.ensures ∙ c.content.ensures.content in
    subst (λ s. HoldsLists x s c.copy-3.result y) (sym starts)
    (subst (λ t. HoldsLists x l.starts t y) (sym stops)
    (subst (λ z. HoldsLists x l.starts l.stops z) (sym content)
    (holds_some l.class l.starts l.stops l.content x o c.requires.some)))
