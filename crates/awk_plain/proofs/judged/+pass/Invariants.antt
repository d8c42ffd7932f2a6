use Rattle.std.proofs.Common.{◌≡◌, drop}
use Rattle.serde_json.specs.View.{items_view, members_view}
use Rattle.awk_plain.specs.Judged.{number_passes, text_passes}
use Rattle.awk_plain.specs.Plain.{items_pass, members_pass}
use Rattle.awk_plain.proofs.judged.+pass.Given as goal

-- the rest decides
abbrev pub invariant-each_passes-loop-item : goal.invariant-each_passes-loop-item
invariant-each_passes-loop-item l =
    items_pass (number_passes l.test) (text_passes l.test) (items_view l.items.items)
    ≡ items_pass (number_passes l.test) (text_passes l.test)
    (items_view (drop l.item-index l.item-items))

abbrev pub invariant-members_pass-loop-key : goal.invariant-members_pass-loop-key
invariant-members_pass-loop-key l =
    members_pass (number_passes l.test) (text_passes l.test) (members_view l.members.entries)
    ≡ members_pass (number_passes l.test) (text_passes l.test) (members_view l.key-iterator)
