use Rattle.std.proofs.Common.{◌≡◌, ◌∙◌, ◌++◌, ap, map, subst, sym}
use Rattle.std.specs.Prelude.{OnOk}
use Rattle.serde_json.proofs.Views.{view-Object}
use Rattle.serde_json.specs.Data.{object}
use Rattle.serde_json.specs.View.{members_view, view}
use Rattle.awk_plain_columns.specs.Suited.{members_of}
use Rattle.awk_plain_columns.proofs.records.push_members.Goals as goal

pub returns-in-Object : goal.returns-in-Object
returns-in-Object c =
    let ms = members_view c.in-Object.members.entries in
    let viewed : view c.args.value.now ≡ object ms =
    ap view c.in-Object.is ∙ view-Object c.in-Object.members in
    subst (λ ds. OnOk c.push_each.result (map (λ v. view v.now) c.push_each.new.parts.items
    ≡ map (λ v. view v.now) c.args.parts.now.items ++ ds)) (sym (ap members_of viewed))
    c.push_each.ensures
