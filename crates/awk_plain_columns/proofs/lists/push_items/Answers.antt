use Rattle.std.proofs.Common.{◌≡◌, ◌∙◌, ◌++◌, ap, map, subst, sym}
use Rattle.std.specs.Prelude.{OnOk}
use Rattle.serde_json.proofs.Views.{view-Array}
use Rattle.serde_json.specs.Data.{array}
use Rattle.serde_json.specs.View.{items_view, view}
use Rattle.awk_plain_columns.proofs.SuitedLaws.{data_view}
use Rattle.awk_plain_columns.specs.Suited.{items_of}
use Rattle.awk_plain_columns.proofs.lists.push_items.Goals as goal

pub returns-in-Array : goal.returns-in-Array
returns-in-Array c =
    let vs = c.in-Array.list.items in
    let viewed : view c.args.value.now ≡ array (items_view vs) =
    ap view c.in-Array.is ∙ view-Array c.in-Array.list in
    let same : map view c.deref.result.now ≡ items_of (view c.args.value.now) =
    ap (map view) c.deref.ensures.value ∙ sym (ap items_of viewed ∙ data_view vs) in
    subst (λ ds. OnOk c.push_all.result (map (λ v. view v.now) c.push_all.new.items.items
    ≡ map (λ v. view v.now) c.args.items.now.items ++ ds)) same c.push_all.ensures
