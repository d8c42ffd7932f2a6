use Rattle.std.proofs.Common.{◌≡◌, ◌∙◌, ap, arith, length, sym}
use Rattle.serde_json.proofs.Views.{view-Array}
use Rattle.serde_json.specs.Data.{array}
use Rattle.serde_json.specs.View.{items_view, view}
use Rattle.awk_columns.specs.Columns.{list_items}
use Rattle.awk_plain.specs.Suits.{own_value}
use Rattle.awk_plain_columns.proofs.SuitedLaws.{count_items}
use Rattle.awk_plain_columns.proofs.lists.item_count.Goals as goal

pub returns-in-Array : goal.returns-in-Array
returns-in-Array c =
    let vs = c.in-Array.items.items in
    let viewed : view c.args.value.now ≡ array (items_view vs) =
    ap view c.in-Array.is ∙ view-Array c.in-Array.items in
    let counted : c.len.result ≡ length vs = omega (arith, c.len.ensures, c.in-Array.items.ok) in
    counted ∙ sym (ap (λ d. length (list_items (own_value d))) viewed ∙ count_items vs)
