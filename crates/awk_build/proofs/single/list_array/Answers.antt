use Rattle.std.proofs.Common.{◌≡◌, ◌∙◌, ◌∷◌, [], ap}
use Rattle.std.proofs.lemmas.Result.{IfOk-weaker}
use Rattle.awk_types.specs.Value.{list, values_from}
use Rattle.awk_layout.specs.Layout.{offset_lists}
use Rattle.awk_layout.specs.Typing.{array_items}
use Rattle.awk_build.proofs.SingleLaws.{one_list}
use Rattle.awk_build.proofs.single.list_array.Goals as goal

pub returns-clause-items : goal.returns-clause-items
returns-clause-items g c =
    let o = c.in_ok-offsets.offsets in
    let x = c.args.x in
    IfOk-weaker c.of_node.result (λ y. y ≡ c.list_offset.result)
    (λ y. array_items y ≡ list (values_from (array_items x)) ∷ [])
    (λ y e. ap array_items
    (e ∙ c.list_offset.ensures.node
    ∙ ap (offset_lists o) (c.in_ok-content.ensures.ok ∙ c.into_node.ensures))
    ∙ one_list o c.len.result x c.in_ok-offsets.ensures c.len.ensures.len) c.of_node.ensures
