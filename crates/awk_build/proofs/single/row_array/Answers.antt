use Rattle.std.proofs.Common.{◌≡◌, ◌∙◌, ◌∷◌, [], Some, ap, map, subst, sym}
use Rattle.std.proofs.lemmas.Result.{IfOk-weaker}
use Rattle.awk_types.specs.DataType.{rec, types_from}
use Rattle.awk_types.specs.Limit.{limit}
use Rattle.awk_types.specs.Value.{row, values_from}
use Rattle.awk_layout.specs.Contents.{count-layouts_from}
use Rattle.awk_layout.specs.Typing.{array_type, array_items}
use Rattle.awk_layout.specs.Valid.{AreNames}
use Rattle.awk_gather.specs.Arrays.{array_item}
use Rattle.awk_open.proofs.OpenedKinds.{type-rows}
use Rattle.awk_build.proofs.SingleLaws.{one_row}
use Rattle.awk_build.proofs.single.row_array.Goals as goal

pub row-requires-clause-names : goal.row-requires-clause-names
row-requires-clause-names g c =
    subst (AreNames (Some c.args.names)) (sym (count-layouts_from c.args.columns)) c.requires.names

pub of_node-requires : goal.of_node-requires
of_node-requires g c =
    ap (λ x. limit (array_type x)) c.row.ensures.node
    ∙ ap limit (type-rows (Some c.args.names) 1 c.args.columns) ∙ c.requires.limit

pub returns-clause-typ : goal.returns-clause-typ
returns-clause-typ g c =
    IfOk-weaker c.of_node.result (λ y. y ≡ c.row.result)
    (λ y. array_type y ≡ rec c.args.names (types_from (map array_type c.args.columns)))
    (λ y e. ap array_type (e ∙ c.row.ensures.node)
    ∙ type-rows (Some c.args.names) 1 c.args.columns) c.of_node.ensures

pub returns-clause-items : goal.returns-clause-items
returns-clause-items g c =
    IfOk-weaker c.of_node.result (λ y. y ≡ c.row.result)
    (λ y. array_items y
    ≡ row (values_from (map (λ x. array_item x 0) c.args.columns)) ∷ [])
    (λ y e. ap array_items (e ∙ c.row.ensures.node)
    ∙ one_row c.args.names c.args.columns) c.of_node.ensures
