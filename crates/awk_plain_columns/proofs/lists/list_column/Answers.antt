use Rattle.std.proofs.Common.{◌∙◌, Some, ap, arith, length, map, subst, sym}
use Rattle.std.proofs.lemmas.List.{length-map}
use Rattle.serde_json.specs.View.{view}
use Rattle.awk_lanes.specs.Counted.{AreOffsetsBy}
use Rattle.awk_layout.specs.Typing.{array_items}
use Rattle.awk_plain.specs.Suits.{own_value}
use Rattle.awk_plain_columns.proofs.ListColumns.{lists_fit, lists_made, lists_size}
use Rattle.awk_plain_columns.specs.Suited.{length_at}
use Rattle.awk_plain_columns.proofs.lists.list_column.Goals as goal

pub list_offset-requires-clause-length : goal.list_offset-requires-clause-length
list_offset-requires-clause-length g c =
    let xs = c.args.values.now in
    let vs = map (λ v. own_value (view v.now)) xs in
    let o = c.in-Some.offsets in
    let by : AreOffsetsBy 9223372036854775807 (length_at vs) (length xs) (Some o) =
    subst (AreOffsetsBy 9223372036854775807 (length_at vs) (length xs)) c.in-Some.is
    c.in_ok-offsets.ensures in
    omega (
      arith,
      lists_size vs (length xs) o.lane (sym (length-map xs (λ v. own_value (view v.now)))) by.2,
    )

pub list_offset-requires-clause-valid : goal.list_offset-requires-clause-valid
list_offset-requires-clause-valid g c =
    let xs = c.args.values.now in
    let vs = map (λ v. own_value (view v.now)) xs in
    let o = c.in-Some.offsets in
    let by : AreOffsetsBy 9223372036854775807 (length_at vs) (length xs) (Some o) =
    subst (AreOffsetsBy 9223372036854775807 (length_at vs) (length xs)) c.in-Some.is
    c.in_ok-offsets.ensures in
    let z = c.in_ok-content-in-Some.content.value in
    lists_fit vs (length xs) o.lane z (sym (length-map xs (λ v. own_value (view v.now)))) by.2
    (ap array_items c.in_ok-content-in-Some.ensures.ok ∙ c.requires.items)

pub returns-in-Some-clause-items : goal.returns-in-Some-clause-items
returns-in-Some-clause-items g c =
    let xs = c.args.values.now in
    let vs = map (λ v. own_value (view v.now)) xs in
    let o = c.in-Some.offsets in
    let by : AreOffsetsBy 9223372036854775807 (length_at vs) (length xs) (Some o) =
    subst (AreOffsetsBy 9223372036854775807 (length_at vs) (length xs)) c.in-Some.is
    c.in_ok-offsets.ensures in
    let z = c.in_ok-content-in-Some.content.value in
    lists_made vs (length xs) o.lane z c.list_offset.result
    (sym (length-map xs (λ v. own_value (view v.now)))) by.2 c.requires.lists
    (ap array_items c.in_ok-content-in-Some.ensures.ok ∙ c.requires.items)
    c.list_offset.ensures.node
