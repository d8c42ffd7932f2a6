use Rattle.std.proofs.Common.{◌≡◌, ◌∙◌, ◌+◌, ◌++◌, ◌∷◌, [], ap, arith, drop, map, subst, sym}
use Rattle.std.specs.Prelude.{IfOk, IfSome, string_bytes}
use Rattle.std.specs.List.{AllByRecursion}
use Rattle.std.proofs.lemmas.List.{drop_all}
use Rattle.serde_json.proofs.Views.{view-Object}
use Rattle.serde_json.specs.Data.{item, member, no_items, object}
use Rattle.serde_json.specs.View.{items_view, members_view, view}
use Rattle.awk_base.proofs.Results.{IfOk-both}
use Rattle.awk_types.specs.DataType.{leaf, rec, types_from}
use Rattle.awk_types.specs.Has.{Holds}
use Rattle.awk_types.specs.Value.{int, row, values_from}
use Rattle.awk_types.specs.declared.primitive.Primitive.TheVariants.{I64}
use Rattle.awk_layout.specs.Typing.{array_items, array_type}
use Rattle.awk_gather.specs.Arrays.{array_item}
use Rattle.awk_plain.specs.IsPlain.{AreJudged, HaveJudged, IsJudged}
use Rattle.awk_plain.proofs.TypeSteps.{item_next}
use Rattle.awk_build.specs.Built.{AreArraysOf, AreFieldsOf, IsArrayOf, IsArrayOfItems}
use Rattle.awk_build.specs.Numbers.{HasNumbers}
use Rattle.awk_build.specs.Joined.{joined_items, joined_type}
use Rattle.awk_build.proofs.BuiltLaws.{arrays_more, fields_more, fields_named}
use Rattle.awk_build.proofs.BuiltLaws.{fields_reach, items_made, items_within, row_made, row_within}
use Rattle.awk_build.proofs.NumberLaws.{numbers_hold, numbers_made}
use Rattle.awk_build.proofs.values.+build.Goals as goal

-- ---- objects

pub array_of-row_array-requires-clause-names : goal.array_of-row_array-requires-clause-names
array_of-row_array-requires-clause-names g t c =
    let n = c.in_ok-names-in-Object in
    fields_named (members_view c.in-Object.members.entries) n.names
    c.in_ok-fields-in-Object.fields n.ensures.names n.ensures.distinct
    c.in_ok-fields-in-Object.ensures

pub array_of-row_array-requires-clause-reach : goal.array_of-row_array-requires-clause-reach
array_of-row_array-requires-clause-reach g t c =
    fields_reach (members_view c.in-Object.members.entries) c.in_ok-fields-in-Object.fields
    c.in_ok-fields-in-Object.ensures

pub array_of-row_array-requires-clause-limit : goal.array_of-row_array-requires-clause-limit
array_of-row_array-requires-clause-limit g t c =
    let ms = members_view c.in-Object.members.entries in
    let viewed : view c.args.value.now ≡ object ms =
    ap view c.in-Object.is ∙ view-Object c.in-Object.members in
    row_within ms c.in_ok-names-in-Object.names c.in_ok-fields-in-Object.fields
    c.in_ok-names-in-Object.ensures.names c.in_ok-fields-in-Object.ensures
    (subst IsJudged viewed c.requires).0

pub array_of-returns-in_ok-fields-in-Object : goal.array_of-returns-in_ok-fields-in-Object
array_of-returns-in_ok-fields-in-Object g t c =
    let ms = members_view c.in-Object.members.entries in
    let viewed : view c.args.value.now ≡ object ms =
    ap view c.in-Object.is ∙ view-Object c.in-Object.members in
    let names = c.in_ok-names-in-Object.names in
    let xs = c.in_ok-fields-in-Object.fields in
    let r = c.row_array.result in
    subst (λ d. IfOk r (IsArrayOf d)) (sym viewed)
    (IfOk-both r (λ y. array_type y ≡ rec names (types_from (map array_type xs)))
    (λ y. array_items y ≡ row (values_from (map (λ x. array_item x 0) xs)) ∷ [])
    (IsArrayOf (object ms))
    (λ y e f. row_made ms names xs y c.in_ok-names-in-Object.ensures.names
    c.in_ok-names-in-Object.ensures.distinct c.in_ok-fields-in-Object.ensures e f)
    c.row_array.ensures.typ c.row_array.ensures.items)

pub field_nodes-loop-key-preserved : goal.field_nodes-loop-key-preserved
field_nodes-loop-key-preserved g t c =
    let ms = members_view c.args.members.now.entries in
    let key = string_bytes c.in-Some.key.now in
    let d = view c.in-Some.member.now in
    let rest = members_view c.next.new.self in
    let xs = c.loop-key.nodes in
    let left : AreFieldsOf ms xs (member key d rest) × HaveJudged (member key d rest) =
    subst (λ es. AreFieldsOf ms xs (members_view es) × HaveJudged (members_view es))
    c.in-Some.ensures.steps c.loop-key.invariant in (
      subst (λ ys. AreFieldsOf ms ys rest)
          (sym (c.in_ok-push.ensures.ok ∙ ap (λ x. xs ++ x ∷ []) c.into_node.ensures))
          (fields_more ms xs key d rest c.in_ok-array_of.field-0 left.0 c.in_ok-array_of.ensures),
      left.1.1,
    )

-- ---- lists of numbers

pub items_array-numbers_array-requires : goal.items_array-numbers_array-requires
items_array-numbers_array-requires g t c =
    let ds = items_view c.deref.result.now in
    let zs = c.in-Some.numbers.items in
    let h : HasNumbers ds zs =
    subst (λ o. IfSome o (λ ys. HasNumbers ds ys.items)) c.in-Some.is c.in_ok-numbers.ensures in
    subst (AllByRecursion (Holds I64)) (sym c.deref-in-Some.ensures.value)
    (numbers_hold ds zs h.all)

pub items_array-returns-in-Some : goal.items_array-returns-in-Some
items_array-returns-in-Some g t c =
    let ds = items_view c.args.items.now.items in
    let zs = c.in-Some.numbers.items in
    let h : HasNumbers ds zs =
    subst (λ vs. HasNumbers (items_view vs) zs) c.deref.ensures.value
    (subst (λ o. IfSome o (λ ys. HasNumbers (items_view c.deref.result.now) ys.items)) c.in-Some.is
    c.in_ok-numbers.ensures) in
    IfOk-both c.numbers_array.result (λ y. array_type y ≡ leaf I64)
    (λ y. array_items y ≡ map int c.deref-in-Some.result.now) (IsArrayOfItems ds)
    (λ y e f. numbers_made ds zs y h e (f ∙ ap (map int) c.deref-in-Some.ensures.value))
    c.numbers_array.ensures.typ c.numbers_array.ensures.items

-- ---- lists

pub items_array-loop-item-preserved : goal.items_array-loop-item-preserved
items_array-loop-item-preserved g t c =
    let ds = items_view c.args.items.now.items in
    let vs = c.deref-item-items.result.now in
    let v = c.item-item.result in
    let rest = items_view (drop (c.loop-item.item-index + 1) vs) in
    let xs = c.loop-item.arrays in
    let left : AreArraysOf ds xs (item (view v) rest) × AreJudged (item (view v) rest) =
    subst (λ es. AreArraysOf ds xs es × AreJudged es)
    (item_next vs c.loop-item.item-index v (omega arith) c.item-item.is) c.loop-item.invariant in (
      subst (λ ys. AreArraysOf ds ys rest) (sym c.in_ok-push.ensures.ok)
          (arrays_more ds xs (view v) rest c.in_ok-array_of.field-0 left.0
          c.in_ok-array_of.ensures),
      left.1.1,
    )

pub items_array-joined-requires : goal.items_array-joined-requires
items_array-joined-requires g t c =
    let ds = items_view c.args.items.now.items in
    let xs = c.loop-item.arrays in
    items_within ds xs
    (subst (λ ws. AreArraysOf ds xs (items_view ws))
    (drop_all c.loop-item.item-index c.deref-item-items.result.now
    (omega (arith, c.loop-item-test.false))) c.loop-item.invariant.0) c.requires.limit

pub items_array-returns : goal.items_array-returns
items_array-returns g t c =
    let ds = items_view c.args.items.now.items in
    let xs = c.loop-item.arrays in
    let all : AreArraysOf ds xs no_items =
    subst (λ ws. AreArraysOf ds xs (items_view ws))
    (drop_all c.loop-item.item-index c.deref-item-items.result.now
    (omega (arith, c.loop-item-test.false))) c.loop-item.invariant.0 in
    IfOk-both c.joined.result (λ y. array_type y ≡ joined_type xs)
    (λ y. array_items y ≡ joined_items xs) (IsArrayOfItems ds)
    (λ y e f. items_made ds xs y all e f) c.joined.ensures.typ c.joined.ensures.items
