use Rattle.serde_json.specs.Data.{array}
use Rattle.serde_json.specs.View.{items_view}
use Rattle.awk_types.specs.View.{typ_of}
use Rattle.awk_plain.proofs.StandingLaws.{stands_free}
use Rattle.awk_plain.specs.Standing.{Stands}
use Rattle.awk_build.proofs.SuitedArrays.{standing_item, standing_lawful, standing_lists}
use Rattle.awk_build.proofs.SuitedArrays.{standing_some, standing_suited, suited_made}
use Rattle.awk_build.proofs.building.standing_array.Goals as goal

pub item_type-item-requires : goal.item_type-item-requires
item_type-item-requires g c =
    let vs = c.args.items.now.items in
    let s : Stands (typ_of c.in-Some.list) (array (items_view vs)) =
    standing_some c.in_ok-list.field-0 c.in-Some.list c.deref.result.now vs c.in-Some.is
    c.deref.ensures.value c.in_ok-list.ensures in
    standing_lists (typ_of c.in-Some.list) (items_view vs) s

pub suited_array-requires-clause-plain : goal.suited_array-requires-clause-plain
suited_array-requires-clause-plain g c =
    let vs = c.args.items.now.items in
    let s : Stands (typ_of c.in-Some.list) (array (items_view vs)) =
    standing_some c.in_ok-list.field-0 c.in-Some.list c.deref.result.now vs c.in-Some.is
    c.deref.ensures.value c.in_ok-list.ensures in
    s.plain

pub suited_array-requires-clause-suited : goal.suited_array-requires-clause-suited
suited_array-requires-clause-suited g c =
    let vs = c.args.items.now.items in
    let s : Stands (typ_of c.in-Some.list) (array (items_view vs)) =
    standing_some c.in_ok-list.field-0 c.in-Some.list c.deref.result.now vs c.in-Some.is
    c.deref.ensures.value c.in_ok-list.ensures in
    standing_suited (typ_of c.in-Some.list) (typ_of c.item_type-item.result.now) (items_view vs) s
    c.item_type-item.ensures

pub suited_array-requires-clause-typ : goal.suited_array-requires-clause-typ
suited_array-requires-clause-typ g c =
    let vs = c.args.items.now.items in
    let s : Stands (typ_of c.in-Some.list) (array (items_view vs)) =
    standing_some c.in_ok-list.field-0 c.in-Some.list c.deref.result.now vs c.in-Some.is
    c.deref.ensures.value c.in_ok-list.ensures in
    standing_lawful (typ_of c.in-Some.list) (typ_of c.item_type-item.result.now) (items_view vs) s
    c.item_type-item.ensures

pub returns-clause-free : goal.returns-clause-free
returns-clause-free g c =
    let vs = c.args.items.now.items in
    let s : Stands (typ_of c.in-Some.list) (array (items_view vs)) =
    standing_some c.in_ok-list.field-0 c.in-Some.list c.deref.result.now vs c.in-Some.is
    c.deref.ensures.value c.in_ok-list.ensures in
    stands_free (typ_of c.in-Some.list) (array (items_view vs)) s

pub returns-clause-items : goal.returns-clause-items
returns-clause-items g c =
    let vs = c.args.items.now.items in
    let t = typ_of c.in-Some.list in
    let u = typ_of c.item_type-item.result.now in
    let s : Stands t (array (items_view vs)) =
    standing_some c.in_ok-list.field-0 c.in-Some.list c.deref.result.now vs c.in-Some.is
    c.deref.ensures.value c.in_ok-list.ensures in
    suited_made vs u c.in_ok-suited_array.field-0
    (standing_item t u (items_view vs) s c.item_type-item.ensures) s.plain
    (standing_suited t u (items_view vs) s c.item_type-item.ensures)
    c.in_ok-suited_array.ensures.typ
    c.in_ok-suited_array.ensures.items
