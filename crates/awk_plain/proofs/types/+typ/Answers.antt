use Rattle.std.proofs.Common.{◌≡◌, ◌∙◌, ap, arith, refl, subst, sym}
use Rattle.std.specs.Prelude.{◌+◌, ◌∷◌, [], ◌++◌, drop, Err, string_bytes}
use Rattle.serde_json.proofs.Views.{view-Array, view-Object}
use Rattle.serde_json.specs.Data.{array, item, member, object}
use Rattle.serde_json.specs.View.{items_view, members_view, view}
use Rattle.awk_types.proofs.RefusalLaws.{Gives-Err}
use Rattle.awk_types.proofs.Views.{field_of-roll, named_type, typ_of-Rec}
use Rattle.awk_types.specs.DataType.{unknown, var}
use Rattle.awk_types.specs.Gives.{Gives, Told, refused_or}
use Rattle.awk_types.specs.Limit.{limit_told, within}
use Rattle.awk_types.specs.Simple.{IsSimple}
use Rattle.awk_types.specs.View.{fields_of, typ_of}
use Rattle.awk_plain.specs.Plain.{first_limit, items_made, items_type, members_made, plain_type}
use Rattle.awk_plain.specs.Plain.{types_made}
use Rattle.awk_plain.specs.Types.{fields_in}
use Rattle.awk_unify.specs.Unify.{unification}
use Rattle.awk_unify.specs.View.{unified_of}
use Rattle.awk_types.specs.Limit.{limit}
use Rattle.awk_plain.proofs.TypeSteps.{array_given, array_simple, array_told, object_given}
use Rattle.awk_plain.proofs.TypeSteps.{object_simple, object_told, typ_of-Var}
use Rattle.awk_plain.proofs.TypeSteps.{AreFields, AreLeft, item_left, item_next, item_told}
use Rattle.awk_plain.proofs.TypeSteps.{member_left, member_told, one_simple, suit_left}
use Rattle.awk_plain.proofs.TypeSteps.{unified_told}
use Rattle.awk_plain.proofs.TypeSteps.{unified_type}
use Rattle.awk_plain.proofs.types.+typ.Goals as goal

-- ---- lists

pub type_of-returns-in_err-item-in-Array : goal.type_of-returns-in_err-item-in-Array
type_of-returns-in_err-item-in-Array t c =
    let ds = items_view c.in-Array.items.items in
    let viewed : view c.args.value.now ≡ array ds =
    ap view c.in-Array.is ∙ view-Array c.in-Array.items in
    let e = c.in_err-item-in-Array.field-0.0 in
    let failed : c.from_residual-in_err-item-in-Array.result ≡ Err e = grind arith in
    Gives-Err typ_of limit_told c.from_residual-in_err-item-in-Array.result e
    (refused_or (first_limit (types_made (view c.args.value.now)))
    (plain_type (view c.args.value.now)))
    failed
    (subst (λ d. Told (limit_told e) (refused_or (first_limit (types_made d)) (plain_type d)))
    (sym viewed) (array_told (limit_told e) ds c.in_err-item-in-Array.ensures))

pub type_of-judged_type-requires : goal.type_of-judged_type-requires
type_of-judged_type-requires t c =
    let b = c.in_ok-new-in-Array.field-0 in
    subst IsSimple (sym (typ_of-Var b ∙ ap (λ u. var (typ_of u)) c.in_ok-new-in-Array.ensures.ok))
    (array_simple (items_view c.in-Array.items.items) (typ_of c.in_ok-item-in-Array.item)
    c.in_ok-item-in-Array.ensures)

pub type_of-returns-in_ok-new-in-Array : goal.type_of-returns-in_ok-new-in-Array
type_of-returns-in_ok-new-in-Array t c =
    let ds = items_view c.in-Array.items.items in
    let viewed : view c.args.value.now ≡ array ds =
    ap view c.in-Array.is ∙ view-Array c.in-Array.items in
    let b = c.in_ok-new-in-Array.field-0 in
    let r = c.judged_type.result in
    subst (λ d. Gives typ_of limit_told r (refused_or (first_limit (types_made d)) (plain_type d)))
    (sym viewed)
    (array_given ds (typ_of c.in_ok-item-in-Array.item) r c.in_ok-item-in-Array.ensures
    (subst (λ u. Gives typ_of limit_told r (within u))
    (typ_of-Var b ∙ ap (λ u. var (typ_of u)) c.in_ok-new-in-Array.ensures.ok)
    c.judged_type.ensures))

-- ---- objects

pub type_of-returns-in_err-fields-in-Object : goal.type_of-returns-in_err-fields-in-Object
type_of-returns-in_err-fields-in-Object t c =
    let ms = members_view c.in-Object.members.entries in
    let viewed : view c.args.value.now ≡ object ms =
    ap view c.in-Object.is ∙ view-Object c.in-Object.members in
    let e = c.in_err-fields-in-Object.field-0.0 in
    let failed : c.from_residual-in_err-fields-in-Object.result ≡ Err e = grind arith in
    Gives-Err typ_of limit_told c.from_residual-in_err-fields-in-Object.result e
    (refused_or (first_limit (types_made (view c.args.value.now)))
    (plain_type (view c.args.value.now)))
    failed
    (subst (λ d. Told (limit_told e) (refused_or (first_limit (types_made d)) (plain_type d)))
    (sym viewed) (object_told (limit_told e) ms c.in_err-fields-in-Object.ensures))

pub type_of-judged_type-requires-in-Object : goal.type_of-judged_type-requires-in-Object
type_of-judged_type-requires-in-Object t c =
    let fs = c.in_ok-fields-in-Object.fields in
    subst IsSimple (sym (typ_of-Rec fs))
    (object_simple (members_view c.in-Object.members.entries) (fields_of fs)
    c.in_ok-fields-in-Object.ensures)

pub type_of-returns-in_ok-fields-in-Object : goal.type_of-returns-in_ok-fields-in-Object
type_of-returns-in_ok-fields-in-Object t c =
    let ms = members_view c.in-Object.members.entries in
    let viewed : view c.args.value.now ≡ object ms =
    ap view c.in-Object.is ∙ view-Object c.in-Object.members in
    let fs = c.in_ok-fields-in-Object.fields in
    let r = c.judged_type-in-Object.result in
    subst (λ d. Gives typ_of limit_told r (refused_or (first_limit (types_made d)) (plain_type d)))
    (sym viewed)
    (object_given ms (fields_of fs) r c.in_ok-fields-in-Object.ensures
    (subst (λ u. Gives typ_of limit_told r (within u)) (typ_of-Rec fs)
    c.judged_type-in-Object.ensures))

-- ---- items

pub items_type-returns-in_err-one : goal.items_type-returns-in_err-one
items_type-returns-in_err-one t c =
    let ds = items_view c.args.items.now.items in
    let vs = c.deref-item-items.result.now in
    let v = c.item-item.result in
    let rest = items_view (drop (c.loop-item.item-index + 1) vs) in
    let left : AreLeft ds (typ_of c.loop-item.typ) (item (view v) rest) =
    subst (AreLeft ds (typ_of c.loop-item.typ))
    (item_next vs c.loop-item.item-index v (omega arith) c.item-item.is) c.loop-item.invariant in
    let e = c.in_err-one.field-0.0 in
    let failed : c.from_residual.result ≡ Err e = grind arith in
    Gives-Err typ_of limit_told c.from_residual.result e
    (refused_or (first_limit (items_made unknown ds)) (items_type unknown ds)) failed
    (item_told (limit_told e) ds (typ_of c.loop-item.typ) (view v) rest left c.in_err-one.ensures)

pub items_type-unify-requires : goal.items_type-unify-requires
items_type-unify-requires t c = (
  c.loop-item.invariant.simple,
  one_simple (view c.item-item.result) (typ_of c.in_ok-one.one) c.in_ok-one.ensures,
)

pub items_type-returns-in_err-typ : goal.items_type-returns-in_err-typ
items_type-returns-in_err-typ t c =
    let ds = items_view c.args.items.now.items in
    let vs = c.deref-item-items.result.now in
    let v = c.item-item.result in
    let rest = items_view (drop (c.loop-item.item-index + 1) vs) in
    let left : AreLeft ds (typ_of c.loop-item.typ) (item (view v) rest) =
    subst (AreLeft ds (typ_of c.loop-item.typ))
    (item_next vs c.loop-item.item-index v (omega arith) c.item-item.is) c.loop-item.invariant in
    let e = c.in_err-typ.field-0.0 in
    let failed : c.from_residual-in_err-typ.result ≡ Err e = grind arith in
    Gives-Err typ_of limit_told c.from_residual-in_err-typ.result e
    (refused_or (first_limit (items_made unknown ds)) (items_type unknown ds)) failed
    (unified_told (limit_told e) ds (typ_of c.loop-item.typ) (view v) rest (typ_of c.in_ok-one.one)
    left c.in_ok-one.ensures c.in_err-typ.ensures.gives)

pub items_type-loop-item-preserved : goal.items_type-loop-item-preserved
items_type-loop-item-preserved t c =
    let ds = items_view c.args.items.now.items in
    let vs = c.deref-item-items.result.now in
    let v = c.item-item.result in
    let so = typ_of c.loop-item.typ in
    let one = typ_of c.in_ok-one.one in
    let rest = items_view (drop (c.loop-item.item-index + 1) vs) in
    let left : AreLeft ds so (item (view v) rest) =
    subst (AreLeft ds so)
    (item_next vs c.loop-item.item-index v (omega arith) c.item-item.is) c.loop-item.invariant in
    item_left ds so (view v) rest one (typ_of c.in_ok-typ.field-0.typ) left c.in_ok-one.ensures
    c.in_ok-typ.ensures.within_limits
    (unified_type (limit (unification so one).typ) (unification so one)
    (unified_of c.in_ok-typ.field-0) c.in_ok-typ.ensures.gives)

pub items_type-loop-item-preserved-then-suits : goal.items_type-loop-item-preserved-then-suits
items_type-loop-item-preserved-then-suits t c =
    let ds = items_view c.args.items.now.items in
    let vs = c.deref-item-items.result.now in
    let v = c.item-item.result in
    let so = typ_of c.loop-item.typ in
    let rest = items_view (drop (c.loop-item.item-index + 1) vs) in
    let left : AreLeft ds so (item (view v) rest) =
    subst (AreLeft ds so)
    (item_next vs c.loop-item.item-index v (omega arith) c.item-item.is) c.loop-item.invariant in
    suit_left ds so (view v) rest left (c.if-suits.ensures.plain refl)
    (sym c.if-suits.ensures.value)

-- ---- members

pub member_types-returns-in_err-typ : goal.member_types-returns-in_err-typ
member_types-returns-in_err-typ t c =
    let ms = members_view c.args.members.now.entries in
    let key = string_bytes c.in-Some.key.now in
    let d = view c.in-Some.member.now in
    let rest = members_view c.next.new.self in
    let left : AreFields ms (fields_of c.loop-key.fields) (member key d rest) =
    subst (λ es. AreFields ms (fields_of c.loop-key.fields) (members_view es))
    c.in-Some.ensures.steps c.loop-key.invariant in
    let e = c.in_err-typ.field-0.0 in
    let failed : c.from_residual.result ≡ Err e = grind arith in
    Gives-Err fields_of limit_told c.from_residual.result e
    (refused_or (first_limit (members_made ms)) (fields_in ms)) failed
    (member_told (limit_told e) ms (fields_of c.loop-key.fields) key d rest left
    c.in_err-typ.ensures)

pub member_types-loop-key-preserved : goal.member_types-loop-key-preserved
member_types-loop-key-preserved t c =
    let ms = members_view c.args.members.now.entries in
    let key = string_bytes c.in-Some.key.now in
    let d = view c.in-Some.member.now in
    let rest = members_view c.next.new.self in
    let b = typ_of c.in_ok-typ.typ in
    let left : AreFields ms (fields_of c.loop-key.fields) (member key d rest) =
    subst (λ es. AreFields ms (fields_of c.loop-key.fields) (members_view es))
    c.in-Some.ensures.steps c.loop-key.invariant in
    let name : c.in_ok-name.name ≡ key = c.in_ok-name.ensures ∙ c.as_str.ensures.value in
    member_left ms (fields_of c.loop-key.fields) (fields_of c.push.new.self) key d rest b left
    c.in_ok-typ.ensures
    (c.in_ok-push.ensures.ok
    ∙ ap (λ f. fields_of c.loop-key.fields ++ f ∷ [])
    (field_of-roll c.in_ok-name.name c.in_ok-typ.typ ∙ ap (λ n. named_type n b) name))
