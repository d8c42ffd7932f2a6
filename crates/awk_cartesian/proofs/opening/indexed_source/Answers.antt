use Rattle.std.proofs.Common.{◌≡◌, true, ap, sym, ◌∙◌, subst}
use Rattle.std.specs.Prelude.{is_some}
use Rattle.awk_base.proofs.Results.{if_ok}
use Rattle.awk_types.specs.Parts.{list_item}
use Rattle.awk_types.specs.Predicates.{is_unknown}
use Rattle.awk_layout.specs.Typing.{array_type}
use Rattle.awk_gather.specs.Arrays.{array_item}
use Rattle.awk_merge_operands.specs.Operands.{values_by, IsListIndex}
use Rattle.awk_cartesian.specs.Sources.{IsOpened, IsOfLists, IsOfNone}
use Rattle.awk_cartesian.proofs.OpeningLaws.{lists_opened, none_opened, some_lists, nothing}
use Rattle.awk_cartesian.proofs.opening.indexed_source.Goals as goal

pub returns-then-is_unknown : goal.returns-then-is_unknown
returns-then-is_unknown g c =
    let x = c.args.x.now in
    let e : is_unknown (array_type x) ≡ true =
    ap is_unknown (sym c.typ.ensures.typ) ∙ sym c.is_unknown.ensures ∙ c.if-is_unknown.true in
    if_ok (IsOfNone c.args.index c.args.n x)
    (IsOpened (values_by c.args.index c.args.n (array_item x)) (list_item (array_type x))
    (is_some c.args.index)) c.empty_source.result
    (λ r a. none_opened c.args.index c.args.n x (nothing x e c.len.ensures.items)
    c.requires.index r a) c.empty_source.ensures

pub opened_lists-requires : goal.opened_lists-requires
opened_lists-requires g c =
    let x = c.args.x.now in
    some_lists (array_type x) c.requires.lists
    (ap is_unknown (sym c.typ.ensures.typ) ∙ sym c.is_unknown.ensures ∙ c.if-is_unknown.false)

pub lists_source-requires : goal.lists_source-requires
lists_source-requires g c =
    subst (IsListIndex c.args.index c.args.n) (sym c.in_ok-lists.ensures.size) c.requires.index

pub returns : goal.returns
returns g c =
    let x = c.args.x.now in
    let l = c.in_ok-lists.lists in
    if_ok (IsOfLists c.args.index c.args.n l)
    (IsOpened (values_by c.args.index c.args.n (array_item x)) (list_item (array_type x))
    (is_some c.args.index)) c.lists_source.result
    (λ r a. lists_opened c.args.index c.args.n l.class l.starts l.stops l.content x
    c.in_ok-lists.ensures c.requires.index r a) c.lists_source.ensures
