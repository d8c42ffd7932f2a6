use Rattle.std.proofs.Common.{◌∙◌, [], ◌∷◌, ap, map, take}
use Rattle.std.proofs.lemmas.List.{map-append}
use Rattle.awk_types.specs.DataType.{uni, tup, rec, types_from}
use Rattle.awk_base.proofs.Lists.{take-get}
use Rattle.awk_types.proofs.Views.{typ_of-Uni, typ_of-Tup, typ_of-Rec}
use Rattle.awk_layout.specs.Typing.{layout_type}
use Rattle.awk_layout.proofs.ContentTypes.{layout_types-layouts_from}
use Rattle.awk_layout.proofs.typing.+typing.Goals as goal

pub types_of-loop-i-preserved : goal.types_of-loop-i-preserved
types_of-loop-i-preserved t c =
    let xs = c.args.contents.now in
    let more = ap (map layout_type) (take-get xs c.loop-i.i c.get.result.now c.get.ensures) in
    let e = map-append layout_type (take c.loop-i.i xs) (c.get.result.now ∷ []) in
    cc (c.loop-i.invariant, c.in_ok-type_of.ensures.typ, c.in_ok-push.ensures.ok)

pub type_of-returns-in_ok-types_of-in-Union-clause-typ :
    goal.type_of-returns-in_ok-types_of-in-Union-clause-typ
type_of-returns-in_ok-types_of-in-Union-clause-typ t c =
    typ_of-Uni _ ∙ ap uni (ap types_from c.in_ok-types_of-in-Union.ensures ∙
    layout_types-layouts_from _) ∙ ap layout_type c.in-Union.ensures.class

pub type_of-returns-in_ok-types_of-in-Row-None-default-clause-typ :
    goal.type_of-returns-in_ok-types_of-in-Row-None-default-clause-typ
type_of-returns-in_ok-types_of-in-Row-None-default-clause-typ t c =
    typ_of-Tup _ ∙ ap tup (ap types_from c.in_ok-types_of-in-Row-None-default.ensures ∙
    layout_types-layouts_from _)
    ∙ ap layout_type (rw c.in-Row-None-default.names-is at c.in-Row-None-default.ensures.class)

pub type_of-returns-in_ok-named-in-Row-Some-default-clause-typ :
    goal.type_of-returns-in_ok-named-in-Row-Some-default-clause-typ
type_of-returns-in_ok-named-in-Row-Some-default-clause-typ t c =
    let made = c.in_ok-named-in-Row-Some-default.ensures in
    let types = made.types ∙ c.in_ok-types_of-in-Row-Some-default.ensures in
    typ_of-Rec _ ∙ rw (made.names, types) (ap (rec c.in-Row-Some-default.names.now)
    (layout_types-layouts_from c.in-Row-Some-default.contents.now))
    ∙ ap layout_type (rw c.in-Row-Some-default.names-is at c.in-Row-Some-default.ensures.class)
