use Rattle.std.proofs.Common.{◌≡◌, ◌∙◌, ap, refl, subst}
use Rattle.std.specs.Prelude.{IfSome, None}
use Rattle.serde_json.specs.Data.{array}
use Rattle.serde_json.specs.View.{items_view}
use Rattle.awk_types.specs.DataType.{unknown, var}
use Rattle.awk_types.specs.Limit.{limit}
use Rattle.awk_types.specs.View.{typ_of}
use Rattle.awk_types.specs.declared.typ.Typ.{Var}
use Rattle.awk_plain.proofs.StandingLaws.{list_simple, list_stands, some_both}
use Rattle.awk_plain.proofs.TypeSteps.{typ_of-Var}
use Rattle.awk_plain.specs.Plain.{items_type}
use Rattle.awk_plain.specs.Standing.{Stands}
use Rattle.awk_plain.proofs.standing.standing_type.Goals as goal

pub if_within-requires : goal.if_within-requires
if_within-requires c =
    let ds = items_view c.args.items.now in
    let b = c.in_ok-new.field-0 in
    let t = typ_of c.in-Some.field-0.typ in
    let typ : t ≡ items_type unknown ds =
    subst (λ o. IfSome o (λ s. typ_of s.typ ≡ items_type unknown ds)) c.in-Some.is
    c.in_ok-typ.ensures.typ in
    list_simple t (typ_of (Var b)) ds typ
    (typ_of-Var b ∙ ap (λ x. var (typ_of x)) c.in_ok-new.ensures.ok)

pub returns : goal.returns
returns c =
    let ds = items_view c.args.items.now in
    let b = c.in_ok-new.field-0 in
    let t = typ_of c.in-Some.field-0.typ in
    let typ : t ≡ items_type unknown ds =
    subst (λ o. IfSome o (λ s. typ_of s.typ ≡ items_type unknown ds)) c.in-Some.is
    c.in_ok-typ.ensures.typ in
    let list : typ_of (Var b) ≡ var t =
    typ_of-Var b ∙ ap (λ x. var (typ_of x)) c.in_ok-new.ensures.ok in
    some_both c.if_within.result (λ u. typ_of u ≡ typ_of (Var b)) (λ u. limit (typ_of u) ≡ None)
    (λ u. Stands (typ_of u) (array ds))
    (λ u same within. list_stands t (typ_of u) ds typ (c.if-not-stand_before.ensures.plain refl)
    (c.if-not-stand_before.ensures.suited refl) (same ∙ list) within) c.if_within.ensures.same
    c.if_within.ensures.within
