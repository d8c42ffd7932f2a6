use Rattle.std.proofs.Common.{◌≡◌, ap, ◌∙◌, sym}
use Rattle.awk_types.specs.View.{NamedType, typ_of, field_of}
use Rattle.awk_list_functions.proofs.TypeWalks.{lifted_next, lifted_next_field, names_next}
use Rattle.awk_types.proofs.Views.{field_of-out}
use Rattle.awk_list_functions.specs.Lift.{lifted_type}
use Rattle.awk_list_functions.proofs.types.+lifted.Goals as goal

pub lifted_types-loop-i-preserved : goal.lifted_types-loop-i-preserved
lifted_types-loop-i-preserved g t c =
    lifted_next _ _ _ c.loop-i.i (typ_of c.get.result.now) _ _ _ _ c.get.ensures.item
    c.in_ok-lifted_type.ensures c.in_ok-push.ensures.ok c.loop-i.invariant

pub lifted_fields-loop-i-preserved : goal.lifted_fields-loop-i-preserved
lifted_fields-loop-i-preserved g t c =
    let u : NamedType = field_of (record { name = c.in_ok-name.name; typ = c.in_ok-typ.typ }) in
    let is : u ≡ record { name = c.in_ok-name.name; typ = typ_of c.in_ok-typ.typ } =
    field_of-out (record { name = c.in_ok-name.name; typ = c.in_ok-typ.typ }) in
    let out = field_of-out c.get.result.now in
    let out_typ = field_of-out c.get-in-loop-i.result.now in (
      names_next _ c.loop-i.i (field_of c.get.result.now) u _ _ c.get.ensures.item
          (ap (λ (f : NamedType). f.name) is ∙ c.in_ok-name.ensures
          ∙ ap (λ (f : NamedType). f.name) (sym out)) c.in_ok-push.ensures.ok c.loop-i.invariant.0,
      lifted_next_field _ _ _ c.loop-i.i (field_of c.get-in-loop-i.result.now) u _ _ _
          c.get-in-loop-i.ensures.item
          (ap (λ (f : NamedType). f.typ) is ∙ c.in_ok-typ.ensures
          ∙ ap (λ (f : NamedType). lifted_type (g.F.ListOp.function c.args.f.now).giving
          c.args.k f.typ) (sym out_typ)) c.in_ok-push.ensures.ok c.loop-i.invariant.1,
    )
