use Rattle.std.proofs.Common.{ap, ◌∙◌, sym}
use Rattle.awk_types.specs.View.{NamedType, typ_of, field_of}
use Rattle.awk_list_functions.proofs.TypeWalks.{refusal_next, refusal_next_field}
use Rattle.awk_types.proofs.Views.{field_of-out}
use Rattle.awk_list_functions.specs.Lift.{refusal_at}
use Rattle.awk_list_functions.proofs.types.+refusal.Goals as goal

pub refusal_of_all-loop-i-preserved : goal.refusal_of_all-loop-i-preserved
refusal_of_all-loop-i-preserved g t c =
    refusal_next _ _ _ c.loop-i.i (typ_of c.get.result.now) _ _ _ _ c.get.ensures.item
    c.refusal_at.ensures c.sooner_refusal-first.ensures c.loop-i.invariant

pub refusal_of_fields-loop-i-preserved : goal.refusal_of_fields-loop-i-preserved
refusal_of_fields-loop-i-preserved g t c =
    let out = field_of-out c.get.result.now in
    refusal_next_field _ _ _ c.loop-i.i (field_of c.get.result.now) _ _ _ _ c.get.ensures.item
    (c.refusal_at.ensures ∙ ap (λ (f : NamedType). refusal_at (g.F.ListOp.function c.args.f.now)
    c.args.k f.typ) (sym out)) c.sooner_refusal-first.ensures c.loop-i.invariant
