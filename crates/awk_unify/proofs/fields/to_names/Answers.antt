use Rattle.std.proofs.Common.{◌≡◌, ◌∙◌, ap, arith, map, sym}
use Rattle.awk_types.specs.View.{field_of, fields_of, names_of}
use Rattle.awk_name_places.specs.Places.{place_in}
use Rattle.awk_types.proofs.Views.{name_out}
use Rattle.awk_unify.specs.Carry.{carries_from, to_parts}
use Rattle.awk_unify.specs.Carries.{carry_at}
use Rattle.awk_unify.specs.View.{lifts_of}
use Rattle.awk_unify.proofs.NamePlaces.{made-all, made-next}
use Rattle.awk_unify.proofs.Views.{lift_of-Parts}
use Rattle.awk_unify.proofs.fields.to_names.Goals as goal

pub loop-i-preserved : goal.loop-i-preserved
loop-i-preserved c =
    let at : c.place_by-k.result ≡ place_in (names_of (fields_of c.args.xs.now))
    (field_of c.get.result.now).name =
    c.place_by-k.ensures.at ∙ ap (place_in (names_of (fields_of c.args.xs.now)))
    (sym (name_out c.get.result.now)) in (
      made-next (place_in (names_of (fields_of c.args.xs.now))) (fields_of c.args.ys.now) c.loop-i.i
          (field_of c.get.result.now) _ _ _ c.get.ensures.item c.loop-i.invariant.0
          c.in_ok-push.ensures.ok at,
      made-next (λ m. carry_at (lifts_of c.args.rights.now)
          (place_in (names_of (fields_of c.args.xs.now)) m)) (fields_of c.args.ys.now) c.loop-i.i
          (field_of c.get.result.now) _ _ _ c.get.ensures.item c.loop-i.invariant.1
          c.in_ok-push-2.ensures.ok (c.in_ok-lift_at.ensures ∙ ap
          (carry_at (lifts_of c.args.rights.now)) at),
    )

pub returns : goal.returns
returns c =
    lift_of-Parts c.loop-i.places c.loop-i.parts
    ∙ ap (λ ks. to_parts ks (carries_from (lifts_of c.loop-i.parts)))
    (made-all (place_in (names_of (fields_of c.args.xs.now))) (fields_of c.args.ys.now)
    c.loop-i.i _ (omega (arith, c.loop-i-test.false, c.loop-i.auto.i-end, c.len-i-end.ensures))
    c.loop-i.invariant.0)
    ∙ ap (λ fs. to_parts (map (place_in (names_of (fields_of c.args.xs.now)))
    (names_of (fields_of c.args.ys.now))) (carries_from fs))
    (made-all (λ m. carry_at (lifts_of c.args.rights.now)
    (place_in (names_of (fields_of c.args.xs.now)) m)) (fields_of c.args.ys.now) c.loop-i.i _
    (omega (arith, c.loop-i-test.false, c.loop-i.auto.i-end, c.len-i-end.ensures))
    c.loop-i.invariant.1)
