use Rattle.std.proofs.Common.{rules, arith, ◌≡◌, [], ◌∷◌, ◌++◌, length, refl, ap, ◌∙◌}
use Rattle.std.proofs.lemmas.List.{length-append}
use Rattle.awk_types.specs.View.{NamedType, typ_of, fields_of}
use Rattle.awk_base.proofs.Lists.{map-take_next, shown-push}
use Rattle.awk_types.proofs.Views.{named_type, field_of-roll}
use Rattle.awk_types.proofs.typ.Fields.named.Goals as goal

pub loop-typ-preserved : goal.loop-typ-preserved
loop-typ-preserved c =
    let f = named_type c.in_ok-name.name (typ_of c.in-Some.typ) in
    let made = fields_of c.loop-typ.made in
    let more = fields_of c.push.new.self in
    let pushed : more ≡ made ++ f ∷ [] = c.in_ok-push.ensures.ok ∙ ap (λ g. made ++ g ∷ [])
    (field_of-roll c.in_ok-name.name c.in-Some.typ) in
    let left = c.loop-typ.typ-iterator.rest.items in
    let later = c.next.new.self.rest.items in
    let rest : left ≡ c.in-Some.typ ∷ later = search rules in
    record {
      names =
          map-take_next (λ (g : NamedType). g.name) made more f c.args.names.now pushed
          c.loop-typ.invariant.names (search rules);
      types =
          shown-push (λ (g : NamedType). g.typ) typ_of made more f left later c.in-Some.typ pushed
          rest refl ∙ c.loop-typ.invariant.types;
      count = omega (arith, ap length pushed, length-append made (f ∷ []), ap length rest);
    }
