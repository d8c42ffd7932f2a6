use Rattle.std.proofs.Common.{◌≡◌, [], ◌∙◌, ap, subst}
use Rattle.awk_types.specs.DataType.{leaf}
use Rattle.awk_types.specs.Faults.{fault_told, limit_refused}
use Rattle.awk_types.specs.Gives.{Gives, refused_or}
use Rattle.awk_types.specs.Simple.{option_if}
use Rattle.awk_types.specs.View.{typ_of}
use Rattle.awk_layout.specs.Kinds.{primitive_of, primitive_of-kind_of}
use Rattle.awk_layout.specs.Typing.{array_type}
use Rattle.awk_frames.specs.Framed.{over_type}
use Rattle.awk_choose.proofs.types.result_typ.Goals as goal

pub returns-clause-answer : goal.returns-clause-answer
returns-clause-answer g c t h =
    let u = option_if c.args.optional (leaf c.args.prim) in
    let below : array_type c.in_ok-leaves.leaves ≡ u =
    c.in_ok-leaves.ensures.typ
    ∙ ap (λ k. option_if c.args.optional (leaf (primitive_of k)))
    (c.in_ok-no_numbers-2.ensures.kind ∙ c.kind_of.ensures)
    ∙ ap (λ p. option_if c.args.optional (leaf p)) (primitive_of-kind_of c.args.prim) in
    subst (λ t. Gives typ_of fault_told c.typ_within.result (refused_or (limit_refused t) t))
    (c.in_ok-node.ensures.typ t [] h ∙ ap (over_type t) below) c.typ_within.ensures.answer
