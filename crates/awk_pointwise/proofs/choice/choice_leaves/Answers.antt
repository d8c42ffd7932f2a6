use Rattle.std.proofs.Common.{◌≡◌, ap, ap₂, sym, subst, ◌∙◌}
use Rattle.std.specs.Prelude.{Ok}
use Rattle.awk_types.specs.Faults.{fault_told}
use Rattle.awk_types.specs.Gives.{Gives}
use Rattle.awk_types.specs.declared.primitive.Primitive.{Primitive}
use Rattle.awk_types.specs.declared.primitive.Primitive.TheVariants as prim
use Rattle.awk_leaves.specs.Table.{choice_judged}
use Rattle.awk_leaves.specs.Values.{chosen_values, in_judged}
use Rattle.awk_leaves.specs.declared.leaf_type.LeafType.TheVariants.{Of}
use Rattle.awk_pointwise.specs.Choice.{chosen_items}
use Rattle.awk_pointwise.specs.Optional.{optional_type, optional_values}
use Rattle.awk_pointwise.specs.Selection.{AreWhole}
use Rattle.awk_pointwise.specs.Sides.{lane_values, leaf_type}
use Rattle.awk_pointwise.proofs.ChoiceTyped.{choice_same}
use Rattle.awk_pointwise.proofs.choice.choice_leaves.Goals as goal

pub whole_choice-requires : goal.whole_choice-requires
whole_choice-requires g c =
    let w = c.in-Some.whole in
    let n = c.args.n in
    let h : AreWhole c.args.condition.now c.args.sides.0.now c.args.sides.1.now w =
    c.in-Some.ensures in
    record {
      kind = h.kind;
      size = h.size n c.requires.condition;
      first = h.first.side n c.requires.first;
      second = h.second.side n c.requires.second;
      first_known = h.first.known c.know.ensures;
      second_known = h.second.known c.know-2.ensures;
      judged = choice_same c.leaf_type.result c.leaf_type-2.result c.leaf_type-3.result
          (Of prim.Bool) (leaf_type w.x.now) (leaf_type w.y.now) c.choice_prim.result
          c.in_ok-prim.prim (c.leaf_type.ensures ∙ h.typ) (c.leaf_type-2.ensures ∙ h.first.typ)
          (c.leaf_type-3.ensures ∙ h.second.typ) c.choice_prim.ensures c.in_ok-prim.was;
    }

pub returns-in-Some-clause-answer : goal.returns-in-Some-clause-answer
returns-in-Some-clause-answer g c =
    let w = c.in-Some.whole in
    let n = c.args.n in
    let a = c.args.condition.now in
    let x = c.args.sides.0.now in
    let y = c.args.sides.1.now in
    let h : AreWhole a x y w = c.in-Some.ensures in
    let same : choice_judged (optional_type a) (optional_type x) (optional_type y)
    ≡ Ok c.in_ok-prim.prim =
    choice_same c.leaf_type.result c.leaf_type-2.result c.leaf_type-3.result (optional_type a)
    (optional_type x) (optional_type y) c.choice_prim.result c.in_ok-prim.prim
    c.leaf_type.ensures c.leaf_type-2.ensures c.leaf_type-3.ensures c.choice_prim.ensures
    c.in_ok-prim.was in
    subst (Gives chosen_items fault_told c.whole_choice.result)
    (sym (ap (λ j. in_judged j (λ (p : Primitive). Ok (chosen_values (optional_values n a)
    (optional_values n x) (optional_values n y)))) same
    ∙ ap (λ vs. Ok vs) (ap (λ cs. chosen_values cs (optional_values n x) (optional_values n y))
    (h.values n) ∙ ap₂ (chosen_values (lane_values w.mask.now)) (h.first.values n)
    (h.second.values n)))) c.whole_choice.ensures.answer
