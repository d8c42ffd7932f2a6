use Rattle.std.proofs.Common.{◌≡◌, ◌+◌, ◌++◌, ◌∷◌, [], map, drop, Ok, Err, arith, sym, ap, ◌∙◌}
use Rattle.std.proofs.Common.{subst, append_assoc}
use Rattle.awk_types.specs.Gives.{Told}
use Rattle.awk_types.proofs.RefusalLaws.{refused_or-Ok, or-None, Gives-Err}
use Rattle.serde_json.specs.View.{view}
use Rattle.awk_form.specs.Reading.{nodes_of, nodes_of_all, first_break_from, form_of}
use Rattle.awk_form.specs.Told.{refusal_told, why_told}
use Rattle.awk_form.specs.Node.{node_at}
use Rattle.awk_form.specs.NodeView.{node_of}
use Rattle.awk_form.proofs.Breaks.{breaks_left, told_of_whole, length_left, told_of_node}
use Rattle.awk_form.proofs.Breaks.{read_of_node, broken_node, length-node}
use Rattle.awk_form.specs.View.{form_of as made, forms_of}
use Rattle.awk_form.proofs.Views.{form_of-roll}
use Rattle.awk_base.proofs.Left.{map_left}
use Rattle.awk_form.proofs.Levels.{levels-node, levels-item}
use Rattle.awk_form.proofs.read.Reader.+read.Goals as goal

pub contents-form-requires : goal.contents-form-requires
contents-form-requires t c =
    let item = levels-item c.args.contents.now c.loop-json.json-index c.json-item.result
    c.json-item.result (omega arith) c.json-item.is in
    (omega (arith, item), tt)

pub form-shape-requires : goal.form-shape-requires
form-shape-requires t c =
    (omega (arith, levels-node (view c.args.json.now) (node_of c.in-Ok.node) c.in-Ok.ensures), tt)

pub contents-returns-in_err-form-clause-gives : goal.contents-returns-in_err-form-clause-gives
contents-returns-in_err-form-clause-gives t c =
    let e = c.in_err-form.field-0.0 in
    let left = map_left view c.args.contents.now c.loop-json.json-index c.json-item.result
    c.json-item.result (omega arith) c.json-item.is in
    let failed : c.from_residual.result ≡ Err e = grind arith in
    Gives-Err _ _ _ e _ failed
    (told_of_whole (refusal_told e) _ _ _ _ _
    (breaks_left _ _ _ _ _ _ c.loop-json.invariant.breaks left) c.in_err-form.ensures.gives)

pub contents-loop-json-preserved : goal.contents-loop-json-preserved
contents-loop-json-preserved t c =
    let contents = c.args.contents.now in
    let i = c.loop-json.json-index in
    let item = view c.json-item.result in
    let more = map view (drop (i + 1) contents) in
    let left = map_left view contents i c.json-item.result c.json-item.result (omega arith)
    c.json-item.is in
    let read = refused_or-Ok _ _ _ c.in_ok-form.ensures.gives in
    record {
      breaks =
          breaks_left _ _ _ _ _ _ c.loop-json.invariant.breaks left
          ∙ or-None (first_break_from c.loop-json.self.next (nodes_of item)) _ read.0
          ∙ ap (λ n. first_break_from n (nodes_of_all more)) (sym c.in_ok-form.ensures.next);
      next =
          omega (
            arith,
            c.loop-json.invariant.next,
            length_left _ _ _ left,
            c.in_ok-form.ensures.next,
          );
      forms =
          ap (λ fs. fs ++ map form_of more) c.in_ok-push.ensures.ok
          ∙ append_assoc (forms_of c.loop-json.forms) (made c.in_ok-form.field-0 ∷ [])
          (map form_of more)
          ∙ ap (λ f. forms_of c.loop-json.forms ++ f ∷ map form_of more) (sym read.1)
          ∙ ap (λ ds. forms_of c.loop-json.forms ++ map form_of ds) (sym left)
          ∙ c.loop-json.invariant.forms;
    }

pub form-returns-in-Err-Why-clause-gives : goal.form-returns-in-Err-Why-clause-gives
form-returns-in-Err-Why-clause-gives t c =
    broken_node _ (view c.args.json.now) c.in-Err-Why.why _
    (subst (λ f. Told (why_told f) (node_at (view c.args.json.now))) c.in-Err-Why.field-0-is
    c.in-Err-Why.ensures)

pub form-returns-in_err-shape-in-Ok-clause-gives : goal.form-returns-in_err-shape-in-Ok-clause-gives
form-returns-in_err-shape-in-Ok-clause-gives t c =
    let e = c.in_err-shape-in-Ok.field-0.0 in
    let failed : c.from_residual-in_err-shape-in-Ok.result ≡ Err e = grind arith in
    let next : c.in_ok-self.field-0 ≡ c.args.self.now.next + 1 = grind arith in
    Gives-Err _ _ _ e _ failed
    (told_of_node (refusal_told e) _ _ _ (node_of c.in-Ok.node) _ _ c.in-Ok.ensures next
    (c.in_err-shape-in-Ok.ensures.gives c.in-Ok.node.key))

pub form-returns-in_ok-shape-in-Ok-clause-gives : goal.form-returns-in_ok-shape-in-Ok-clause-gives
form-returns-in_ok-shape-in-Ok-clause-gives t c =
    let next : c.in_ok-self.field-0 ≡ c.args.self.now.next + 1 = grind arith in
    read_of_node _ _ (view c.args.json.now) (node_of c.in-Ok.node) _ c.in-Ok.ensures next
    (c.in_ok-shape-in-Ok.ensures.gives c.in-Ok.node.key)
    ∙ ap Ok (sym (form_of-roll c.in-Ok.node.key c.in_ok-shape-in-Ok.field-0))

pub form-returns-in_ok-shape-in-Ok-clause-next : goal.form-returns-in_ok-shape-in-Ok-clause-next
form-returns-in_ok-shape-in-Ok-clause-next t c =
    let next : c.in_ok-self.field-0 ≡ c.args.self.now.next + 1 = grind arith in
    omega (
      arith,
      next,
      c.in_ok-shape-in-Ok.ensures.next,
      length-node (view c.args.json.now)
          (node_of c.in-Ok.node) c.in-Ok.ensures,
    )
