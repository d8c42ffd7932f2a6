use Rattle.std.proofs.Common.{◌≡◌, ◌+◌, ◌≤◌}
use Rattle.awk_form.specs.Lawful.{AreLawful}
use Rattle.awk_form.specs.View.{form_of}
use Rattle.awk_form.specs.Measures.{nodes, nodes_of}
use Rattle.awk_valid.specs.Parts.{own_of}
use Rattle.awk_form.specs.Measures as size
use Rattle.awk_valid.specs.Walked.{given, container_in, node_said, rest, left_said, budget}
use Rattle.awk_valid.proofs.walk.+node.Given as goal

-- the contents that are made, and those that are left
abbrev pub invariant-loop-i : goal.invariant-loop-i
invariant-loop-i g l =
    let f = form_of l.form in
    let t = given l.walk.reader.now.big l.fn.store.held in
    record {
      lawful : AreLawful (rest f l.i);
      own : own_of f l.n (container_in t) ≡ l.own;
      said : node_said f l.fn.next l.n t ≡ left_said f l.n l.i l.next l.contents.items t;
      next : l.next + nodes_of (rest f l.i) ≡ l.fn.next + nodes f;
      held : l.store.held ≡ l.fn.store.held;
      cost : l.steps + 2 + budget (size.width_of (rest f l.i)) t
          ≤ l.fn.steps + budget (size.width f) t;
    }
