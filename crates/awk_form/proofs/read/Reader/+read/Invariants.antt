use Rattle.std.proofs.Common.{◌≡◌, ◌+◌, ◌*◌, ◌++◌, suc, map, drop, length}
use Rattle.serde_json.specs.Data.{depth}
use Rattle.serde_json.specs.View.{view}
use Rattle.awk_form.specs.NodeView.{head_of}
use Rattle.awk_form.specs.Reading.{contents, nodes_of_all, first_break_from, form_of}
use Rattle.awk_form.specs.View.{forms_of}
use Rattle.awk_form.proofs.Levels.{levels}
use Rattle.awk_form.proofs.read.Reader.+read.Given as goal

abbrev pub decreases-form : goal.decreases-form
decreases-form l = 3 * depth (view l.json.now) + 3

abbrev pub decreases-shape : goal.decreases-shape
decreases-shape l = 3 * levels (contents (head_of l.head)) + 2

abbrev pub decreases-content : goal.decreases-content
decreases-content l = 3 * suc (depth (view l.json.now)) + 1

abbrev pub decreases-contents : goal.decreases-contents
decreases-contents l = 3 * levels (map view l.contents.now) + 1

-- what is read and the rest are the whole
abbrev pub invariant-contents-loop-json : goal.invariant-contents-loop-json
invariant-contents-loop-json l =
    let rest = map view (drop l.json-index l.contents) in
    let all = map view l.contents in
    record {
      breaks : first_break_from l.fn.self.next (nodes_of_all all) ≡ first_break_from l.self.next
          (nodes_of_all rest);
      next : l.self.next + length (nodes_of_all rest) ≡ l.fn.self.next + length (nodes_of_all all);
      forms : forms_of l.forms ++ map form_of rest ≡ map form_of all;
    }
