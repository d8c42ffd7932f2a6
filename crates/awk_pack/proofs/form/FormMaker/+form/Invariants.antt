use Rattle.std.proofs.Common.{◌≡◌, ◌+◌, ◌++◌, drop, map}
use Rattle.awk_types.specs.View.{typs_of, fields_of}
use Rattle.awk_form.specs.View.{forms_of}
use Rattle.awk_pack.specs.PackedForm.{all_nodes, form_each}
use Rattle.awk_pack.proofs.form.FormMaker.+form.Given as goal

-- the forms so far, and those of the rest
abbrev pub invariant-contents-loop-i : goal.invariant-contents-loop-i
invariant-contents-loop-i l =
    let ts = typs_of l.ts in
    record {
      forms : forms_of l.forms ++ form_each l.self.next (drop l.i ts) ≡ form_each l.fn.self.next ts;
      next : l.self.next + all_nodes (drop l.i ts) ≡ l.fn.self.next + all_nodes ts;
    }

abbrev pub invariant-fields-loop-i : goal.invariant-fields-loop-i
invariant-fields-loop-i l =
    let ts = map (λ f. f.typ) (fields_of l.fields) in
    record {
      forms : forms_of l.forms ++ form_each l.self.next (drop l.i ts) ≡ form_each l.fn.self.next ts;
      next : l.self.next + all_nodes (drop l.i ts) ≡ l.fn.self.next + all_nodes ts;
    }
