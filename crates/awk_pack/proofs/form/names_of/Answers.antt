use Rattle.awk_types.specs.View.{fields_of}
use Rattle.awk_pack.proofs.FormLaws.{names_of-drop}
use Rattle.awk_pack.proofs.form.names_of.Goals as goal

pub loop-i-preserved : goal.loop-i-preserved
loop-i-preserved c =
    names_of-drop (fields_of c.args.fields.now) c.loop-i.i c.get.result.now c.loop-i.names
    c.push.new.self c.in_ok-copy.field-0 c.get.ensures.item c.in_ok-copy.ensures
    c.in_ok-push.ensures.ok c.loop-i.invariant
