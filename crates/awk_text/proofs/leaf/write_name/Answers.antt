use Rattle.std.proofs.Common.{◌≡◌, [], ◌∙◌, ap, sym}
use Rattle.std.proofs.lemmas.Option.{get_or_from_slice_get}
use Rattle.awk_json.proofs.Joins.{puts_same}
use Rattle.awk_json.specs.Text.{quoted}
use Rattle.awk_text.specs.LayoutText.{names_shown, field_name}
use Rattle.awk_text.proofs.leaf.write_name.Goals as goal

pub returns-in-Some-clause-bytes : goal.returns-in-Some-clause-bytes
returns-in-Some-clause-bytes g c =
    let name = get_or_from_slice_get c.in-Some.names.now c.args.k c.get.result.now [] c.get.ensures
    ∙ sym c.as_str.ensures in
    let same : quoted (field_name (names_shown c.args.names) c.args.k)
    ≡ quoted c.as_str.result.now = rw c.in-Some.is (ap quoted name) in
    puts_same _ same c.write_text.ensures.bytes

pub returns-in-None-clause-bytes : goal.returns-in-None-clause-bytes
returns-in-None-clause-bytes g c =
    let same : quoted (field_name (names_shown c.args.names) c.args.k)
    ≡ quoted c.format.result.now = rw c.in-None.is (ap quoted (sym c.format.ensures.text)) in
    puts_same _ same c.write_text-in-None.ensures.bytes
