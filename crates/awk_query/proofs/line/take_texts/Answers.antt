use Rattle.std.proofs.Common.{true, false, sym, ◌∙◌}
use Rattle.serde_json.specs.View.{members_view}
use Rattle.awk_query.proofs.LineLaws.{texts_at-Object}
use Rattle.awk_query.proofs.line.take_texts.Goals as goal

pub returns-then-all_texts : goal.returns-then-all_texts
returns-then-all_texts c =
    sym (texts_at-Object c.args.key.now
    (members_view c.args.members.now.entries) c.in_ok-texts.field-0 c.in-Object.texts true
    c.in_ok-texts.ensures.value c.in-Object.is (sym c.all_texts.ensures ∙ c.if-all_texts.true))

pub returns : goal.returns
returns c =
    sym (texts_at-Object c.args.key.now
    (members_view c.args.members.now.entries) c.in_ok-texts.field-0 c.in-Object.texts false
    c.in_ok-texts.ensures.value c.in-Object.is (sym c.all_texts.ensures ∙ c.if-all_texts.false))
