use Rattle.std.proofs.Common.{ap, sym, ◌∙◌, subst}
use Rattle.awk_types.specs.Gives.{Gives}
use Rattle.serde_json.specs.View.{members_view}
use Rattle.awk_expr.specs.Told.{unread_told, or_query}
use Rattle.awk_query.specs.Line.{line_with}
use Rattle.awk_query.specs.LineView.{line_view}
use Rattle.awk_query.proofs.LineLaws.{line_of-Object, line_with-none}
use Rattle.awk_query.proofs.line.line_in.Goals as goal

pub returns-then-count-eq5 : goal.returns-then-count-eq5
returns-then-count-eq5 c =
    let ms = members_view c.in-Object.members.entries in
    subst (λ o. Gives line_view unread_told c.line_of_two.result (or_query o))
    (ap (λ n. line_with c.args.reading n ms) (sym c.if-count-eq5.true)
    ∙ sym (line_of-Object c.args.reading c.args.value c.in-Object.members c.len-count.result
    c.in-Object.is c.len-count.ensures.len))
    c.line_of_two.ensures

pub returns-then-count-eq4 : goal.returns-then-count-eq4
returns-then-count-eq4 c =
    let ms = members_view c.in-Object.members.entries in
    subst (λ o. Gives line_view unread_told c.load_line.result (or_query o))
    (ap (λ n. line_with c.args.reading n ms) (sym c.if-count-eq4.true)
    ∙ sym (line_of-Object c.args.reading c.args.value c.in-Object.members c.len-count.result
    c.in-Object.is c.len-count.ensures.len))
    c.load_line.ensures

pub returns-then-count-eq2 : goal.returns-then-count-eq2
returns-then-count-eq2 c =
    let ms = members_view c.in-Object.members.entries in
    subst (λ o. Gives line_view unread_told c.pair_line.result (or_query o))
    (ap (λ n. line_with c.args.reading n ms) (sym c.if-count-eq2.true)
    ∙ sym (line_of-Object c.args.reading c.args.value c.in-Object.members c.len-count.result
    c.in-Object.is c.len-count.ensures.len))
    c.pair_line.ensures

pub returns-then-count-eq1 : goal.returns-then-count-eq1
returns-then-count-eq1 c =
    let ms = members_view c.in-Object.members.entries in
    subst (λ o. Gives line_view unread_told c.alone_line.result (or_query o))
    (ap (λ n. line_with c.args.reading n ms) (sym c.if-count-eq1.true)
    ∙ sym (line_of-Object c.args.reading c.args.value c.in-Object.members c.len-count.result
    c.in-Object.is c.len-count.ensures.len))
    c.alone_line.ensures

pub returns : goal.returns
returns c =
    let ms = members_view c.in-Object.members.entries in
    ap or_query
    (line_of-Object c.args.reading c.args.value c.in-Object.members c.len-count.result
    c.in-Object.is c.len-count.ensures.len
    ∙ line_with-none c.args.reading c.len-count.result ms c.if-count-eq5.false
    c.if-count-eq4.false c.if-count-eq2.false c.if-count-eq1.false)
