use Rattle.std.proofs.Common.{ap, sym, ◌∙◌, subst}
use Rattle.std.specs.Prelude.{Ok}
use Rattle.awk_layout.specs.Typing.{array_type, array_items}
use Rattle.awk_hist.specs.Lists.{IsInnermost}
use Rattle.awk_hist.specs.declared.innermost.Innermost.TheVariants as innermost
use Rattle.awk_hist.proofs.WholeLaws.{depth_within, nulls_within, leaves_binned}
use Rattle.awk_hist.proofs.binning.hist_innermost.Goals as goal

pub hist_column-requires-clause-numbers : goal.hist_column-requires-clause-numbers
hist_column-requires-clause-numbers g c =
    let x = c.args.x.now in
    let h : IsInnermost (array_type x) (array_items x)
    (innermost.Column c.in-Column.column c.in-Column.more) =
    subst (IsInnermost (array_type x) (array_items x)) c.in-Column.is c.requires.found in
    h.1.numbers

pub hist_column-requires-clause-few : goal.hist_column-requires-clause-few
hist_column-requires-clause-few g c =
    let x = c.args.x.now in
    let h : IsInnermost (array_type x) (array_items x)
    (innermost.Column c.in-Column.column c.in-Column.more) =
    subst (IsInnermost (array_type x) (array_items x)) c.in-Column.is c.requires.found in
    h.1.few

pub hist_column-requires-clause-nulls : goal.hist_column-requires-clause-nulls
hist_column-requires-clause-nulls g c =
    let x = c.args.x.now in
    let h : IsInnermost (array_type x) (array_items x)
    (innermost.Column c.in-Column.column c.in-Column.more) =
    subst (IsInnermost (array_type x) (array_items x)) c.in-Column.is c.requires.found in
    nulls_within (array_type x) c.in-Column.more
    (depth_within (array_type x) c.typ.ensures.lawful.within_limits) h.1.nulls

pub returns-in_ok-hist_column-in-Column-clause-answer :
    goal.returns-in_ok-hist_column-in-Column-clause-answer
returns-in_ok-hist_column-in-Column-clause-answer g c =
    let x = c.args.x.now in
    let h : IsInnermost (array_type x) (array_items x)
    (innermost.Column c.in-Column.column c.in-Column.more) =
    subst (IsInnermost (array_type x) (array_items x)) c.in-Column.is c.requires.found in
    leaves_binned c.args.edges.now (array_type x) (array_items x) c.in-Column.column
    c.in-Column.more h
    ∙ ap (λ d. Ok d) (sym c.in_ok-hist_column-in-Column.ensures.answer)
