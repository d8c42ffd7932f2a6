use Rattle.std.proofs.Common.{◌≡◌, IfSome, ap, sym, ◌∙◌, subst, arith}
use Rattle.std.proofs.lemmas.Result.{IfOk-weaker}
use Rattle.awk_types.specs.Predicates.{is_leaf}
use Rattle.awk_layout.specs.Laws.{len-fits}
use Rattle.awk_layout.specs.Typing.{array_type}
use Rattle.awk_layout.specs.Valid.{len}
use Rattle.awk_list_functions.specs.Made.{IsMade}
use Rattle.awk_parts.specs.Spans.{span_count}
use Rattle.awk_present.specs.Present.{AreLeaves}
use Rattle.awk_reduce.specs.Reduce.{reducer_function}
use Rattle.awk_reduce.proofs.ListLaws.{made_of_lists, reduced_spoilt, total-is}
use Rattle.awk_reduce.proofs.PlainLaws.{plain_ready}
use Rattle.awk_reduce.proofs.SpanLaws.{before-is, ordered_short, ordered_wider}
use Rattle.awk_reduce.proofs.reducing.reduced_plain.Goals as goal

pub are_within-requires-clause-known : goal.are_within-requires-clause-known
are_within-requires-clause-known g c =
    let l = c.args.lists.now in
    subst (λ m. IfSome c.row_total-known.result (λ total. total ≡ m))
    (sym (before-is l.starts l.stops c.args.spans.now c.requires.ends)) c.row_total-known.ensures

pub are_within-requires-clause-ready : goal.are_within-requires-clause-ready
are_within-requires-clause-ready g c =
    let y = c.args.lists.now.content in
    ordered_wider (len y) c.args.spans.now c.requires.ordered 9223372036854775807
    (omega (arith, len-fits y c.content.ensures.lists.valid))

pub are_within-requires-clause-most : goal.are_within-requires-clause-most
are_within-requires-clause-most g c i l =
    let y = c.args.lists.now.content in
    omega (
      arith,
      ordered_short (len y) c.args.spans.now c.requires.ordered i l,
      ap len c.content.ensures.content,
      c.len-most.ensures.len,
    )

pub returns-then-not-are_within : goal.returns-then-not-are_within
returns-then-not-are_within g c =
    let l = c.args.lists.now in
    reduced_spoilt c.args.how l.starts l.stops l.content
    (omega (arith, total-is l c.args.spans.now c.requires.ends, c.if-not-are_within.ensures))

pub leaves_of-requires : goal.leaves_of-requires
leaves_of-requires g c =
    ap (λ y. is_leaf (array_type y)) c.content-2.ensures.content ∙ c.requires.leaves

pub reduced-requires : goal.reduced-requires
reduced-requires g c =
    plain_ready _ c.content.ensures.lists
    (subst (λ y. AreLeaves y c.in_ok-lane.lane) c.content-2.ensures.content
    c.in_ok-lane.ensures)
    c.requires.ends c.if-not-are_within.ensures

pub returns : goal.returns
returns g c =
    let l = c.args.lists.now in
    let p = c.args.spans.now in
    IfOk-weaker c.reduced.result _
    (IsMade (reducer_function c.args.how) l.class l.starts l.stops l.content)
    (λ m h. made_of_lists l c.args.how (span_count p) m c.requires.ends.starts
    (omega (arith, total-is l p c.requires.ends, c.if-not-are_within.ensures)) h)
    c.reduced.ensures
