use Rattle.std.proofs.Common.{◌≡◌, ap, ◌∙◌, arith, subst}
use Rattle.std.specs.Prelude.{pos, Option, Some, None}
use Rattle.awk_lanes.specs.Column.{Column}
use Rattle.awk_lanes.specs.Places.{size_of}
use Rattle.awk_lanes.specs.declared.kind.Kind.TheVariants.{I64}
use Rattle.awk_lanes.proofs.MadeLanes.{size-lane_of}
use Rattle.awk_layout.specs.Laws.{len-fits}
use Rattle.awk_layout.specs.Layout.{flat}
use Rattle.awk_layout.specs.Valid.{len}
use Rattle.awk_list_functions.specs.declared.function.Made.TheVariants as made
use Rattle.awk_parts.specs.Spans.{span_size, span_count}
use Rattle.awk_parts.specs.declared.parts.Spans.{Spans}
use Rattle.awk_reduce.specs.Lists.{AreLengths}
use Rattle.awk_reduce.specs.declared.reducer.Reducer.TheVariants.{Count}
use Rattle.awk_reduce.proofs.LengthLaws.{lengths_made}
use Rattle.awk_reduce.proofs.ListLaws.{made_of_lists, reduced_spoilt, total-is}
use Rattle.awk_reduce.proofs.SpanLaws.{ordered_short, ordered_wider}
use Rattle.awk_reduce.proofs.lengths.lengths.Goals as goal

-- what was found
found : (p : Spans) (o : Option Column) (q : Option Column) → o ≡ q → AreLengths p o
    → AreLengths p q
found p o q e h = subst (AreLengths p) e h

pub lane_of_lengths-requires-clause-ordered : goal.lane_of_lengths-requires-clause-ordered
lane_of_lengths-requires-clause-ordered g c =
    let y = c.args.lists.now.content in
    ordered_wider (len y) c.args.spans.now c.requires.ordered 9223372036854775807
    (omega (arith, len-fits y c.content.ensures.lists.valid))

pub lane_of_lengths-requires-clause-most : goal.lane_of_lengths-requires-clause-most
lane_of_lengths-requires-clause-most g c i l =
    let y = c.args.lists.now.content in
    omega (
      arith,
      ordered_short (len y) c.args.spans.now c.requires.ordered i l,
      ap len c.content.ensures.content,
      c.len-most.ensures.len,
    )

pub numpy-requires : goal.numpy-requires
numpy-requires g c =
    let p = c.args.spans.now in
    let fit = found p c.in_ok-lengths.field-0 (Some c.in-Some.lengths) c.in-Some.is
    c.in_ok-lengths.ensures in
    omega (
      arith,
      ap size_of fit.1,
      size-lane_of I64 (span_count p) (λ i. pos (span_size p i)),
      c.requires.ends.starts,
      c.content.ensures.lists.fits,
    )

pub returns-in-Some : goal.returns-in-Some
returns-in-Some g c =
    let l = c.args.lists.now in
    let p = c.args.spans.now in
    let fit = found p c.in_ok-lengths.field-0 (Some c.in-Some.lengths) c.in-Some.is
    c.in_ok-lengths.ensures in
    made_of_lists l Count (span_count p) (made.Singles c.numpy.result) c.requires.ends.starts
    (omega (arith, total-is l p c.requires.ends, fit.0))
    (lengths_made l c.content.ensures.lists c.requires.leaves p c.requires.ends c.numpy.result
    (c.numpy.ensures.node ∙ ap flat fit.1))

pub returns-in-None : goal.returns-in-None
returns-in-None g c =
    let l = c.args.lists.now in
    let p = c.args.spans.now in
    let none = found p c.in_ok-lengths.field-0 None c.in-None.is c.in_ok-lengths.ensures in
    reduced_spoilt Count l.starts l.stops l.content
    (omega (arith, total-is l p c.requires.ends, none))
