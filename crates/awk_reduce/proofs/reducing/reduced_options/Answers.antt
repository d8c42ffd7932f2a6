use Rattle.std.proofs.Common.{◌≡◌, IfSome, ap, sym, subst, ◌∙◌, arith}
use Rattle.awk_types.specs.Predicates.{is_leaf}
use Rattle.awk_types.specs.Simple.{present, is_option}
use Rattle.awk_lanes.specs.Counted.{before}
use Rattle.awk_lanes.specs.Places.{size_of}
use Rattle.awk_layout.specs.Typing.{array_type}
use Rattle.awk_layout.specs.Valid.{len}
use Rattle.awk_columns.specs.Lists.{Listed, span_length}
use Rattle.awk_reduce.proofs.ListLaws.{reduced_spoilt, total-before, optional_leaf}
use Rattle.awk_reduce.proofs.SpanLaws.{lists_short}
use Rattle.awk_reduce.proofs.reducing.reduced_options.Goals as goal

pub returns-else-are_within : goal.returns-else-are_within
returns-else-are_within g c =
    let l = c.args.lists.now in
    let b = c.in_ok-bounds.bounds in
    let count =
    ap (before (span_length b.starts b.stops)) c.len.ensures.len
    ∙ ap (λ (m : Listed). before (span_length m.starts m.stops) (size_of m.starts))
    c.in_ok-bounds.ensures
    ∙ sym (total-before l.starts l.stops l.content) in
    reduced_spoilt c.args.how l.starts l.stops l.content
    (omega (arith, count, c.if-are_within.ensures))

pub nullable_of-requires-clause-optional : goal.nullable_of-requires-clause-optional
nullable_of-requires-clause-optional g c =
    let l = c.args.lists.now in
    ap (λ y. is_option (array_type y)) c.content-then-are_within.ensures.content
    ∙ optional_leaf (array_type l.content) c.requires.optional c.requires.leaves

pub nullable_of-requires-clause-leaves : goal.nullable_of-requires-clause-leaves
nullable_of-requires-clause-leaves g c =
    ap (λ y. is_leaf (present (array_type y))) c.content-then-are_within.ensures.content
    ∙ c.requires.leaves

pub reduced_opened-requires-clause-few : goal.reduced_opened-requires-clause-few
reduced_opened-requires-clause-few g c =
    let b = c.in_ok-bounds.bounds in
    omega (
      arith,
      total-before b.starts b.stops b.content,
      ap (before (span_length b.starts b.stops)) c.len.ensures.len,
      c.if-are_within.ensures,
    )

pub are_within-requires-clause-most : goal.are_within-requires-clause-most
are_within-requires-clause-most g c i k =
    let b = c.in_ok-bounds.bounds in
    omega (
      arith,
      lists_short b.starts b.stops (len b.content) c.content.ensures.lists.spans i
          (omega (arith, k, c.len.ensures.len)),
      ap len c.content.ensures.content,
      c.len-most.ensures.len,
    )

pub are_within-requires-clause-known : goal.are_within-requires-clause-known
are_within-requires-clause-known g c =
    let b = c.in_ok-bounds.bounds in
    subst (λ n. IfSome c.row_total-known.result
    (λ total. total ≡ before (span_length b.starts b.stops) n)) (sym c.len.ensures.len)
    c.row_total-known.ensures
