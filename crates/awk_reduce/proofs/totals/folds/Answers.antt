use Rattle.std.proofs.Common.{◌≡◌, ap, ◌∙◌, arith, subst}
use Rattle.std.specs.Prelude.{ℕ, ℤ, Option, Some}
use Rattle.awk_types.specs.declared.primitive.Primitive.{Primitive}
use Rattle.awk_lanes.specs.Column.{Column}
use Rattle.awk_lanes.specs.Places.{size_of}
use Rattle.awk_lanes.proofs.MadeLanes.{size-lane_of}
use Rattle.awk_layout.specs.Kinds.{kind_of}
use Rattle.awk_layout.specs.Typing.{array_type}
use Rattle.awk_numbers.specs.Folds.{whole_numbers, lane_numbers}
use Rattle.awk_parts.specs.Fits.{AreFitting}
use Rattle.awk_parts.specs.Lanes.{folded_at}
use Rattle.awk_parts.specs.Spans.{span_count, span_part}
use Rattle.awk_present.specs.Numbers.{leaf_of}
use Rattle.awk_reduce.specs.Reducers.{wide}
use Rattle.awk_reduce.proofs.ReadyLaws.{folds_made, ready_numbered}
use Rattle.awk_reduce.proofs.totals.folds.Goals as goal

-- what was folded fits
some_fits : (q : Primitive) (f : ℕ → ℤ) (n : ℕ) (o : Option Column) (c : Column) → o ≡ Some c
    → AreFitting q f n o → AreFitting q f n (Some c)
some_fits q f n o c e h = subst (AreFitting q f n) e h

pub numpy-requires : goal.numpy-requires
numpy-requires g c =
    let x = c.args.x.now in
    let fit = some_fits c.wide-prim.result
    (folded_at c.args.how (whole_numbers c.in_ok-numbers.numbers) x.spans.now)
    (span_count x.spans.now)
    c.in_ok-lane.field-0 c.in-Some.lane c.in-Some.is c.in_ok-lane.ensures in
    omega (
      arith,
      ap size_of fit.1,
      size-lane_of (kind_of c.wide-prim.result) (span_count x.spans.now)
          (folded_at c.args.how (whole_numbers c.in_ok-numbers.numbers) x.spans.now),
      c.requires.fits,
    )

pub returns-in-Some : goal.returns-in-Some
returns-in-Some g c =
    let x = c.args.x.now in
    let prim : c.wide-prim.result ≡ wide (leaf_of (array_type x.lists.now.content)) =
    c.wide-prim.ensures
    ∙ ap wide (c.leaf_of.ensures
    ∙ ap leaf_of (c.typ.ensures.typ ∙ ap array_type c.content.ensures.content)) in
    folds_made x.lists.now (span_count x.spans.now)
    (span_part (lane_numbers x.lane.now) x.spans.now) (ready_numbered x c.requires) c.args.how
    c.wide-prim.result c.in-Some.lane c.numpy.result prim
    (subst (λ zs. AreFitting c.wide-prim.result (folded_at c.args.how zs x.spans.now)
    (span_count x.spans.now) (Some c.in-Some.lane)) c.in_ok-numbers.ensures.numbers
    (some_fits c.wide-prim.result
    (folded_at c.args.how (whole_numbers c.in_ok-numbers.numbers) x.spans.now)
    (span_count x.spans.now)
    c.in_ok-lane.field-0 c.in-Some.lane c.in-Some.is c.in_ok-lane.ensures))
    c.numpy.ensures.node
