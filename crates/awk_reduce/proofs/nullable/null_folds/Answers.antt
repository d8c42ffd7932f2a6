use Rattle.std.proofs.Common.{◌≡◌, refl, ap, sym, ◌∙◌, arith, subst}
use Rattle.std.specs.Prelude.{ℕ, ℤ, Option, Some, None}
use Rattle.awk_types.specs.declared.primitive.Primitive.{Primitive}
use Rattle.awk_lanes.specs.Column.{Column}
use Rattle.awk_lanes.specs.Places.{size_of}
use Rattle.awk_lanes.proofs.MadeLanes.{size-lane_of}
use Rattle.awk_layout.specs.Kinds.{kind_of}
use Rattle.awk_layout.specs.Typing.{array_type}
use Rattle.awk_primitives.specs.Fits.{fits}
use Rattle.awk_parts.specs.Fits.{AreFitting}
use Rattle.awk_present.specs.Numbers.{leaf_of}
use Rattle.awk_nullable.specs.Numbers.{leaf_number}
use Rattle.awk_nullable_lists.specs.Lists.{folded_at, numbers_at}
use Rattle.awk_reduce.specs.Reducers.{wide}
use Rattle.awk_reduce.proofs.OptionLaws.{leaves_nullable, leaves_numbered}
use Rattle.awk_reduce.proofs.ReadyLaws.{folds_made, folds_spoilt}
use Rattle.awk_reduce.proofs.nullable.null_folds.Goals as goal

-- what was folded fits
some_fits : (q : Primitive) (f : ℕ → ℤ) (n : ℕ) (o : Option Column) (c : Column) → o ≡ Some c
    → AreFitting q f n o → AreFitting q f n (Some c)
some_fits q f n o c e h = subst (AreFitting q f n) e h

pub fold_lists-requires : goal.fold_lists-requires
fold_lists-requires g c =
    let x = c.args.lists.now in
    let l = x.bounds.now in
    let f = g.P.Places.at x.leaves.now.places.now in
    let m = g.P.Places.size x.leaves.now.places.now in
    let lane = g.C.Cells.lane x.leaves.now.cells.now in
    record { ready = leaves_nullable l f m lane c.requires }

pub numpy-requires : goal.numpy-requires
numpy-requires g c =
    let x = c.args.lists.now in
    let l = x.bounds.now in
    let f = g.P.Places.at x.leaves.now.places.now in
    let m = g.P.Places.size x.leaves.now.places.now in
    let lane = g.C.Cells.lane x.leaves.now.cells.now in
    let way = leaf_number f lane in
    let fit = some_fits c.wide-prim.result (folded_at c.args.how l way) (size_of l.starts)
    c.in_ok-lane.field-0 c.in-Some.lane c.in-Some.is c.in_ok-lane.ensures in
    omega (
      arith,
      ap size_of fit.1,
      size-lane_of (kind_of c.wide-prim.result) (size_of l.starts) (folded_at c.args.how l way),
      c.requires.lists.fits,
    )

pub returns-in-Some : goal.returns-in-Some
returns-in-Some g c =
    let x = c.args.lists.now in
    let l = x.bounds.now in
    let f = g.P.Places.at x.leaves.now.places.now in
    let m = g.P.Places.size x.leaves.now.places.now in
    let lane = g.C.Cells.lane x.leaves.now.cells.now in
    let way = leaf_number f lane in
    let prim : c.wide-prim.result ≡ wide (leaf_of (array_type l.content)) =
    c.wide-prim.ensures
    ∙ ap wide (c.leaf_of.ensures
    ∙ ap leaf_of (c.typ.ensures.typ ∙ ap array_type c.content.ensures.content)) in
    folds_made l (size_of l.starts) (numbers_at l way) (leaves_numbered l f m lane c.requires)
    c.args.how c.wide-prim.result c.in-Some.lane c.numpy.result prim
    (some_fits c.wide-prim.result (folded_at c.args.how l way) (size_of l.starts)
    c.in_ok-lane.field-0 c.in-Some.lane c.in-Some.is c.in_ok-lane.ensures)
    c.numpy.ensures.node

pub returns-in-None : goal.returns-in-None
returns-in-None g c =
    let x = c.args.lists.now in
    let l = x.bounds.now in
    let f = g.P.Places.at x.leaves.now.places.now in
    let m = g.P.Places.size x.leaves.now.places.now in
    let lane = g.C.Cells.lane x.leaves.now.cells.now in
    let way = leaf_number f lane in
    let prim : c.wide-prim.result ≡ wide (leaf_of (array_type l.content)) =
    c.wide-prim.ensures
    ∙ ap wide (c.leaf_of.ensures
    ∙ ap leaf_of (c.typ.ensures.typ ∙ ap array_type c.content.ensures.content)) in
    let fit : AreFitting c.wide-prim.result (folded_at c.args.how l way) (size_of l.starts) None =
    subst (AreFitting c.wide-prim.result (folded_at c.args.how l way) (size_of l.starts))
    c.in-None.is c.in_ok-lane.ensures in (
      refl,
      (
        fit.0,
        fit.1,
        folds_spoilt l (size_of l.starts) (numbers_at l way)
            (leaves_numbered l f m lane c.requires) c.args.how fit.0 fit.1
            (ap (λ p. fits p (folded_at c.args.how l way fit.0)) (sym prim) ∙ fit.2),
      ),
    )
