use Rattle.std.proofs.Common.{◌≡◌, ◌∙◌, ap, sym, subst, false, refl}
use Rattle.std.specs.Prelude.{length, [], None, IfOk}
use Rattle.awk_layout.specs.Kinds.{kind_of}
use Rattle.awk_layout.specs.Typing.{array_type}
use Rattle.awk_layout.specs.Valid.{len}
use Rattle.awk_frames.specs.Framed.{IsFrame, over_type}
use Rattle.awk_frames.specs.View.{shape_of}
use Rattle.awk_pair_operands.specs.First.{all_data}
use Rattle.awk_pair_operands.specs.Pairs.{pair_type}
use Rattle.awk_ends.proofs.LaneLaws.{flat-type}
use Rattle.awk_arith.proofs.result.no_result.Goals as goal

pub framed-requires : goal.framed-requires
framed-requires g c =
    let none : c.in_ok-maker.maker.items ≡ [] = rw c.in_ok-maker.ensures.begun refl in
    record {
      frame = subst (IsFrame (shape_of c.in_ok-none.none.shape))
          (sym (ap len c.numpy.ensures.node ∙ ap length (c.finish-lane.ensures.items ∙ none)))
          c.in_ok-none.ensures.frame;
    }

pub returns : goal.returns
returns g c =
    let t = pair_type false None (all_data c.args.xs.now) in
    let kind : c.finish-lane.result.kind ≡ kind_of c.args.prim =
    c.finish-lane.ensures.kind ∙ (rw c.in_ok-maker.ensures.begun c.kind_of.ensures) in
    subst (λ u. IfOk c.framed.result (λ y. array_type y ≡ over_type t u))
    (ap array_type c.numpy.ensures.node ∙ flat-type c.finish-lane.result c.args.prim kind)
    (c.framed.ensures.typ t [] c.in_ok-none.ensures.shape)
