use Rattle.std.proofs.Common.{◌≡◌, ◌∙◌, ap, sym, subst, arith, true}
use Rattle.std.specs.Prelude.{[], Some}
use Rattle.awk_types.specs.Faults.{fault_told, limit_refused}
use Rattle.awk_types.specs.Gives.{Gives, refused_or}
use Rattle.awk_types.specs.View.{typ_of}
use Rattle.awk_layout.specs.Typing.{array_type}
use Rattle.awk_frames.specs.Framed.{IsFrame, over_type}
use Rattle.awk_frames.specs.View.{shape_of}
use Rattle.awk_pair_operands.specs.First.{all_data}
use Rattle.awk_pair_operands.specs.Pairs.{leaf_types, pair_type}
use Rattle.awk_pair_types.proofs.DepthLaws.{never_wrong}
use Rattle.awk_with_field.specs.WithField.{with_type}
use Rattle.awk_with_field.proofs.EndLaws.{few-leaves, type-at, right-record, long-at, type-joined}
use Rattle.awk_with_field.proofs.joining.joined_typ.Goals as goal

pub pair_types-requires-clause-right : goal.pair_types-requires-clause-right
pair_types-requires-clause-right g c = never_wrong c.args.depth (all_data c.args.xs.now)

pub get-requires : goal.get-requires
get-requires g c =
    few-leaves 0 c.args.depth c.args.xs.now c.in_ok-none.none.leaves c.requires.two (omega arith)
    c.in_ok-none.ensures.types

pub get-requires-2 : goal.get-requires-2
get-requires-2 g c =
    few-leaves 1 c.args.depth c.args.xs.now c.in_ok-none.none.leaves c.requires.two (omega arith)
    c.in_ok-none.ensures.types

pub with_column-requires-clause-records : goal.with_column-requires-clause-records
with_column-requires-clause-records g c =
    let ds = all_data c.args.xs.now in
    let x = c.get.result.now in
    right-record c.args.depth ds (array_type x) c.requires.records
    (type-at 0 c.in_ok-none.none.leaves x (leaf_types (Some c.args.depth) ds) c.get.ensures
    c.in_ok-none.ensures.types)

pub with_column-requires-clause-long : goal.with_column-requires-clause-long
with_column-requires-clause-long g c =
    let ys = c.in_ok-none.none.leaves in
    long-at 0 1 ys c.get-2.result.now c.in_ok-none.ensures.long c.get-2.ensures
    ∙ sym (long-at 0 0 ys c.get.result.now c.in_ok-none.ensures.long c.get.ensures)

pub framed-requires : goal.framed-requires
framed-requires g c =
    let x = c.get.result.now in
    record {
      frame = subst (IsFrame (shape_of c.in_ok-none.none.shape))
          (sym (c.in_ok-ends.ensures.size
          ∙ long-at 0 0 c.in_ok-none.none.leaves x c.in_ok-none.ensures.long c.get.ensures))
          c.in_ok-none.ensures.frame;
    }

pub returns-clause-answer : goal.returns-clause-answer
returns-clause-answer g c =
    let n = c.args.name.now in
    let d = c.args.depth in
    let ds = all_data c.args.xs.now in
    let ys = c.in_ok-none.none.leaves in
    let ts = leaf_types (Some d) ds in
    let x = c.get.result.now in
    let v = c.get-2.result.now in
    let node : array_type c.in_ok-node.node ≡ with_type n d ds =
    type-joined n d ds (array_type c.in_ok-node.node) (array_type x) (array_type v)
    (c.in_ok-node.ensures.typ (pair_type true (Some d) ds) [] c.in_ok-none.ensures.shape
    ∙ ap (over_type (pair_type true (Some d) ds)) c.in_ok-ends.ensures.typ)
    (type-at 0 ys x ts c.get.ensures c.in_ok-none.ensures.types)
    (type-at 1 ys v ts c.get-2.ensures c.in_ok-none.ensures.types) in
    subst (λ t. Gives typ_of fault_told c.typ_within.result (refused_or (limit_refused t) t)) node
    c.typ_within.ensures.answer
