use Rattle.std.proofs.Common.{◌≡◌, ◌<◌, ◌^◌, ◌∙◌, ap, sym, subst, arith, false}
use Rattle.std.specs.Prelude.{None, Ok, Err, length, if◌then◌else◌}
use Rattle.awk_types.specs.Datum.{datum_type}
use Rattle.awk_types.specs.Faults.{fault_told, limit_refused}
use Rattle.awk_types.specs.Limit.{limit}
use Rattle.awk_types.specs.View.{typ_of}
use Rattle.awk_types.proofs.RefusalLaws.{Gives-Err, refused_or-Ok}
use Rattle.awk_layout.specs.Datum.{datum_of, IsDatum}
use Rattle.awk_layout.specs.Kinds.{kind_of}
use Rattle.awk_layout.specs.Typing.{array_type, array_items}
use Rattle.awk_layout.specs.Valid.{len}
use Rattle.awk_layout.specs.declared.datum.Datum.TheVariants.{Arr, One}
use Rattle.awk_leaves.specs.Table.{unary_judged}
use Rattle.awk_frames.specs.Framed.{IsFrame, over_type}
use Rattle.awk_frames.specs.View.{shape_of}
use Rattle.awk_frames.proofs.FrameLaws.{frame_small}
use Rattle.awk_pair_operands.specs.Answer.{shared_ends}
use Rattle.awk_pair_operands.specs.First.{all_data}
use Rattle.awk_pair_operands.specs.Pairs.{pair_type, pair_values}
use Rattle.awk_ends.specs.Operands.{leaf_in}
use Rattle.awk_ends.proofs.LaneLaws.{flat-type}
use Rattle.awk_arith.specs.AtLeaves.{result_type, row_values, value_or_null}
use Rattle.awk_arith.specs.Unary.{unary_row, judged_unary}
use Rattle.awk_arith.proofs.AnswerLaws.{IsResult, datum_made}
use Rattle.awk_arith.proofs.UnaryLaws.{told_primitive, IsSingle, told_limit, told_paired, told_rows}
use Rattle.awk_arith.proofs.UnaryLaws.{some_column, column, column_judged, lane_is, lane_long}
use Rattle.awk_arith.proofs.UnaryLaws.{result, answer}
use Rattle.awk_arith.proofs.single.paired_leaves.Goals as goal

pub returns-in_err-prim-clause-answer : goal.returns-in_err-prim-clause-answer
returns-in_err-prim-clause-answer g c =
    let op = c.args.op in
    let d = datum_of c.args.x.now in
    let e = c.in_err-prim.field-0.0 in
    let failed : c.from_residual.result ≡ Err e = grind arith in
    Gives-Err datum_of fault_told c.from_residual.result e (judged_unary op d) failed
    (told_primitive op d e (c.in_err-prim.ensures ∙ ap (unary_judged op) c.datum_leaf.ensures))

pub returns-in_err-typ-clause-answer : goal.returns-in_err-typ-clause-answer
returns-in_err-typ-clause-answer g c =
    let op = c.args.op in
    let d = datum_of c.args.x.now in
    let xs = c.args.xs.now in
    let p = c.in_ok-prim.prim in
    let judged : unary_judged op (leaf_in (datum_type d)) ≡ Ok p =
    ap (unary_judged op) (sym c.datum_leaf.ensures) ∙ sym c.in_ok-prim.ensures in
    let e = c.in_err-typ.field-0.0 in
    let failed : c.from_residual-in_err-typ.result ≡ Err e = grind arith in
    Gives-Err datum_of fault_told c.from_residual-in_err-typ.result e (judged_unary op d) failed
    (told_limit op d xs p c.requires.data judged (fault_told e) c.in_err-typ.ensures.answer)

pub returns-in_err-paired-clause-answer : goal.returns-in_err-paired-clause-answer
returns-in_err-paired-clause-answer g c =
    let op = c.args.op in
    let d = datum_of c.args.x.now in
    let xs = c.args.xs.now in
    let p = c.in_ok-prim.prim in
    let judged : unary_judged op (leaf_in (datum_type d)) ≡ Ok p =
    ap (unary_judged op) (sym c.datum_leaf.ensures) ∙ sym c.in_ok-prim.ensures in
    let e = c.in_err-paired.field-0.0 in
    let failed : c.from_residual-in_err-paired.result ≡ Err e = grind arith in
    Gives-Err datum_of fault_told c.from_residual-in_err-paired.result e (judged_unary op d) failed
    (told_paired op d xs p c.requires.data judged (fault_told e) (typ_of c.in_ok-typ.typ)
    c.in_ok-typ.ensures.answer c.in_err-paired.ensures.answer)

pub get-requires : goal.get-requires
get-requires g c =
    let op = c.args.op in
    let d = datum_of c.args.x.now in
    let xs = c.args.xs.now in
    let p = c.in_ok-prim.prim in
    let judged : unary_judged op (leaf_in (datum_type d)) ≡ Ok p =
    ap (unary_judged op) (sym c.datum_leaf.ensures) ∙ sym c.in_ok-prim.ensures in
    some_column op d xs p c.requires.data judged c.in_ok-paired.paired.leaves
    c.in_ok-paired.ensures.leaves c.in_ok-paired.ensures.types

pub leaf_results-requires : goal.leaf_results-requires
leaf_results-requires g c =
    let op = c.args.op in
    let d = datum_of c.args.x.now in
    let xs = c.args.xs.now in
    let p = c.in_ok-prim.prim in
    let judged : unary_judged op (leaf_in (datum_type d)) ≡ Ok p =
    ap (unary_judged op) (sym c.datum_leaf.ensures) ∙ sym c.in_ok-prim.ensures in
    let y = c.get.result.now in
    let s : IsSingle d (shared_ends false None (all_data xs)) y =
    column op d xs p c.requires.data judged c.in_ok-paired.paired.leaves y
    c.in_ok-paired.ensures.leaves c.in_ok-paired.ensures.types c.requires.leaves c.get.ensures in
    s.leaf

pub returns-in_err-lane-clause-answer : goal.returns-in_err-lane-clause-answer
returns-in_err-lane-clause-answer g c =
    let op = c.args.op in
    let d = datum_of c.args.x.now in
    let xs = c.args.xs.now in
    let p = c.in_ok-prim.prim in
    let judged : unary_judged op (leaf_in (datum_type d)) ≡ Ok p =
    ap (unary_judged op) (sym c.datum_leaf.ensures) ∙ sym c.in_ok-prim.ensures in
    let y = c.get.result.now in
    let s : IsSingle d (shared_ends false None (all_data xs)) y =
    column op d xs p c.requires.data judged c.in_ok-paired.paired.leaves y
    c.in_ok-paired.ensures.leaves c.in_ok-paired.ensures.types c.requires.leaves c.get.ensures in
    let e = c.in_err-lane.field-0.0 in
    let failed : c.from_residual-in_err-lane.result ≡ Err e = grind arith in
    Gives-Err datum_of fault_told c.from_residual-in_err-lane.result e (judged_unary op d) failed
    (told_rows op d xs p c.requires.data judged (fault_told e) (typ_of c.in_ok-typ.typ)
    c.in_ok-paired.paired.single y c.in_ok-typ.ensures.answer c.in_ok-paired.ensures.answer s
    c.in_err-lane.ensures.answer)

pub numpy-requires : goal.numpy-requires
numpy-requires g c =
    let op = c.args.op in
    let d = datum_of c.args.x.now in
    let xs = c.args.xs.now in
    let p = c.in_ok-prim.prim in
    let judged : unary_judged op (leaf_in (datum_type d)) ≡ Ok p =
    ap (unary_judged op) (sym c.datum_leaf.ensures) ∙ sym c.in_ok-prim.ensures in
    let y = c.get.result.now in
    let s : IsSingle d (shared_ends false None (all_data xs)) y =
    column op d xs p c.requires.data judged c.in_ok-paired.paired.leaves y
    c.in_ok-paired.ensures.leaves c.in_ok-paired.ensures.types c.requires.leaves c.get.ensures in
    subst (λ n. n < 2 ^ 63)
    (sym (lane_long op d xs p c.requires.data judged y c.in_ok-lane.lane s
    c.in_ok-lane.ensures.answer))
    (frame_small (shape_of c.in_ok-paired.paired.shape)
    (length (shared_ends false None (all_data xs))) c.in_ok-paired.ensures.frame)

pub framed-requires : goal.framed-requires
framed-requires g c =
    let op = c.args.op in
    let d = datum_of c.args.x.now in
    let xs = c.args.xs.now in
    let p = c.in_ok-prim.prim in
    let judged : unary_judged op (leaf_in (datum_type d)) ≡ Ok p =
    ap (unary_judged op) (sym c.datum_leaf.ensures) ∙ sym c.in_ok-prim.ensures in
    let y = c.get.result.now in
    let s : IsSingle d (shared_ends false None (all_data xs)) y =
    column op d xs p c.requires.data judged c.in_ok-paired.paired.leaves y
    c.in_ok-paired.ensures.leaves c.in_ok-paired.ensures.types c.requires.leaves c.get.ensures in
    record {
      frame = subst (IsFrame (shape_of c.in_ok-paired.paired.shape))
          (sym (ap len c.numpy.ensures.node
          ∙ lane_long op d xs p c.requires.data judged y c.in_ok-lane.lane s
          c.in_ok-lane.ensures.answer)) c.in_ok-paired.ensures.frame;
    }

pub within_limits-requires-clause-typ : goal.within_limits-requires-clause-typ
within_limits-requires-clause-typ g c =
    let op = c.args.op in
    let d = datum_of c.args.x.now in
    let xs = c.args.xs.now in
    let p = c.in_ok-prim.prim in
    let judged : unary_judged op (leaf_in (datum_type d)) ≡ Ok p =
    ap (unary_judged op) (sym c.datum_leaf.ensures) ∙ sym c.in_ok-prim.ensures in
    let y = c.get.result.now in
    let s : IsSingle d (shared_ends false None (all_data xs)) y =
    column op d xs p c.requires.data judged c.in_ok-paired.paired.leaves y
    c.in_ok-paired.ensures.leaves c.in_ok-paired.ensures.types c.requires.leaves c.get.ensures in
    let ds = all_data xs in
    let lane = c.in_ok-lane.lane in
    let kind : lane.kind ≡ kind_of p =
    c.in_ok-lane.ensures.kind p (column_judged op d xs p c.requires.data judged y s) in
    let node_type : array_type c.in_ok-node.node ≡ result_type p ds =
    c.in_ok-node.ensures.typ (pair_type false None ds) (pair_values false None ds)
    c.in_ok-paired.ensures.shape
    ∙ ap (over_type (pair_type false None ds))
    (ap array_type c.numpy.ensures.node ∙ flat-type lane p kind) in
    sym (refused_or-Ok (limit_refused (result_type p ds)) (result_type p ds)
    (typ_of c.in_ok-typ.typ) c.in_ok-typ.ensures.answer).1
    ∙ sym node_type

pub within_limits-requires-clause-limit : goal.within_limits-requires-clause-limit
within_limits-requires-clause-limit g c =
    subst (λ t. limit t ≡ None) (within_limits-requires-clause-typ g c)
    c.in_ok-typ.ensures.lawful.within_limits

pub returns-clause-answer : goal.returns-clause-answer
returns-clause-answer g c =
    let op = c.args.op in
    let d = datum_of c.args.x.now in
    let xs = c.args.xs.now in
    let p = c.in_ok-prim.prim in
    let judged : unary_judged op (leaf_in (datum_type d)) ≡ Ok p =
    ap (unary_judged op) (sym c.datum_leaf.ensures) ∙ sym c.in_ok-prim.ensures in
    let y = c.get.result.now in
    let s : IsSingle d (shared_ends false None (all_data xs)) y =
    column op d xs p c.requires.data judged c.in_ok-paired.paired.leaves y
    c.in_ok-paired.ensures.leaves c.in_ok-paired.ensures.types c.requires.leaves c.get.ensures in
    let ds = all_data xs in
    let lane = c.in_ok-lane.lane in
    let kind : lane.kind ≡ kind_of p =
    c.in_ok-lane.ensures.kind p (column_judged op d xs p c.requires.data judged y s) in
    let node_type : array_type c.in_ok-node.node ≡ result_type p ds =
    c.in_ok-node.ensures.typ (pair_type false None ds) (pair_values false None ds)
    c.in_ok-paired.ensures.shape
    ∙ ap (over_type (pair_type false None ds))
    (ap array_type c.numpy.ensures.node ∙ flat-type lane p kind) in
    let node_items : array_items c.in_ok-node.node ≡ row_values (unary_row op p) ds =
    c.in_ok-node.ensures.items (pair_type false None ds)
    (λ v. value_or_null (unary_row op p v))
    (pair_values false None ds) c.in_ok-paired.ensures.typed c.in_ok-paired.ensures.shape
    (ap array_items c.numpy.ensures.node
    ∙ lane_is op d xs p c.requires.data judged y lane s c.in_ok-lane.ensures.answer) in
    let single = c.in_ok-paired.paired.single in
    let is : IsResult p (unary_row op p) ds single c.in_ok-node.node =
    result op d xs p c.requires.data judged y lane s c.in_ok-lane.ensures.answer single
    (typ_of c.in_ok-typ.typ) c.in_ok-node.node c.in_ok-typ.ensures.answer
    c.in_ok-paired.ensures.answer node_type node_items in
    let same : c.datum_from.result
    ≡ (if single then One c.in_ok-node.node else Arr c.in_ok-node.node) =
    c.datum_from.ensures
    ∙ ap (λ w. if single then One w else Arr w) c.within_limits.ensures in
    answer op d xs p c.requires.data judged single c.in_ok-node.node is
    ∙ ap (λ d. Ok (datum_of d)) (sym same)

pub returns-clause-datum : goal.returns-clause-datum
returns-clause-datum g c =
    let op = c.args.op in
    let d = datum_of c.args.x.now in
    let xs = c.args.xs.now in
    let p = c.in_ok-prim.prim in
    let judged : unary_judged op (leaf_in (datum_type d)) ≡ Ok p =
    ap (unary_judged op) (sym c.datum_leaf.ensures) ∙ sym c.in_ok-prim.ensures in
    let y = c.get.result.now in
    let s : IsSingle d (shared_ends false None (all_data xs)) y =
    column op d xs p c.requires.data judged c.in_ok-paired.paired.leaves y
    c.in_ok-paired.ensures.leaves c.in_ok-paired.ensures.types c.requires.leaves c.get.ensures in
    let ds = all_data xs in
    let lane = c.in_ok-lane.lane in
    let kind : lane.kind ≡ kind_of p =
    c.in_ok-lane.ensures.kind p (column_judged op d xs p c.requires.data judged y s) in
    let node_type : array_type c.in_ok-node.node ≡ result_type p ds =
    c.in_ok-node.ensures.typ (pair_type false None ds) (pair_values false None ds)
    c.in_ok-paired.ensures.shape
    ∙ ap (over_type (pair_type false None ds))
    (ap array_type c.numpy.ensures.node ∙ flat-type lane p kind) in
    let node_items : array_items c.in_ok-node.node ≡ row_values (unary_row op p) ds =
    c.in_ok-node.ensures.items (pair_type false None ds)
    (λ v. value_or_null (unary_row op p v))
    (pair_values false None ds) c.in_ok-paired.ensures.typed c.in_ok-paired.ensures.shape
    (ap array_items c.numpy.ensures.node
    ∙ lane_is op d xs p c.requires.data judged y lane s c.in_ok-lane.ensures.answer) in
    let single = c.in_ok-paired.paired.single in
    let is : IsResult p (unary_row op p) ds single c.in_ok-node.node =
    result op d xs p c.requires.data judged y lane s c.in_ok-lane.ensures.answer single
    (typ_of c.in_ok-typ.typ) c.in_ok-node.node c.in_ok-typ.ensures.answer
    c.in_ok-paired.ensures.answer node_type node_items in
    let same : c.datum_from.result
    ≡ (if single then One c.in_ok-node.node else Arr c.in_ok-node.node) =
    c.datum_from.ensures
    ∙ ap (λ w. if single then One w else Arr w) c.within_limits.ensures in
    subst IsDatum (sym same)
    (datum_made p (unary_row op p) ds single c.in_ok-node.node is)
