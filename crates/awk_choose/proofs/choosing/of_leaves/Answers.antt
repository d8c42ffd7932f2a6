use Rattle.std.proofs.Common.{◌≡◌, ◌∙◌, ap, sym, subst, false, arith}
use Rattle.std.specs.Prelude.{None, Ok, Err, map, if◌then◌else◌}
use Rattle.awk_types.specs.Faults.{fault_told, limit_refused}
use Rattle.awk_types.specs.Limit.{limit}
use Rattle.awk_types.specs.View.{typ_of}
use Rattle.awk_types.proofs.RefusalLaws.{Gives-Err, refused_or-Ok}
use Rattle.awk_layout.specs.Datum.{datum_of, IsDatum}
use Rattle.awk_layout.specs.Filler.{filler_of}
use Rattle.awk_layout.specs.Typing.{array_type, array_items}
use Rattle.awk_layout.specs.declared.datum.Datum.TheVariants.{Arr, One}
use Rattle.awk_frames.specs.Framed.{IsFrame, over_type}
use Rattle.awk_frames.specs.View.{shape_of}
use Rattle.awk_pair_operands.specs.Answer.{shared_ends}
use Rattle.awk_pair_operands.specs.First.{all_data}
use Rattle.awk_pair_operands.specs.Pairs.{pair_type, pair_values}
use Rattle.awk_ends.proofs.DatumLaws.{IsMade, datum_made}
use Rattle.awk_choose.specs.Choice.{far, choice_row, result_type, result_values, judged_choice}
use Rattle.awk_choose.proofs.ChosenLaws.{IsJudged, is_judged, told_paired, columns, told_ends}
use Rattle.awk_choose.proofs.ChosenLaws.{items, long, type_is, is_made, answer}
use Rattle.awk_choose.proofs.EndLaws.{AreGiven}
use Rattle.awk_choose.proofs.choosing.of_leaves.Goals as goal

pub returns-in_err-paired-clause-answer : goal.returns-in_err-paired-clause-answer
returns-in_err-paired-clause-answer g c =
    let d = datum_of c.args.c.now in
    let a = c.args.a.now in
    let b = c.args.b.now in
    let ds = all_data c.args.xs.now in
    let p = c.in_ok-prim.prim in
    let t = typ_of c.in_ok-typ.typ in
    let h : IsJudged d a b ds p t =
    is_judged d a b ds p t c.requires.data c.requires.leaves c.datum_leaf.result
    c.leaf_type.result c.leaf_type-2.result c.datum_leaf.ensures c.leaf_type.ensures
    c.leaf_type-2.ensures c.in_ok-prim.ensures c.some_option-optional.result
    (map array_type c.args.none.now.leaves) c.some_option-optional.ensures c.requires.types
    (c.in_ok-typ.ensures.answer (pair_type false far ds) c.requires.shape) in
    let e = c.in_err-paired.field-0.0 in
    let failed : c.from_residual-in_err-paired.result ≡ Err e = grind arith in
    Gives-Err datum_of fault_told c.from_residual-in_err-paired.result e
    (judged_choice d (filler_of a) (filler_of b)) failed
    (told_paired d a b ds p t h (fault_told e) c.in_err-paired.ensures.answer)

pub chosen_ends-requires-clause-some : goal.chosen_ends-requires-clause-some
chosen_ends-requires-clause-some g c =
    let d = datum_of c.args.c.now in
    let a = c.args.a.now in
    let b = c.args.b.now in
    let ds = all_data c.args.xs.now in
    let p = c.in_ok-prim.prim in
    let t = typ_of c.in_ok-typ.typ in
    let h : IsJudged d a b ds p t =
    is_judged d a b ds p t c.requires.data c.requires.leaves c.datum_leaf.result
    c.leaf_type.result c.leaf_type-2.result c.datum_leaf.ensures c.leaf_type.ensures
    c.leaf_type-2.ensures c.in_ok-prim.ensures c.some_option-optional.result
    (map array_type c.args.none.now.leaves) c.some_option-optional.ensures c.requires.types
    (c.in_ok-typ.ensures.answer (pair_type false far ds) c.requires.shape) in
    let ys = c.in_ok-paired.paired.leaves in
    let s : AreGiven d a b (shared_ends false far ds) ys =
    columns d a b ds p t h ys c.in_ok-paired.ensures.leaves c.in_ok-paired.ensures.types in
    s.some

pub chosen_ends-requires-clause-leaves : goal.chosen_ends-requires-clause-leaves
chosen_ends-requires-clause-leaves g c =
    let d = datum_of c.args.c.now in
    let a = c.args.a.now in
    let b = c.args.b.now in
    let ds = all_data c.args.xs.now in
    let p = c.in_ok-prim.prim in
    let t = typ_of c.in_ok-typ.typ in
    let h : IsJudged d a b ds p t =
    is_judged d a b ds p t c.requires.data c.requires.leaves c.datum_leaf.result
    c.leaf_type.result c.leaf_type-2.result c.datum_leaf.ensures c.leaf_type.ensures
    c.leaf_type-2.ensures c.in_ok-prim.ensures c.some_option-optional.result
    (map array_type c.args.none.now.leaves) c.some_option-optional.ensures c.requires.types
    (c.in_ok-typ.ensures.answer (pair_type false far ds) c.requires.shape) in
    let ys = c.in_ok-paired.paired.leaves in
    let s : AreGiven d a b (shared_ends false far ds) ys =
    columns d a b ds p t h ys c.in_ok-paired.ensures.leaves c.in_ok-paired.ensures.types in
    s.leaves

pub chosen_ends-requires-clause-a : goal.chosen_ends-requires-clause-a
chosen_ends-requires-clause-a g c =
    let d = datum_of c.args.c.now in
    let a = c.args.a.now in
    let b = c.args.b.now in
    let ds = all_data c.args.xs.now in
    let p = c.in_ok-prim.prim in
    let t = typ_of c.in_ok-typ.typ in
    let h : IsJudged d a b ds p t =
    is_judged d a b ds p t c.requires.data c.requires.leaves c.datum_leaf.result
    c.leaf_type.result c.leaf_type-2.result c.datum_leaf.ensures c.leaf_type.ensures
    c.leaf_type-2.ensures c.in_ok-prim.ensures c.some_option-optional.result
    (map array_type c.args.none.now.leaves) c.some_option-optional.ensures c.requires.types
    (c.in_ok-typ.ensures.answer (pair_type false far ds) c.requires.shape) in
    let ys = c.in_ok-paired.paired.leaves in
    let s : AreGiven d a b (shared_ends false far ds) ys =
    columns d a b ds p t h ys c.in_ok-paired.ensures.leaves c.in_ok-paired.ensures.types in
    s.first.among

pub chosen_ends-requires-clause-b : goal.chosen_ends-requires-clause-b
chosen_ends-requires-clause-b g c =
    let d = datum_of c.args.c.now in
    let a = c.args.a.now in
    let b = c.args.b.now in
    let ds = all_data c.args.xs.now in
    let p = c.in_ok-prim.prim in
    let t = typ_of c.in_ok-typ.typ in
    let h : IsJudged d a b ds p t =
    is_judged d a b ds p t c.requires.data c.requires.leaves c.datum_leaf.result
    c.leaf_type.result c.leaf_type-2.result c.datum_leaf.ensures c.leaf_type.ensures
    c.leaf_type-2.ensures c.in_ok-prim.ensures c.some_option-optional.result
    (map array_type c.args.none.now.leaves) c.some_option-optional.ensures c.requires.types
    (c.in_ok-typ.ensures.answer (pair_type false far ds) c.requires.shape) in
    let ys = c.in_ok-paired.paired.leaves in
    let s : AreGiven d a b (shared_ends false far ds) ys =
    columns d a b ds p t h ys c.in_ok-paired.ensures.leaves c.in_ok-paired.ensures.types in
    s.second.among

pub returns-in_err-ends-clause-answer : goal.returns-in_err-ends-clause-answer
returns-in_err-ends-clause-answer g c =
    let d = datum_of c.args.c.now in
    let a = c.args.a.now in
    let b = c.args.b.now in
    let ds = all_data c.args.xs.now in
    let p = c.in_ok-prim.prim in
    let t = typ_of c.in_ok-typ.typ in
    let h : IsJudged d a b ds p t =
    is_judged d a b ds p t c.requires.data c.requires.leaves c.datum_leaf.result
    c.leaf_type.result c.leaf_type-2.result c.datum_leaf.ensures c.leaf_type.ensures
    c.leaf_type-2.ensures c.in_ok-prim.ensures c.some_option-optional.result
    (map array_type c.args.none.now.leaves) c.some_option-optional.ensures c.requires.types
    (c.in_ok-typ.ensures.answer (pair_type false far ds) c.requires.shape) in
    let ys = c.in_ok-paired.paired.leaves in
    let parts = c.in_ok-paired.ensures.leaves in
    let types = c.in_ok-paired.ensures.types in
    let e = c.in_err-ends.field-0.0 in
    let failed : c.from_residual-in_err-ends.result ≡ Err e = grind arith in
    Gives-Err datum_of fault_told c.from_residual-in_err-ends.result e
    (judged_choice d (filler_of a) (filler_of b)) failed
    (told_ends d a b ds p t h ys parts types (fault_told e) c.in_err-ends.ensures.answer)

pub framed-requires : goal.framed-requires
framed-requires g c =
    let d = datum_of c.args.c.now in
    let a = c.args.a.now in
    let b = c.args.b.now in
    let ds = all_data c.args.xs.now in
    let p = c.in_ok-prim.prim in
    let t = typ_of c.in_ok-typ.typ in
    let h : IsJudged d a b ds p t =
    is_judged d a b ds p t c.requires.data c.requires.leaves c.datum_leaf.result
    c.leaf_type.result c.leaf_type-2.result c.datum_leaf.ensures c.leaf_type.ensures
    c.leaf_type-2.ensures c.in_ok-prim.ensures c.some_option-optional.result
    (map array_type c.args.none.now.leaves) c.some_option-optional.ensures c.requires.types
    (c.in_ok-typ.ensures.answer (pair_type false far ds) c.requires.shape) in
    let ys = c.in_ok-paired.paired.leaves in
    let parts = c.in_ok-paired.ensures.leaves in
    let types = c.in_ok-paired.ensures.types in
    record {
      frame = subst (IsFrame (shape_of c.in_ok-paired.paired.shape))
          (sym (long d a b ds p t h ys parts types c.in_ok-ends.ends c.in_ok-ends.ensures.answer))
          c.in_ok-paired.ensures.frame;
    }

pub within_limits-requires-clause-typ : goal.within_limits-requires-clause-typ
within_limits-requires-clause-typ g c =
    let d = datum_of c.args.c.now in
    let a = c.args.a.now in
    let b = c.args.b.now in
    let ds = all_data c.args.xs.now in
    let p = c.in_ok-prim.prim in
    let t = typ_of c.in_ok-typ.typ in
    let h : IsJudged d a b ds p t =
    is_judged d a b ds p t c.requires.data c.requires.leaves c.datum_leaf.result
    c.leaf_type.result c.leaf_type-2.result c.datum_leaf.ensures c.leaf_type.ensures
    c.leaf_type-2.ensures c.in_ok-prim.ensures c.some_option-optional.result
    (map array_type c.args.none.now.leaves) c.some_option-optional.ensures c.requires.types
    (c.in_ok-typ.ensures.answer (pair_type false far ds) c.requires.shape) in
    let ys = c.in_ok-paired.paired.leaves in
    let parts = c.in_ok-paired.ensures.leaves in
    let types = c.in_ok-paired.ensures.types in
    let y = c.in_ok-ends.ends in
    let k = c.in_ok-ends.ensures.answer in
    let node_type : array_type c.in_ok-node.node ≡ result_type p ds =
    c.in_ok-node.ensures.typ (pair_type false far ds) (pair_values false far ds)
    c.in_ok-paired.ensures.shape
    ∙ ap (over_type (pair_type false far ds))
    (type_is d a b ds p t h ys parts types y k c.in_ok-ends.ensures.typ) in
    sym (refused_or-Ok (limit_refused (result_type p ds)) (result_type p ds) t h.limit).1
    ∙ sym node_type

pub within_limits-requires-clause-limit : goal.within_limits-requires-clause-limit
within_limits-requires-clause-limit g c =
    subst (λ t. limit t ≡ None) (within_limits-requires-clause-typ g c)
    c.in_ok-typ.ensures.lawful.within_limits

pub returns-clause-answer : goal.returns-clause-answer
returns-clause-answer g c =
    let d = datum_of c.args.c.now in
    let a = c.args.a.now in
    let b = c.args.b.now in
    let ds = all_data c.args.xs.now in
    let p = c.in_ok-prim.prim in
    let t = typ_of c.in_ok-typ.typ in
    let h : IsJudged d a b ds p t =
    is_judged d a b ds p t c.requires.data c.requires.leaves c.datum_leaf.result
    c.leaf_type.result c.leaf_type-2.result c.datum_leaf.ensures c.leaf_type.ensures
    c.leaf_type-2.ensures c.in_ok-prim.ensures c.some_option-optional.result
    (map array_type c.args.none.now.leaves) c.some_option-optional.ensures c.requires.types
    (c.in_ok-typ.ensures.answer (pair_type false far ds) c.requires.shape) in
    let ys = c.in_ok-paired.paired.leaves in
    let parts = c.in_ok-paired.ensures.leaves in
    let types = c.in_ok-paired.ensures.types in
    let y = c.in_ok-ends.ends in
    let k = c.in_ok-ends.ensures.answer in
    let node_type : array_type c.in_ok-node.node ≡ result_type p ds =
    c.in_ok-node.ensures.typ (pair_type false far ds) (pair_values false far ds)
    c.in_ok-paired.ensures.shape
    ∙ ap (over_type (pair_type false far ds))
    (type_is d a b ds p t h ys parts types y k c.in_ok-ends.ensures.typ) in
    let node_items : array_items c.in_ok-node.node
    ≡ result_values (filler_of a) (filler_of b) ds =
    c.in_ok-node.ensures.items (pair_type false far ds) (choice_row (filler_of a) (filler_of b))
    (pair_values false far ds) c.in_ok-paired.ensures.typed c.in_ok-paired.ensures.shape
    (items d a b ds p t h ys parts types y k) in
    let single = c.in_ok-paired.paired.single in
    let made : IsMade (result_type p ds) (result_values (filler_of a) (filler_of b) ds) ds single
    c.in_ok-node.node =
    is_made d a b ds p t h single c.in_ok-node.node c.in_ok-paired.ensures.answer node_type
    node_items in
    let same : c.datum_from.result
    ≡ (if single then One c.in_ok-node.node else Arr c.in_ok-node.node) =
    c.datum_from.ensures
    ∙ ap (λ w. if single then One w else Arr w) c.within_limits.ensures in
    answer d a b ds p t h single c.in_ok-node.node c.in_ok-paired.ensures.answer made
    ∙ ap (λ d. Ok (datum_of d)) (sym same)

pub returns-clause-datum : goal.returns-clause-datum
returns-clause-datum g c =
    let d = datum_of c.args.c.now in
    let a = c.args.a.now in
    let b = c.args.b.now in
    let ds = all_data c.args.xs.now in
    let p = c.in_ok-prim.prim in
    let t = typ_of c.in_ok-typ.typ in
    let h : IsJudged d a b ds p t =
    is_judged d a b ds p t c.requires.data c.requires.leaves c.datum_leaf.result
    c.leaf_type.result c.leaf_type-2.result c.datum_leaf.ensures c.leaf_type.ensures
    c.leaf_type-2.ensures c.in_ok-prim.ensures c.some_option-optional.result
    (map array_type c.args.none.now.leaves) c.some_option-optional.ensures c.requires.types
    (c.in_ok-typ.ensures.answer (pair_type false far ds) c.requires.shape) in
    let ys = c.in_ok-paired.paired.leaves in
    let parts = c.in_ok-paired.ensures.leaves in
    let types = c.in_ok-paired.ensures.types in
    let y = c.in_ok-ends.ends in
    let k = c.in_ok-ends.ensures.answer in
    let node_type : array_type c.in_ok-node.node ≡ result_type p ds =
    c.in_ok-node.ensures.typ (pair_type false far ds) (pair_values false far ds)
    c.in_ok-paired.ensures.shape
    ∙ ap (over_type (pair_type false far ds))
    (type_is d a b ds p t h ys parts types y k c.in_ok-ends.ensures.typ) in
    let node_items : array_items c.in_ok-node.node
    ≡ result_values (filler_of a) (filler_of b) ds =
    c.in_ok-node.ensures.items (pair_type false far ds) (choice_row (filler_of a) (filler_of b))
    (pair_values false far ds) c.in_ok-paired.ensures.typed c.in_ok-paired.ensures.shape
    (items d a b ds p t h ys parts types y k) in
    let single = c.in_ok-paired.paired.single in
    let made : IsMade (result_type p ds) (result_values (filler_of a) (filler_of b) ds) ds single
    c.in_ok-node.node =
    is_made d a b ds p t h single c.in_ok-node.node c.in_ok-paired.ensures.answer node_type
    node_items in
    let same : c.datum_from.result
    ≡ (if single then One c.in_ok-node.node else Arr c.in_ok-node.node) =
    c.datum_from.ensures
    ∙ ap (λ w. if single then One w else Arr w) c.within_limits.ensures in
    subst IsDatum (sym same)
    (datum_made (result_type p ds) (result_values (filler_of a) (filler_of b) ds) ds single
    c.in_ok-node.node made)
