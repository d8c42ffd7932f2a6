use Rattle.std.proofs.Common.{◌≡◌, ◌∙◌, ap, sym, subst, true, arith}
use Rattle.std.specs.Prelude.{map, Ok, Err, Some, None, if◌then◌else◌}
use Rattle.awk_types.specs.Faults.{fault_told}
use Rattle.awk_types.specs.Limit.{limit}
use Rattle.awk_types.specs.Parts.{names_of_fields}
use Rattle.awk_types.specs.Simple.{present}
use Rattle.awk_types.specs.View.{typ_of}
use Rattle.awk_types.proofs.RefusalLaws.{Gives-Err}
use Rattle.awk_layout.specs.Datum.{datum_of, IsDatum}
use Rattle.awk_layout.specs.Typing.{array_type, array_items}
use Rattle.awk_layout.specs.declared.datum.Datum.TheVariants.{Arr, One}
use Rattle.awk_frames.specs.Framed.{IsFrame, over_type}
use Rattle.awk_frames.specs.View.{shape_of}
use Rattle.awk_pair_operands.specs.Answer.{shared_ends}
use Rattle.awk_pair_operands.specs.First.{all_data}
use Rattle.awk_pair_operands.specs.Pairs.{leaf_types, pair_refused, pair_type, pair_values}
use Rattle.awk_pair_operands.specs.Pairs.{some_array}
use Rattle.awk_put_field.specs.Field.{end_value}
use Rattle.awk_with_field.specs.WithField.{end_of, with_type, with_field_at}
use Rattle.awk_with_field.proofs.AnswerLaws.{told_type, told_pair, IsResult, datum_made, made}
use Rattle.awk_with_field.proofs.EndLaws.{few-leaves, type-at, right-record, type-joined}
use Rattle.awk_with_field.proofs.EndLaws.{first-part, second-part, part-long, ends-joined}
use Rattle.awk_with_field.proofs.EndLaws.{typ-given, paired-given}
use Rattle.awk_with_field.proofs.joining.joined.Goals as goal

pub returns-in_err-typ-clause-answer : goal.returns-in_err-typ-clause-answer
returns-in_err-typ-clause-answer g c =
    let n = c.args.name.now in
    let d = c.args.depth in
    let ds = all_data c.args.xs.now in
    let e = c.in_err-typ.field-0.0 in
    let failed : c.from_residual.result ≡ Err e = grind arith in
    Gives-Err datum_of fault_told c.from_residual.result e (with_field_at n d ds) failed
    (told_type n d ds c.requires.records (fault_told e) c.in_err-typ.ensures.answer)

pub returns-in_err-paired-clause-answer : goal.returns-in_err-paired-clause-answer
returns-in_err-paired-clause-answer g c =
    let n = c.args.name.now in
    let d = c.args.depth in
    let ds = all_data c.args.xs.now in
    let e = c.in_err-paired.field-0.0 in
    let failed : c.from_residual-in_err-paired.result ≡ Err e = grind arith in
    Gives-Err datum_of fault_told c.from_residual-in_err-paired.result e (with_field_at n d ds)
    failed
    (told_pair n d ds c.requires.records (fault_told e)
    (typ-given (with_type n d ds) (typ_of c.in_ok-typ.typ) c.in_ok-typ.ensures.answer).0
    c.in_err-paired.ensures.answer)

pub get-requires : goal.get-requires
get-requires g c =
    few-leaves 0 c.args.depth c.args.xs.now c.in_ok-paired.paired.leaves c.requires.two
    (omega arith) c.in_ok-paired.ensures.types

pub get-requires-2 : goal.get-requires-2
get-requires-2 g c =
    few-leaves 1 c.args.depth c.args.xs.now c.in_ok-paired.paired.leaves c.requires.two
    (omega arith) c.in_ok-paired.ensures.types

pub with_column-requires-clause-records : goal.with_column-requires-clause-records
with_column-requires-clause-records g c =
    let ds = all_data c.args.xs.now in
    let x = c.get.result.now in
    right-record c.args.depth ds (array_type x) c.requires.records
    (type-at 0 c.in_ok-paired.paired.leaves x (leaf_types (Some c.args.depth) ds) c.get.ensures
    c.in_ok-paired.ensures.types)

pub with_column-requires-clause-long : goal.with_column-requires-clause-long
with_column-requires-clause-long g c =
    let vs = shared_ends true (Some c.args.depth) (all_data c.args.xs.now) in
    let ys = c.in_ok-paired.paired.leaves in
    let x = c.get.result.now in
    let v = c.get-2.result.now in
    part-long 1 vs v (second-part vs ys v c.in_ok-paired.ensures.leaves c.get-2.ensures)
    ∙ sym (part-long 0 vs x (first-part vs ys x c.in_ok-paired.ensures.leaves c.get.ensures))

pub framed-requires : goal.framed-requires
framed-requires g c =
    let vs = shared_ends true (Some c.args.depth) (all_data c.args.xs.now) in
    let ys = c.in_ok-paired.paired.leaves in
    let x = c.get.result.now in
    record {
      frame = subst (IsFrame (shape_of c.in_ok-paired.paired.shape))
          (sym (c.in_ok-ends.ensures.size
          ∙ part-long 0 vs x (first-part vs ys x c.in_ok-paired.ensures.leaves c.get.ensures)))
          c.in_ok-paired.ensures.frame;
    }

pub within_limits-requires-clause-typ : goal.within_limits-requires-clause-typ
within_limits-requires-clause-typ g c =
    let n = c.args.name.now in
    let d = c.args.depth in
    let ds = all_data c.args.xs.now in
    let ys = c.in_ok-paired.paired.leaves in
    let ts = leaf_types (Some d) ds in
    let x = c.get.result.now in
    let v = c.get-2.result.now in
    let node_type : array_type c.in_ok-node.node ≡ with_type n d ds =
    type-joined n d ds (array_type c.in_ok-node.node) (array_type x) (array_type v)
    (c.in_ok-node.ensures.typ (pair_type true (Some d) ds) (pair_values true (Some d) ds)
    c.in_ok-paired.ensures.shape
    ∙ ap (over_type (pair_type true (Some d) ds)) c.in_ok-ends.ensures.typ)
    (type-at 0 ys x ts c.get.ensures c.in_ok-paired.ensures.types)
    (type-at 1 ys v ts c.get-2.ensures c.in_ok-paired.ensures.types) in
    sym (typ-given (with_type n d ds) (typ_of c.in_ok-typ.typ) c.in_ok-typ.ensures.answer).1
    ∙ sym node_type

pub within_limits-requires-clause-limit : goal.within_limits-requires-clause-limit
within_limits-requires-clause-limit g c =
    subst (λ t. limit t ≡ None) (within_limits-requires-clause-typ g c)
    c.in_ok-typ.ensures.lawful.within_limits

pub returns-clause-answer : goal.returns-clause-answer
returns-clause-answer g c =
    let n = c.args.name.now in
    let d = c.args.depth in
    let ds = all_data c.args.xs.now in
    let ys = c.in_ok-paired.paired.leaves in
    let ts = leaf_types (Some d) ds in
    let x = c.get.result.now in
    let v = c.get-2.result.now in
    let node_type : array_type c.in_ok-node.node ≡ with_type n d ds =
    type-joined n d ds (array_type c.in_ok-node.node) (array_type x) (array_type v)
    (c.in_ok-node.ensures.typ (pair_type true (Some d) ds) (pair_values true (Some d) ds)
    c.in_ok-paired.ensures.shape
    ∙ ap (over_type (pair_type true (Some d) ds)) c.in_ok-ends.ensures.typ)
    (type-at 0 ys x ts c.get.ensures c.in_ok-paired.ensures.types)
    (type-at 1 ys v ts c.get-2.ensures c.in_ok-paired.ensures.types) in
    let t = pair_type true (Some d) ds in
    let vs = shared_ends true (Some d) ds in
    let ends : array_items c.in_ok-ends.ends
    ≡ map (end_value n (names_of_fields (present (end_of 0 d ds)))) vs =
    ends-joined n d ds vs (array_items c.in_ok-ends.ends) x v c.in_ok-ends.ensures.items
    (type-at 0 ys x ts c.get.ensures c.in_ok-paired.ensures.types)
    (first-part vs ys x c.in_ok-paired.ensures.leaves c.get.ensures)
    (second-part vs ys v c.in_ok-paired.ensures.leaves c.get-2.ensures) in
    let single = c.in_ok-paired.paired.single in
    let given = paired-given (pair_refused true (Some d) ds) (some_array ds) single
    c.in_ok-paired.ensures.answer in
    let is : IsResult n d ds c.requires.records single c.in_ok-node.node =
    record {
      limit = (typ-given (with_type n d ds) (typ_of c.in_ok-typ.typ) c.in_ok-typ.ensures.answer).0;
      paired = given.0;
      is_single = given.1;
      typ = node_type;
      items = c.in_ok-node.ensures.items t (end_value n (names_of_fields (present (end_of 0 d ds))))
          (pair_values true (Some d) ds) c.in_ok-paired.ensures.typed
          c.in_ok-paired.ensures.shape ends;
    } in
    let same : c.datum_from.result
    ≡ (if single then One c.in_ok-node.node else Arr c.in_ok-node.node) =
    c.datum_from.ensures
    ∙ ap (λ w. if single then One w else Arr w) c.within_limits.ensures in
    made n d ds c.requires.records single c.in_ok-node.node is
    ∙ ap (λ d. Ok (datum_of d)) (sym same)

pub returns-clause-datum : goal.returns-clause-datum
returns-clause-datum g c =
    let n = c.args.name.now in
    let d = c.args.depth in
    let ds = all_data c.args.xs.now in
    let ys = c.in_ok-paired.paired.leaves in
    let ts = leaf_types (Some d) ds in
    let x = c.get.result.now in
    let v = c.get-2.result.now in
    let node_type : array_type c.in_ok-node.node ≡ with_type n d ds =
    type-joined n d ds (array_type c.in_ok-node.node) (array_type x) (array_type v)
    (c.in_ok-node.ensures.typ (pair_type true (Some d) ds) (pair_values true (Some d) ds)
    c.in_ok-paired.ensures.shape
    ∙ ap (over_type (pair_type true (Some d) ds)) c.in_ok-ends.ensures.typ)
    (type-at 0 ys x ts c.get.ensures c.in_ok-paired.ensures.types)
    (type-at 1 ys v ts c.get-2.ensures c.in_ok-paired.ensures.types) in
    let t = pair_type true (Some d) ds in
    let vs = shared_ends true (Some d) ds in
    let ends : array_items c.in_ok-ends.ends
    ≡ map (end_value n (names_of_fields (present (end_of 0 d ds)))) vs =
    ends-joined n d ds vs (array_items c.in_ok-ends.ends) x v c.in_ok-ends.ensures.items
    (type-at 0 ys x ts c.get.ensures c.in_ok-paired.ensures.types)
    (first-part vs ys x c.in_ok-paired.ensures.leaves c.get.ensures)
    (second-part vs ys v c.in_ok-paired.ensures.leaves c.get-2.ensures) in
    let single = c.in_ok-paired.paired.single in
    let given = paired-given (pair_refused true (Some d) ds) (some_array ds) single
    c.in_ok-paired.ensures.answer in
    let is : IsResult n d ds c.requires.records single c.in_ok-node.node =
    record {
      limit = (typ-given (with_type n d ds) (typ_of c.in_ok-typ.typ) c.in_ok-typ.ensures.answer).0;
      paired = given.0;
      is_single = given.1;
      typ = node_type;
      items = c.in_ok-node.ensures.items t (end_value n (names_of_fields (present (end_of 0 d ds))))
          (pair_values true (Some d) ds) c.in_ok-paired.ensures.typed
          c.in_ok-paired.ensures.shape ends;
    } in
    let same : c.datum_from.result
    ≡ (if single then One c.in_ok-node.node else Arr c.in_ok-node.node) =
    c.datum_from.ensures
    ∙ ap (λ w. if single then One w else Arr w) c.within_limits.ensures in
    subst IsDatum (sym same) (datum_made n d ds c.requires.records single c.in_ok-node.node is)
