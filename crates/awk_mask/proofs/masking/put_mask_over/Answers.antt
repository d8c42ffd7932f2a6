use Rattle.std.specs.Prelude.{None, Err, Ok}
use Rattle.std.proofs.Common.{◌≡◌, arith, ap, sym, ◌∙◌, subst}
use Rattle.awk_types.specs.Faults.{fault_told}
use Rattle.awk_types.specs.Gives.{Told}
use Rattle.awk_types.proofs.RefusalLaws.{Gives-Err}
use Rattle.awk_layout.specs.Datum.{datum_of}
use Rattle.awk_layout.specs.Typing.{array_type, array_datum}
use Rattle.awk_mask.specs.PutMask.{types_refused, put_mask_of}
use Rattle.awk_mask.proofs.MaskFaults.{are_masks, made_within, told_array}
use Rattle.awk_mask.proofs.masking.put_mask_over.Goals as goal

pub masked_node-requires : goal.masked_node-requires
masked_node-requires g c =
    let a : types_refused (array_type c.args.m.now) (array_type c.args.x.now) ≡ None =
    rw (c.typ.ensures.typ, c.typ-2.ensures.typ) at c.in_ok-judged.ensures in
    are_masks c.args.keep c.args.m.now c.args.x.now a

pub returns-in_err-node-clause-answer : goal.returns-in_err-node-clause-answer
returns-in_err-node-clause-answer g c =
    let a : types_refused (array_type c.args.m.now) (array_type c.args.x.now) ≡ None =
    rw (c.typ.ensures.typ, c.typ-2.ensures.typ) at c.in_ok-judged.ensures in
    let e = c.in_err-node.field-0.0 in
    let failed : c.from_residual-in_err-node.result ≡ Err e = grind arith in
    Gives-Err datum_of fault_told c.from_residual-in_err-node.result e
    (put_mask_of (array_datum c.args.x.now) (array_datum c.args.m.now) c.args.keep) failed
    (subst (Told (fault_told e)) (sym (told_array c.args.keep c.args.m.now c.args.x.now a))
    c.in_err-node.ensures)

pub of_node-requires : goal.of_node-requires
of_node-requires g c =
    let a : types_refused (array_type c.args.m.now) (array_type c.args.x.now) ≡ None =
    rw (c.typ.ensures.typ, c.typ-2.ensures.typ) at c.in_ok-judged.ensures in
    made_within c.args.keep c.args.m.now c.args.x.now a c.in_ok-node.node c.in_ok-node.ensures

pub returns-clause-answer : goal.returns-clause-answer
returns-clause-answer g c =
    let a : types_refused (array_type c.args.m.now) (array_type c.args.x.now) ≡ None =
    rw (c.typ.ensures.typ, c.typ-2.ensures.typ) at c.in_ok-judged.ensures in
    told_array c.args.keep c.args.m.now c.args.x.now a ∙ c.in_ok-node.ensures
    ∙ ap (λ y. Ok (array_datum y)) (sym c.in_ok-of_node.ensures)
