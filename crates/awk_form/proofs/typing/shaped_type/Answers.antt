use Rattle.std.proofs.Common.{◌≡◌, arith, rules, sym, ap, ◌∙◌}
use Rattle.awk_types.specs.DataType.{reg, leaf}
use Rattle.awk_types.specs.View.{typ_of}
use Rattle.awk_types.specs.declared.typ.Typ.{Reg, the_lemmas}
use Rattle.awk_form.proofs.Types.{shaped_back}
use Rattle.awk_form.proofs.typing.shaped_type.Goals as goal

pub loop-i-preserved : goal.loop-i-preserved
loop-i-preserved c =
    let n = c.get.result.now in
    let made : typ_of (Reg n c.in_ok-new.field-0)
    ≡ reg n (typ_of c.in_ok-new.field-0.value) = search (rules, the_lemmas) in
    made ∙ ap (λ x. reg n (typ_of x)) c.in_ok-new.ensures.ok ∙ ap (reg n) c.loop-i.invariant
    ∙ sym
    (shaped_back c.args.inner.now c.loop-i.i n (leaf c.args.prim) (omega arith) c.get.ensures)
