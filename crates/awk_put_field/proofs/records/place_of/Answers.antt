use Rattle.std.proofs.Common.{◌≡◌, ◌+◌, true, false, sym, ap, ◌∙◌, drop}
use Rattle.awk_types.specs.Names.{same_name, place_of as place_in}
use Rattle.awk_put_field.proofs.PutLaws.{place_found, place_passed}
use Rattle.awk_put_field.proofs.records.place_of.Goals as goal
use Rattle.awk_base.proofs.Lists.{drop-get}

pub returns-then-eq : goal.returns-then-eq
returns-then-eq c =
    let n = c.args.name.now in
    let ns = c.args.names.now in
    let same : same_name c.get.result.now n ≡ true =
    ap (λ m. same_name m n) (sym c.as_str.ensures) ∙ sym c.eq.ensures ∙ c.if-eq.true in
    place_found n c.loop-i.i c.get.result.now (place_in n ns) (drop c.loop-i.i ns)
    (drop (c.loop-i.i + 1) ns) (drop-get ns c.loop-i.i c.get.result.now c.get.ensures) same
    c.loop-i.invariant

pub loop-i-preserved : goal.loop-i-preserved
loop-i-preserved c =
    let n = c.args.name.now in
    let ns = c.args.names.now in
    let other : same_name c.get.result.now n ≡ false =
    ap (λ m. same_name m n) (sym c.as_str.ensures) ∙ sym c.eq.ensures ∙ c.if-eq.false in
    place_passed n ns c.loop-i.i c.get.result.now (place_in n ns) (drop c.loop-i.i ns)
    (drop (c.loop-i.i + 1) ns) (drop-get ns c.loop-i.i c.get.result.now c.get.ensures) other
    c.loop-i.invariant
