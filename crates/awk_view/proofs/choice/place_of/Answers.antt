use Rattle.std.proofs.Common.{◌≡◌, true, false, sym, ap, ◌∙◌}
use Rattle.awk_types.specs.Names.{same_name}
use Rattle.awk_view.proofs.Beside.{place_found, place_passed}
use Rattle.awk_view.proofs.choice.place_of.Goals as goal

pub returns-then-eq : goal.returns-then-eq
returns-then-eq c =
    let same : same_name c.get.result.now c.args.name.now ≡ true = ap
    (λ n. same_name n c.args.name.now) (sym c.as_str.ensures) ∙ sym c.eq.ensures ∙
    c.if-eq.true in
    place_found c.args.name.now c.args.names.now c.loop-i.i c.get.result.now c.get.ensures same
    c.loop-i.invariant

pub loop-i-preserved : goal.loop-i-preserved
loop-i-preserved c =
    let other : same_name c.get.result.now c.args.name.now ≡ false = ap
    (λ n. same_name n c.args.name.now) (sym c.as_str.ensures) ∙ sym c.eq.ensures ∙
    c.if-eq.false in
    place_passed c.args.name.now c.args.names.now c.loop-i.i c.get.result.now c.get.ensures other
    c.loop-i.invariant
