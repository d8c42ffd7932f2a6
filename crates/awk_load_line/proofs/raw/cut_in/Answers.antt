use Rattle.std.proofs.Common.{sym, ap, ◌∙◌, arith, Some}
use Rattle.std.proofs.lemmas.Bool.{lt-ltb, le-ltb}
use Rattle.awk_load_line.proofs.RawLaws.{cut_key-here, cut_key-later}
use Rattle.awk_load_line.proofs.raw.cut_in.Goals as goal

pub returns-then-have-part : goal.returns-then-have-part
returns-then-have-part c =
    let here = cut_key-here c.args.parts.now c.loop-i.i c.loop-i.have c.get-part.result.now
    c.get-part.ensures (lt-ltb _ _ (omega (arith, c.if-have-part.true))) in
    ap Some c.as_str.ensures ∙ sym here ∙ c.loop-i.invariant.same

pub loop-i-preserved : goal.loop-i-preserved
loop-i-preserved c =
    let later = cut_key-later c.args.parts.now c.loop-i.i c.loop-i.have c.get-part.result.now
    c.get-part.ensures (le-ltb _ _ (omega (arith, c.if-have-part.false))) in
    record {
      same = sym later ∙ c.loop-i.invariant.same;
      counted = c.loop-i.invariant.counted;
    }
