use Rattle.std.proofs.Common.{◌≡◌, ◌+◌, ◌++◌, [], ◌∷◌, drop, append_assoc, arith, ap, sym, ◌∙◌}
use Rattle.std.proofs.lemmas.Grind.{common_steps}
use Rattle.awk_base.proofs.Lists.{drop-get}
use Rattle.awk_query.specs.Line.{keys_of}
use Rattle.awk_query.proofs.parts.keys.Goals as goal

pub loop-i-preserved : goal.loop-i-preserved
loop-i-preserved c =
    let i = c.loop-i.i in
    let p = c.get.result.now in
    let rest = keys_of (drop (i + 1) c.args.parts.now) in
    let pushed : c.push.new.self ≡ c.loop-i.names ++ p.key ∷ [] = grind (arith, common_steps) in
    c.loop-i.invariant
    ∙ ap (λ ps. c.loop-i.names ++ keys_of ps) (drop-get c.args.parts.now i p c.get.ensures)
    ∙ sym (append_assoc c.loop-i.names (p.key ∷ []) rest)
    ∙ ap (λ ns. ns ++ rest) (sym pushed)
