use Rattle.std.proofs.Common.{◌≡◌, map, ap, sym, subst, ◌∙◌}
use Rattle.std.specs.List.{AllByRecursion}
use Rattle.std.proofs.lemmas.Result.{IfOk-weaker}
use Rattle.awk_lanes.specs.Numbers.{nat_of}
use Rattle.awk_lanes.specs.Words.{integers}
use Rattle.awk_pointwise.specs.Numbers.{IsNat64, word_numbers}
use Rattle.awk_pointwise.proofs.WordLaws.{natural}
use Rattle.awk_pointwise.proofs.words.nats.Goals as goal

pub returns-in-Ints : goal.returns-in-Ints
returns-in-Ints c =
    let fits = subst (λ w. AllByRecursion IsNat64 (word_numbers w)) c.in-Ints.is c.requires in
    IfOk-weaker c.nat_all.result (λ v. v.items ≡ map nat_of c.deref.result.now)
    (λ v. integers v.items ≡ word_numbers c.args.words)
    (λ v e. ap integers (e ∙ ap (map nat_of) c.deref.ensures.value)
    ∙ natural c.in-Ints.items.items fits ∙ sym (ap word_numbers c.in-Ints.is))
    c.nat_all.ensures
