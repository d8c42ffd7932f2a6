use Rattle.std.proofs.Common.{◌≡◌, map, ap, sym, subst, ◌∙◌}
use Rattle.std.specs.List.{AllByRecursion}
use Rattle.std.proofs.lemmas.Result.{IfOk-weaker}
use Rattle.awk_pointwise.specs.Numbers.{clip, IsInt64, word_numbers}
use Rattle.awk_pointwise.proofs.WordLaws.{clipped}
use Rattle.awk_pointwise.proofs.words.ints.Goals as goal

pub returns-in-Nats : goal.returns-in-Nats
returns-in-Nats c =
    let fits = subst (λ w. AllByRecursion IsInt64 (word_numbers w)) c.in-Nats.is c.requires in
    IfOk-weaker c.clip_all.result (λ v. v.items ≡ map clip c.deref.result.now)
    (λ v. v.items ≡ word_numbers c.args.words)
    (λ v e. e ∙ ap (map clip) c.deref.ensures.value ∙ clipped c.in-Nats.items.items fits
    ∙ sym (ap word_numbers c.in-Nats.is))
    c.clip_all.ensures
