use Rattle.std.proofs.Common.{ap, ap₂, sym, ◌∙◌, map}
use Rattle.std.specs.Prelude.{pos}
use Rattle.std.specs.Int.{from_bool}
use Rattle.awk_kernels.specs.Kernels.{compared}
use Rattle.awk_kernels.specs.Operations.{holds}
use Rattle.awk_pointwise.specs.Numbers.{word_numbers}
use Rattle.awk_pointwise.proofs.WordLaws.{zip2-flip}
use Rattle.awk_pointwise.proofs.truths.compare_into.Goals as goal

pub returns-in-Nats-Ints : goal.returns-in-Nats-Ints
returns-in-Nats-Ints g c =
    let a = c.in-Nats-Ints.a.items in
    let b = c.in-Nats-Ints.b.items in
    let how = c.args.how in
    let back = c.mirrored.result in
    c.compare_mixed-in-Nats-Ints.ensures
    ∙ ap₂ (λ p q. compared back p (map pos q)) c.deref-in-Nats-Ints.ensures.value
    c.deref-in-Nats-Ints-2.ensures.value
    ∙ zip2-flip (λ x y. from_bool (holds how x y)) (λ x y. from_bool (holds back x y))
    (map pos a) b (λ x y. ap from_bool (c.mirrored.ensures x y))
    ∙ sym (ap₂ (λ x y. compared how (word_numbers x) (word_numbers y)) c.in-Nats-Ints.is-0
    c.in-Nats-Ints.is-1)
