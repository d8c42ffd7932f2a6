use Rattle.std.proofs.Common.{ap, sym, ◌∙◌, map}
use Rattle.std.specs.Prelude.{pos}
use Rattle.std.proofs.lemmas.Simd.{map-map}
use Rattle.awk_lanes.specs.Numbers.{element}
use Rattle.awk_lanes.specs.declared.kind.Kind.TheVariants.{Bool as Truths, U64}
use Rattle.awk_numbers.proofs.PartLaws.{element-other}
use Rattle.awk_pointwise.proofs.words.words_of.Goals as goal

pub returns-in_ok-nats_of-in-U64 : goal.returns-in_ok-nats_of-in-U64
returns-in_ok-nats_of-in-U64 g c =
    c.in_ok-nats_of-in-U64.ensures.numbers
    ∙ sym (element-other U64 c.args.lane.now.items (λ e. cc))
    ∙ ap (λ k. map (element k) c.args.lane.now.items) (sym c.in-U64.is ∙ c.kind.ensures)

pub returns-in_ok-numbers_of-in_default : goal.returns-in_ok-numbers_of-in_default
returns-in_ok-numbers_of-in_default g c =
    c.in_ok-numbers_of-in_default.ensures.numbers
    ∙ sym (element-other c.args.lane.now.kind c.args.lane.now.items
    (λ e. c.in_default.not-Bool (c.kind.ensures ∙ e)))

pub returns-in_ok-ones-in-Bool : goal.returns-in_ok-ones-in-Bool
returns-in_ok-ones-in-Bool g c =
    c.in_ok-ones-in-Bool.ensures
    ∙ sym (map-map (element Truths) pos c.byte_numbers.result.now)
    ∙ ap (map (element Truths)) c.byte_numbers.ensures.numbers
    ∙ ap (λ k. map (element k) c.args.lane.now.items) (sym c.in-Bool.is ∙ c.kind.ensures)
