use Rattle.std.proofs.Common.{◌≡◌, length, ap, ap₂, sym, subst, ◌∙◌}
use Rattle.std.specs.Prelude.{pos, IfOk}
use Rattle.std.proofs.lemmas.List.{length-map}
use Rattle.awk_lanes.specs.Column.{Column}
use Rattle.awk_lanes.specs.declared.kind.Kind.TheVariants as kind
use Rattle.awk_types.specs.declared.primitive.Primitive.TheVariants.{U64}
use Rattle.awk_lanes.specs.Ranges.{AreNumbers}
use Rattle.awk_lanes.specs.Words.{column, integers}
use Rattle.awk_kernels.specs.Kernels.{chosen}
use Rattle.awk_layout.specs.Kinds.{kind_of}
use Rattle.awk_pointwise.specs.Numbers.{word_numbers}
use Rattle.awk_lane_pairs.proofs.GroupLaws.{map-chosen}
use Rattle.awk_pointwise.proofs.SelectLaws.{chosen_ranged}
use Rattle.awk_pointwise.proofs.selection.selected_nats.Goals as goal

pub lane_of_nats-requires : goal.lane_of_nats-requires
lane_of_nats-requires g c =
    let ms = c.args.mask.now in
    let a = c.deref.result.now in
    let b = c.deref-2.result.now in
    subst (λ zs. AreNumbers (column (kind_of U64) zs))
    (sym (ap integers (c.deref-3.ensures.value ∙ c.in_ok-numbers.ensures)
    ∙ map-chosen pos ms a b
    ∙ ap₂ (chosen ms) (ap integers c.deref.ensures.value ∙ c.in_ok-a.ensures)
    (ap integers c.deref-2.ensures.value ∙ c.in_ok-b.ensures)))
    (chosen_ranged U64 ms (word_numbers c.args.sides.0) (word_numbers c.args.sides.1)
    c.requires.a c.requires.b)

pub select_nats-requires-clause-first : goal.select_nats-requires-clause-first
select_nats-requires-clause-first g c =
    sym (length-map c.deref.result.now pos)
    ∙ ap length (ap integers c.deref.ensures.value ∙ c.in_ok-a.ensures) ∙ c.requires.first

pub select_nats-requires-clause-second : goal.select_nats-requires-clause-second
select_nats-requires-clause-second g c =
    sym (length-map c.deref-2.result.now pos)
    ∙ ap length (ap integers c.deref-2.ensures.value ∙ c.in_ok-b.ensures) ∙ c.requires.second

pub returns : goal.returns
returns g c =
    let ms = c.args.mask.now in
    let a = c.deref.result.now in
    let b = c.deref-2.result.now in
    subst (λ (q : Column). IfOk c.lane_of_nats.result (λ r. r ≡ q))
    (ap (column kind.U64) (ap integers (c.deref-3.ensures.value ∙ c.in_ok-numbers.ensures)
    ∙ map-chosen pos ms a b
    ∙ ap₂ (chosen ms) (ap integers c.deref.ensures.value ∙ c.in_ok-a.ensures)
    (ap integers c.deref-2.ensures.value ∙ c.in_ok-b.ensures))) c.lane_of_nats.ensures
