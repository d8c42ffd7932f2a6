use Rattle.std.proofs.Common.{◌≡◌, ap, sym, ◌∙◌, subst, length, arith}
use Rattle.std.specs.Prelude.{true}
use Rattle.awk_types.specs.Predicates.{is_leaf}
use Rattle.awk_types.specs.Simple.{present}
use Rattle.awk_lanes.specs.Counted.{before, offsets_by}
use Rattle.awk_layout.specs.Typing.{array_type, array_items}
use Rattle.awk_open.specs.Opened.{IsOpened}
use Rattle.awk_open.specs.declared.opening.Opened.TheVariants as opened
use Rattle.awk_open.proofs.OnlyKinds.{only_option}
use Rattle.awk_numbers.specs.Folds.{whole_numbers}
use Rattle.awk_parts.specs.Parts.{AreRising}
use Rattle.awk_present.specs.Present.{present_in}
use Rattle.awk_present.proofs.PresentLaws.{index_into, index-count, total, options_are}
use Rattle.awk_present.proofs.present.present_options.Goals as goal

pub present_offsets-requires-clause-parts : goal.present_offsets-requires-clause-parts
present_offsets-requires-clause-parts g c =
    let x = c.args.items.now in
    let opens : IsOpened x (opened.Option c.in-Option.index c.in-Option.content) =
    subst (IsOpened x) c.in-Option.is c.in_ok-index.ensures in
    let count : length (whole_numbers c.in_ok-whole-in-Option.whole) ≡ length (array_items x) =
    ap length c.in_ok-whole-in-Option.ensures.numbers
    ∙ index-count c.in-Option.index c.in_ok-leaves-in-Option.leaves x c.in-Option.content opens
    c.in_ok-leaves-in-Option.ensures in
    record {
      rising = subst (AreRising c.args.offsets.now c.args.count) (sym count) c.requires.rising;
      few = omega (arith, count, c.requires.few);
    }

pub numbers_at-requires-clause-index : goal.numbers_at-requires-clause-index
numbers_at-requires-clause-index g c =
    let x = c.args.items.now in
    let opens : IsOpened x (opened.Option c.in-Option.index c.in-Option.content) =
    subst (IsOpened x) c.in-Option.is c.in_ok-index.ensures in
    index_into c.in-Option.index c.in_ok-leaves-in-Option.leaves x c.in-Option.content opens
    c.in_ok-leaves-in-Option.ensures

pub numbers_at-requires-clause-count : goal.numbers_at-requires-clause-count
numbers_at-requires-clause-count g c =
    let x = c.args.items.now in
    let opens : IsOpened x (opened.Option c.in-Option.index c.in-Option.content) =
    subst (IsOpened x) c.in-Option.is c.in_ok-index.ensures in
    c.in_ok-starts-in-Option.ensures.0
    ∙ ap (λ js. before (present_in js c.args.offsets.now) c.args.count)
    c.in_ok-whole-in-Option.ensures.numbers
    ∙ total c.in-Option.index c.in_ok-leaves-in-Option.leaves x c.in-Option.content opens
    c.in_ok-leaves-in-Option.ensures c.args.offsets.now c.args.count c.requires.rising
    c.requires.first c.requires.last

pub returns : goal.returns
returns g c =
    let x = c.args.items.now in
    let opens : IsOpened x (opened.Option c.in-Option.index c.in-Option.content) =
    subst (IsOpened x) c.in-Option.is c.in_ok-index.ensures in
    let leaves : is_leaf (array_type c.in-Option.content) ≡ true =
    sym (ap (λ t. is_leaf (present t)) opens.kind) ∙ c.requires.leaves in
    options_are c.in-Option.index c.in_ok-leaves-in-Option.leaves x c.in-Option.content opens
    c.in_ok-leaves-in-Option.ensures c.args.offsets.now c.args.count c.requires.rising
    c.requires.first c.in_ok-lane-in-Option.lane c.in_ok-starts-in-Option.starts.lane
    c.in_ok-lane-in-Option.ensures
    (c.in_ok-starts-in-Option.ensures.1
    ∙ ap (λ js. offsets_by (present_in js c.args.offsets.now) c.args.count)
    c.in_ok-whole-in-Option.ensures.numbers)
    leaves

pub unreachable-requires : goal.unreachable-requires
unreachable-requires g c =
    only_option (array_type c.args.items.now) c.in_ok-index.field-0 c.in_ok-index.ensures.kind
    c.requires.optional c.in_default.not-Option
