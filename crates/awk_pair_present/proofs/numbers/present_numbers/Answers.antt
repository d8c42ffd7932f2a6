use Rattle.std.proofs.Common.{◌≡◌, ◌∙◌, false, refl, ap, sym, subst}
use Rattle.awk_types.specs.Simple.{is_option}
use Rattle.awk_lanes.specs.Column.{Column}
use Rattle.awk_lanes.specs.Places.{size_of, IsOptionKind}
use Rattle.awk_layout.specs.Layout.{Layout, flat}
use Rattle.awk_layout.specs.Typing.{array_type}
use Rattle.awk_counts.specs.Counted.{first_of, present_at}
use Rattle.awk_frames.specs.Shape.{numbers_of}
use Rattle.awk_columns.proofs.MovedNumbers.{named_reached}
use Rattle.awk_open.proofs.OrderedOptions.{option_opened, option_in_order}
use Rattle.awk_pair_present.proofs.NarrowIndexes.{narrow_option}
use Rattle.awk_pair_present.proofs.numbers.present_numbers.Goals as goal

pub named_numbers-requires-clause-index : goal.named_numbers-requires-clause-index
named_numbers-requires-clause-index g c = c.requires.valid.1

pub new-index-requires : goal.new-index-requires
new-index-requires g c =
    subst (λ (k : Column). IsOptionKind k.kind) (sym c.in_ok-numbers.ensures.lane)
    (narrow_option (size_of (g.P.OptionIndex.lane c.args.index.now)))

pub returns-clause-opened : goal.returns-clause-opened
returns-clause-opened g c x h =
    let j = g.P.OptionIndex.lane c.args.index.now in
    let y = flat c.args.lane.now in
    option_opened x y c.in_ok-content.content j c.new-index.result h
    (c.new-index.ensures ∙ ap numbers_of c.in_ok-numbers.ensures.lane)
    (named_reached y c.in_ok-content.content c.args.lane.now (first_of (present_at j) (size_of j))
    refl c.in_ok-content.ensures)
    c.len.ensures.valid

pub returns-clause-inner : goal.returns-clause-inner
returns-clause-inner g c =
    subst (λ (y : Layout). is_option (array_type y) ≡ false) (sym c.in_ok-content.ensures) refl

pub returns-clause-order : goal.returns-clause-order
returns-clause-order g c x h =
    let j = g.P.OptionIndex.lane c.args.index.now in
    let y = flat c.args.lane.now in
    option_in_order x y c.in_ok-content.content j c.new-index.result h refl
    (c.new-index.ensures ∙ ap numbers_of c.in_ok-numbers.ensures.lane)
    (named_reached y c.in_ok-content.content c.args.lane.now (first_of (present_at j) (size_of j))
    refl c.in_ok-content.ensures)
