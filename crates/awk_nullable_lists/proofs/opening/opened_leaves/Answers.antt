use Rattle.std.proofs.Common.{ap, sym, ◌∙◌, subst}
use Rattle.std.specs.Prelude.{◌≡◌, true}
use Rattle.awk_types.specs.Predicates.{is_leaf}
use Rattle.awk_types.specs.Simple.{present}
use Rattle.awk_lanes.specs.Places.{size_of, option_place_at}
use Rattle.awk_lanes.proofs.PlaceLaws.{option-index}
use Rattle.awk_layout.specs.Typing.{array_type}
use Rattle.awk_open.specs.Opened.{IsOpened}
use Rattle.awk_open.specs.declared.opening.Opened.TheVariants as opened
use Rattle.awk_open.proofs.OnlyKinds.{only_option}
use Rattle.awk_nullable_lists.specs.Nullable.{AreLeaves}
use Rattle.awk_nullable_lists.proofs.NullableLaws.{opened_leaves}
use Rattle.awk_nullable_lists.proofs.opening.opened_leaves.Goals as goal

pub unreachable-requires : goal.unreachable-requires
unreachable-requires g c =
    only_option (array_type c.args.x.now) c.in_ok-index.field-0 c.in_ok-index.ensures.opened.kind
    c.requires.optional c.in_default.not-Option

pub leaves_of-requires : goal.leaves_of-requires
leaves_of-requires g c =
    let x = c.args.x.now in
    let opens : IsOpened x (opened.Option c.in-Option.index c.in-Option.content) =
    subst (IsOpened x) c.in-Option.is c.in_ok-index.ensures.opened in
    sym (ap (λ t. is_leaf (present t)) opens.kind) ∙ c.requires.leaves

pub index_of-requires : goal.index_of-requires
index_of-requires g c =
    let x = c.args.x.now in
    let opens : IsOpened x (opened.Option c.in-Option.index c.in-Option.content) =
    subst (IsOpened x) c.in-Option.is c.in_ok-index.ensures.opened in
    option-index c.in-Option.index.kind opens.valid.1.kind

pub returns : goal.returns
returns g c =
    let x = c.args.x.now in
    let j = c.in-Option.index in
    let y = c.in-Option.content in
    let lane = c.in_ok-lane-in-Option.lane in
    let opens : IsOpened x (opened.Option j y) =
    subst (IsOpened x) c.in-Option.is c.in_ok-index.ensures.opened in
    let leaves : is_leaf (array_type y) ≡ true =
    sym (ap (λ t. is_leaf (present t)) opens.kind) ∙ c.requires.leaves in
    subst (λ i. AreLeaves x (option_place_at i) (size_of i) lane)
    (sym c.in_ok-index-in-Option.ensures)
    (opened_leaves lane j x y opens c.in_ok-lane-in-Option.ensures leaves)
