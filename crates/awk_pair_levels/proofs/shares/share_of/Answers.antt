use Rattle.std.proofs.Common.{◌&&◌, ap, sym, ◌∙◌}
use Rattle.awk_types.specs.Predicates.{is_list_or_unknown}
use Rattle.awk_layout.specs.Typing.{array_type}
use Rattle.awk_pair_sides.specs.Levels.{is_single}
use Rattle.awk_pair_levels.proofs.ShareLaws.{items_stretched, items_other, role_listed}
use Rattle.awk_pair_sides.proofs.TestLaws.{second}
use Rattle.awk_pair_levels.proofs.shares.share_of.Goals as goal

pub single_items-requires : goal.single_items-requires
single_items-requires g c =
    second c.args.stretch (is_single (array_type c.args.x.now))
    (ap (λ t. c.args.stretch && is_single t) (sym c.typ.ensures.typ)
    ∙ sym c.is_stretched_type.ensures ∙ c.if-is_stretched_type.true)

pub returns-then-is_stretched_type : goal.returns-then-is_stretched_type
returns-then-is_stretched_type g c =
    items_stretched c.args.stretch c.args.x.now c.in_ok-items.items
    (ap (λ t. c.args.stretch && is_single t) (sym c.typ.ensures.typ)
    ∙ sym c.is_stretched_type.ensures ∙ c.if-is_stretched_type.true) c.in_ok-items.ensures

pub lists_of-requires : goal.lists_of-requires
lists_of-requires g c =
    ap is_list_or_unknown (sym c.typ-2.ensures.typ) ∙ sym c.is_list_or_unknown.ensures
    ∙ c.if-is_list_or_unknown.true

pub returns-then-is_list_or_unknown : goal.returns-then-is_list_or_unknown
returns-then-is_list_or_unknown g c = (
  role_listed c.args.stretch (array_type c.args.x.now) c.in_ok-lists.lists.class
      (ap (λ t. c.args.stretch && is_single t) (sym c.typ.ensures.typ)
      ∙ sym c.is_stretched_type.ensures ∙ c.if-is_stretched_type.false) c.in_ok-lists.ensures.class,
  c.in_ok-lists.ensures.lists,
)

pub returns : goal.returns
returns g c =
    items_other c.args.stretch c.args.x.now c.in_ok-column.column
    (ap is_list_or_unknown (sym c.typ-2.ensures.typ) ∙ sym c.is_list_or_unknown.ensures
    ∙ c.if-is_list_or_unknown.false) c.in_ok-column.ensures
