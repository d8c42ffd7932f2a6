use Rattle.std.proofs.Common.{◌∙◌, ap, sym}
use Rattle.awk_types.specs.Simple.{is_option}
use Rattle.awk_pair_present.proofs.PresenceLaws.{whole_presence}
use Rattle.awk_pair_present.proofs.presence.presence_of.Goals as goal

pub returns-then-not-is_optional : goal.returns-then-not-is_optional
returns-then-not-is_optional g c =
    whole_presence c.args.x.now c.in_ok-copy.field-0 c.in_ok-copy.ensures c.len.ensures.valid
    (ap is_option (sym c.typ.ensures.typ) ∙ sym c.is_optional.ensures ∙ c.if-not-is_optional.true)

pub opened_presence-requires : goal.opened_presence-requires
opened_presence-requires g c = record {
  option =
      ap is_option (sym c.typ.ensures.typ) ∙ sym c.is_optional.ensures
      ∙ c.if-not-is_optional.false;
}
