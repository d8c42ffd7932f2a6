use Rattle.std.proofs.Common.{◌∙◌, sym, subst}
use Rattle.awk_layout.specs.Array.{IsArrayType}
use Rattle.awk_merge.proofs.joining_arrays.merged.Goals as goal

pub with_type-requires : goal.with_type-requires
with_type-requires g c = record {
  typ = c.in_ok-again.ensures ∙ sym c.in_ok-node.ensures.typ;
  lawful = subst IsArrayType (sym c.in_ok-again.ensures) c.requires.lawful;
}
