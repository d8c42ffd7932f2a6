use Rattle.std.proofs.Common.{◌≡◌, drop}
use Rattle.awk_types.specs.DataType.{leaf}
use Rattle.awk_types.specs.View.{typ_of}
use Rattle.awk_form.specs.FormType.{shaped}
use Rattle.awk_form.proofs.typing.shaped_type.Given as goal

-- the lists of the last numbers
abbrev pub invariant-loop-i : goal.invariant-loop-i
invariant-loop-i l = typ_of l.typ ≡ shaped (drop l.i l.inner) (leaf l.fn.prim)
