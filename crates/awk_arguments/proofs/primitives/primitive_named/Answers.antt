use Rattle.std.proofs.Common.{sym}
use Rattle.awk_arguments.specs.Primitives.{primitives}
use Rattle.awk_arguments.proofs.PrimitiveNames.{none_named}
use Rattle.awk_arguments.proofs.primitives.primitive_named.Goals as goal

pub returns-in_default : goal.returns-in_default
returns-in_default c =
    let other = c.in_default in
    sym (none_named primitives c.args.name.now (
      other.not-bool,
      (
        other.not-int8,
        (
          other.not-int16,
          (
            other.not-int32,
            (
              other.not-int64,
              (other.not-uint8, (other.not-uint16, (other.not-uint32, (other.not-uint64, tt)))),
            ),
          ),
        ),
      ),
    ))
