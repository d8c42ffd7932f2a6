use Rattle.std.proofs.Common.{sym}
use Rattle.awk_form.specs.Tables.{classes}
use Rattle.awk_form.proofs.Words.{none_of}
use Rattle.awk_form.proofs.class.class_named.Goals as goal

pub returns-in_default : goal.returns-in_default
returns-in_default c =
    let other = c.in_default in
    sym (none_of classes c.args.text.now (
      other.not-EmptyArray,
      (
        other.not-NumpyArray,
        (
          other.not-RegularArray,
          (
            other.not-ListArray,
            (
              other.not-ListOffsetArray,
              (
                other.not-RecordArray,
                (
                  other.not-IndexedArray,
                  (
                    other.not-IndexedOptionArray,
                    (
                      other.not-ByteMaskedArray,
                      (
                        other.not-BitMaskedArray,
                        (other.not-UnmaskedArray, (other.not-UnionArray, tt)),
                      ),
                    ),
                  ),
                ),
              ),
            ),
          ),
        ),
      ),
    ))
