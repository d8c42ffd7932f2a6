use Rattle.std.proofs.Common.{arith, sym, subst}
use Rattle.std.specs.Prelude.{option_map}
use Rattle.awk_types.specs.Faults.{fault_told}
use Rattle.awk_types.specs.Gives.{Gives}
use Rattle.awk_layout.specs.Datum.{datum_of}
use Rattle.awk_layout.specs.Valid.{AreNames}
use Rattle.awk_zip.specs.Zip.{zip_of}
use Rattle.awk_zip.proofs.DataLaws.{data_length}
use Rattle.awk_zip.proofs.zipping.zip.Goals as goal

pub zip_operands-requires : goal.zip_operands-requires
zip_operands-requires g c =
    let e = data_length c.args.xs.now c.in_ok-operands.operands c.in_ok-operands.ensures in
    record {
      some = omega (arith, e, c.requires.some);
      names = subst (λ m. AreNames (option_map (λ names. names.now) c.args.names) m) (sym e)
          c.requires.names;
      depth = c.requires.depth;
    }

pub returns-clause-answer : goal.returns-clause-answer
returns-clause-answer g c =
    let named = option_map (λ names. names.now) c.args.names in
    subst (λ ds. Gives datum_of fault_told c.zip_operands.result (zip_of c.args.depth named ds))
    c.in_ok-operands.ensures c.zip_operands.ensures.answer
