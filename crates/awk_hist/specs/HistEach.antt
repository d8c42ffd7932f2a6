-- A histogram of each innermost list.
use Rattle.std.specs.Prelude.{ℤ, Bool, List, length, map, sum, Some, None, Result, if◌then◌else◌}
use Rattle.awk_types.specs.Datum.{Datum}
use Rattle.awk_types.specs.Simple.{present}
use Rattle.awk_types.specs.WholeNumbers.{is_numbers}
use Rattle.awk_types.specs.declared.fault.Fault.{Fault}
use Rattle.awk_list_functions.specs.Causes.{first_spoil}
use Rattle.awk_list_functions.specs.Lifting.{deep}
use Rattle.awk_list_functions.specs.ListFunction.{ListFunction, singles}
use Rattle.awk_list_functions.specs.Spoils.{too_many}
use Rattle.awk_list_functions.specs.declared.causes.Refusal.TheVariants as refused
use Rattle.awk_present.specs.Numbers.{numbers}
use Rattle.awk_bins.specs.Bins.{interval_counts}
use Rattle.awk_hist.specs.Bins.{bins, bins_type}
use Rattle.awk_hist.specs.Hist.{hist_of}

-- every list of the operand is counted, and so are the counts that are given together
abbrev pub bins_function : List ℤ → ListFunction
bins_function es = record {
  refusal = λ t. if is_numbers (present t) then None else Some refused.WrongType;
  giving = singles (λ t. bins_type) (λ t vs. bins es vs);
  spoil = λ t ls.
      first_spoil (too_many (sum (map length ls)))
      (too_many (sum (map (λ l. length (interval_counts es (numbers l))) ls)));
}

abbrev pub hist_each_of : List ℤ → Datum → Result Datum Fault
hist_each_of es d = deep (bins_function es) d

-- of each innermost list, or of all leaves
abbrev pub histogram : List ℤ → Bool → Datum → Result Datum Fault
histogram es each d = if each then hist_each_of es d else hist_of es d
