-- What a values line binds.
use Rattle.std.proofs.Common.{◌≡◌, true, Some, refl, ap, ◌∙◌}
use Rattle.serde_json.specs.Data.{Data, null, boolean, number, string, array, object}
use Rattle.awk_types.specs.DataType.{Name}
use Rattle.awk_layout.specs.Layout.{Layout}
use Rattle.awk_layout.specs.declared.datum.Datum.{Datum}
use Rattle.awk_layout.specs.declared.datum.Datum.TheVariants.{Arr}
use Rattle.awk_query.specs.Line.{if_list}
use Rattle.awk_plain.specs.Plain.{is_list}
use Rattle.awk_eval.specs.Bindings as bindings
use Rattle.awk_eval.specs.Variables.{Variables}
use Rattle.awk_eval.specs.Views.{IsArray}
use Rattle.awk_session.specs.Spending.{IsBound}

pub is_list-listed : (d : Data) → if_list d ≡ Some d → is_list d ≡ true
is_list-listed null e = absurd (cc)
is_list-listed (boolean b) e = absurd (cc)
is_list-listed (number n) e = absurd (cc)
is_list-listed (string s) e = absurd (cc)
is_list-listed (array ds) e = refl
is_list-listed (object ms) e = absurd (cc)

-- a name that was bound to an array
pub binds_array : (n copied : Name) (x : Layout) (old new : Variables) → copied ≡ n
    → new ≡ bindings.bind copied (Arr x) old → IsBound n (λ d. IsArray (Some d)) old new
binds_array n copied x old new same bound = record {
  datum = Arr x;
  bound = bound ∙ ap (λ m. bindings.bind {A = Datum} m (Arr x) old) same;
  fact = tt;
}
