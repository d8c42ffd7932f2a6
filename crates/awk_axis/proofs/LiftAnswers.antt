-- Which lists a call reaches, by its axis and by its datum.
use Rattle.std.specs.Prelude.{◌≡◌, ℕ, zero, suc, ◌-◌, ◌<◌, List, pos, Result}
use Rattle.std.proofs.Common.{arith, ap, sym, subst}
use Rattle.awk_types.specs.DataType.{DataType}
use Rattle.awk_types.specs.Datum.{Datum, arr}
use Rattle.awk_types.specs.Value.{Value}
use Rattle.awk_types.specs.Faults.{fault_told}
use Rattle.awk_types.specs.Gives.{Gives}
use Rattle.awk_types.specs.declared.fault.Fault.{Fault}
use Rattle.awk_layout.specs.Datum.{datum_of}
use Rattle.awk_layout.specs.declared.datum.Datum as code
use Rattle.awk_list_functions.specs.declared.place.Reach.TheVariants.{Axis}
use Rattle.awk_list_functions.specs.ListFunction.{ListFunction}
use Rattle.awk_list_functions.specs.Lifting.{on_items, lift}

pub lift_items : (f : ListFunction) (n m : ℕ) (t : DataType) (vs : List Value) → 0 < n → m ≡ n - 1
    → lift f (pos n) (arr t vs) ≡ on_items f (Axis m) t vs
lift_items f zero m t vs p e = absurd (omega (arith, p))
lift_items f (suc n) m t vs p e = let g : n ≡ m = omega (arith, e) in
    ap (λ k. on_items f (Axis k) t vs) g

-- what is given of one saying is given of an equal one
pub gives_same : (r : Result code.Datum Fault) (a b : Result Datum Fault) → a ≡ b
    → Gives datum_of fault_told r b → Gives datum_of fault_told r a
gives_same r a b e h = subst (Gives datum_of fault_told r) (sym e) h
