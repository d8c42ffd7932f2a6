-- What is told where neither the type of a result nor the values are refused.
use Rattle.std.specs.Prelude.{◌≡◌, Option, Some, None, refl}
use Rattle.std.proofs.Common.{ap₂}
use Rattle.awk_types.specs.Limit.{Limit}
use Rattle.awk_list_functions.specs.declared.causes.Spoil.{Spoil}
use Rattle.awk_list_functions.specs.declared.causes.Spoil.TheVariants.{Index, Size, Overflow}
use Rattle.awk_list_functions.specs.Causes.{first_spoil}
use Rattle.awk_list_functions.specs.Lifting.{first_told}

pub told_none : (l : Option Limit) (s : Option Spoil) → l ≡ None → s ≡ None
    → first_told None l s ≡ None
told_none l s e f = ap₂ (first_told None) e f

pub none_told : (l : Option Limit) (s : Option Spoil) → first_told None l s ≡ None
    → (l ≡ None) × (s ≡ None)
none_told None None e = (refl, refl)
none_told None (Some s) e = cc
none_told (Some l) s e = cc

pub none_first : (s : Option Spoil) → first_spoil s None ≡ None → s ≡ None
none_first None e = refl
none_first (Some Index) e = cc
none_first (Some Size) e = cc
none_first (Some Overflow) e = cc
