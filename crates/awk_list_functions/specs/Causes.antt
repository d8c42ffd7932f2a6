-- Which of two causes is told first.
use Rattle.std.specs.Prelude.{ℕ, nat_lt, Option, Some, None, if◌then◌else◌}
use Rattle.awk_list_functions.specs.declared.causes.Refusal.{Refusal}
use Rattle.awk_list_functions.specs.declared.causes.Refusal.TheVariants as refused
use Rattle.awk_list_functions.specs.declared.causes.Spoil.{Spoil}
use Rattle.awk_list_functions.specs.declared.causes.Spoil.TheVariants as spoilt

-- causes told by types: axis, then type, then the overflow of a literal
abbrev pub refusal_rank : Option Refusal → ℕ
refusal_rank (Some refused.Axis) = 0
refusal_rank (Some refused.WrongType) = 1
refusal_rank (Some refused.Overflow) = 2
refusal_rank None = 3

abbrev pub sooner : Option Refusal → Option Refusal → Option Refusal
sooner a b = if nat_lt (refusal_rank b) (refusal_rank a) then b else a

-- causes told by values: index, then size, then the overflow of a result
abbrev pub spoil_rank : Option Spoil → ℕ
spoil_rank (Some spoilt.Index) = 0
spoil_rank (Some spoilt.Size) = 1
spoil_rank (Some spoilt.Overflow) = 2
spoil_rank None = 3

abbrev pub first_spoil : Option Spoil → Option Spoil → Option Spoil
first_spoil a b = if nat_lt (spoil_rank b) (spoil_rank a) then b else a
