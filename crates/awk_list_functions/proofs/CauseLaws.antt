-- Which of several causes is told first does not hang on how they are grouped.
use Rattle.std.proofs.Common.{◌≡◌, Option, Some, None, refl}
use Rattle.awk_list_functions.specs.declared.causes.Refusal.{Refusal}
use Rattle.awk_list_functions.specs.declared.causes.Refusal.TheVariants as refused
use Rattle.awk_list_functions.specs.declared.causes.Spoil.{Spoil}
use Rattle.awk_list_functions.specs.declared.causes.Spoil.TheVariants as spoilt
use Rattle.awk_list_functions.specs.Causes.{sooner, first_spoil}

pub sooner-assoc : (a b c : Option Refusal) → sooner (sooner a b) c ≡ sooner a (sooner b c)
sooner-assoc (Some refused.Axis) (Some refused.Axis) (Some refused.Axis) = refl
sooner-assoc (Some refused.Axis) (Some refused.Axis) (Some refused.WrongType) = refl
sooner-assoc (Some refused.Axis) (Some refused.Axis) (Some refused.Overflow) = refl
sooner-assoc (Some refused.Axis) (Some refused.Axis) None = refl
sooner-assoc (Some refused.Axis) (Some refused.WrongType) (Some refused.Axis) = refl
sooner-assoc (Some refused.Axis) (Some refused.WrongType) (Some refused.WrongType) = refl
sooner-assoc (Some refused.Axis) (Some refused.WrongType) (Some refused.Overflow) = refl
sooner-assoc (Some refused.Axis) (Some refused.WrongType) None = refl
sooner-assoc (Some refused.Axis) (Some refused.Overflow) (Some refused.Axis) = refl
sooner-assoc (Some refused.Axis) (Some refused.Overflow) (Some refused.WrongType) = refl
sooner-assoc (Some refused.Axis) (Some refused.Overflow) (Some refused.Overflow) = refl
sooner-assoc (Some refused.Axis) (Some refused.Overflow) None = refl
sooner-assoc (Some refused.Axis) None (Some refused.Axis) = refl
sooner-assoc (Some refused.Axis) None (Some refused.WrongType) = refl
sooner-assoc (Some refused.Axis) None (Some refused.Overflow) = refl
sooner-assoc (Some refused.Axis) None None = refl
sooner-assoc (Some refused.WrongType) (Some refused.Axis) (Some refused.Axis) = refl
sooner-assoc (Some refused.WrongType) (Some refused.Axis) (Some refused.WrongType) = refl
sooner-assoc (Some refused.WrongType) (Some refused.Axis) (Some refused.Overflow) = refl
sooner-assoc (Some refused.WrongType) (Some refused.Axis) None = refl
sooner-assoc (Some refused.WrongType) (Some refused.WrongType) (Some refused.Axis) = refl
sooner-assoc (Some refused.WrongType) (Some refused.WrongType) (Some refused.WrongType) = refl
sooner-assoc (Some refused.WrongType) (Some refused.WrongType) (Some refused.Overflow) = refl
sooner-assoc (Some refused.WrongType) (Some refused.WrongType) None = refl
sooner-assoc (Some refused.WrongType) (Some refused.Overflow) (Some refused.Axis) = refl
sooner-assoc (Some refused.WrongType) (Some refused.Overflow) (Some refused.WrongType) = refl
sooner-assoc (Some refused.WrongType) (Some refused.Overflow) (Some refused.Overflow) = refl
sooner-assoc (Some refused.WrongType) (Some refused.Overflow) None = refl
sooner-assoc (Some refused.WrongType) None (Some refused.Axis) = refl
sooner-assoc (Some refused.WrongType) None (Some refused.WrongType) = refl
sooner-assoc (Some refused.WrongType) None (Some refused.Overflow) = refl
sooner-assoc (Some refused.WrongType) None None = refl
sooner-assoc (Some refused.Overflow) (Some refused.Axis) (Some refused.Axis) = refl
sooner-assoc (Some refused.Overflow) (Some refused.Axis) (Some refused.WrongType) = refl
sooner-assoc (Some refused.Overflow) (Some refused.Axis) (Some refused.Overflow) = refl
sooner-assoc (Some refused.Overflow) (Some refused.Axis) None = refl
sooner-assoc (Some refused.Overflow) (Some refused.WrongType) (Some refused.Axis) = refl
sooner-assoc (Some refused.Overflow) (Some refused.WrongType) (Some refused.WrongType) = refl
sooner-assoc (Some refused.Overflow) (Some refused.WrongType) (Some refused.Overflow) = refl
sooner-assoc (Some refused.Overflow) (Some refused.WrongType) None = refl
sooner-assoc (Some refused.Overflow) (Some refused.Overflow) (Some refused.Axis) = refl
sooner-assoc (Some refused.Overflow) (Some refused.Overflow) (Some refused.WrongType) = refl
sooner-assoc (Some refused.Overflow) (Some refused.Overflow) (Some refused.Overflow) = refl
sooner-assoc (Some refused.Overflow) (Some refused.Overflow) None = refl
sooner-assoc (Some refused.Overflow) None (Some refused.Axis) = refl
sooner-assoc (Some refused.Overflow) None (Some refused.WrongType) = refl
sooner-assoc (Some refused.Overflow) None (Some refused.Overflow) = refl
sooner-assoc (Some refused.Overflow) None None = refl
sooner-assoc None (Some refused.Axis) (Some refused.Axis) = refl
sooner-assoc None (Some refused.Axis) (Some refused.WrongType) = refl
sooner-assoc None (Some refused.Axis) (Some refused.Overflow) = refl
sooner-assoc None (Some refused.Axis) None = refl
sooner-assoc None (Some refused.WrongType) (Some refused.Axis) = refl
sooner-assoc None (Some refused.WrongType) (Some refused.WrongType) = refl
sooner-assoc None (Some refused.WrongType) (Some refused.Overflow) = refl
sooner-assoc None (Some refused.WrongType) None = refl
sooner-assoc None (Some refused.Overflow) (Some refused.Axis) = refl
sooner-assoc None (Some refused.Overflow) (Some refused.WrongType) = refl
sooner-assoc None (Some refused.Overflow) (Some refused.Overflow) = refl
sooner-assoc None (Some refused.Overflow) None = refl
sooner-assoc None None (Some refused.Axis) = refl
sooner-assoc None None (Some refused.WrongType) = refl
sooner-assoc None None (Some refused.Overflow) = refl
sooner-assoc None None None = refl

pub sooner-none : (a : Option Refusal) → sooner None a ≡ a
sooner-none (Some refused.Axis) = refl
sooner-none (Some refused.WrongType) = refl
sooner-none (Some refused.Overflow) = refl
sooner-none None = refl

pub sooner-none_after : (a : Option Refusal) → sooner a None ≡ a
sooner-none_after (Some refused.Axis) = refl
sooner-none_after (Some refused.WrongType) = refl
sooner-none_after (Some refused.Overflow) = refl
sooner-none_after None = refl

-- where nothing is told of two, nothing is told of each
pub sooner-both : (a b : Option Refusal) → sooner a b ≡ None → (a ≡ None) × (b ≡ None)
sooner-both (Some refused.Axis) (Some refused.Axis) e = cc
sooner-both (Some refused.Axis) (Some refused.WrongType) e = cc
sooner-both (Some refused.Axis) (Some refused.Overflow) e = cc
sooner-both (Some refused.Axis) None e = cc
sooner-both (Some refused.WrongType) (Some refused.Axis) e = cc
sooner-both (Some refused.WrongType) (Some refused.WrongType) e = cc
sooner-both (Some refused.WrongType) (Some refused.Overflow) e = cc
sooner-both (Some refused.WrongType) None e = cc
sooner-both (Some refused.Overflow) (Some refused.Axis) e = cc
sooner-both (Some refused.Overflow) (Some refused.WrongType) e = cc
sooner-both (Some refused.Overflow) (Some refused.Overflow) e = cc
sooner-both (Some refused.Overflow) None e = cc
sooner-both None (Some refused.Axis) e = cc
sooner-both None (Some refused.WrongType) e = cc
sooner-both None (Some refused.Overflow) e = cc
sooner-both None None e = (refl, refl)

pub first_spoil-assoc : (a b c : Option Spoil)
    → first_spoil (first_spoil a b) c ≡ first_spoil a (first_spoil b c)
first_spoil-assoc (Some spoilt.Index) (Some spoilt.Index) (Some spoilt.Index) = refl
first_spoil-assoc (Some spoilt.Index) (Some spoilt.Index) (Some spoilt.Size) = refl
first_spoil-assoc (Some spoilt.Index) (Some spoilt.Index) (Some spoilt.Overflow) = refl
first_spoil-assoc (Some spoilt.Index) (Some spoilt.Index) None = refl
first_spoil-assoc (Some spoilt.Index) (Some spoilt.Size) (Some spoilt.Index) = refl
first_spoil-assoc (Some spoilt.Index) (Some spoilt.Size) (Some spoilt.Size) = refl
first_spoil-assoc (Some spoilt.Index) (Some spoilt.Size) (Some spoilt.Overflow) = refl
first_spoil-assoc (Some spoilt.Index) (Some spoilt.Size) None = refl
first_spoil-assoc (Some spoilt.Index) (Some spoilt.Overflow) (Some spoilt.Index) = refl
first_spoil-assoc (Some spoilt.Index) (Some spoilt.Overflow) (Some spoilt.Size) = refl
first_spoil-assoc (Some spoilt.Index) (Some spoilt.Overflow) (Some spoilt.Overflow) = refl
first_spoil-assoc (Some spoilt.Index) (Some spoilt.Overflow) None = refl
first_spoil-assoc (Some spoilt.Index) None (Some spoilt.Index) = refl
first_spoil-assoc (Some spoilt.Index) None (Some spoilt.Size) = refl
first_spoil-assoc (Some spoilt.Index) None (Some spoilt.Overflow) = refl
first_spoil-assoc (Some spoilt.Index) None None = refl
first_spoil-assoc (Some spoilt.Size) (Some spoilt.Index) (Some spoilt.Index) = refl
first_spoil-assoc (Some spoilt.Size) (Some spoilt.Index) (Some spoilt.Size) = refl
first_spoil-assoc (Some spoilt.Size) (Some spoilt.Index) (Some spoilt.Overflow) = refl
first_spoil-assoc (Some spoilt.Size) (Some spoilt.Index) None = refl
first_spoil-assoc (Some spoilt.Size) (Some spoilt.Size) (Some spoilt.Index) = refl
first_spoil-assoc (Some spoilt.Size) (Some spoilt.Size) (Some spoilt.Size) = refl
first_spoil-assoc (Some spoilt.Size) (Some spoilt.Size) (Some spoilt.Overflow) = refl
first_spoil-assoc (Some spoilt.Size) (Some spoilt.Size) None = refl
first_spoil-assoc (Some spoilt.Size) (Some spoilt.Overflow) (Some spoilt.Index) = refl
first_spoil-assoc (Some spoilt.Size) (Some spoilt.Overflow) (Some spoilt.Size) = refl
first_spoil-assoc (Some spoilt.Size) (Some spoilt.Overflow) (Some spoilt.Overflow) = refl
first_spoil-assoc (Some spoilt.Size) (Some spoilt.Overflow) None = refl
first_spoil-assoc (Some spoilt.Size) None (Some spoilt.Index) = refl
first_spoil-assoc (Some spoilt.Size) None (Some spoilt.Size) = refl
first_spoil-assoc (Some spoilt.Size) None (Some spoilt.Overflow) = refl
first_spoil-assoc (Some spoilt.Size) None None = refl
first_spoil-assoc (Some spoilt.Overflow) (Some spoilt.Index) (Some spoilt.Index) = refl
first_spoil-assoc (Some spoilt.Overflow) (Some spoilt.Index) (Some spoilt.Size) = refl
first_spoil-assoc (Some spoilt.Overflow) (Some spoilt.Index) (Some spoilt.Overflow) = refl
first_spoil-assoc (Some spoilt.Overflow) (Some spoilt.Index) None = refl
first_spoil-assoc (Some spoilt.Overflow) (Some spoilt.Size) (Some spoilt.Index) = refl
first_spoil-assoc (Some spoilt.Overflow) (Some spoilt.Size) (Some spoilt.Size) = refl
first_spoil-assoc (Some spoilt.Overflow) (Some spoilt.Size) (Some spoilt.Overflow) = refl
first_spoil-assoc (Some spoilt.Overflow) (Some spoilt.Size) None = refl
first_spoil-assoc (Some spoilt.Overflow) (Some spoilt.Overflow) (Some spoilt.Index) = refl
first_spoil-assoc (Some spoilt.Overflow) (Some spoilt.Overflow) (Some spoilt.Size) = refl
first_spoil-assoc (Some spoilt.Overflow) (Some spoilt.Overflow) (Some spoilt.Overflow) = refl
first_spoil-assoc (Some spoilt.Overflow) (Some spoilt.Overflow) None = refl
first_spoil-assoc (Some spoilt.Overflow) None (Some spoilt.Index) = refl
first_spoil-assoc (Some spoilt.Overflow) None (Some spoilt.Size) = refl
first_spoil-assoc (Some spoilt.Overflow) None (Some spoilt.Overflow) = refl
first_spoil-assoc (Some spoilt.Overflow) None None = refl
first_spoil-assoc None (Some spoilt.Index) (Some spoilt.Index) = refl
first_spoil-assoc None (Some spoilt.Index) (Some spoilt.Size) = refl
first_spoil-assoc None (Some spoilt.Index) (Some spoilt.Overflow) = refl
first_spoil-assoc None (Some spoilt.Index) None = refl
first_spoil-assoc None (Some spoilt.Size) (Some spoilt.Index) = refl
first_spoil-assoc None (Some spoilt.Size) (Some spoilt.Size) = refl
first_spoil-assoc None (Some spoilt.Size) (Some spoilt.Overflow) = refl
first_spoil-assoc None (Some spoilt.Size) None = refl
first_spoil-assoc None (Some spoilt.Overflow) (Some spoilt.Index) = refl
first_spoil-assoc None (Some spoilt.Overflow) (Some spoilt.Size) = refl
first_spoil-assoc None (Some spoilt.Overflow) (Some spoilt.Overflow) = refl
first_spoil-assoc None (Some spoilt.Overflow) None = refl
first_spoil-assoc None None (Some spoilt.Index) = refl
first_spoil-assoc None None (Some spoilt.Size) = refl
first_spoil-assoc None None (Some spoilt.Overflow) = refl
first_spoil-assoc None None None = refl

pub first_spoil-none : (a : Option Spoil) → first_spoil None a ≡ a
first_spoil-none (Some spoilt.Index) = refl
first_spoil-none (Some spoilt.Size) = refl
first_spoil-none (Some spoilt.Overflow) = refl
first_spoil-none None = refl

pub first_spoil-none_after : (a : Option Spoil) → first_spoil a None ≡ a
first_spoil-none_after (Some spoilt.Index) = refl
first_spoil-none_after (Some spoilt.Size) = refl
first_spoil-none_after (Some spoilt.Overflow) = refl
first_spoil-none_after None = refl

-- where nothing is told of two, nothing is told of each
pub first_spoil-both : (a b : Option Spoil) → first_spoil a b ≡ None → (a ≡ None) × (b ≡ None)
first_spoil-both (Some spoilt.Index) (Some spoilt.Index) e = cc
first_spoil-both (Some spoilt.Index) (Some spoilt.Size) e = cc
first_spoil-both (Some spoilt.Index) (Some spoilt.Overflow) e = cc
first_spoil-both (Some spoilt.Index) None e = cc
first_spoil-both (Some spoilt.Size) (Some spoilt.Index) e = cc
first_spoil-both (Some spoilt.Size) (Some spoilt.Size) e = cc
first_spoil-both (Some spoilt.Size) (Some spoilt.Overflow) e = cc
first_spoil-both (Some spoilt.Size) None e = cc
first_spoil-both (Some spoilt.Overflow) (Some spoilt.Index) e = cc
first_spoil-both (Some spoilt.Overflow) (Some spoilt.Size) e = cc
first_spoil-both (Some spoilt.Overflow) (Some spoilt.Overflow) e = cc
first_spoil-both (Some spoilt.Overflow) None e = cc
first_spoil-both None (Some spoilt.Index) e = cc
first_spoil-both None (Some spoilt.Size) e = cc
first_spoil-both None (Some spoilt.Overflow) e = cc
first_spoil-both None None e = (refl, refl)
