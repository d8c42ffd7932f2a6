-- Fixed arguments as trees of numbers, and back, for lists of them.
use Rattle.std.specs.Prelude.{◌≡◌, ◌⊎◌, ℕ, ℤ, Bool, List, refl}
use Rattle.std.specs.Coded.{Coded, code_by, coded⊎, coded_ℕ, coded_ℤ, coded_list, coded_bool}
use mathlib.Core.Logic.{inl, inr}
use Rattle.awk_expr.specs.declared.fixed.FixedArg.{FixedArg}
use Rattle.awk_expr.specs.declared.fixed.FixedArg.TheVariants.{Place, Count, Missing, Truth, Text}
use Rattle.awk_expr.specs.declared.fixed.FixedArg.TheVariants.{Texts, Wholes}

abbrev Tree : Type 0
Tree = ℤ ⊎ ℕ ⊎ Bool ⊎ List ℕ ⊎ List (List ℕ) ⊎ List ℤ ⊎ ℕ

abbrev to : FixedArg → Tree
to (Place z) = inl z
to (Count n) = inr (inl n)
to (Truth b) = inr (inr (inl b))
to (Text t) = inr (inr (inr (inl t)))
to (Texts ts) = inr (inr (inr (inr (inl ts))))
to (Wholes zs) = inr (inr (inr (inr (inr (inl zs)))))
to Missing = inr (inr (inr (inr (inr (inr 0)))))

abbrev from : Tree → FixedArg
from (inl z) = Place z
from (inr (inl n)) = Count n
from (inr (inr (inl b))) = Truth b
from (inr (inr (inr (inl t)))) = Text t
from (inr (inr (inr (inr (inl ts))))) = Texts ts
from (inr (inr (inr (inr (inr (inl zs)))))) = Wholes zs
from (inr (inr (inr (inr (inr (inr n)))))) = Missing

pub same : (a : FixedArg) → from (to a) ≡ a
same (Place z) = refl
same (Count n) = refl
same Missing = refl
same (Truth b) = refl
same (Text t) = refl
same (Texts ts) = refl
same (Wholes zs) = refl

abbrev pub coded_fixed : Coded FixedArg
coded_fixed =
    code_by Tree
    (coded⊎ coded_ℤ
    (coded⊎ coded_ℕ
    (coded⊎ coded_bool
    (coded⊎ (coded_list coded_ℕ)
    (coded⊎ (coded_list (coded_list coded_ℕ))
    (coded⊎ (coded_list coded_ℤ) coded_ℕ)))))) to from same
