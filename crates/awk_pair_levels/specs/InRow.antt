-- Operands, and the lists that they give.
use Rattle.std.specs.Prelude.{List, [], ◌∷◌}
use Rattle.awk_layout.specs.Layout.{Layout}
use Rattle.awk_layout.specs.Valid.{len}
use Rattle.awk_pair_levels.specs.Shares.{AreListsOf}
use Rattle.awk_pair_levels.specs.declared.shares.Share.{Share}
use Rattle.awk_pair_levels.specs.declared.shares.Share.TheVariants.{Lists, Items}

-- where an operand gives lists, they are its own
abbrev pub IsOf : Layout → Share → Type 0
IsOf x (Lists l) = AreListsOf (len x) x l
IsOf x (Items y) = Unit {0}

abbrev pub AreOf : List Layout → List Share → Type 0
AreOf [] [] = Unit {0}
AreOf (x ∷ xs) (p ∷ ps) = IsOf x p × AreOf xs ps
AreOf [] (p ∷ ps) = ⊥
AreOf (x ∷ xs) [] = ⊥
