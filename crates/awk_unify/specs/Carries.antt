-- Carries in lists.
use Rattle.std.specs.Prelude.{◌∷◌, [], ℕ, List, map, suc, zero}
use Rattle.awk_unify.specs.After.{after}
use Rattle.awk_unify.specs.Carry.{Carry, keep}
use Rattle.awk_types.specs.DataType.{DataType}

abbrev pub all_same : List DataType → List Carry
all_same ts = map (λ t. keep) ts

abbrev pub carry_at : List Carry → ℕ → Carry
carry_at [] k = keep
carry_at (f ∷ fs) zero = f
carry_at (f ∷ fs) (suc k) = carry_at fs k

abbrev pub each_then : List Carry → List Carry → List Carry
each_then (f ∷ fs) (g ∷ gs) = after g f ∷ each_then fs gs
each_then fs gs = []

-- each carry, and then the one of its place
abbrev pub put_after : List Carry → List ℕ → List Carry → List Carry
put_after gs (k ∷ ks) (f ∷ fs) = after (carry_at gs k) f ∷ put_after gs ks fs
put_after gs ks fs = []

-- so many that keep the value
abbrev pub kept_each : ℕ → List Carry
kept_each zero = []
kept_each (suc n) = keep ∷ kept_each n
