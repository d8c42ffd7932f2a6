-- The place of a name, and what stands in lists at places.
use Rattle.std.specs.Prelude.{ℕ, zero, suc, List, [], ◌∷◌}

-- a list with x at a place, or last where nothing stands there
abbrev pub put_at : {A : Type 0} → ℕ → A → List A → List A
put_at k x [] = x ∷ []
put_at zero x (y ∷ ys) = x ∷ ys
put_at (suc k) x (y ∷ ys) = y ∷ put_at k x ys
