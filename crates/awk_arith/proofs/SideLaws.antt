-- The columns that operands have at the ends.
use Rattle.std.proofs.Common.{◌≡◌, ℕ, zero, suc, ◌<◌, true, subst, arith}
use Rattle.std.specs.Prelude.{List, [], ◌∷◌, length, slice_get, Some}
use Rattle.std.proofs.lemmas.Option.{slice_get_within}
use Rattle.awk_types.specs.Predicates.{is_leaf}
use Rattle.awk_layout.specs.Layout.{Layout}
use Rattle.awk_layout.specs.Typing.{array_type}
use Rattle.awk_layout.specs.Valid.{len}
use Rattle.awk_ends.specs.Columns.{column_at}
use Rattle.awk_ends.proofs.LaneLaws.{column_is}
use Rattle.awk_arith.specs.Sides.{AreLeaves}

pub leaves-at : (n : ℕ) (ys : List Layout) (k : ℕ) → AreLeaves n ys → k < length ys
    → (len (column_at ys k) ≡ n) × (is_leaf (array_type (column_at ys k)) ≡ true)
leaves-at n [] k h l = absurd (omega (arith, l))
leaves-at n (y ∷ ys) zero h l = (h.0, h.1)
leaves-at n (y ∷ ys) (suc k) h l = leaves-at n ys k h.2 (omega (arith, l))

pub column_leaves : (n : ℕ) (ys : List Layout) (k : ℕ) (y : Layout) → AreLeaves n ys
    → slice_get ys k ≡ Some y → (len y ≡ n) × (is_leaf (array_type y) ≡ true)
column_leaves n ys k y h e =
    subst (λ z. (len z ≡ n) × (is_leaf (array_type z) ≡ true)) (column_is ys k y e)
    (leaves-at n ys k h (slice_get_within ys k y e))
