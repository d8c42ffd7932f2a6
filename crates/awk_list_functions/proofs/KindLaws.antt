-- What is known of an array that is not refused, by its outermost kind.
use Rattle.std.specs.Prelude.{◌≡◌, ℕ, Some, None}
use Rattle.awk_types.specs.DataType.{DataType, unknown, leaf}
use Rattle.awk_types.specs.declared.primitive.Primitive.{Primitive}
use Rattle.awk_list_functions.specs.declared.place.Reach.{Reach}
use Rattle.awk_list_functions.specs.declared.place.Reach.TheVariants.{Axis, Innermost}
use Rattle.awk_list_functions.specs.declared.causes.Refusal.{Refusal}
use Rattle.awk_list_functions.specs.ListFunction.{ListFunction}
use Rattle.awk_list_functions.specs.Lift.{refusal_at}

some_is_not_none : (r : Refusal) → Some r ≡ None → ⊥
some_is_not_none r h = cc

pub unknown_accepted : (f : ListFunction) (k : Reach) (j : ℕ) (t : DataType) → k ≡ Axis j
    → t ≡ unknown → refusal_at f k t ≡ None → f.refusal t ≡ None
unknown_accepted f k j t e u h =
    let there : refusal_at f (Axis j) unknown ≡ None = rw (e, u) at h in
    rw u there

pub unknown_refused : (f : ListFunction) (k : Reach) (t : DataType) → k ≡ Innermost → t ≡ unknown
    → refusal_at f k t ≡ None → ⊥
unknown_refused f k t e u h =
    let there : refusal_at f Innermost unknown ≡ None = rw (e, u) at h in
    some_is_not_none _ there

pub leaf_refused : (f : ListFunction) (k : Reach) (p : Primitive) (t : DataType) → t ≡ leaf p
    → refusal_at f k t ≡ None → ⊥
leaf_refused f k p t u h =
    let there : refusal_at f k (leaf p) ≡ None = rw u at h in
    some_is_not_none _ there
