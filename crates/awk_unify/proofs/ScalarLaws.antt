-- Numbers, truth values and null stay what they are when they are carried.
use Rattle.std.proofs.Common.{◌≡◌, ◌∷◌, [], ℕ, List, refl, suc, zero}
use Rattle.awk_types.specs.Simple.{value_by}
use Rattle.awk_types.specs.Value.{Value, alt, list, null, row}
use Rattle.awk_unify.specs.Carry.{Carries, Carry, carried, carried_each, carry, in_items, keep}
use Rattle.awk_unify.specs.Carry.{no_carries, to_alternatives, to_parts}
use Rattle.awk_unify.specs.Unifies.{scalar_of}
use Rattle.awk_unify.proofs.AfterLaws.{Fits, FitsAt}

mutual
  pub scalar_stays : (f : Carry) (v : Value) → Fits f v → scalar_of (carried f v) ≡ scalar_of v
  scalar_stays keep v h = refl
  scalar_stays (in_items f) null h = refl
  scalar_stays (in_items f) (list vs) h = refl
  scalar_stays (in_items f) v h = absurd h
  scalar_stays (to_parts ps fs) null h = refl
  scalar_stays (to_parts ps fs) (row vs) h = refl
  scalar_stays (to_parts ps fs) v h = absurd h
  scalar_stays (to_alternatives ts fs) null h = refl
  scalar_stays (to_alternatives ts fs) (alt k v) h = scalar_at ts fs k v h
  scalar_stays (to_alternatives ts fs) v h = scalar_at ts fs 0 v h

  scalar_at : (ts : List ℕ) (fs : Carries) (k : ℕ) (v : Value) → FitsAt ts fs k v
      → scalar_of (value_by (carried_each fs) k v) ≡ scalar_of v
  scalar_at [] fs k v h = absurd h
  scalar_at (t ∷ ts) no_carries k v h = absurd h
  scalar_at (t ∷ ts) (carry f fs) zero v h = scalar_stays f v h
  scalar_at (t ∷ ts) (carry f fs) (suc k) v h = scalar_at ts fs k v h
