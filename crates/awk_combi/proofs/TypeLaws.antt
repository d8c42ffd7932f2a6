-- Types of tuples, and their values.
use Rattle.std.specs.Prelude.{◌≡◌, refl, ℕ, List, [], ◌∷◌, replicate, length}
use Rattle.std.specs.List.{AllByRecursion}
use Rattle.std.proofs.Common.{ap, ap₂, sym, ◌∙◌}
use Rattle.awk_types.specs.DataType.{DataType, tup, types_from}
use Rattle.awk_types.specs.Simple.{simple, simple_value, simple_values, values_by}
use Rattle.awk_types.specs.Value.{Value, row, values_from}
use Rattle.awk_types.proofs.Trees.{value_list-from}
use Rattle.awk_types.proofs.SimpleLaws.{simples-same}

-- ---- simple tuples

pub simple-tuple : (n : ℕ) (u : DataType) → simple u ≡ u
    → simple (tup (types_from (replicate n u))) ≡ tup (types_from (replicate n u))
simple-tuple n u e = ap (λ ts. tup (types_from ts)) (simples-same n u e)

values-same : (u : DataType) (vs : List Value) → AllByRecursion (λ v. simple_value u v ≡ v) vs
    → values_by (simple_values (types_from (replicate (length vs) u))) vs ≡ vs
values-same u [] a = refl
values-same u (v ∷ vs) a = ap₂ (λ w ws. w ∷ ws) a.0 (values-same u vs a.1)

pub value-tuple : (n : ℕ) (u : DataType) (vs : List Value) → length vs ≡ n
    → AllByRecursion (λ v. simple_value u v ≡ v) vs
    → simple_value (tup (types_from (replicate n u))) (row (values_from vs))
    ≡ row (values_from vs)
value-tuple n u vs e a =
    ap (λ k. simple_value (tup (types_from (replicate k u))) (row (values_from vs))) (sym e)
    ∙ ap (λ ws. row (values_from (values_by
    (simple_values (types_from (replicate (length vs) u))) ws))) (value_list-from vs)
    ∙ ap (λ ws. row (values_from ws)) (values-same u vs a)
