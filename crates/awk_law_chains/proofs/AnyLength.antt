-- Limits of types whose lists are of any length.
use Rattle.std.specs.Prelude.{◌≡◌, ◌||◌, ℕ, suc, nat_lt, Bool, true, false}
use Rattle.std.specs.Prelude.{Option, Some, None, refl}
use Rattle.std.specs.Prelude.{if◌then◌else◌}
use Rattle.std.proofs.Common.{ap, ap₂, ◌∙◌}
use Rattle.awk_types.specs.DataType.{DataType, unknown, leaf, var, reg, rec, tup, opt, uni}
use Rattle.awk_types.specs.DataType.{depth, nodes}
use Rattle.awk_types.specs.Limit.{Limit, depth_limit, size_limit, limit, width}
use Rattle.awk_list_functions.specs.Reach.{here, inner}
use Rattle.awk_list_functions.specs.declared.place.Reach.{Reach}
use Rattle.awk_law_chains.specs.Arrays.{any_length_at}

-- ---- limits of types

same_if : {X : Type 0} (f : DataType → X) (b : Bool) (t u : DataType) → f u ≡ f t
    → f (if b then t else u) ≡ f t
same_if f true t u e = refl
same_if f false t u e = e

any_depth : (k : Reach) (t : DataType) → depth (any_length_at k t) ≡ depth t
any_depth k (var t) =
    ap suc (same_if depth (here k t) t (any_length_at (inner k) t) (any_depth (inner k) t))
any_depth k (reg n t) =
    ap suc (same_if depth (here k t) t (any_length_at (inner k) t) (any_depth (inner k) t))
any_depth k (opt t) = ap suc (any_depth k t)
any_depth k unknown = refl
any_depth k (leaf p) = refl
any_depth k (rec ns ts) = refl
any_depth k (tup ts) = refl
any_depth k (uni ts) = refl

any_nodes : (k : Reach) (t : DataType) → nodes (any_length_at k t) ≡ nodes t
any_nodes k (var t) =
    ap suc (same_if nodes (here k t) t (any_length_at (inner k) t) (any_nodes (inner k) t))
any_nodes k (reg n t) =
    ap suc (same_if nodes (here k t) t (any_length_at (inner k) t) (any_nodes (inner k) t))
any_nodes k (opt t) = ap suc (any_nodes k t)
any_nodes k unknown = refl
any_nodes k (leaf p) = refl
any_nodes k (rec ns ts) = refl
any_nodes k (tup ts) = refl
any_nodes k (uni ts) = refl

any_width : (k : Reach) (t : DataType) → width (any_length_at k t) ≡ width t
any_width k (var t) = same_if width (here k t) t (any_length_at (inner k) t) (any_width (inner k) t)
any_width k (reg n t) =
    same_if width (here k t) t (any_length_at (inner k) t) (any_width (inner k) t)
any_width k (opt t) = any_width k t
any_width k unknown = refl
any_width k (leaf p) = refl
any_width k (rec ns ts) = refl
any_width k (tup ts) = refl
any_width k (uni ts) = refl

abbrev limit_by : ℕ → ℕ → ℕ → Option Limit
limit_by d n w =
    if nat_lt 60 d then Some depth_limit
    else if nat_lt 65536 n || nat_lt 127 w then Some size_limit
    else None

pub any_limit : (k : Reach) (t : DataType) → limit (any_length_at k t) ≡ limit t
any_limit k t =
    ap (λ d. limit_by d (nodes (any_length_at k t)) (width (any_length_at k t))) (any_depth k t)
    ∙ ap₂ (limit_by (depth t)) (any_nodes k t) (any_width k t)
