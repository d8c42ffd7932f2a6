-- The parts of a type that passes no limit pass none.
use Rattle.std.proofs.Common.{◌≡◌, ℕ, zero, suc, ◌≤◌, ◌||◌, List, [], ◌∷◌, sum, slice_get, Some}
use Rattle.std.proofs.Common.{true, false, Bool, if◌then◌else◌, arith, refl, length, cond}
use Rattle.std.specs.Prelude.{nat_lt, Option, None}
use Rattle.std.proofs.lemmas.Bool.{le-ltb, ltb-false}
use Rattle.std.proofs.lemmas.Grind.{common_steps}
use Rattle.std.proofs.lemmas.Bool.Decides.{nat_tests}
use Rattle.awk_types.specs.DataType.{Name, DataType, var, reg, rec, tup, opt, uni, row_type}
use Rattle.awk_types.specs.DataType.{types_from, greatest, depth, depths, nodes, nodes_each, leaf}
use Rattle.awk_types.specs.DataType.{unknown}
use Rattle.awk_types.specs.Limit.{Limit, depth_limit, size_limit, limit, width, widths}
use Rattle.awk_types.specs.Simple.{present}
use Rattle.awk_types.proofs.Trees.{length-widths}

-- the measures of a type that passes no limit
pub record AreBounds (d n w : ℕ) : Type 0 where
  pub depth : d ≤ 60
  pub nodes : n ≤ 65536
  pub width : w ≤ 127

bounds_by : (d n w : ℕ) (a b c : Bool) → nat_lt 60 d ≡ a → nat_lt 65536 n ≡ b → nat_lt 127 w ≡ c →
    ◌≡◌ {A = Option Limit} (if a then Some depth_limit else if b || c then Some size_limit else
    None) None → AreBounds d n w
bounds_by d n w true b c e f g h = cc
bounds_by d n w false true c e f g h = cc
bounds_by d n w false false true e f g h = cc
bounds_by d n w false false false e f g h = record {
  depth = ltb-false 60 d e;
  nodes = ltb-false 65536 n f;
  width = ltb-false 127 w g;
}

pub bounds : (t : DataType) → limit t ≡ None → AreBounds (depth t) (nodes t) (width t)
bounds t h = bounds_by (depth t) (nodes t) (width t) _ _ _ refl refl refl h

pub within_bounds : (t : DataType) → AreBounds (depth t) (nodes t) (width t) → limit t ≡ None
within_bounds t h =
    rw (le-ltb 60 (depth t) h.depth, le-ltb 65536 (nodes t) h.nodes, le-ltb 127 (width t) h.width)
    refl

pub within_var : (t : DataType) → limit (var t) ≡ None → limit t ≡ None
within_var t h =
    let b = bounds (var t) h in within_bounds t
    (record { depth = omega (arith, b.depth); nodes = omega (arith, b.nodes); width = b.width })

pub within_reg : (n : ℕ) (t : DataType) → limit (reg n t) ≡ None → limit t ≡ None
within_reg n t h =
    let b = bounds (reg n t) h in within_bounds t
    (record { depth = omega (arith, b.depth); nodes = omega (arith, b.nodes); width = b.width })

pub within_opt : (t : DataType) → limit (opt t) ≡ None → limit t ≡ None
within_opt t h =
    let b = bounds (opt t) h in within_bounds t
    (record { depth = omega (arith, b.depth); nodes = omega (arith, b.nodes); width = b.width })

pub depth_part : (ts : List DataType) (k : ℕ) (u : DataType) → slice_get ts k ≡ Some u
    → depth u ≤ greatest (depths (types_from ts))
depth_part [] k u e = cc
depth_part (t ∷ ts) zero u e = let f : t ≡ u = cc in rw (← f) (omega arith)
depth_part (t ∷ ts) (suc k) u e = omega (arith, depth_part ts k u e)

nodes_part : (ts : List DataType) (k : ℕ) (u : DataType) → slice_get ts k ≡ Some u
    → nodes u ≤ sum (nodes_each (types_from ts))
nodes_part [] k u e = cc
nodes_part (t ∷ ts) zero u e = let f : t ≡ u = cc in rw (← f) (grind (arith, common_steps))
nodes_part (t ∷ ts) (suc k) u e = grind (arith, common_steps, nodes_part ts k u e)

width_part : (ts : List DataType) (k : ℕ) (u : DataType) → slice_get ts k ≡ Some u
    → width u ≤ greatest (widths (types_from ts))
width_part [] k u e = cc
width_part (t ∷ ts) zero u e = let f : t ≡ u = cc in rw (← f) (omega arith)
width_part (t ∷ ts) (suc k) u e = omega (arith, width_part ts k u e)

pub within_row : (names : Option (List Name)) (ts : List DataType) (k : ℕ) (u : DataType)
    → slice_get ts k ≡ Some u → limit (row_type names (types_from ts)) ≡ None → limit u ≡ None
within_row None ts k u e h =
    let b = bounds (tup (types_from ts)) h in
    within_bounds u (record {
      depth = omega (arith, b.depth, depth_part ts k u e);
      nodes = omega (arith, b.nodes, nodes_part ts k u e);
      width = omega (arith, b.width, width_part ts k u e);
    })
within_row (Some names) ts k u e h =
    let b = bounds (rec names (types_from ts)) h in
    within_bounds u (record {
      depth = omega (arith, b.depth, depth_part ts k u e);
      nodes = omega (arith, b.nodes, nodes_part ts k u e);
      width = omega (arith, b.width, width_part ts k u e);
    })

pub within_uni : (ts : List DataType) (k : ℕ) (u : DataType) → slice_get ts k ≡ Some u
    → limit (uni (types_from ts)) ≡ None → limit u ≡ None
within_uni ts k u e h =
    let b = bounds (uni (types_from ts)) h in
    within_bounds u (record {
      depth = omega (arith, b.depth, depth_part ts k u e);
      nodes = omega (arith, b.nodes, nodes_part ts k u e);
      width = omega (arith, b.width, width_part ts k u e);
    })

-- a union has at most 127 alternatives
pub few_alternatives : (ts : List DataType) → limit (uni (types_from ts)) ≡ None → length ts ≤ 127
few_alternatives ts h =
    let b = bounds (uni (types_from ts)) h in
    omega (arith, b.width, length-widths ts)

-- a type without its option
pub present_within : (t : DataType) → limit t ≡ None → limit (present t) ≡ None
present_within (opt t) h = within_opt t h
present_within unknown h = h
present_within (leaf p) h = h
present_within (var t) h = h
present_within (reg n t) h = h
present_within (rec ns ts) h = h
present_within (tup ts) h = h
present_within (uni ts) h = h

-- its nodes
pub nodes_within : (t : DataType) → limit t ≡ None → nodes t ≤ 65536
nodes_within t e = by (nat_lt 60 (depth t)) (nat_lt 65536 (nodes t)) (nat_lt 127 (width t)) refl e
  where
    by : (d n w : Bool) → nat_lt 65536 (nodes t) ≡ n
        → cond d (Some depth_limit) (cond (n || w) (Some size_limit) None) ≡ None
        → nodes t ≤ 65536
    by true n w f g = absurd (cc)
    by false true w f g = absurd (cc)
    by false false true f g = absurd (cc)
    by false false false f g = grind (arith, nat_tests)

-- its depth
pub deep-by : (n : ℕ) (b : Bool) (f : Option Limit) → nat_lt 60 n ≡ b
    → (if b then Some depth_limit else f) ≡ None → n ≤ 60
deep-by n true f e h = cc
deep-by n false f e h = grind (arith, e)
