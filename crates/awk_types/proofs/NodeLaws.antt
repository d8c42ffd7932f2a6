-- Simplifying adds no node.
use Rattle.std.proofs.Common.{◌≡◌, ◌+◌, ◌≤◌, suc, Bool, true, false, ◌||◌, List, [], ◌∷◌, ◌++◌, sum}
use Rattle.std.proofs.Common.{refl, ap, arith}
use Rattle.std.proofs.lemmas.Grind.{common_steps}
use Rattle.std.specs.List.{list_any, flat_map}
use Rattle.awk_types.specs.DataType.{DataType, unknown, leaf, var, reg, rec, tup, opt, uni}
use Rattle.awk_types.specs.DataType.{DataTypes, no_types, type, types_from, nodes, nodes_each}
use Rattle.awk_types.specs.Simple.{present, is_option, alternatives, present_alternatives}
use Rattle.awk_types.specs.Simple.{option_if, simple, simples}
use Rattle.awk_types.proofs.Trees.{types_from-list}

nodes-append : (ts us : List DataType)
    → sum (nodes_each (types_from (ts ++ us))) ≡ sum (nodes_each (types_from ts)) + sum
    (nodes_each (types_from us))
nodes-append [] us = grind (arith, common_steps)
nodes-append (t ∷ ts) us = grind (arith, common_steps, nodes-append ts us)

nodes-alternatives : (t : DataType) → sum (nodes_each (types_from (alternatives t))) ≤ nodes t
nodes-alternatives (uni ts) = omega (arith, ap (λ us. sum (nodes_each us)) (types_from-list ts))
nodes-alternatives t = omega arith

nodes-present : (t : DataType) → nodes (present t) ≤ nodes t
nodes-present (opt t) = omega arith
nodes-present t = omega arith

nodes-present_alternatives : (t : DataType)
    → sum (nodes_each (types_from (present_alternatives t))) ≤ nodes t
nodes-present_alternatives t = omega (arith, nodes-alternatives (present t), nodes-present t)

-- a type that loses its option loses a node
nodes-lost_option : (t : DataType) → is_option t ≡ true
    → sum (nodes_each (types_from (present_alternatives t))) + 1 ≤ nodes t
nodes-lost_option (opt t) e = omega (arith, nodes-alternatives t)
nodes-lost_option t e = cc

nodes-flat : (ts : List DataType)
    → sum (nodes_each (types_from (flat_map present_alternatives ts))) ≤ sum
    (nodes_each (types_from ts))
nodes-flat [] = omega arith
nodes-flat (t ∷ ts) =
    grind (
      arith,
      common_steps,
      nodes-present_alternatives t,
      nodes-flat ts,
      nodes-append
          (present_alternatives t) (flat_map present_alternatives ts),
    )

-- the first type by whether it is an option, and what is known of the later ones
nodes-flat_first : (b : Bool) (t : DataType) (ts : List DataType) → is_option t ≡ b
    → (b || list_any is_option ts) ≡ true
    → (list_any is_option ts ≡ true → sum (nodes_each
    (types_from (flat_map present_alternatives ts))) + 1 ≤ sum (nodes_each (types_from ts))) → sum
    (nodes_each (types_from (present_alternatives t ++ flat_map present_alternatives ts))) + 1 ≤
    nodes t + sum (nodes_each (types_from ts))
nodes-flat_first true t ts f e later =
    omega (
      arith,
      nodes-lost_option t f,
      nodes-flat ts,
      nodes-append (present_alternatives t)
          (flat_map present_alternatives ts),
    )
nodes-flat_first false t ts f e later =
    omega (
      arith,
      nodes-present_alternatives t,
      later e,
      nodes-append (present_alternatives t)
          (flat_map present_alternatives ts),
    )

nodes-flat_option : (ts : List DataType) → list_any is_option ts ≡ true
    → sum (nodes_each (types_from (flat_map present_alternatives ts))) + 1 ≤ sum
    (nodes_each (types_from ts))
nodes-flat_option [] e = cc
nodes-flat_option (t ∷ ts) e =
    grind (arith, common_steps, nodes-flat_first (is_option t) t ts refl e (nodes-flat_option ts))

nodes-union : (b : Bool) (ts : List DataType) → list_any is_option ts ≡ b
    → nodes (option_if b (uni (types_from (flat_map present_alternatives ts)))) ≤ suc
    (sum (nodes_each (types_from ts)))
nodes-union true ts e = omega (arith, nodes-flat_option ts e)
nodes-union false ts e = omega (arith, nodes-flat ts)

mutual
  pub nodes-simple : (t : DataType) → nodes (simple t) ≤ nodes t
  nodes-simple unknown = omega arith
  nodes-simple (leaf p) = omega arith
  nodes-simple (var t) = omega (arith, nodes-simple t)
  nodes-simple (reg n t) = omega (arith, nodes-simple t)
  nodes-simple (rec ns ts) = omega (arith, nodes-simples ts)
  nodes-simple (tup ts) = omega (arith, nodes-simples ts)
  nodes-simple (opt t) = omega (arith, nodes-simple t, nodes-present (simple t))
  nodes-simple (uni ts) =
      omega (
        arith,
        nodes-union (list_any is_option (simples ts)) (simples ts) refl,
        nodes-simples
            ts,
      )

  pub nodes-simples : (ts : DataTypes)
      → sum (nodes_each (types_from (simples ts))) ≤ sum (nodes_each ts)
  nodes-simples no_types = omega arith
  nodes-simples (type t ts) = grind (arith, common_steps, nodes-simple t, nodes-simples ts)
