-- What a value of a type settles to has a type within the same limits.
use Rattle.std.proofs.Common.{◌≡◌, ℕ, zero, suc, sum, arith, ap, ◌∙◌, sym}
use Rattle.std.specs.Prelude.{None}
use Rattle.awk_types.specs.DataType.{DataType, var, reg, opt, uni, DataTypes, no_types, type}
use Rattle.awk_types.specs.DataType.{greatest, depth, depths, nodes, nodes_each}
use Rattle.awk_types.specs.Datum.{Datum, datum_type}
use Rattle.awk_types.specs.Limit.{limit, width, widths}
use Rattle.awk_types.specs.Settle.{settle, settle_alternative}
use Rattle.awk_types.specs.Value.{Value, null, list, alt}
use Rattle.awk_types.proofs.TypeShapes.{nodes-type}
use Rattle.awk_types.proofs.PartLimits.{AreBounds, bounds, within_bounds}

abbrev IsBounded : DataType → Type 0
IsBounded t = AreBounds (depth t) (nodes t) (width t)

abbrev AreBounded : DataTypes → Type 0
AreBounded ts = AreBounds (greatest (depths ts)) (sum (nodes_each ts)) (greatest (widths ts))

first_bounded : (t : DataType) (ts : DataTypes) → AreBounded (type t ts) → IsBounded t
first_bounded t ts b = record {
  depth = omega (arith, b.depth);
  nodes = omega (arith, b.nodes, nodes-type t ts);
  width = omega (arith, b.width);
}

rest_bounded : (t : DataType) (ts : DataTypes) → AreBounded (type t ts) → AreBounded ts
rest_bounded t ts b = record {
  depth = omega (arith, b.depth);
  nodes = omega (arith, b.nodes, nodes-type t ts);
  width = omega (arith, b.width);
}

mutual
  settle-bounded : (t : DataType) (v : Value) → IsBounded t → IsBounded (datum_type (settle t v))
  settle-bounded (opt t) null b = b
  settle-bounded (opt t) v b =
      settle-bounded t v (record {
        depth = omega (arith, b.depth);
        nodes = omega (arith, b.nodes);
        width = b.width;
      })
  settle-bounded (uni ts) (alt k v) b =
      settle_alternative-bounded ts k v (record {
        depth = omega (arith, b.depth);
        nodes = omega
            (arith, b.nodes);
        width = omega (arith, b.width);
      })
  settle-bounded (var t) (list vs) b = record {
    depth = omega (arith, b.depth);
    nodes = omega
        (arith, b.nodes);
    width = b.width;
  }
  settle-bounded (reg n t) (list vs) b = record {
    depth = omega (arith, b.depth);
    nodes = omega
        (arith, b.nodes);
    width = b.width;
  }
  settle-bounded t v b = b

  settle_alternative-bounded : (ts : DataTypes) (k : ℕ) (v : Value) → AreBounded ts
      → IsBounded (datum_type (settle_alternative ts k v))
  settle_alternative-bounded no_types k v b = record {
    depth = omega arith;
    nodes = omega arith;
    width = omega arith;
  }
  settle_alternative-bounded (type t ts) zero v b = settle-bounded t v (first_bounded t ts b)
  settle_alternative-bounded (type t ts) (suc k) v b =
      settle_alternative-bounded ts k v (rest_bounded t ts b)

pub limit-settle : (t : DataType) (v : Value) (d : Datum) → settle t v ≡ d → limit t ≡ None
    → limit (datum_type d) ≡ None
limit-settle t v d e h =
    ap (λ d. limit (datum_type d)) (sym e) ∙ within_bounds (datum_type (settle t v))
    (settle-bounded t v (bounds t h))
