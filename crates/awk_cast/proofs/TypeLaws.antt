-- A cast keeps the shape of a type: its limits, and that it is simple.
use Rattle.std.proofs.Common.{◌≡◌, ◌∷◌, length, refl, ap, ap₂, ◌∙◌}
use Rattle.std.specs.Prelude.{suc, max, sum}
use Rattle.awk_types.specs.DataType.{DataType, DataTypes, unknown, leaf, var, reg, rec, tup, opt}
use Rattle.awk_types.specs.DataType.{uni, no_types, type, types_from, greatest, depth, depths}
use Rattle.awk_types.specs.DataType.{nodes, nodes_each}
use Rattle.awk_types.specs.Limit.{limit, width, widths}
use Rattle.awk_types.specs.Simple.{IsSimple, AreSimple, ArePlain, is_option, is_union}
use Rattle.awk_types.specs.Value.{null}
use Rattle.awk_types.specs.declared.primitive.Primitive.{Primitive}
use Rattle.awk_cast.specs.Cast.{cast_type, cast_types, cast_value}

-- ---- limits

mutual
  pub depth-cast : (p : Primitive) (t : DataType) → depth (cast_type p t) ≡ depth t
  depth-cast p unknown = refl
  depth-cast p (leaf q) = refl
  depth-cast p (var t) = ap suc (depth-cast p t)
  depth-cast p (reg n t) = ap suc (depth-cast p t)
  depth-cast p (rec ns ts) = ap (λ ds. suc (greatest ds)) (depths-cast p ts)
  depth-cast p (tup ts) = ap (λ ds. suc (greatest ds)) (depths-cast p ts)
  depth-cast p (opt t) = ap suc (depth-cast p t)
  depth-cast p (uni ts) = ap (λ ds. suc (greatest ds)) (depths-cast p ts)

  depths-cast : (p : Primitive) (ts : DataTypes) → depths (types_from (cast_types p ts)) ≡ depths ts
  depths-cast p no_types = refl
  depths-cast p (type t ts) = ap₂ (λ d ds. d ∷ ds) (depth-cast p t) (depths-cast p ts)

mutual
  pub nodes-cast : (p : Primitive) (t : DataType) → nodes (cast_type p t) ≡ nodes t
  nodes-cast p unknown = refl
  nodes-cast p (leaf q) = refl
  nodes-cast p (var t) = ap suc (nodes-cast p t)
  nodes-cast p (reg n t) = ap suc (nodes-cast p t)
  nodes-cast p (rec ns ts) = ap (λ ms. suc (sum ms)) (nodes_each-cast p ts)
  nodes-cast p (tup ts) = ap (λ ms. suc (sum ms)) (nodes_each-cast p ts)
  nodes-cast p (opt t) = ap suc (nodes-cast p t)
  nodes-cast p (uni ts) = ap (λ ms. suc (sum ms)) (nodes_each-cast p ts)

  nodes_each-cast : (p : Primitive) (ts : DataTypes)
      → nodes_each (types_from (cast_types p ts)) ≡ nodes_each ts
  nodes_each-cast p no_types = refl
  nodes_each-cast p (type t ts) = ap₂ (λ m ms. m ∷ ms) (nodes-cast p t) (nodes_each-cast p ts)

mutual
  pub width-cast : (p : Primitive) (t : DataType) → width (cast_type p t) ≡ width t
  width-cast p unknown = refl
  width-cast p (leaf q) = refl
  width-cast p (var t) = width-cast p t
  width-cast p (reg n t) = width-cast p t
  width-cast p (rec ns ts) = ap greatest (widths-cast p ts)
  width-cast p (tup ts) = ap greatest (widths-cast p ts)
  width-cast p (opt t) = width-cast p t
  width-cast p (uni ts) = ap (λ ws. max (length ws) (greatest ws)) (widths-cast p ts)

  widths-cast : (p : Primitive) (ts : DataTypes) → widths (types_from (cast_types p ts)) ≡ widths ts
  widths-cast p no_types = refl
  widths-cast p (type t ts) = ap₂ (λ w ws. w ∷ ws) (width-cast p t) (widths-cast p ts)

pub limit-cast : (p : Primitive) (t : DataType) → limit (cast_type p t) ≡ limit t
limit-cast p t =
    rw (depth-cast p t, nodes-cast p t, width-cast p t) refl

-- ---- simple types

is_option-cast : (p : Primitive) (t : DataType) → is_option (cast_type p t) ≡ is_option t
is_option-cast p unknown = refl
is_option-cast p (leaf q) = refl
is_option-cast p (var t) = refl
is_option-cast p (reg n t) = refl
is_option-cast p (rec ns ts) = refl
is_option-cast p (tup ts) = refl
is_option-cast p (opt t) = refl
is_option-cast p (uni ts) = refl

is_union-cast : (p : Primitive) (t : DataType) → is_union (cast_type p t) ≡ is_union t
is_union-cast p unknown = refl
is_union-cast p (leaf q) = refl
is_union-cast p (var t) = refl
is_union-cast p (reg n t) = refl
is_union-cast p (rec ns ts) = refl
is_union-cast p (tup ts) = refl
is_union-cast p (opt t) = refl
is_union-cast p (uni ts) = refl

mutual
  pub simple_cast : (p : Primitive) (t : DataType) → IsSimple t → IsSimple (cast_type p t)
  simple_cast p unknown h = tt
  simple_cast p (leaf q) h = tt
  simple_cast p (var t) h = simple_cast p t h
  simple_cast p (reg n t) h = simple_cast p t h
  simple_cast p (rec ns ts) h = simples_cast p ts h
  simple_cast p (tup ts) h = simples_cast p ts h
  simple_cast p (opt t) h = (is_option-cast p t ∙ h.0, simple_cast p t h.1)
  simple_cast p (uni ts) h = plain_cast p ts h

  simples_cast : (p : Primitive) (ts : DataTypes) → AreSimple ts
      → AreSimple (types_from (cast_types p ts))
  simples_cast p no_types h = tt
  simples_cast p (type t ts) h = (simple_cast p t h.0, simples_cast p ts h.1)

  plain_cast : (p : Primitive) (ts : DataTypes) → ArePlain ts
      → ArePlain (types_from (cast_types p ts))
  plain_cast p no_types h = tt
  plain_cast p (type t ts) h = (
    is_option-cast p t ∙ h.0,
    is_union-cast p t ∙ h.1,
    simple_cast p t h.2,
    plain_cast p ts h.3,
  )

-- ---- null stays null

pub cast_null : (p : Primitive) (t : DataType) → cast_value p t null ≡ null
cast_null p unknown = refl
cast_null p (leaf q) = refl
cast_null p (var t) = refl
cast_null p (reg n t) = refl
cast_null p (rec ns ts) = refl
cast_null p (tup ts) = refl
cast_null p (opt t) = refl
cast_null p (uni ts) = refl
