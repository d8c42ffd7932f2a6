-- Types that another one takes as they are: unknown, the type itself, and its parts likewise.
use Rattle.std.proofs.Common.{◌≡◌, ℕ, ◌≤◌, List, false, refl, ap, subst, arith, sum}
use Rattle.std.specs.Prelude.{None}
use Rattle.std.proofs.lemmas.Grind.{common_steps}
use Rattle.awk_types.specs.DataType.{DataType, DataTypes, Name, unknown, leaf, var, reg, rec, tup}
use Rattle.awk_types.specs.DataType.{opt, uni, no_types, type, depth, depths, nodes, nodes_each}
use Rattle.awk_types.specs.DataType.{greatest}
use Rattle.awk_types.specs.Limit.{limit, width, widths}
use Rattle.awk_types.specs.Simple.{is_option, present}
use Rattle.awk_types.specs.declared.primitive.Primitive.{Primitive}
use Rattle.awk_types.proofs.TypeShapes.{some_depth}
use Rattle.awk_types.proofs.PartLimits.{bounds, within_bounds}

-- ---- below

abbrev pub below_leaf : Primitive → DataType → Type 0
below_leaf p unknown = Unit {0}
below_leaf p (leaf q) = q ≡ p
below_leaf p a = ⊥

abbrev pub below_var : (DataType → Type 0) → DataType → Type 0
below_var P unknown = Unit {0}
below_var P (var a) = P a
below_var P a = ⊥

abbrev pub below_opt : (DataType → Type 0) → DataType → Type 0
below_opt P (opt a) = P a
below_opt P a = P a

abbrev pub below_rec : List Name → (DataTypes → Type 0) → DataType → Type 0
below_rec ns P unknown = Unit {0}
below_rec ns P (rec ms us) = (ms ≡ ns) × P us
below_rec ns P a = ⊥

-- unknown, or a type itself
abbrev pub below_same : DataType → DataType → Type 0
below_same t unknown = Unit {0}
below_same t a = a ≡ t

abbrev pub below_none : DataTypes → Type 0
below_none no_types = Unit {0}
below_none us = ⊥

abbrev pub below_first : (DataType → Type 0) → (DataTypes → Type 0) → DataTypes → Type 0
below_first P Q no_types = ⊥
below_first P Q (type a us) = P a × Q us

abbrev mutual
  pub IsBelow : DataType → DataType → Type 0
  IsBelow unknown a = below_same unknown a
  IsBelow (leaf p) a = below_leaf p a
  IsBelow (var t) a = below_var (IsBelow t) a
  IsBelow (reg n t) a = below_same (reg n t) a
  IsBelow (rec ns ts) a = below_rec ns (AreBelow ts) a
  IsBelow (tup ts) a = below_same (tup ts) a
  IsBelow (opt t) a = below_opt (IsBelow t) a
  IsBelow (uni ts) a = below_same (uni ts) a

  pub AreBelow : DataTypes → DataTypes → Type 0
  AreBelow no_types us = below_none us
  AreBelow (type t ts) us = below_first (IsBelow t) (AreBelow ts) us

pub unknown_below : (t : DataType) → IsBelow t unknown
unknown_below unknown = tt
unknown_below (leaf p) = tt
unknown_below (var t) = tt
unknown_below (reg n t) = tt
unknown_below (rec ns ts) = tt
unknown_below (tup ts) = tt
unknown_below (opt t) = unknown_below t
unknown_below (uni ts) = tt

mutual
  pub below_itself : (t : DataType) → IsBelow t t
  below_itself unknown = tt
  below_itself (leaf p) = refl
  below_itself (var t) = below_itself t
  below_itself (reg n t) = refl
  below_itself (rec ns ts) = (refl, below_themselves ts)
  below_itself (tup ts) = refl
  below_itself (opt t) = below_itself t
  below_itself (uni ts) = refl

  pub below_themselves : (ts : DataTypes) → AreBelow ts ts
  below_themselves no_types = tt
  below_themselves (type t ts) = (below_itself t, below_themselves ts)

-- below unknown is unknown alone
pub only_unknown : (a : DataType) → IsBelow unknown a → a ≡ unknown
only_unknown unknown h = refl
only_unknown a h = h

-- no option is below a type that is none
pub no_option_below : (t a : DataType) → is_option t ≡ false → IsBelow t (opt a) → ⊥
no_option_below unknown a e h = cc
no_option_below (leaf p) a e h = h
no_option_below (var t) a e h = h
no_option_below (reg n t) a e h = cc
no_option_below (rec ns ts) a e h = h
no_option_below (tup ts) a e h = cc
no_option_below (opt t) a e h = cc
no_option_below (uni ts) a e h = cc

-- what is below a type is below its option
pub below_option : (t a : DataType) → is_option t ≡ false → IsBelow t a → IsBelow (opt t) a
below_option t (opt a) e h = absurd (no_option_below t a e h)
below_option t unknown e h = h
below_option t (leaf p) e h = h
below_option t (var a) e h = h
below_option t (reg n a) e h = h
below_option t (rec ns us) e h = h
below_option t (tup us) e h = h
below_option t (uni us) e h = h

pub present_below : (t a : DataType) → IsBelow (opt t) a → IsBelow t (present a)
present_below t (opt a) h = h
present_below t unknown h = h
present_below t (leaf p) h = h
present_below t (var a) h = h
present_below t (reg n a) h = h
present_below t (rec ns us) h = h
present_below t (tup us) h = h
present_below t (uni us) h = h

-- ---- limits

record IsNoMore (d n w d2 n2 w2 : ℕ) : Type 0 where
  pub depth : d ≤ d2
  pub nodes : n ≤ n2
  pub width : w ≤ w2

abbrev IsSmaller : DataType → DataType → Type 0
IsSmaller a t = IsNoMore (depth a) (nodes a) (width a) (depth t) (nodes t) (width t)

abbrev AreSmaller : DataTypes → DataTypes → Type 0
AreSmaller us ts =
    IsNoMore (greatest (depths us)) (sum (nodes_each us)) (greatest (widths us))
    (greatest (depths ts)) (sum (nodes_each ts)) (greatest (widths ts))

some_nodes : (t : DataType) → 1 ≤ nodes t
some_nodes unknown = omega arith
some_nodes t = omega arith

unknown_smaller : (t : DataType) → IsSmaller unknown t
unknown_smaller t =
    record { depth = some_depth t; nodes = some_nodes t; width = omega arith }

same_smaller : (t a : DataType) → a ≡ t → IsSmaller a t
same_smaller t a e =
    subst (λ u. IsSmaller a u) e
    (record { depth = omega arith; nodes = omega arith; width = omega arith })

in_option_smaller : (t a : DataType) → IsSmaller a t → IsSmaller a (opt t)
in_option_smaller t a h =
    record { depth = omega (arith, h.depth); nodes = omega (arith, h.nodes); width = h.width }

var_smaller : (t a : DataType) → IsSmaller a t → IsSmaller (var a) (var t)
var_smaller t a h =
    record { depth = omega (arith, h.depth); nodes = omega (arith, h.nodes); width = h.width }

opt_smaller : (t a : DataType) → IsSmaller a t → IsSmaller (opt a) (opt t)
opt_smaller t a h =
    record { depth = omega (arith, h.depth); nodes = omega (arith, h.nodes); width = h.width }

rec_smaller : (ns ms : List Name) (ts us : DataTypes) → AreSmaller us ts
    → IsSmaller (rec ms us) (rec ns ts)
rec_smaller ns ms ts us h =
    record { depth = omega (arith, h.depth); nodes = omega (arith, h.nodes); width = h.width }

more_smaller : (t a : DataType) (ts us : DataTypes) → IsSmaller a t → AreSmaller us ts
    → AreSmaller (type a us) (type t ts)
more_smaller t a ts us h k = record {
  depth = omega (arith, h.depth, k.depth);
  nodes = grind (arith, common_steps, h.nodes, k.nodes);
  width = omega (arith, h.width, k.width);
}

mutual
  smaller : (t a : DataType) → IsBelow t a → IsSmaller a t
  smaller unknown unknown h = unknown_smaller unknown
  smaller unknown a h = same_smaller unknown a h
  smaller (leaf p) unknown h = unknown_smaller (leaf p)
  smaller (leaf p) (leaf q) h = same_smaller (leaf p) (leaf q) (ap leaf h)
  smaller (leaf p) a h = absurd h
  smaller (var t) unknown h = unknown_smaller (var t)
  smaller (var t) (var a) h = var_smaller t a (smaller t a h)
  smaller (var t) a h = absurd h
  smaller (reg n t) unknown h = unknown_smaller (reg n t)
  smaller (reg n t) a h = same_smaller (reg n t) a h
  smaller (rec ns ts) unknown h = unknown_smaller (rec ns ts)
  smaller (rec ns ts) (rec ms us) h = rec_smaller ns ms ts us (all_smaller ts us h.1)
  smaller (rec ns ts) a h = absurd h
  smaller (tup ts) unknown h = unknown_smaller (tup ts)
  smaller (tup ts) a h = same_smaller (tup ts) a h
  smaller (opt t) (opt a) h = opt_smaller t a (smaller t a h)
  smaller (opt t) a h = in_option_smaller t a (smaller t a h)
  smaller (uni ts) unknown h = unknown_smaller (uni ts)
  smaller (uni ts) a h = same_smaller (uni ts) a h

  all_smaller : (ts us : DataTypes) → AreBelow ts us → AreSmaller us ts
  all_smaller no_types no_types h =
      record { depth = omega arith; nodes = omega arith; width = omega arith }
  all_smaller no_types (type a us) h = absurd h
  all_smaller (type t ts) no_types h = absurd h
  all_smaller (type t ts) (type a us) h =
      more_smaller t a ts us (smaller t a h.0) (all_smaller ts us h.1)

-- what is below a type within the limits is within them
pub below_within : (t a : DataType) → IsBelow t a → limit t ≡ None → limit a ≡ None
below_within t a h l =
    let s = smaller t a h in
    let b = bounds t l in
    within_bounds a (record {
      depth = omega (arith, s.depth, b.depth);
      nodes = omega (arith, s.nodes, b.nodes);
      width = omega (arith, s.width, b.width);
    })
