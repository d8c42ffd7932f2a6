-- Beyond as many levels as types have, more levels change nothing.
use Rattle.std.proofs.Common.{◌≡◌, ℕ, zero, suc, ◌-◌, ◌≤◌, Bool, false, refl, ap, arith}
use Rattle.std.specs.Prelude.{List, [], ◌∷◌, if◌then◌else◌, ◌++◌, nat_lt, None}
use Rattle.awk_types.specs.DataType.{DataType, unknown, leaf, var, reg, rec, tup, opt, uni, depth}
use Rattle.awk_types.specs.Limit.{limit}
use Rattle.awk_types.specs.Parts.{item_of}
use Rattle.awk_types.specs.Simple.{present, option_if}
use Rattle.awk_types.proofs.PartLimits.{deep-by}
use Rattle.awk_columns.specs.ListClass.{list_type}
use Rattle.awk_pair_operands.specs.Paired.{Reach, end_type, end_types, paired_type, types_at_ends}
use Rattle.awk_pair_types.specs.Emptied.{height, heights}
use Rattle.awk_pair_sides.specs.Levels.{opens, some_option, item_types, level_class}

item-height : (t : DataType) → height (item_of (present t)) ≤ height t - 1
item-height unknown = omega arith
item-height (leaf p) = omega arith
item-height (var t) = omega arith
item-height (reg n t) = omega arith
item-height (rec ns ts) = omega arith
item-height (tup ts) = omega arith
item-height (uni ts) = omega arith
item-height (opt unknown) = omega arith
item-height (opt (leaf p)) = omega arith
item-height (opt (var t)) = omega arith
item-height (opt (reg n t)) = omega arith
item-height (opt (rec ns ts)) = omega arith
item-height (opt (tup ts)) = omega arith
item-height (opt (opt t)) = omega arith
item-height (opt (uni ts)) = omega arith

items-heights : (ts : List DataType) → heights (item_types ts) ≤ heights ts - 1
items-heights [] = omega arith
items-heights (t ∷ ts) =
    let a = item-height t in
    let b = items-heights ts in
    omega (arith, a, b)

opens-none : (ts : List DataType) → heights ts ≤ 0 → opens ts ≡ false
opens-none [] h = refl
opens-none (unknown ∷ ts) h = opens-none ts (omega (arith, h))
opens-none (leaf p ∷ ts) h = opens-none ts (omega (arith, h))
opens-none (rec ns us ∷ ts) h = opens-none ts (omega (arith, h))
opens-none (tup us ∷ ts) h = opens-none ts (omega (arith, h))
opens-none (uni us ∷ ts) h = opens-none ts (omega (arith, h))
opens-none (var t ∷ ts) h = absurd (omega (arith, h))
opens-none (reg n t ∷ ts) h = absurd (omega (arith, h))
opens-none (opt t ∷ ts) h = absurd (omega (arith, h))

pub type_stable : (keep : Bool) (r : Reach) (d : ℕ) (ts : List DataType) → heights ts ≤ d
    → paired_type keep r (suc d) ts ≡ paired_type keep r d ts
type_stable keep r zero ts h =
    ap (λ b. if b then option_if (some_option ts)
    (list_type (level_class keep ts) (end_type r (item_types ts))) else end_type r ts)
    (opens-none ts h)
type_stable keep r (suc d) ts h =
    ap (λ p. if opens ts then option_if (some_option ts) (list_type (level_class keep ts) p)
    else end_type r ts)
    (type_stable keep r d (item_types ts)
    (let e = items-heights ts in omega (arith, e, h)))

pub ends_stable : (r : Reach) (d : ℕ) (ts : List DataType) → heights ts ≤ d
    → types_at_ends r (suc d) ts ≡ types_at_ends r d ts
ends_stable r zero ts h =
    ap (λ b. if b then end_types r (item_types ts) else end_types r ts) (opens-none ts h)
ends_stable r (suc d) ts h =
    ap (λ us. if opens ts then us else end_types r ts)
    (ends_stable r d (item_types ts) (let e = items-heights ts in omega (arith, e, h)))

-- no type is less deep
pub height_depth : (t : DataType) → height t ≤ depth t
height_depth unknown = omega arith
height_depth (leaf p) = omega arith
height_depth (var t) = let e = height_depth t in omega (arith, e)
height_depth (reg n t) = let e = height_depth t in omega (arith, e)
height_depth (opt t) = let e = height_depth t in omega (arith, e)
height_depth (rec ns ts) = omega arith
height_depth (tup ts) = omega arith
height_depth (uni ts) = omega arith

-- a type within the limit has at most 60
pub height_limit : (t : DataType) → limit t ≡ None → height t ≤ 60
height_limit t h =
    let e = height_depth t in
    let f = deep-by (depth t) (nat_lt 60 (depth t)) _ refl h in
    omega (arith, e, f)

pub heights_push : (ts : List DataType) (t : DataType) (n : ℕ) → heights ts ≤ n → height t ≤ n
    → heights (ts ++ t ∷ []) ≤ n
heights_push [] t n h e = omega (arith, e)
heights_push (u ∷ ts) t n h e =
    let f = heights_push ts t n (omega (arith, h)) e in
    omega (arith, h, f)
