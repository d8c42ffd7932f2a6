-- How deep the type of records with a field is, and the limit that it passes where the lists of the
-- field's values pass one.
use Rattle.std.proofs.Common.{◌≡◌, ℕ, suc, ◌+◌, ◌<◌, ◌≤◌, max, Bool, true, false}
use Rattle.std.proofs.Common.{refl, ap, ◌∙◌, arith}
use Rattle.std.proofs.lemmas.Grind.{common_steps}
use Rattle.std.specs.Prelude.{List, [], ◌∷◌, map, get_or, sum, Option, Some, None, ◌||◌}
use Rattle.std.specs.Prelude.{nat_lt, if◌then◌else◌}
use Rattle.std.proofs.Math.Bool.{or-false}
use Rattle.awk_types.specs.DataType.{Name, DataType, DataTypes, unknown, leaf, var, reg, rec, tup}
use Rattle.awk_types.specs.DataType.{opt, uni, no_types, type, type_list, types_from, depth, depths}
use Rattle.awk_types.specs.DataType.{greatest, nodes, nodes_each}
use Rattle.awk_types.specs.Limit.{Limit, depth_limit, size_limit, limit, width}
use Rattle.awk_types.specs.Names.{same_name}
use Rattle.awk_types.specs.Parts.{item_of, list_depth}
use Rattle.awk_types.specs.Simple.{is_option, present, option_if, IsSimple}
use Rattle.awk_columns.specs.ListClass.{Class, list_type}
use Rattle.awk_frames.specs.Framed.{over_type}
use Rattle.awk_frames.proofs.FrameLaws.{over_type-level}
use Rattle.awk_pair_operands.specs.Paired.{to_depth, paired_type, types_at_ends}
use Rattle.awk_pair_sides.specs.Levels.{level_class}
use Rattle.awk_put_field.specs.Depths.{one_if, depth_over}
use Rattle.awk_put_field.specs.Ends.{ends_at_records}
use Rattle.awk_put_field.specs.Field.{put, named, field_type}
use Rattle.awk_put_field.proofs.PutLaws.{map-put}

-- ---- the greatest of numbers with one among them

max-or : (b : Bool) (d y : ℕ) (ys zs ws : List ℕ) → greatest zs ≡ max d (greatest ws)
    → greatest (if b then d ∷ ys else y ∷ zs) ≡ max d (greatest (if b then 0 ∷ ys else y ∷ ws))
max-or true d y ys zs ws e = omega arith
max-or false d y ys zs ws e = omega (arith, e)

pub greatest-put : (n : Name) (ns : List Name) (d : ℕ) (ds : List ℕ)
    → greatest (put n ns d ds) ≡ max d (greatest (put n ns 0 ds))
greatest-put n [] d ds = omega arith
greatest-put n (m ∷ ms) d [] = omega arith
greatest-put n (m ∷ ms) d (y ∷ ys) =
    max-or (same_name m n) d y ys (put n ms d ys) (put n ms 0 ys) (greatest-put n ms d ys)

-- ---- types

depths-from : (ts : List DataType) → depths (types_from ts) ≡ map depth ts
depths-from [] = refl
depths-from (t ∷ ts) = ap (λ ds. depth t ∷ ds) (depths-from ts)

depths-list : (ts : DataTypes) → map depth (type_list ts) ≡ depths ts
depths-list no_types = refl
depths-list (type t ts) = ap (λ ds. depth t ∷ ds) (depths-list ts)

one-few : (b : Bool) → one_if b ≤ 1
one-few true = omega arith
one-few false = omega arith

module _ (n : Name) where
  -- the type of two data that are paired through k levels
  abbrev pub joined_type : ℕ → DataType → DataType → DataType
  joined_type k t u =
      over_type (paired_type true to_depth k (t ∷ u ∷ []))
      (field_type n (get_or (types_at_ends to_depth k (t ∷ u ∷ [])) 0 unknown)
      (get_or (types_at_ends to_depth k (t ∷ u ∷ [])) 1 unknown))

  -- ---- a level, and records, by a measure of types

  module _ (m : DataType → ℕ) (of_list : (c : Class) (t : DataType) → m (list_type c t) ≡ suc (m t))
      (of_option : (t : DataType) → m (opt t) ≡ suc (m t))
      (of_field : (ns : List Name) (ts : List DataType) (u : DataType)
      → m u ≤ m (rec (named n ns) (types_from (put n ns u ts)))) where
    of_level : (o : Bool) (c : Class) (t : DataType)
        → m (option_if o (list_type c t)) ≡ one_if o + suc (m t)
    of_level true c t = omega (arith, of_option (list_type c t), of_list c t)
    of_level false c t = omega (arith, of_list c t)

    item-within : (u : DataType) → m u ≤ one_if (is_option u) + suc (m (item_of (present u)))
    item-within unknown = omega arith
    item-within (leaf p) = omega arith
    item-within (var u) = omega (arith, of_list None u)
    item-within (reg k u) = omega (arith, of_list (Some k) u)
    item-within (rec ns ts) = omega arith
    item-within (tup ts) = omega arith
    item-within (uni ts) = omega arith
    item-within (opt unknown) = omega (arith, of_option unknown)
    item-within (opt (leaf p)) = omega (arith, of_option (leaf p))
    item-within (opt (var u)) = omega (arith, of_option (var u), of_list None u)
    item-within (opt (reg k u)) = omega (arith, of_option (reg k u), of_list (Some k) u)
    item-within (opt (rec ns ts)) = omega (arith, of_option (rec ns ts))
    item-within (opt (tup ts)) = omega (arith, of_option (tup ts))
    item-within (opt (opt u)) = omega (arith, of_option (opt u))
    item-within (opt (uni ts)) = omega (arith, of_option (uni ts))

    -- one more level
    level-within : (o : Bool) (c : Class) (u p f w : DataType)
        → w ≡ over_type (option_if o (list_type c p)) f
        → one_if (is_option u) ≤ one_if o → m (item_of (present u)) ≤ m (over_type p f)
        → m u ≤ m w
    level-within o c u p f w e l h =
        let g : m w ≡ one_if o + suc (m (over_type p f)) =
        ap m (e ∙ over_type-level o c p f) ∙ of_level o c (over_type p f) in
        omega (arith, g, l, h, item-within u)

    -- the field's type is within that of the records
    pub field-within : (t u : DataType) → IsSimple t → ends_at_records t ≡ true
        → m u ≤ m (joined_type (list_depth t) t u)
    field-within unknown u s e = cc
    field-within (leaf p) u s e = cc
    field-within (rec ns ts) u s e = of_field ns (type_list ts) u
    field-within (tup ts) u s e = cc
    field-within (uni ts) u s e = cc
    field-within (var t) u s e =
        level-within (is_option u || false) (level_class true (var t ∷ u ∷ [])) u _ _ _ refl
        (let f = ap one_if (or-false (is_option u)) in omega (arith, f))
        (field-within t (item_of (present u)) s e)
    field-within (reg k t) u s e =
        level-within (is_option u || false) (level_class true (reg k t ∷ u ∷ [])) u _ _ _ refl
        (let f = ap one_if (or-false (is_option u)) in omega (arith, f))
        (field-within t (item_of (present u)) s e)
    field-within (opt unknown) u s e = cc
    field-within (opt (leaf p)) u s e = cc
    field-within (opt (rec ns ts)) u s e =
        omega (
          arith,
          of_field ns (type_list ts) u,
          of_option (rec (named n ns) (types_from (put n ns u (type_list ts)))),
        )
    field-within (opt (tup ts)) u s e = cc
    field-within (opt (opt t)) u s e = absurd cc
    field-within (opt (uni ts)) u s e = cc
    field-within (opt (var t)) u s e =
        level-within true (level_class true (opt (var t) ∷ u ∷ [])) u _ _ _ refl
        (omega (arith, one-few (is_option u))) (field-within t (item_of (present u)) s.1 e)
    field-within (opt (reg k t)) u s e =
        level-within true (level_class true (opt (reg k t) ∷ u ∷ [])) u _ _ _ refl
        (omega (arith, one-few (is_option u))) (field-within t (item_of (present u)) s.1 e)

  -- ---- the depth

  depth-list : (c : Class) (t : DataType) → depth (list_type c t) ≡ suc (depth t)
  depth-list None t = refl
  depth-list (Some k) t = refl

  record-depth : (ns : List Name) (ts : DataTypes) (u : DataType)
      → depth (rec (named n ns) (types_from (put n ns u (type_list ts))))
      ≡ suc (greatest (put n ns (depth u) (depths ts)))
  record-depth ns ts u =
      ap (λ ds. suc (greatest ds)) (depths-from (put n ns u (type_list ts))
      ∙ map-put depth n ns u (type_list ts) ∙ ap (put n ns (depth u)) (depths-list ts))

  level-depth : (o : Bool) (c : Class) (p f w : DataType) (d : ℕ)
      → w ≡ over_type (option_if o (list_type c p)) f → depth (over_type p f) ≡ d
      → depth w ≡ one_if o + suc d
  level-depth true c p f w d e h =
      let g = ap depth (e ∙ over_type-level true c p f) in
      omega (arith, g, depth-list c (over_type p f), h)
  level-depth false c p f w d e h =
      let g = ap depth (e ∙ over_type-level false c p f) in
      omega (arith, g, depth-list c (over_type p f), h)

  pub depth-joined : (t u : DataType) → IsSimple t → ends_at_records t ≡ true
      → depth (joined_type (list_depth t) t u) ≡ depth_over n false t u
  depth-joined unknown u s e = cc
  depth-joined (leaf p) u s e = cc
  depth-joined (rec ns ts) u s e = omega (arith, record-depth ns ts u)
  depth-joined (tup ts) u s e = cc
  depth-joined (uni ts) u s e = cc
  depth-joined (var t) u s e =
      level-depth (is_option u || false) (level_class true (var t ∷ u ∷ [])) _ _ _
      (depth_over n false t (item_of (present u))) refl
      (depth-joined t (item_of (present u)) s e)
      ∙ ap (λ b. one_if b + suc (depth_over n false t (item_of (present u))))
      (or-false (is_option u))
  depth-joined (reg k t) u s e =
      level-depth (is_option u || false) (level_class true (reg k t ∷ u ∷ [])) _ _ _
      (depth_over n false t (item_of (present u))) refl
      (depth-joined t (item_of (present u)) s e)
      ∙ ap (λ b. one_if b + suc (depth_over n false t (item_of (present u))))
      (or-false (is_option u))
  depth-joined (opt unknown) u s e = cc
  depth-joined (opt (leaf p)) u s e = cc
  depth-joined (opt (rec ns ts)) u s e = omega (arith, record-depth ns ts u)
  depth-joined (opt (tup ts)) u s e = cc
  depth-joined (opt (opt t)) u s e = absurd cc
  depth-joined (opt (uni ts)) u s e = cc
  depth-joined (opt (var t)) u s e =
      level-depth true (level_class true (opt (var t) ∷ u ∷ [])) _ _ _
      (depth_over n false t (item_of (present u))) refl
      (depth-joined t (item_of (present u)) s.1 e)
  depth-joined (opt (reg k t)) u s e =
      level-depth true (level_class true (opt (reg k t) ∷ u ∷ [])) _ _ _
      (depth_over n false t (item_of (present u))) refl
      (depth-joined t (item_of (present u)) s.1 e)

  -- ---- the nodes

  nodes-list : (c : Class) (t : DataType) → nodes (list_type c t) ≡ suc (nodes t)
  nodes-list None t = refl
  nodes-list (Some k) t = refl

  nodes-or : (b : Bool) (u t : DataType) (ts us : List DataType)
      → nodes u ≤ sum (nodes_each (types_from us))
      → nodes u ≤ sum (nodes_each (types_from (if b then u ∷ ts else t ∷ us)))
  nodes-or true u t ts us h = grind (arith, common_steps)
  nodes-or false u t ts us h = grind (arith, common_steps, h)

  nodes-put : (ns : List Name) (ts : List DataType) (u : DataType)
      → nodes u ≤ sum (nodes_each (types_from (put n ns u ts)))
  nodes-put [] ts u = grind (arith, common_steps)
  nodes-put (m ∷ ms) [] u = grind (arith, common_steps)
  nodes-put (m ∷ ms) (t ∷ ts) u =
      nodes-or (same_name m n) u t ts (put n ms u ts) (nodes-put ms ts u)

  pub nodes-within : (t u : DataType) → IsSimple t → ends_at_records t ≡ true
      → nodes u ≤ nodes (joined_type (list_depth t) t u)
  nodes-within t u s e =
      field-within nodes nodes-list (λ t. refl)
      (λ ns ts u. omega (arith, nodes-put ns ts u)) t u s e

  depth-put : (ns : List Name) (ts : List DataType) (u : DataType)
      → depth u ≤ depth (rec (named n ns) (types_from (put n ns u ts)))
  depth-put ns ts u =
      let f = ap greatest (depths-from (put n ns u ts) ∙ map-put depth n ns u ts) in
      let g = greatest-put n ns (depth u) (map depth ts) in
      omega (arith, f, g)

  pub depth-within : (t u : DataType) → IsSimple t → ends_at_records t ≡ true
      → depth u ≤ depth (joined_type (list_depth t) t u)
  depth-within t u s e = field-within depth depth-list (λ t. refl) depth-put t u s e

-- ---- limits

deep-by : (d : ℕ) (b : Bool) (f : Option Limit) → nat_lt 60 d ≡ b
    → (if b then Some depth_limit else f) ≡ Some depth_limit → (f ≡ Some depth_limit → ⊥) → 60 < d
deep-by d true f e h g = grind (arith, e)
deep-by d false f e h g = absurd (g h)

size-only : (b : Bool) → (if b then Some size_limit else None) ≡ Some depth_limit → ⊥
size-only true h = cc
size-only false h = cc

-- a type that passes the limit of depths
deep : (t : DataType) → limit t ≡ Some depth_limit → 60 < depth t
deep t h =
    deep-by (depth t) (nat_lt 60 (depth t)) _ refl h
    (size-only (nat_lt 65536 (nodes t) || nat_lt 127 (width t)))

too_deep : (t : DataType) → 60 < depth t → limit t ≡ Some depth_limit
too_deep t h =
    let e : nat_lt 60 (depth t) ≡ true = grind (arith, h) in
    ap (λ b. if b then Some depth_limit
    else if nat_lt 65536 (nodes t) || nat_lt 127 (width t) then Some size_limit else None) e

large-by : (a b w c d : Bool)
    → (if a then Some depth_limit else if b || w then Some size_limit else None) ≡ Some size_limit
    → (if c then Some depth_limit else if d || w then Some size_limit else None) ≡ None
    → b ≡ true
large-by true b w c d h k = cc
large-by false true w c d h k = refl
large-by false false true true d h k = cc
large-by false false true false true h k = cc
large-by false false true false false h k = cc
large-by false false false c d h k = cc

-- lists that pass the limit of sizes, where their items do not, have too many nodes
large-lists : (u : DataType) → limit (var u) ≡ Some size_limit → limit u ≡ None
    → 65536 < nodes (var u)
large-lists u h k =
    let e : nat_lt 65536 (nodes (var u)) ≡ true =
    large-by (nat_lt 60 (depth (var u))) (nat_lt 65536 (nodes (var u))) (nat_lt 127 (width u))
    (nat_lt 60 (depth u)) (nat_lt 65536 (nodes u)) h k in
    grind (arith, e)

too_large : (t : DataType) → 65536 < nodes t
    → limit t ≡ Some (if nat_lt 60 (depth t) then depth_limit else size_limit)
too_large t h =
    let e : nat_lt 65536 (nodes t) ≡ true = grind (arith, h) in
    ap (λ b. if nat_lt 60 (depth t) then Some depth_limit
    else if b || nat_lt 127 (width t) then Some size_limit else None) e
    ∙ by (nat_lt 60 (depth t))
  where
    by : (b : Bool) → (if b then Some depth_limit else Some size_limit)
        ≡ Some (if b then depth_limit else size_limit)
    by true = refl
    by false = refl

-- the limit of the result's type where the lists pass one
pub deep_result : (n : Name) (t u : DataType) → IsSimple t → ends_at_records t ≡ true
    → limit u ≡ Some depth_limit → limit (joined_type n (list_depth t) t u) ≡ Some depth_limit
deep_result n t u s e h =
    too_deep (joined_type n (list_depth t) t u)
    (omega (arith, deep u h, depth-within n t u s e))

pub large_result : (n : Name) (t u : DataType) → IsSimple t → ends_at_records t ≡ true
    → limit (var u) ≡ Some size_limit → limit u ≡ None
    → limit (joined_type n (list_depth t) t (var u))
    ≡ Some (if nat_lt 60 (depth_over n false t (var u)) then depth_limit else size_limit)
large_result n t u s e h k =
    too_large (joined_type n (list_depth t) t (var u))
    (omega (arith, large-lists u h k, nodes-within n t (var u) s e))
    ∙ ap (λ d. Some (if nat_lt 60 d then depth_limit else size_limit))
    (depth-joined n t (var u) s e)
