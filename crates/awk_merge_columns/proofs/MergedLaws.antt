-- Columns merged: one alone, none, and rows by their type.
use Rattle.std.proofs.Common.{◌≡◌, ◌∷◌, [], ℕ, List, Option, Some, None, length, map, slice_get}
use Rattle.std.proofs.Common.{refl, ap, sym, subst, ◌∙◌, arith}
use Rattle.std.proofs.lemmas.List.{append-nil}
use Rattle.std.specs.List.{AllByRecursion}
use Rattle.awk_types.proofs.Trees.{type_list-from, types_from-list}
use Rattle.awk_types.specs.DataType.{DataType, Name, leaf, opt, rec, reg, row_type, tup, types_from}
use Rattle.awk_types.specs.DataType.{uni, unknown, var}
use Rattle.awk_types.specs.Has.{Has}
use Rattle.awk_types.specs.Parts.{IsRowType}
use Rattle.awk_types.specs.Simple.{simple_value}
use Rattle.awk_layout.specs.Array.{IsArrayType}
use Rattle.awk_layout.specs.Item.{item}
use Rattle.awk_layout.specs.Layout.{Layout, count, layouts_from, rows, union}
use Rattle.awk_layout.specs.Typing.{array_items, array_type, layout_type}
use Rattle.awk_layout.specs.Valid.{AllReach, AreNames, IsUnion}
use Rattle.awk_unify.specs.Carry.{carried, keep}
use Rattle.awk_unify.proofs.CarriedLaws.{map-keep}
use Rattle.awk_merge_rows.proofs.RowLaws.{merged_count, row_merged, row_reach}
use Rattle.awk_merge_sides.proofs.SideLaws.{IsSide-get, item_has}
use Rattle.awk_merge_columns.proofs.TypeParts.{alternatives_lawful, names_lawful, row_lawful}
use Rattle.awk_merge_rows.proofs.UnionLaws.{union_merged, union_merges}
use Rattle.awk_merge_sides.specs.Groups.{AreArrayTypes, AreGroups, AreMerged, groups_of}
use Rattle.awk_merge_rows.specs.RowLevels.{IsRowLevel, row_names, row_parts}
use Rattle.awk_merge_rows.specs.UnionLevels.{IsUnionLevel}
use Rattle.awk_merge_columns.specs.PartTypes.{part_types}
use Rattle.awk_merge_sides.specs.Sides.{AreSides, IsMerged, IsSide, Side, merged_items, side_items}
use Rattle.awk_merge_sides.specs.declared.groups.Groups.{Groups}
use Rattle.awk_merge_rows.specs.declared.unions.UnionLevel.{UnionLevel}

-- ---- one column, and none

-- the only column is all, where its values stay
pub only_merged : (t : DataType) (ss : List Side) (s : Side) → length ss ≡ 1
    → slice_get ss 0 ≡ Some s → s.carry ≡ keep → array_type s.column ≡ t → IsMerged t ss s.column
only_merged t [] s n e k h = cc
only_merged t (x ∷ []) s n e k h =
    let same : x ≡ s = cc in
    record {
      typ = h;
      items = sym
          (ap (λ y. merged_items (y ∷ [])) same ∙ append-nil (side_items s)
          ∙ ap (λ f. map (carried f) (array_items s.column)) k ∙ map-keep (array_items s.column));
    }
only_merged t (x ∷ y ∷ ss) s n e k h = absurd (omega (arith, n))

-- no column has an item of unknown type
pub none_unknown : (ss : List Side) (i : ℕ) (s : Side) → slice_get ss i ≡ Some s
    → AreSides unknown ss → AllByRecursion (Has (array_type s.column)) (array_items s.column) → ⊥
none_unknown ss i s e h k =
    let side : IsSide unknown s = IsSide-get unknown ss i s e h in
    side.values (simple_value (layout_type s.column) (item s.column 0))
    (item_has s.column 0 k side.some)

-- ---- rows by their type

row_type_is : (t : DataType) → IsRowType t → row_type (row_names t) (types_from (row_parts t)) ≡ t
row_type_is unknown h = absurd h
row_type_is (leaf p) h = absurd h
row_type_is (var t) h = absurd h
row_type_is (reg n t) h = absurd h
row_type_is (rec ns ts) h = ap (rec ns) (types_from-list ts)
row_type_is (tup ts) h = ap tup (types_from-list ts)
row_type_is (opt t) h = absurd h
row_type_is (uni ts) h = absurd h

-- the parts of a row are those of its type
row_part_types : (t : DataType) → IsRowType t → row_parts t ≡ part_types t
row_part_types unknown h = absurd h
row_part_types (leaf p) h = absurd h
row_part_types (var t) h = absurd h
row_part_types (reg n t) h = absurd h
row_part_types (rec ns ts) h = refl
row_part_types (tup ts) h = refl
row_part_types (opt t) h = absurd h
row_part_types (uni ts) h = absurd h

pub row_parts_lawful : (t : DataType) → IsRowType t → IsArrayType t → AreArrayTypes (part_types t)
row_parts_lawful t k h =
    subst AreArrayTypes (row_part_types t k)
    (row_lawful (row_names t) (row_parts t) (subst IsArrayType (sym (row_type_is t k)) h))

pub row_groups : (t : DataType) (ss : List Side) (r : Groups) → IsRowType t
    → IsRowLevel (row_parts t) ss r → AreGroups (part_types t) (groups_of r)
row_groups t ss r k l = subst (λ ts. AreGroups ts (groups_of r)) (row_part_types t k) l.groups

are_names : (names : Option (List Name)) (ts : List DataType) (n : ℕ)
    → IsArrayType (row_type names (types_from ts)) → n ≡ length ts → AreNames names n
are_names None ts n h e = tt
are_names (Some names) ts n h e =
    let d = names_lawful names ts h in
    (d.1 ∙ sym e, d.0)

made_rows : (t : DataType) (gs : List (List Side)) (ys : List Layout) → IsRowType t
    → AreMerged (part_types t) gs ys → AreMerged (row_parts t) gs ys
made_rows t gs ys k m = subst (λ ts. AreMerged ts gs ys) (sym (row_part_types t k)) m

-- what a node of rows asks for
pub rows_are_named : (t : DataType) (gs : List (List Side)) (ys : List Layout) → IsRowType t
    → IsArrayType t → AreMerged (part_types t) gs ys
    → AreNames (row_names t) (count (layouts_from ys))
rows_are_named t gs ys k h m =
    are_names (row_names t) (row_parts t) (count (layouts_from ys))
    (subst IsArrayType (sym (row_type_is t k)) h)
    (merged_count (row_parts t) gs ys (made_rows t gs ys k m))

pub rows_reach : (t : DataType) (ss : List Side) (n : ℕ) (r : Groups) (ys : List Layout)
    → IsRowType t → n ≡ length (merged_items ss) → IsRowLevel (row_parts t) ss r
    → AreMerged (part_types t) (groups_of r) ys → AllReach n (layouts_from ys)
rows_reach t ss n r ys k e l m =
    row_reach (row_parts t) ss n r ys e l (made_rows t (groups_of r) ys k m)

pub rows_merged : (t : DataType) (ss : List Side) (n : ℕ) (r : Groups) (ys : List Layout)
    (x : Layout) → IsRowType t → n ≡ length (merged_items ss) → IsRowLevel (row_parts t) ss r
    → AreMerged (part_types t) (groups_of r) ys → x ≡ rows (row_names t) n (layouts_from ys)
    → IsMerged t ss x
rows_merged t ss n r ys x k e l m made =
    subst (IsMerged t ss) (sym made)
    (subst (λ u. IsMerged u ss (rows (row_names t) n (layouts_from ys))) (row_type_is t k)
    (row_merged (row_names t) (row_parts t) ss n r ys e l (made_rows t (groups_of r) ys k m)))

-- ---- unions by their type

union_part_types : (t : DataType) (ts : List DataType) → t ≡ uni (types_from ts)
    → ts ≡ part_types t
union_part_types t ts e = sym (ap part_types e ∙ type_list-from ts)

pub union_parts_lawful : (t : DataType) (ts : List DataType) → t ≡ uni (types_from ts)
    → IsArrayType t → AreArrayTypes (part_types t)
union_parts_lawful t ts e h =
    subst AreArrayTypes (union_part_types t ts e) (alternatives_lawful ts (subst IsArrayType e h))

pub union_groups : (t : DataType) (ts : List DataType) (ss : List Side) (r : UnionLevel)
    → t ≡ uni (types_from ts) → IsUnionLevel ts ss r → AreGroups (part_types t) (groups_of r.groups)
union_groups t ts ss r e l =
    subst (λ us. AreGroups us (groups_of r.groups)) (union_part_types t ts e) l.groups

made_unions : (t : DataType) (ts : List DataType) (gs : List (List Side)) (ys : List Layout)
    → t ≡ uni (types_from ts) → AreMerged (part_types t) gs ys → AreMerged ts gs ys
made_unions t ts gs ys e m = subst (λ us. AreMerged us gs ys) (sym (union_part_types t ts e)) m

-- what a node of a union asks for
pub unions_valid : (t : DataType) (ts : List DataType) (ss : List Side) (r : UnionLevel)
    (ys : List Layout) → t ≡ uni (types_from ts) → IsArrayType t → IsUnionLevel ts ss r
    → AreMerged (part_types t) (groups_of r.groups) ys → IsUnion r.tags r.index (layouts_from ys)
unions_valid t ts ss r ys e h l m =
    union_merges ts ss r ys (subst IsArrayType e h) l (made_unions t ts (groups_of r.groups) ys e m)

pub unions_merged : (t : DataType) (ts : List DataType) (ss : List Side) (r : UnionLevel)
    (ys : List Layout) (x : Layout) → t ≡ uni (types_from ts) → IsArrayType t → IsUnionLevel ts ss r
    → AreMerged (part_types t) (groups_of r.groups) ys
    → x ≡ union r.tags r.index (layouts_from ys) → IsMerged t ss x
unions_merged t ts ss r ys x e h l m made =
    subst (IsMerged t ss) (sym made)
    (subst (λ u. IsMerged u ss (union r.tags r.index (layouts_from ys))) (sym e)
    (union_merged ts ss r ys (subst IsArrayType e h) l
    (made_unions t ts (groups_of r.groups) ys e m)))
