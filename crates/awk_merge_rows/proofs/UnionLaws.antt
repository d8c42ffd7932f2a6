-- A union of the columns that the alternatives become.
use Rattle.std.proofs.Common.{◌≡◌, ◌<◌, ◌∷◌, [], ℕ, suc, zero, List, length, get_or, refl, ap, sym}
use Rattle.std.proofs.Common.{subst, ◌∙◌, arith}
use Rattle.std.proofs.lemmas.List.{ext_get_or}
use Rattle.awk_base.proofs.Every.{all-at}
use Rattle.awk_types.proofs.SimpleLaws.{present_alternatives_stay, union_of_stays}
use Rattle.awk_types.proofs.Trees.{type_list-from}
use Rattle.awk_types.specs.DataType.{DataType, uni, types_from}
use Rattle.awk_types.specs.Has.{Has, HasAlternative}
use Rattle.awk_types.specs.Parts.{IsSingle}
use Rattle.awk_types.specs.Simple.{ArePlain, simples, simple_values, union_of, value_after}
use Rattle.awk_types.specs.Simple.{value_by, alternatives_before}
use Rattle.awk_types.specs.Value.{Value, int, truth, null, list, row, alt}
use Rattle.awk_lanes.specs.Places.{size_of, place_at, IsIndexKind}
use Rattle.awk_layout.proofs.ArrayItems.{length-array_items, get_or-array_items}
use Rattle.awk_layout.specs.Array.{IsArrayType}
use Rattle.awk_layout.specs.Item.{item_of}
use Rattle.awk_layout.specs.Layout.{Layout, layouts_from, count, union}
use Rattle.awk_layout.specs.Typing.{layout_types, array_items}
use Rattle.awk_layout.specs.Valid.{len_of, IsUnion}
use Rattle.awk_merge_rows.proofs.AlternativeLaws.{alternative-single}
use Rattle.awk_layout.specs.Contents.{count-layouts_from}
use Rattle.awk_merge_sides.proofs.GroupLaws.{length-merged, length-groups}
use Rattle.awk_merge_sides.specs.Groups.{groups_of, AreMerged}
use Rattle.awk_merge_rows.specs.UnionLevels.{item_in, IsUnionLevel}
use Rattle.awk_merge_sides.specs.Sides.{Side, merged_items, IsMerged}
use Rattle.awk_merge_rows.specs.declared.unions.UnionLevel.{UnionLevel}

-- ---- the columns of the alternatives

merged-types : (ts : List DataType) (gs : List (List Side)) (ys : List Layout) → AreMerged ts gs ys
    → simples (layout_types (layouts_from ys)) ≡ ts
merged-types [] [] [] h = refl
merged-types (t ∷ ts) (g ∷ gs) (y ∷ ys) h =
    ap (λ u. u ∷ simples (layout_types (layouts_from ys))) h.0.typ
    ∙ ap (λ us. t ∷ us) (merged-types ts gs ys h.1)
merged-types [] [] (y ∷ ys) h = absurd h
merged-types [] (g ∷ gs) ys h = absurd h
merged-types (t ∷ ts) [] ys h = absurd h
merged-types (t ∷ ts) (g ∷ gs) [] h = absurd h

merged-len : (ts : List DataType) (gs : List (List Side)) (ys : List Layout) (k : ℕ)
    → AreMerged ts gs ys → len_of (layouts_from ys) k ≡ length (merged_items (get_or gs k []))
merged-len [] [] [] k h = refl
merged-len (t ∷ ts) (g ∷ gs) (y ∷ ys) zero h = sym (length-array_items y) ∙ ap length h.0.items
merged-len (t ∷ ts) (g ∷ gs) (y ∷ ys) (suc k) h = merged-len ts gs ys k h.1
merged-len [] [] (y ∷ ys) k h = absurd h
merged-len [] (g ∷ gs) ys k h = absurd h
merged-len (t ∷ ts) [] ys k h = absurd h
merged-len (t ∷ ts) (g ∷ gs) [] k h = absurd h

merged-value : (ts : List DataType) (gs : List (List Side)) (ys : List Layout) (k i : ℕ)
    → AreMerged ts gs ys → i < length (merged_items (get_or gs k []))
    → value_by (simple_values (layout_types (layouts_from ys))) k (item_of (layouts_from ys) k i)
    ≡ item_in gs k i
merged-value [] [] [] k i h l = absurd (omega (arith, l))
merged-value (t ∷ ts) (g ∷ gs) (y ∷ ys) zero i h l =
    sym (get_or-array_items y i (omega (arith, l, length-array_items y, ap length h.0.items)))
    ∙ ap (λ vs. get_or vs i null) h.0.items
merged-value (t ∷ ts) (g ∷ gs) (y ∷ ys) (suc k) i h l = merged-value ts gs ys k i h.1 l
merged-value [] [] (y ∷ ys) k i h l = absurd h
merged-value [] (g ∷ gs) ys k i h l = absurd h
merged-value (t ∷ ts) [] ys k i h l = absurd h
merged-value (t ∷ ts) (g ∷ gs) [] k i h l = absurd h

-- ---- a simple union

before-plain : (ts : List DataType) (k : ℕ) → ArePlain (types_from ts) → k < length ts
    → alternatives_before ts k ≡ k
before-plain [] k p h = absurd (omega (arith, h))
before-plain (t ∷ ts) zero p h = refl
before-plain (t ∷ ts) (suc k) p h =
    omega (
      arith,
      ap length (present_alternatives_stay t p.0 p.1),
      before-plain ts k p.3 (omega (arith, h)),
    )

after-single : (b : ℕ) (v : Value) → IsSingle v → value_after b v ≡ alt b v
after-single b (int z) s = refl
after-single b (truth x) s = refl
after-single b (list vs) s = refl
after-single b (row vs) s = refl
after-single b null s = absurd s
after-single b (alt k v) s = absurd s

-- an item of the union that is made
union-item : (ts : List DataType) (gs : List (List Side)) (ys : List Layout) (k i : ℕ)
    → ArePlain (types_from ts) → AreMerged ts gs ys → k < length ts
    → i < length (merged_items (get_or gs k [])) → IsSingle (item_in gs k i)
    → value_after (alternatives_before (simples (layout_types (layouts_from ys))) k)
    (value_by (simple_values (layout_types (layouts_from ys))) k (item_of (layouts_from ys) k i))
    ≡ alt k (item_in gs k i)
union-item ts gs ys k i p m h l s =
    let types = simples (layout_types (layouts_from ys)) in
    ap (value_after (alternatives_before types k)) (merged-value ts gs ys k i m l)
    ∙ ap (λ us. value_after (alternatives_before us k) (item_in gs k i)) (merged-types ts gs ys m)
    ∙ ap (λ b. value_after b (item_in gs k i)) (before-plain ts k p h)
    ∙ after-single k (item_in gs k i) s

-- ---- the laws

pub union_merged : (ts : List DataType) (ss : List Side) (r : UnionLevel) (ys : List Layout)
    → IsArrayType (uni (types_from ts)) → IsUnionLevel ts ss r
    → AreMerged ts (groups_of r.groups) ys
    → IsMerged (uni (types_from ts)) ss (union r.tags r.index (layouts_from ys))
union_merged ts ss r ys a u m = record {
  typ = ap union_of (merged-types ts gs ys m ∙ sym (type_list-from ts))
      ∙ union_of_stays (types_from ts) a.is_simple;
  items =
      ext_get_or null (array_items made) (merged_items ss) (length-array_items made ∙ sym u.size)
      (λ i l.
      let h : i < size_of r.tags = omega (arith, l, length-array_items made) in
      get_or-array_items made i h ∙ each i h ∙ sym (u.items i h));
}
  where
    gs : List (List Side)
    gs = groups_of r.groups

    made : Layout
    made = union r.tags r.index (layouts_from ys)

    each : (i : ℕ) → i < size_of r.tags
        → value_after (alternatives_before (simples (layout_types (layouts_from ys)))
        (place_at r.tags i)) (value_by (simple_values (layout_types (layouts_from ys)))
        (place_at r.tags i) (item_of (layouts_from ys) (place_at r.tags i) (place_at r.index i)))
        ≡ alt (place_at r.tags i) (item_in gs (place_at r.tags i) (place_at r.index i))
    each i h =
        let has : Has (uni (types_from ts)) (get_or (merged_items ss) i null)
        = all-at (Has (uni (types_from ts))) (merged_items ss) i null u.typed
        (omega (arith, h, u.size)) in
        let one : HasAlternative (types_from ts) (place_at r.tags i)
        (item_in gs (place_at r.tags i) (place_at r.index i))
        = subst (Has (uni (types_from ts))) (u.items i h) has in
        union-item ts gs ys (place_at r.tags i) (place_at r.index i) a.is_simple m
        (omega (arith, (u.tags i h).1, length-groups ts gs u.groups)) (u.places i h).1
        (alternative-single ts (place_at r.tags i) _ a.is_simple one)

-- what the node of a union asks for
pub union_merges : (ts : List DataType) (ss : List Side) (r : UnionLevel) (ys : List Layout)
    → IsArrayType (uni (types_from ts)) → IsUnionLevel ts ss r
    → AreMerged ts (groups_of r.groups) ys
    → IsUnion r.tags r.index (layouts_from ys)
union_merges ts ss r ys a u m = record {
  some = omega (arith, size, a.is_type.0, ap length (type_list-from ts));
  tag_kind = u.tag_kind;
  index_kind = subst IsIndexKind (sym u.index_kind) tt;
  same_size = u.same_size;
  tags = λ i h. (
    (u.tags i h).0,
    omega (arith, (u.tags i h).1, length-groups ts (groups_of r.groups) u.groups, size),
  );
  places = λ i h. (
    (u.places i h).0,
    omega (
      arith,
      (u.places i h).1,
      merged-len ts (groups_of r.groups) ys (place_at r.tags i) m,
    ),
  );
}
  where
    size : count (layouts_from ys) ≡ length ts
    size = count-layouts_from ys ∙ length-merged ts (groups_of r.groups) ys m
