-- A node with contents that are read is read: nothing breaks, and its items are its values.
use Rattle.std.proofs.Common.{◌≡◌, ◌<◌, ◌≤◌, ℕ, suc, ◌+◌, ◌*◌, List, length, get_or, None, Option}
use Rattle.std.proofs.Common.{refl, ap, ap₂, sym, ◌∙◌, arith, add-one, codes, pos}
use Rattle.std.specs.Prelude.{filter}
use Rattle.std.specs.List.{AllByRecursion}
use Rattle.awk_base.proofs.Every.{all-at}
use Rattle.awk_types.specs.DataType.{Name, DataType, DataTypes, var, reg}
use Rattle.awk_types.specs.Parts.{IsAlternative}
use Rattle.awk_types.specs.Value.{Value, null, list, row, values_from}
use Rattle.awk_types.specs.Has.{Has}
use Rattle.awk_lanes.specs.declared.kind.Kind.TheVariants as kind
use Rattle.awk_lanes.specs.Places.{option_place}
use Rattle.awk_layout.specs.Item.{at_option}
use Rattle.awk_form.specs.FormTree as form
use Rattle.awk_form.specs.FormTree.{FormTree, FormTrees}
use Rattle.awk_form.specs.Lawful.{count}
use Rattle.awk_form.specs.declared.kind.IndexKind.TheVariants.{I64}
use Rattle.awk_columns.specs.Columns.{list_items, joined_items, is_present, tag_of}
use Rattle.awk_columns.specs.Columns.{alternative_values, offsets, option_index, tags, union_index}
use Rattle.awk_columns.specs.Columns.{row_parts}
use Rattle.awk_columns.proofs.PresentItems.{length-option_index}
use Rattle.awk_valid.specs.Container.{Container, index_num, int8_num}
use Rattle.awk_valid.specs.Needs.{reach, behind, behind_at, content_length}
use Rattle.awk_valid.specs.Broken.{size_break, list_rule, tag_rule, rule_break, all_broken_from}
use Rattle.awk_valid.specs.Denote.{between, item, items_across, item_of}
use Rattle.awk_valid.proofs.SearchLaws.{rule_break-clear}
use Rattle.awk_readback.proofs.IndexLanes.{length-offsets, offsets-held, offsets-rule}
use Rattle.awk_readback.proofs.IndexLanes.{option_index-held, length-tags, tags-held}
use Rattle.awk_readback.proofs.IndexLanes.{length-union_index, union_index-held, union_index-rule}
use Rattle.awk_valid.proofs.PartLaws.{both_none}
use Rattle.awk_readback.proofs.IndexNeeds.{offsets-needs, option_index-needs, union_index-needs}
use Rattle.awk_readback.proofs.ValueLists.{Reads, map-all}
use Rattle.awk_readback.proofs.ColumnTypes.{IsRowOf, var-list, reg-list, regs-length}
use Rattle.awk_readback.proofs.ColumnItems.{lists-read, blocks-read, options-read, alternative_by}
use Rattle.awk_readback.proofs.ColumnItems.{unions-read}
use Rattle.awk_readback.proofs.BufferParts.{HasLane, num-read, bytes-well, size-well}
use Rattle.awk_readback.proofs.LeafReads.{IsUnbroken, IsRead, unbroken-at}

-- ---- lists

module _ (key : Option Name) (f : FormTree) (t : DataType) (vs : List Value) (c : Container)
    (h : AllByRecursion (Has (var t)) vs) (small : length vs ≤ 1073741824)
    (inside : length (joined_items vs) ≤ 1073741824)
    (e : HasLane c key (codes "offsets") kind.I64 (offsets 0 vs))
    (below : IsRead f c (joined_items vs)) where
  offset : (i : ℕ) → i < suc (length vs)
      → index_num c key (codes "offsets") I64 i ≡ get_or (offsets 0 vs) i (pos 0)
  offset i l =
      num-read c key (codes "offsets") kind.I64 (offsets 0 vs) i e
      (offsets-held 0 vs (omega arith)) (omega (arith, length-offsets 0 vs))

  next_offset : (i : ℕ) → i < length vs
      → index_num c key (codes "offsets") I64 (i + 1) ≡ get_or (offsets 0 vs) (suc i) (pos 0)
  next_offset i l =
      let s : i + 1 ≡ suc i = add-one i in rw s (offset (suc i) (omega arith))

  lists-needs : length (joined_items vs)
      ≡ content_length (form.list_offset key I64 f) (length vs) c 0
  lists-needs =
      sym (offsets-needs vs _ (λ j l. ap₂ reach (offset j (omega arith)) (next_offset j l)))

  lists-rule : (m : ℕ)
      → rule_break m (length vs) (λ i. list_rule (index_num c key (codes "offsets") I64 i)
      (index_num c key (codes "offsets") I64 (i + 1)))
      ≡ None
  lists-rule m =
      rule_break-clear m (length vs) _ (λ i l.
      ap₂ list_rule (offset i (omega arith)) (next_offset i l) ∙ offsets-rule 0 vs i l)

  lists-unbroken : IsUnbroken (form.list_offset key I64 f) (length vs) c
  lists-unbroken m =
      let n : (length vs + 1) * 8 ≡ length (offsets 0 vs) * 8 =
      let one : length vs + 1 ≡ length (offsets 0 vs) = omega (arith, length-offsets 0 vs) in
      ap (λ k. k * 8) one in
      let bytes = bytes-well c key (codes "offsets") kind.I64 _ (offsets 0 vs) e n in
      let own = unbroken-at f _ _ c lists-needs below.0 in
      both_none _ _
      (both_none (size_break (length vs)) _ (size-well (length vs) small)
      (both_none _ _ (both_none _ None bytes refl) (lists-rule m))) (own (m + 1))

  pub lists-node : IsRead (form.list_offset key I64 f) c vs
  lists-node = (
    lists-unbroken,
    λ i l. ap list
        (ap₂ (between (item f c)) (offset i (omega arith)) (next_offset i l)
        ∙ lists-read (item f c) vs i below.1 l)
        ∙ (var-list t (get_or vs i null) (all-at (Has (var t)) vs i null h l)).0,
  )

-- ---- lists of one size

pub regulars-node : (key : Option Name) (size : ℕ) (f : FormTree) (t : DataType) (vs : List Value)
    (c : Container) → AllByRecursion (Has (reg size t)) vs → length vs ≤ 1073741824
    → IsRead f c (joined_items vs) → IsRead (form.regular key size f) c vs
regulars-node key size f t vs c h small below =
    let own = unbroken-at f _ (length vs * size) c (regs-length size t vs h) below.0 in
    let sizes =
    map-all (Has (reg size t)) (λ v. length (list_items v) ≡ size) (λ v x. (reg-list size t v x).1)
    vs h in (
      λ m. both_none _ _
          (both_none (size_break (length vs)) _ (size-well (length vs) small) refl) (own (m + 1)),
      λ i l. ap list (blocks-read (item f c) size vs i sizes below.1 l)
          ∙ (reg-list size t (get_or vs i null) (all-at (Has (reg size t)) vs i null h l)).0.0,
    )

-- ---- options

module _ (key : Option Name) (f : FormTree) (vs : List Value) (c : Container)
    (small : length vs ≤ 1073741824)
    (e : HasLane c key (codes "index") kind.I64 (option_index 0 vs))
    (below : IsRead f c (filter is_present vs))
    (inside : length (filter is_present vs) ≤ 1073741824) where
  place : (i : ℕ) → i < length vs
      → index_num c key (codes "index") I64 i ≡ get_or (option_index 0 vs) i (pos 0)
  place i l =
      num-read c key (codes "index") kind.I64 (option_index 0 vs) i e
      (option_index-held 0 vs (omega arith)) (omega (arith, length-option_index 0 vs))

  options-needs : length (filter is_present vs)
      ≡ content_length (form.indexed_option key I64 f) (length vs) c 0
  options-needs = sym (option_index-needs vs _ (λ j l. ap behind (place j l)))

  options-unbroken : IsUnbroken (form.indexed_option key I64 f) (length vs) c
  options-unbroken m =
      let n : length vs * 8 ≡ length (option_index 0 vs) * 8 =
      ap (λ k. k * 8) (sym (length-option_index 0 vs)) in
      let bytes = bytes-well c key (codes "index") kind.I64 _ (option_index 0 vs) e n in
      let own = unbroken-at f _ _ c options-needs below.0 in
      both_none _ _
      (both_none (size_break (length vs)) _ (size-well (length vs) small)
      (both_none _ None (both_none _ None bytes refl) refl)) (own (m + 1))

  pub options-node : IsRead (form.indexed_option key I64 f) c vs
  options-node = (
    options-unbroken,
    λ i l. ap (λ z. at_option (option_place z) (item f c)) (place i l)
        ∙ options-read (item f c) vs i below.1 l,
  )

-- ---- rows

-- nothing breaks in contents that have these lengths
abbrev pub AreUnbroken : FormTrees → (ℕ → ℕ) → Container → Type 0
AreUnbroken fs lengths c = (m : ℕ) → all_broken_from fs m lengths c ≡ None

pub rows-node : (key : Option Name) (names : Option (List Name)) (fs : FormTrees) (ts : DataTypes)
    (vs : List Value) (c : Container) → AllByRecursion (IsRowOf ts) vs → length vs ≤ 1073741824
    → AreUnbroken fs (λ k. length vs) c
    → ((i : ℕ) → i < length vs
    → items_across fs c i ≡ values_from (row_parts (get_or vs i null)))
    → IsRead (form.row key names fs) c vs
rows-node key names fs ts vs c h small below parts = (
  λ m. both_none _ _
      (both_none (size_break (length vs)) _ (size-well (length vs) small) refl) (below (m + 1)),
  λ i l. ap row (parts i l) ∙ (all-at (IsRowOf ts) vs i null h l).0,
)

-- ---- unions

module _ (key : Option Name) (fs : FormTrees) (vs : List Value) (c : Container)
    (small : length vs ≤ 1073741824) (are : AllByRecursion IsAlternative vs)
    (within : AllByRecursion (λ v. tag_of v < count fs) vs) (few : count fs ≤ 127)
    (d : HasLane c key (codes "tags") kind.I8 (tags vs))
    (e : HasLane c key (codes "index") kind.I64 (union_index (λ k. 0) vs)) where
  tag : (i : ℕ) → i < length vs
      → int8_num c key (codes "tags") i ≡ get_or (tags vs) i (pos 0)
  tag i l =
      num-read c key (codes "tags") kind.I8 (tags vs) i d
      (tags-held vs
      (map-all (λ v. tag_of v < count fs) (λ v. tag_of v < 128) (λ v p. omega arith) vs within))
      (omega (arith, length-tags vs))

  tagged_place : (i : ℕ) → i < length vs
      → index_num c key (codes "index") I64 i ≡ get_or (union_index (λ k. 0) vs) i (pos 0)
  tagged_place i l =
      num-read c key (codes "index") kind.I64 (union_index (λ k. 0) vs) i e
      (union_index-held (λ k. 0) vs (λ k. omega arith))
      (omega (arith, length-union_index (λ k. 0) vs))

  pub unions-needs : (k : ℕ)
      → length (alternative_values k vs)
      ≡ content_length (form.union key I64 fs) (length vs) c k
  unions-needs k =
      sym (union_index-needs k vs _ are (λ j l. ap₂ (behind_at k) (tag j l) (tagged_place j l)))

  unions-rule : (m : ℕ)
      → rule_break m (length vs) (λ i. tag_rule (count fs) (int8_num c key (codes "tags") i)
      (index_num c key (codes "index") I64 i))
      ≡ None
  unions-rule m =
      rule_break-clear m (length vs) _ (λ i l.
      ap₂ (tag_rule (count fs)) (tag i l) (tagged_place i l)
      ∙ union_index-rule (count fs) (λ k. 0) vs i within l)

  unions-unbroken : AreUnbroken fs (content_length (form.union key I64 fs) (length vs) c) c
      → IsUnbroken (form.union key I64 fs) (length vs) c
  unions-unbroken below m =
      let n : length vs ≡ length (tags vs) * 1 = omega (arith, length-tags vs) in
      let l : length vs * 8 ≡ length (union_index (λ k. 0) vs) * 8 =
      ap (λ k. k * 8) (sym (length-union_index (λ k. 0) vs)) in
      let tag-bytes = bytes-well c key (codes "tags") kind.I8 _ (tags vs) d n in
      let bytes = bytes-well c key (codes "index") kind.I64 _ (union_index (λ k. 0) vs) e l in
      both_none _ _
      (both_none (size_break (length vs)) _ (size-well (length vs) small)
      (both_none _ _ (both_none _ _ tag-bytes (both_none _ None bytes refl)) (unions-rule m)))
      (below (m + 1))

  pub unions-node : AreUnbroken fs (content_length (form.union key I64 fs) (length vs) c) c
      → ((k : ℕ) → Reads (item_of fs c k) (alternative_values k vs))
      → IsRead (form.union key I64 fs) c vs
  unions-node below reads = (
    unions-unbroken below,
    λ i l. ap₂ (alternative_by (item_of fs c)) (tag i l) (tagged_place i l)
        ∙ unions-read (item_of fs c) vs i are reads l,
  )
