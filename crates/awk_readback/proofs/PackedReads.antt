-- The form of a packed array is read as the values, in every container that has its buffers.
use Rattle.std.proofs.Common.{◌≡◌, ◌<◌, ◌≤◌, ℕ, zero, suc, ◌+◌, List, [], ◌∷◌, ◌++◌, length, map}
use Rattle.std.proofs.Common.{drop, get_or, Some, None, refl, ap, ap₂, sym, subst, ◌∙◌, arith}
use Rattle.std.specs.Prelude.{filter}
use Rattle.std.specs.List.{AllByRecursion}
use Rattle.std.proofs.lemmas.List.{length-map, get_or-map}
use Rattle.awk_base.proofs.Every.{all-at}
use Rattle.awk_types.specs.DataType.{DataType, unknown, leaf, var, reg, rec, tup, opt, uni}
use Rattle.awk_types.specs.DataType.{DataTypes, no_types, type, greatest, nodes}
use Rattle.awk_types.specs.Value.{Value, null, value, values_from}
use Rattle.awk_types.specs.Has.{Has}
use Rattle.awk_types.specs.Limit.{width, widths}
use Rattle.awk_form.specs.FormTree as form
use Rattle.awk_form.specs.FormTree.{FormTrees}
use Rattle.awk_form.specs.Lawful.{count}
use Rattle.awk_form.specs.declared.kind.IndexKind.TheVariants.{I64}
use Rattle.awk_columns.specs.Columns.{joined_items, row_parts, part_at, is_present, tag_of}
use Rattle.awk_columns.specs.Columns.{alternative_values}
use Rattle.awk_columns.proofs.PresentItems.{present-have}
use Rattle.awk_pack.specs.Columns.{Placed, placed, placed_fields, placed_alternatives}
use Rattle.awk_pack.specs.PackedForm.{packed_form, packed_forms, node_key}
use Rattle.awk_pack.proofs.LawfulForms.{count-packed_forms, length-widths}
use Rattle.awk_valid.specs.Container.{Container}
use Rattle.awk_valid.specs.Needs.{content_length}
use Rattle.awk_valid.specs.Denote.{items_across, item_of}
use Rattle.awk_valid.proofs.PartLaws.{both_none}
use Rattle.awk_readback.proofs.ValueLists.{Reads, map-all}
use Rattle.awk_readback.proofs.ColumnTypes.{vars-have, regs-have, FieldsFrom}
use Rattle.awk_readback.proofs.ColumnTypes.{field-at, no-field, first-have, others-have, IsRowOf}
use Rattle.awk_readback.proofs.ColumnTypes.{tup-row, rec-row, tups-have, recs-have, AlternativeFrom}
use Rattle.awk_readback.proofs.ColumnTypes.{unis-have, unis-alternatives, uni-tag, alternative-have}
use Rattle.awk_readback.proofs.ColumnTypes.{later-have, none-left}
use Rattle.awk_readback.proofs.BufferParts.{HasNodes, HasFields, HasAlternatives, has-fields}
use Rattle.awk_readback.proofs.BufferParts.{has-alternatives}
use Rattle.awk_readback.proofs.LeafReads.{IsRead, unbroken-at, empty-node, leaves-node}
use Rattle.awk_readback.proofs.NodeReads.{AreUnbroken, lists-node, regulars-node, options-node}
use Rattle.awk_readback.proofs.NodeReads.{rows-node, unions-needs, unions-node}

-- ---- columns within the limit

-- no column has too many values
abbrev pub AllFit : List Placed → Type 0
AllFit ps = AllByRecursion (λ p. length p.values ≤ 1073741824) ps

all-fit-both : (ps qs : List Placed) → AllFit (ps ++ qs) → AllFit ps × AllFit qs
all-fit-both [] qs h = (tt, h)
all-fit-both (p ∷ ps) qs h =
    let others = all-fit-both ps qs h.1 in ((h.0, others.0), others.1)

fits : (t : DataType) (vs : List Value) → AllFit (placed t vs) → length vs ≤ 1073741824
fits unknown vs h = h.0
fits (leaf p) vs h = h.0
fits (var t) vs h = h.0
fits (reg n t) vs h = h.0
fits (rec ns ts) vs h = h.0
fits (tup ts) vs h = h.0
fits (opt t) vs h = h.0
fits (uni ts) vs h = h.0

-- ---- tags

tags-within : (k : ℕ) (ts : DataTypes) (vs : List Value) → AllByRecursion (Has (uni ts)) vs
    → AllByRecursion (λ v. tag_of v < count (packed_forms k ts)) vs
tags-within k ts vs h =
    map-all (Has (uni ts)) (λ v. tag_of v < count (packed_forms k ts))
    (λ v p. omega (arith, uni-tag ts v p, count-packed_forms k ts)) vs h

-- ---- contents that are read

-- those of the fields from place j on, of rows
abbrev FieldsRead : FormTrees → ℕ → Container → List Value → Type 0
FieldsRead fs j c rows =
    AreUnbroken fs (λ k. length rows) c
    × ((i : ℕ) → i < length rows
    → items_across fs c i ≡ values_from (drop j (row_parts (get_or rows i null))))

-- those of the alternatives from place j on
abbrev AlternativesRead : FormTrees → ℕ → Container → List Value → Type 0
AlternativesRead fs j c vs =
    ((lengths : ℕ → ℕ) → ((i : ℕ) → length (alternative_values (j + i) vs) ≡ lengths i)
    → AreUnbroken fs lengths c)
    × ((d : ℕ) → Reads (item_of fs c d) (alternative_values (j + d) vs))

no-alternative : (j : ℕ) (c : Container) (vs : List Value)
    → AllByRecursion (AlternativeFrom j no_types) vs → AlternativesRead form.no_forms j c vs
no-alternative j c vs h = (
  λ lengths e m. refl,
  λ d. subst (Reads (item_of form.no_forms c d)) (sym (none-left j (j + d) vs (omega arith) h))
      (λ i l. absurd (omega arith)),
)

one-field : (k j : ℕ) (t : DataType) (ts : DataTypes) (rows : List Value) (c : Container)
    → AllByRecursion (FieldsFrom j (type t ts)) rows
    → IsRead (packed_form k t) c (map (part_at j) rows)
    → FieldsRead (packed_forms (k + nodes t) ts) (suc j) c rows
    → FieldsRead (packed_forms k (type t ts)) j c rows
one-field k j t ts rows c h one others =
    let f = unbroken-at (packed_form k t) _ (length rows) c (length-map rows (part_at j)) one.0 in (
      λ m. both_none _ _ (f m) (others.0 _),
      λ i l.
          let parts =
          (field-at t ts (row_parts (get_or rows i null)) j
          (all-at (FieldsFrom j (type t ts)) rows i null h l)).2 in
          ap₂ value
          (one.1 i (omega (arith, length-map rows (part_at j))) ∙ get_or-map (part_at j) rows i null
          null l)
          (others.1 i l)
          ∙ ap values_from (sym parts),
    )

alternative-reads : (k j d : ℕ) (t : DataType) (ts : DataTypes) (vs : List Value) (c : Container)
    → IsRead (packed_form k t) c (alternative_values j vs)
    → AlternativesRead (packed_forms (k + nodes t) ts) (suc j) c vs
    → Reads (item_of (packed_forms k (type t ts)) c d) (alternative_values (j + d) vs)
alternative-reads k j zero t ts vs c one others =
    let e : j + 0 ≡ j = omega arith in rw e one.1
alternative-reads k j (suc d) t ts vs c one others =
    let e : j + suc d ≡ suc j + d = omega arith in rw e (others.1 d)

one-alternative : (k j : ℕ) (t : DataType) (ts : DataTypes) (vs : List Value) (c : Container)
    → IsRead (packed_form k t) c (alternative_values j vs)
    → AlternativesRead (packed_forms (k + nodes t) ts) (suc j) c vs
    → AlternativesRead (packed_forms k (type t ts)) j c vs
one-alternative k j t ts vs c one others = (
  λ lengths e m.
      let none : j + 0 ≡ j = omega arith in
      let own = unbroken-at (packed_form k t) _ (lengths 0) c (rw none at (e 0)) one.0 in
      let later =
      others.0 (λ i. lengths (suc i)) (λ i.
      let s : j + suc i ≡ suc j + i = omega arith in rw s at (e (suc i))) in
      both_none _ _ (own m) (later _),
  λ d. alternative-reads k j d t ts vs c one others,
)

-- ---- all types

mutual
  pub packed-reads : (k : ℕ) (t : DataType) (vs : List Value) (c : Container)
      → AllByRecursion (Has t) vs → AllFit (placed t vs) → width t ≤ 127 → HasNodes c k t vs
      → IsRead (packed_form k t) c vs
  packed-reads k unknown vs c h fit few b = empty-node (Some (node_key k)) vs c h
  packed-reads k (leaf p) vs c h fit few b = leaves-node (Some (node_key k)) p vs c h fit.0 b.0
  packed-reads k (var t) vs c h fit few b =
      let items = joined_items vs in
      lists-node (Some (node_key k)) (packed_form (suc k) t) t vs c h fit.0 (fits t items fit.1) b.0
      (packed-reads (suc k) t items c (vars-have t vs h) fit.1 few b.1)
  packed-reads k (reg n t) vs c h fit few b =
      regulars-node (Some (node_key k)) n (packed_form (suc k) t) t vs c h fit.0
      (packed-reads (suc k) t (joined_items vs) c (regs-have n t vs h) fit.1 few b)
  packed-reads k (rec ns ts) vs c h fit few b =
      let below = fields-read (suc k) 0 ts vs c (recs-have ns ts vs h) fit.1 few b in
      rows-node (Some (node_key k)) (Some ns) (packed_forms (suc k) ts) ts vs c
      (map-all (Has (rec ns ts)) (IsRowOf ts) (rec-row ns ts) vs h) fit.0 below.0 below.1
  packed-reads k (tup ts) vs c h fit few b =
      let below = fields-read (suc k) 0 ts vs c (tups-have ts vs h) fit.1 few b in
      rows-node (Some (node_key k)) None (packed_forms (suc k) ts) ts vs c
      (map-all (Has (tup ts)) (IsRowOf ts) (tup-row ts) vs h) fit.0 below.0 below.1
  packed-reads k (opt t) vs c h fit few b =
      let items = filter is_present vs in
      options-node (Some (node_key k)) (packed_form (suc k) t) vs c fit.0 b.0
      (packed-reads (suc k) t items c (present-have t vs h) fit.1 few b.1) (fits t items fit.1)
  packed-reads k (uni ts) vs c h fit few b =
      let fs = packed_forms (suc k) ts in
      let counted = count-packed_forms (suc k) ts in
      let are = unis-alternatives ts vs h in
      let within = tags-within (suc k) ts vs h in
      let several : count fs ≤ 127 = omega (arith, counted, length-widths ts) in
      let below =
      alternatives-read (suc k) 0 ts vs c (unis-have ts vs h) fit.1 (omega arith) b.1.1 in
      let needs = unions-needs (Some (node_key k)) fs vs c fit.0 are within several b.0 b.1.0 in
      unions-node (Some (node_key k)) fs vs c fit.0 are within several b.0 b.1.0
      (below.0 (content_length (form.union (Some (node_key k)) I64 fs) (length vs) c)
      (λ i. let z : 0 + i ≡ i = omega arith in rw z (needs i)))
      (λ d. let z : 0 + d ≡ d = omega arith in rw z at (below.1 d))

  fields-read : (k j : ℕ) (ts : DataTypes) (rows : List Value) (c : Container)
      → AllByRecursion (FieldsFrom j ts) rows → AllFit (placed_fields j ts rows)
      → greatest (widths ts) ≤ 127 → HasFields c k j ts rows
      → FieldsRead (packed_forms k ts) j c rows
  fields-read k j no_types rows c h fit few b = (
    λ m. refl,
    λ i l. ap values_from
        (sym
        (no-field (drop j (row_parts (get_or rows i null)))
        (all-at (FieldsFrom j no_types) rows i null h l))),
  )
  fields-read k j (type t ts) rows c h fit few b =
      let column = map (part_at j) rows in
      let apart = all-fit-both (placed t column) (placed_fields (suc j) ts rows) fit in
      let own = has-fields c k j t ts rows b in
      one-field k j t ts rows c h
      (packed-reads k t column c (first-have j t ts rows h) apart.0 (omega arith) own.0)
      (fields-read (k + nodes t) (suc j) ts rows c (others-have j t ts rows h) apart.1 (omega arith)
      own.1)

  alternatives-read : (k j : ℕ) (ts : DataTypes) (vs : List Value) (c : Container)
      → AllByRecursion (AlternativeFrom j ts) vs → AllFit (placed_alternatives j ts vs)
      → greatest (widths ts) ≤ 127 → HasAlternatives c k j ts vs
      → AlternativesRead (packed_forms k ts) j c vs
  alternatives-read k j no_types vs c h fit few b = no-alternative j c vs h
  alternatives-read k j (type t ts) vs c h fit few b =
      let column = alternative_values j vs in
      let apart = all-fit-both (placed t column) (placed_alternatives (suc j) ts vs) fit in
      let own = has-alternatives c k j t ts vs b in
      one-alternative k j t ts vs c
      (packed-reads k t column c (alternative-have j t ts vs h) apart.0 (omega arith) own.0)
      (alternatives-read (k + nodes t) (suc j) ts vs c (later-have j t ts vs h) apart.1
      (omega arith) own.1)
