-- What zipping answers, by its parts.
use Rattle.std.proofs.Common.{◌≡◌, ℕ, ◌-◌, Bool, true, false, not, refl, ap, ap₂, sym, ◌∙◌}
use Rattle.std.specs.Prelude.{List, length, filter, get_or, nat_lt, Option, Some, None, Ok, Err}
use Rattle.std.specs.Prelude.{if◌then◌else◌}
use Rattle.awk_types.specs.DataType.{Name, DataType, unknown, leaf, var, reg, rec, tup, opt, uni}
use Rattle.awk_types.specs.DataType.{row_type, types_from}
use Rattle.awk_types.specs.Datum.{Datum, arr, one}
use Rattle.awk_types.specs.Faults.{limit_refused}
use Rattle.awk_types.specs.Gives.{Told, refused_or, ◌or◌}
use Rattle.awk_types.specs.ItemLimit.{item_limit, too_many}
use Rattle.awk_types.specs.Value.{Value, null}
use Rattle.awk_types.specs.declared.fault.Fault.{Fault}
use Rattle.awk_types.specs.declared.fault.Fault.TheVariants.{Size, WrongType}
use Rattle.awk_types.proofs.RefusalLaws.{Told-first, Told-other, or-None, or-both, refused_or-None}
use Rattle.awk_types.proofs.RefusalLaws.{refused_or-Err, refused_or-Ok}
use Rattle.awk_layout.specs.Datum.{datum_of, IsDatum}
use Rattle.awk_layout.specs.Layout.{Layout}
use Rattle.awk_layout.specs.Typing.{array_type, array_items}
use Rattle.awk_layout.specs.Valid.{len}
use Rattle.awk_layout.specs.declared.datum.Datum.TheVariants.{Arr, One}
use Rattle.awk_layout.proofs.ArrayItems.{length-array_items, array_items-one}
use Rattle.awk_columns.specs.Columns.{joined_items, is_present}
use Rattle.awk_frames.specs.Sizes.{levels_refused, sizes_refused}
use Rattle.awk_pair_operands.specs.Answer.{single_or_fault}
use Rattle.awk_pair_operands.specs.Pairs.{below, datum_from, leaf_types, lengths_refused}
use Rattle.awk_pair_operands.specs.Pairs.{pair_refused, pair_type, some_array, type_refused, typs}
use Rattle.awk_pair_types.proofs.DepthLaws.{never_wrong}
use Rattle.awk_zip.specs.Counted.{lists_refused}
use Rattle.awk_zip.specs.Zip.{zip_of, zip_refused, zip_sizes, zip_type, zip_values}
use Rattle.awk_zip.proofs.SizeLaws.{shared_counted}

-- ---- refusals

or-more : (f g h : Option Fault) (x : Fault) → (g ≡ Some x → h ≡ Some x) → f or g ≡ Some x
    → f or h ≡ Some x
or-more None g h x e q = e q
or-more (Some f) g h x e q = q

size-by : (b : Bool) (o : Option Fault) (f : Fault) → (o ≡ Some f → f ≡ Size)
    → (if b then Some Size else None) or o ≡ Some f → f ≡ Size
size-by true o f e h = cc
size-by false o f e h = e h

-- lists of a level are refused for their size alone
levels-size : (t : DataType) (vs : List Value) (f : Fault) → levels_refused t vs ≡ Some f
    → f ≡ Size
levels-size (var t) vs f h =
    size-by (nat_lt item_limit (length (joined_items vs))) (levels_refused t (joined_items vs)) f
    (levels-size t (joined_items vs) f) h
levels-size (reg n t) vs f h =
    size-by (nat_lt item_limit (length (joined_items vs))) (levels_refused t (joined_items vs)) f
    (levels-size t (joined_items vs) f) h
levels-size (opt t) vs f h = levels-size t (filter is_present vs) f h
levels-size unknown vs f h = cc
levels-size (leaf p) vs f h = cc
levels-size (rec ns ts) vs f h = cc
levels-size (tup ts) vs f h = cc
levels-size (uni ts) vs f h = cc

module _ (d : ℕ) (names : Option (List Name)) (ds : List Datum) where
  -- ---- faults

  pub told_type : (o : Option Fault)
      → Told o (refused_or (limit_refused (zip_type d names ds)) (zip_type d names ds))
      → Told o (zip_of d names ds)
  told_type o h =
      let made = datum_from (some_array ds) (zip_type d names ds) (zip_values d ds) in
      Told-first o (limit_refused (zip_type d names ds))
      (lengths_refused false (Some d) ds or zip_sizes d names ds) made made
      (Told-other o (limit_refused (zip_type d names ds)) (zip_type d names ds) made h)

  levels-counted : (f : Fault)
      → levels_refused (pair_type false (Some d) ds) (zip_values d ds) ≡ Some f
      → lists_refused (below (Some d) ds) (zip_type d names ds) (zip_values d ds) ≡ Some f
  levels-counted f h =
      let e = levels-size (pair_type false (Some d) ds) (zip_values d ds) f h in
      shared_counted false (below (Some d) ds) (typs ds)
      (row_type names (types_from (leaf_types (Some d) ds))) (zip_values d ds)
      (h ∙ ap (λ x. Some x) e) ∙ ap (λ x. Some x) (sym e)

  no-type : type_refused (Some d) ds ≡ None
  no-type = ap (λ b. if b then Some WrongType else None) (never_wrong d ds)

  -- what refuses the pairing refuses the rows
  pairs-refused : (f : Fault) → pair_refused false (Some d) ds ≡ Some f
      → lengths_refused false (Some d) ds or zip_sizes d names ds ≡ Some f
  pairs-refused f h =
      let sizes = sizes_refused (pair_type false (Some d) ds) (zip_values d ds) in
      let lists = lists_refused (below (Some d) ds) (zip_type d names ds) (zip_values d ds) in
      or-more (lengths_refused false (Some d) ds) sizes (zip_sizes d names ds) f
      (or-more (too_many (length (zip_values d ds)))
      (levels_refused (pair_type false (Some d) ds) (zip_values d ds)) lists f (levels-counted f))
      (sym (or-None (type_refused (Some d) ds) (lengths_refused false (Some d) ds or sizes)
      no-type) ∙ h)

  pub told_pair : (o : Option Fault) → limit_refused (zip_type d names ds) ≡ None
      → Told o (single_or_fault false (Some d) ds) → Told o (zip_of d names ds)
  told_pair None l h = tt
  told_pair (Some f) l h =
      ap (λ r. refused_or r (datum_from (some_array ds) (zip_type d names ds) (zip_values d ds)))
      (or-None (limit_refused (zip_type d names ds))
      (lengths_refused false (Some d) ds or zip_sizes d names ds) l
      ∙ pairs-refused f (refused_or-Err (pair_refused false (Some d) ds) (not (some_array ds)) f h))

  -- ---- what is zipped, where at most the lists inside it are too many

  pub record IsZipped (single : Bool) (y : Layout) : Type 0 where
    pub limit : limit_refused (zip_type d names ds) ≡ None
    pub paired : pair_refused false (Some d) ds ≡ None
    pub is_single : not (some_array ds) ≡ single
    pub typ : array_type y ≡ zip_type d names ds
    pub items : array_items y ≡ zip_values d ds

  pub is_zipped : (single : Bool) (t : DataType) (y node : Layout) → y ≡ node
      → refused_or (limit_refused (zip_type d names ds)) (zip_type d names ds) ≡ Ok t
      → single_or_fault false (Some d) ds ≡ Ok single → array_type node ≡ zip_type d names ds
      → array_items node ≡ zip_values d ds → IsZipped single y
  is_zipped single t y node is limit_said pair_said typ_is items_are =
      let l = refused_or-Ok (limit_refused (zip_type d names ds)) (zip_type d names ds) t
      limit_said in
      let p = refused_or-Ok (pair_refused false (Some d) ds) (not (some_array ds)) single
      pair_said in
      record {
        limit = l.0;
        paired = p.0;
        is_single = p.1;
        typ = ap array_type is ∙ typ_is;
        items = ap array_items is ∙ items_are;
      }

  refused : (single : Bool) (y : Layout) → IsZipped single y
      → zip_refused d names ds
      ≡ lists_refused (below (Some d) ds) (zip_type d names ds) (zip_values d ds)
  refused single y h =
      let sizes = sizes_refused (pair_type false (Some d) ds) (zip_values d ds) in
      let lists = lists_refused (below (Some d) ds) (zip_type d names ds) (zip_values d ds) in
      let a = or-both (type_refused (Some d) ds) (lengths_refused false (Some d) ds or sizes)
      h.paired in
      let b = or-both (lengths_refused false (Some d) ds) sizes a.1 in
      let e = or-both (too_many (length (zip_values d ds)))
      (levels_refused (pair_type false (Some d) ds) (zip_values d ds)) b.1 in
      or-None (limit_refused (zip_type d names ds))
      (lengths_refused false (Some d) ds or zip_sizes d names ds) h.limit
      ∙ or-None (lengths_refused false (Some d) ds) (zip_sizes d names ds) b.0
      ∙ or-None (too_many (length (zip_values d ds))) lists e.0

  levels-below : (b single : Bool) → some_array ds ≡ b → not b ≡ single
      → (if single then d else d - 1) ≡ below (Some d) ds
  levels-below true true e h = absurd cc
  levels-below true false e h = sym (ap (λ c. if c then d - 1 else d) e)
  levels-below false true e h = sym (ap (λ c. if c then d - 1 else d) e)
  levels-below false false e h = absurd cc

  -- the lists inside that are counted
  counted : (single : Bool) (n : ℕ) (y : Layout) (f : Option Fault) → IsZipped single y
      → n ≡ (if single then d else d - 1) → lists_refused n (array_type y) (array_items y) ≡ f
      → zip_refused d names ds ≡ f
  counted single n y f h e r =
      refused single y h
      ∙ ap₂ (lists_refused (below (Some d) ds)) (sym h.typ) (sym h.items)
      ∙ ap (λ k. lists_refused k (array_type y) (array_items y))
      (sym (e ∙ levels-below (some_array ds) single refl h.is_single)) ∙ r

  pub told_large : (single : Bool) (n : ℕ) (y : Layout) → IsZipped single y
      → n ≡ (if single then d else d - 1)
      → lists_refused n (array_type y) (array_items y) ≡ Some Size
      → zip_of d names ds ≡ Err Size
  told_large single n y h e r =
      ap (λ f. refused_or f (datum_from (some_array ds) (zip_type d names ds) (zip_values d ds)))
      (counted single n y (Some Size) h e r)

  -- ---- the result

  values-one : some_array ds ≡ false → length (zip_values d ds) ≡ 1
  values-one e = rw e refl

  size-one : (single : Bool) (y : Layout) → IsZipped single y → some_array ds ≡ false
      → len y ≡ 1
  size-one single y h e = sym (length-array_items y) ∙ ap length h.items ∙ values-one e

  pub datum_made : (single : Bool) (y : Layout) → IsZipped single y
      → IsDatum (if single then One y else Arr y)
  datum_made single y h = by (some_array ds) refl single h.is_single
    where
      by : (b : Bool) → some_array ds ≡ b → (s : Bool) → not b ≡ s
          → IsDatum (if s then One y else Arr y)
      by true e true k = absurd cc
      by true e false k = tt
      by false e true k = size-one single y h e
      by false e false k = absurd cc

  pub made : (single : Bool) (n : ℕ) (y : Layout) → IsZipped single y
      → n ≡ (if single then d else d - 1)
      → lists_refused n (array_type y) (array_items y) ≡ None
      → zip_of d names ds ≡ Ok (datum_of (if single then One y else Arr y))
  made single n y h e r =
      refused_or-None (zip_refused d names ds)
      (datum_from (some_array ds) (zip_type d names ds) (zip_values d ds))
      (datum_of (if single then One y else Arr y)) (counted single n y None h e r)
      (sym (by (some_array ds) refl single h.is_single))
    where
      by : (b : Bool) → some_array ds ≡ b → (s : Bool) → not b ≡ s
          → datum_of (if s then One y else Arr y)
          ≡ datum_from b (zip_type d names ds) (zip_values d ds)
      by true e true k = absurd cc
      by true e false k = ap₂ arr h.typ h.items
      by false e true k =
          ap₂ one h.typ (ap (λ vs. get_or vs 0 null)
          (sym (array_items-one y (size-one single y h e)) ∙ h.items))
      by false e false k = absurd cc
