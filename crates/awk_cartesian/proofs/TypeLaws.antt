-- The types of operands one by one, and what operands are of which there are types.
use Rattle.std.specs.Prelude.{◌≡◌, refl, ℕ, ◌+◌, ◌≤◌, Bool, true, false, ◌||◌, List, [], ◌∷◌, ◌++◌}
use Rattle.std.specs.Prelude.{length, map, drop, Option, Some, None, is_some, option_map}
use Rattle.std.specs.List.{AllByRecursion, slice_get, list_any}
use Rattle.std.proofs.Common.{ap, ap₂, sym, ◌∙◌, subst, append_assoc}
use Rattle.std.proofs.lemmas.List.{append-nil, drop_all}
use Rattle.awk_types.specs.DataType.{DataType, types_from}
use Rattle.awk_types.specs.Simple.{IsSimple, AreSimple}
use Rattle.awk_base.proofs.Lists.{drop-get}
use Rattle.awk_types.proofs.SimpleLaws.{simple_append}
use Rattle.awk_layout.specs.Datum.{datum_of}
use Rattle.awk_layout.specs.declared.datum.Datum.{Datum}
use Rattle.awk_layout.specs.declared.datum.Datum.TheVariants.{Arr, One}
use Rattle.awk_combi.specs.Combinations.{slot_type}
use Rattle.awk_unify.specs.FieldNames.{with_type}
use Rattle.awk_merge_operands.specs.Concatenate.{operand_items}
use Rattle.awk_merge_operands.specs.Operands.{column_in}
use Rattle.awk_merge_operands.specs.declared.operands.Axis.{Axis}
use Rattle.awk_cartesian.specs.Cartesian.{operand_item, item_types, has_null_rows}
use Rattle.awk_cartesian.specs.Sources.{IsListed}

-- ---- the types one by one

module _ (axis : Axis) (places : Bool) (ds : List Datum) where
  abbrev all_types : Option (List DataType)
  all_types = option_map (map (slot_type places)) (item_types axis (map datum_of ds))

  -- the types of the first operands, and what the others have
  abbrev pub AreFirst : ℕ → List DataType → Type 0
  AreFirst j us = option_map (λ ts. us ++ map (slot_type places) ts)
      (item_types axis (map datum_of (drop j ds)))
      ≡ all_types

  pub types_next : (j : ℕ) (d : Datum) (t : DataType) (us ws : List DataType)
      → slice_get ds j ≡ Some d → Some t ≡ operand_item axis (datum_of d)
      → ws ≡ us ++ slot_type places t ∷ [] → AreFirst j us → AreFirst (j + 1) ws
  types_next j d t us ws e f g h =
      let rest : Option (List DataType) = item_types axis (map datum_of (drop (j + 1) ds)) in
      go rest
      ∙ ap (λ o. option_map (λ ts. us ++ map (slot_type places) ts) (with_type o rest)) f
      ∙ sym (ap (λ xs. option_map (λ ts. us ++ map (slot_type places) ts)
      (item_types axis (map datum_of xs))) (drop-get ds j d e)) ∙ h
    where
      go : (o : Option (List DataType))
          → option_map (λ ts. ws ++ map (slot_type places) ts) o
          ≡ option_map (λ ts. us ++ map (slot_type places) ts) (with_type (Some t) o)
      go None = refl
      go (Some ts) =
          ap Some (ap (λ vs. vs ++ map (slot_type places) ts) g
          ∙ append_assoc us (slot_type places t ∷ []) (map (slot_type places) ts))

  pub types_none : (j : ℕ) (d : Datum) (us : List DataType) → slice_get ds j ≡ Some d
      → None ≡ operand_item axis (datum_of d) → AreFirst j us → None ≡ all_types
  types_none j d us e f h =
      let rest : Option (List DataType) = item_types axis (map datum_of (drop (j + 1) ds)) in
      ap (λ o. option_map (λ ts. us ++ map (slot_type places) ts) (with_type o rest)) f
      ∙ sym (ap (λ xs. option_map (λ ts. us ++ map (slot_type places) ts)
      (item_types axis (map datum_of xs))) (drop-get ds j d e)) ∙ h

  pub types_last : (j : ℕ) (us : List DataType) → length ds ≤ j → AreFirst j us
      → Some us ≡ all_types
  types_last j us l h =
      ap Some (sym (append-nil us))
      ∙ sym (ap (λ xs. option_map (λ ts. us ++ map (slot_type places) ts)
      (item_types axis (map datum_of xs))) (drop_all j ds l)) ∙ h

-- ---- simple types

slot_simple : (places : Bool) (t : DataType) → IsSimple t → IsSimple (slot_type places t)
slot_simple true t h = tt
slot_simple false t h = h

pub simple_more : (places : Bool) (t : DataType) (us ws : List DataType)
    → ws ≡ us ++ slot_type places t ∷ [] → IsSimple t → AreSimple (types_from us)
    → AreSimple (types_from ws)
simple_more places t us ws e h k =
    subst (λ ts. AreSimple (types_from ts)) (sym e)
    (simple_append us (slot_type places t ∷ []) k (slot_simple places t h, tt))

-- ---- whether rows may be null, one operand after another

pub nulls_next : (ds : List Datum) (j : ℕ) (d : Datum) (all : Bool) → slice_get ds j ≡ Some d
    → has_null_rows (datum_of d) ≡ false
    → list_any has_null_rows (map datum_of (drop j ds)) ≡ all
    → list_any has_null_rows (map datum_of (drop (j + 1) ds)) ≡ all
nulls_next ds j d all e f h =
    sym (ap (λ xs. list_any has_null_rows (map datum_of xs)) (drop-get ds j d e)
    ∙ ap (λ b. b || list_any has_null_rows (map datum_of (drop (j + 1) ds))) f) ∙ h

pub nulls_found : (ds : List Datum) (j : ℕ) (d : Datum) (all : Bool) → slice_get ds j ≡ Some d
    → has_null_rows (datum_of d) ≡ true
    → list_any has_null_rows (map datum_of (drop j ds)) ≡ all → true ≡ all
nulls_found ds j d all e f h =
    sym (ap (λ xs. list_any has_null_rows (map datum_of xs)) (drop-get ds j d e)
    ∙ ap (λ b. b || list_any has_null_rows (map datum_of (drop (j + 1) ds))) f) ∙ h

pub nulls_last : (ds : List Datum) (j : ℕ) (all : Bool) → length ds ≤ j
    → list_any has_null_rows (map datum_of (drop j ds)) ≡ all → false ≡ all
nulls_last ds j all l h =
    sym (ap (λ xs. list_any has_null_rows (map datum_of xs)) (drop_all j ds l)) ∙ h

-- ---- where all have types

pub record IsBefore (t : Option DataType) (ts : Option (List DataType)) : Type 0 where
  pub first : DataType
  pub rest : List DataType
  pub first_is : t ≡ Some first
  pub rest_is : ts ≡ Some rest

before_is : (t : Option DataType) (ts : Option (List DataType)) (us : List DataType)
    → with_type t ts ≡ Some us → IsBefore t ts
before_is None ts us e = absurd (cc)
before_is (Some t) None us e = absurd (cc)
before_is (Some t) (Some ts) us e =
    record { first = t; rest = ts; first_is = refl; rest_is = refl }

pub all_listed : (axis : Axis) (ds : List Datum) (ts : List DataType)
    → item_types axis (map datum_of ds) ≡ Some ts → AllByRecursion (IsListed axis) ds
all_listed axis [] ts e = tt
all_listed axis (d ∷ ds) ts e =
    let b = before_is (operand_item axis (datum_of d)) (item_types axis (map datum_of ds)) ts e in
    (ap is_some b.first_is, all_listed axis ds b.rest b.rest_is)

operand_column : (axis : Axis) (d : Datum) (t : DataType)
    → operand_item axis (datum_of d) ≡ Some t → operand_items (datum_of d) ≡ column_in d
operand_column axis (Arr x) t e = refl
operand_column axis (One x) t e = absurd (cc)

pub operand_columns : (axis : Axis) (ds : List Datum) (ts : List DataType)
    → item_types axis (map datum_of ds) ≡ Some ts
    → map operand_items (map datum_of ds) ≡ map column_in ds
operand_columns axis [] ts e = refl
operand_columns axis (d ∷ ds) ts e =
    let b = before_is (operand_item axis (datum_of d)) (item_types axis (map datum_of ds)) ts e in
    ap₂ (λ vs vss. vs ∷ vss) (operand_column axis d b.first b.first_is)
    (operand_columns axis ds b.rest b.rest_is)
