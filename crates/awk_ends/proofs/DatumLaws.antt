-- Results as an array, or as the single value that it holds.
use Rattle.std.proofs.Common.{◌≡◌, ℕ, Bool, true, false, not, refl, ap, ap₂, sym, ◌∙◌}
use Rattle.std.specs.Prelude.{List, length, get_or, Option, if◌then◌else◌}
use Rattle.awk_types.specs.DataType.{DataType}
use Rattle.awk_types.specs.Datum.{Datum, arr, one}
use Rattle.awk_types.specs.Value.{Value, null}
use Rattle.awk_layout.specs.Datum.{datum_of, IsDatum}
use Rattle.awk_layout.specs.Layout.{Layout}
use Rattle.awk_layout.specs.Typing.{array_type, array_items}
use Rattle.awk_layout.specs.Valid.{len}
use Rattle.awk_layout.specs.declared.datum.Datum.TheVariants.{Arr, One}
use Rattle.awk_layout.proofs.ArrayItems.{length-array_items, array_items-one}
use Rattle.awk_pair_operands.specs.Pairs.{pair_values, some_array, datum_from}

-- single values are paired to one
pub values-one : (d : Option ℕ) (ds : List Datum) → some_array ds ≡ false
    → length (pair_values false d ds) ≡ 1
values-one d ds e = rw e refl

-- a node with the type and the values of a result
pub record IsMade (t : DataType) (vs : List Value) (ds : List Datum) (single : Bool)
    (y : Layout) : Type 0 where
  pub is_single : not (some_array ds) ≡ single
  pub one_value : some_array ds ≡ false → length vs ≡ 1
  pub typ : array_type y ≡ t
  pub items : array_items y ≡ vs

module _ (t : DataType) (vs : List Value) (ds : List Datum) (single : Bool) (y : Layout)
    (h : IsMade t vs ds single y) where
  size-one : some_array ds ≡ false → len y ≡ 1
  size-one e = sym (length-array_items y) ∙ ap length h.items ∙ h.one_value e

  pub datum_made : IsDatum (if single then One y else Arr y)
  datum_made = by (some_array ds) refl single h.is_single
    where
      by : (b : Bool) → some_array ds ≡ b → (s : Bool) → not b ≡ s
          → IsDatum (if s then One y else Arr y)
      by true e true k = absurd cc
      by true e false k = tt
      by false e true k = size-one e
      by false e false k = absurd cc

  pub datum_shown : datum_of (if single then One y else Arr y) ≡ datum_from (some_array ds) t vs
  datum_shown = by (some_array ds) refl single h.is_single
    where
      by : (b : Bool) → some_array ds ≡ b → (s : Bool) → not b ≡ s
          → datum_of (if s then One y else Arr y) ≡ datum_from b t vs
      by true e true k = absurd cc
      by true e false k = ap₂ arr h.typ h.items
      by false e true k =
          ap₂ one h.typ (ap (λ us. get_or us 0 null)
          (sym (array_items-one y (size-one e)) ∙ h.items))
      by false e false k = absurd cc
