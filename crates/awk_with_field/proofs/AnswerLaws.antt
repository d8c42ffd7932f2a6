-- What joining two data answers, by its parts.
use Rattle.std.proofs.Common.{◌≡◌, ℕ, Bool, true, false, not, refl, ap, ap₂, sym, ◌∙◌}
use Rattle.std.specs.Prelude.{List, length, get_or, Option, Some, None, Ok, if◌then◌else◌}
use Rattle.std.proofs.lemmas.List.{length-map}
use Rattle.awk_types.specs.DataType.{Name}
use Rattle.awk_types.specs.Datum.{Datum, arr, one}
use Rattle.awk_types.specs.Faults.{limit_refused}
use Rattle.awk_types.specs.Gives.{Told, refused_or, ◌or◌}
use Rattle.awk_types.specs.Parts.{names_of_fields}
use Rattle.awk_types.specs.Simple.{present}
use Rattle.awk_types.specs.Value.{null}
use Rattle.awk_types.specs.declared.fault.Fault.{Fault}
use Rattle.awk_types.specs.declared.fault.Fault.TheVariants.{WrongType}
use Rattle.awk_types.proofs.RefusalLaws.{Told-first, Told-later, Told-other, or-None}
use Rattle.awk_types.proofs.RefusalLaws.{refused_or-None}
use Rattle.awk_layout.specs.Datum.{datum_of, IsDatum}
use Rattle.awk_layout.specs.Layout.{Layout}
use Rattle.awk_layout.specs.Typing.{array_type, array_items}
use Rattle.awk_layout.specs.Valid.{len}
use Rattle.awk_layout.specs.declared.datum.Datum.TheVariants.{Arr, One}
use Rattle.awk_layout.proofs.ArrayItems.{length-array_items, array_items-one}
use Rattle.awk_frames.specs.Framed.{over}
use Rattle.awk_pair_operands.specs.Answer.{single_or_fault}
use Rattle.awk_pair_operands.specs.Pairs.{pair_refused, pair_type, pair_values, some_array}
use Rattle.awk_pair_operands.specs.Pairs.{datum_from}
use Rattle.awk_put_field.specs.Field.{end_value}
use Rattle.awk_with_field.specs.WithField.{end_of, is_wrong, with_type, with_values}
use Rattle.awk_with_field.specs.WithField.{with_refused, with_field_at}

-- single values are paired to one
values-one : (d : ℕ) (ds : List Datum) → some_array ds ≡ false
    → length (pair_values true (Some d) ds) ≡ 1
values-one d ds e = rw e refl

pub wrong-none : (b : Bool) → b ≡ false → (if b then Some WrongType else None) ≡ None
wrong-none b e = ap (λ c. if c then Some WrongType else None) e

module _ (n : Name) (d : ℕ) (ds : List Datum) (right : is_wrong d ds ≡ false) where
  -- ---- faults

  pub told_type : (o : Option Fault)
      → Told o (refused_or (limit_refused (with_type n d ds)) (with_type n d ds))
      → Told o (with_field_at n d ds)
  told_type o h =
      let made = datum_from (some_array ds) (with_type n d ds) (with_values n d ds) in
      let rest = pair_refused true (Some d) ds in
      Told-later o (if is_wrong d ds then Some WrongType else None)
      (limit_refused (with_type n d ds) or rest) made made (wrong-none (is_wrong d ds) right)
      (Told-first o (limit_refused (with_type n d ds)) rest (with_type n d ds) made h)

  pub told_pair : (o : Option Fault) → limit_refused (with_type n d ds) ≡ None
      → Told o (single_or_fault true (Some d) ds) → Told o (with_field_at n d ds)
  told_pair o e h =
      let made = datum_from (some_array ds) (with_type n d ds) (with_values n d ds) in
      let rest = pair_refused true (Some d) ds in
      Told-later o (if is_wrong d ds then Some WrongType else None)
      (limit_refused (with_type n d ds) or rest) made made (wrong-none (is_wrong d ds) right)
      (Told-later o (limit_refused (with_type n d ds)) rest made made e
      (Told-other o rest (not (some_array ds)) made h))

  -- ---- the result

  pub record IsResult (single : Bool) (y : Layout) : Type 0 where
    pub limit : limit_refused (with_type n d ds) ≡ None
    pub paired : pair_refused true (Some d) ds ≡ None
    pub is_single : not (some_array ds) ≡ single
    pub typ : array_type y ≡ with_type n d ds
    pub items : array_items y ≡ with_values n d ds

  size-one : (single : Bool) (y : Layout) → IsResult single y → some_array ds ≡ false → len y ≡ 1
  size-one single y h e =
      sym (length-array_items y) ∙ ap length h.items
      ∙ length-map (pair_values true (Some d) ds)
      (over (pair_type true (Some d) ds) (end_value n (names_of_fields (present (end_of 0 d ds)))))
      ∙ values-one d ds e

  pub datum_made : (single : Bool) (y : Layout) → IsResult single y
      → IsDatum (if single then One y else Arr y)
  datum_made single y h = by (some_array ds) refl single h.is_single
    where
      by : (b : Bool) → some_array ds ≡ b → (s : Bool) → not b ≡ s
          → IsDatum (if s then One y else Arr y)
      by true e true k = absurd cc
      by true e false k = tt
      by false e true k = size-one single y h e
      by false e false k = absurd cc

  pub made : (single : Bool) (y : Layout) → IsResult single y
      → with_field_at n d ds ≡ Ok (datum_of (if single then One y else Arr y))
  made single y h =
      refused_or-None (with_refused n d ds)
      (datum_from (some_array ds) (with_type n d ds) (with_values n d ds))
      (datum_of (if single then One y else Arr y))
      (or-None (if is_wrong d ds then Some WrongType else None)
      (limit_refused (with_type n d ds) or pair_refused true (Some d) ds)
      (wrong-none (is_wrong d ds) right)
      ∙ or-None (limit_refused (with_type n d ds)) (pair_refused true (Some d) ds) h.limit
      ∙ h.paired)
      (sym (by (some_array ds) refl single h.is_single))
    where
      by : (b : Bool) → some_array ds ≡ b → (s : Bool) → not b ≡ s
          → datum_of (if s then One y else Arr y)
          ≡ datum_from b (with_type n d ds) (with_values n d ds)
      by true e true k = absurd cc
      by true e false k = ap₂ arr h.typ h.items
      by false e true k =
          ap₂ one h.typ (ap (λ vs. get_or vs 0 null)
          (sym (array_items-one y (size-one single y h e)) ∙ h.items))
      by false e false k = absurd cc
