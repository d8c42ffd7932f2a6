-- What an operation at the leaves answers, by its parts.
use Rattle.std.proofs.Common.{◌≡◌, Bool, false, not, sym, ◌∙◌}
use Rattle.std.specs.Prelude.{List, map, Option, None, Result, Ok, if◌then◌else◌}
use Rattle.std.proofs.lemmas.List.{length-map}
use Rattle.awk_types.specs.Datum.{Datum}
use Rattle.awk_types.specs.Faults.{limit_refused}
use Rattle.awk_types.specs.Gives.{Told, refused_or, ◌or◌}
use Rattle.awk_types.specs.Value.{Value}
use Rattle.awk_types.specs.declared.fault.Fault.{Fault}
use Rattle.awk_types.specs.declared.primitive.Primitive.{Primitive}
use Rattle.awk_types.proofs.RefusalLaws.{Told-first, Told-later, Told-other, or-None}
use Rattle.awk_types.proofs.RefusalLaws.{refused_or-None}
use Rattle.awk_layout.specs.Datum.{datum_of, IsDatum}
use Rattle.awk_layout.specs.Layout.{Layout}
use Rattle.awk_layout.specs.Typing.{array_type, array_items}
use Rattle.awk_layout.specs.declared.datum.Datum.TheVariants.{Arr, One}
use Rattle.awk_frames.specs.Framed.{over}
use Rattle.awk_pair_operands.specs.Answer.{single_or_fault, shared_ends}
use Rattle.awk_pair_operands.specs.Pairs.{pair_refused, pair_type, pair_values, some_array}
use Rattle.awk_pair_operands.specs.Pairs.{datum_from}
use Rattle.awk_ends.proofs.DatumLaws.{IsMade, values-one, datum_shown, datum_made as single_made}
use Rattle.awk_arith.specs.AtLeaves.{result_type, first_fault, value_or_null, row_values}
use Rattle.awk_arith.specs.AtLeaves.{leaves_refused, at_leaves}

module _ (p : Primitive) (f : Value → Result Value Fault) (ds : List Datum) where
  -- ---- faults

  pub told_type : (o : Option Fault)
      → Told o (refused_or (limit_refused (result_type p ds)) (result_type p ds))
      → Told o (at_leaves p f ds)
  told_type o h =
      Told-first o (limit_refused (result_type p ds))
      (pair_refused false None ds or first_fault (map f (shared_ends false None ds)))
      (datum_from (some_array ds) (result_type p ds) (row_values f ds)) (datum_from (some_array ds)
      (result_type p ds) (row_values f ds))
      (Told-other o (limit_refused (result_type p ds)) (result_type p ds)
      (datum_from (some_array ds) (result_type p ds) (row_values f ds)) h)

  pub told_pair : (o : Option Fault) → limit_refused (result_type p ds) ≡ None
      → Told o (single_or_fault false None ds) → Told o (at_leaves p f ds)
  told_pair o e h =
      let made = datum_from (some_array ds) (result_type p ds) (row_values f ds) in
      let rest = first_fault (map f (shared_ends false None ds)) in
      Told-later o (limit_refused (result_type p ds)) (pair_refused false None ds or rest) made made
      e (Told-first o (pair_refused false None ds) rest made made
      (Told-other o (pair_refused false None ds) (not (some_array ds)) made h))

  pub told_leaves : (o : Option Fault) (vs : List Value)
      → limit_refused (result_type p ds) ≡ None → pair_refused false None ds ≡ None
      → Told o (refused_or (first_fault (map f (shared_ends false None ds))) vs)
      → Told o (at_leaves p f ds)
  told_leaves o vs e k h =
      let made = datum_from (some_array ds) (result_type p ds) (row_values f ds) in
      let rest = first_fault (map f (shared_ends false None ds)) in
      Told-later o (limit_refused (result_type p ds)) (pair_refused false None ds or rest) made made
      e (Told-later o (pair_refused false None ds) rest made made k
      (Told-other o rest vs made h))

  -- ---- the result

  pub record IsResult (single : Bool) (y : Layout) : Type 0 where
    pub limit : limit_refused (result_type p ds) ≡ None
    pub paired : pair_refused false None ds ≡ None
    pub leaves : first_fault (map f (shared_ends false None ds)) ≡ None
    pub is_single : not (some_array ds) ≡ single
    pub typ : array_type y ≡ result_type p ds
    pub items : array_items y ≡ row_values f ds

  made_so : (single : Bool) (y : Layout) → IsResult single y
      → IsMade (result_type p ds) (row_values f ds) ds single y
  made_so single y h = record {
    is_single = h.is_single;
    one_value = λ e. length-map (pair_values false None ds)
        (over (pair_type false None ds) (λ v. value_or_null (f v))) ∙ values-one None ds e;
    typ = h.typ;
    items = h.items;
  }

  pub datum_made : (single : Bool) (y : Layout) → IsResult single y
      → IsDatum (if single then One y else Arr y)
  datum_made single y h =
      single_made (result_type p ds) (row_values f ds) ds single y (made_so single y h)

  pub made : (single : Bool) (y : Layout) → IsResult single y
      → at_leaves p f ds ≡ Ok (datum_of (if single then One y else Arr y))
  made single y h =
      refused_or-None (leaves_refused p f ds)
      (datum_from (some_array ds) (result_type p ds) (row_values f ds))
      (datum_of (if single then One y else Arr y))
      (or-None (limit_refused (result_type p ds))
      (pair_refused false None ds or first_fault (map f (shared_ends false None ds))) h.limit
      ∙ or-None (pair_refused false None ds)
      (first_fault (map f (shared_ends false None ds))) h.paired ∙ h.leaves)
      (sym (datum_shown (result_type p ds) (row_values f ds) ds single y (made_so single y h)))
