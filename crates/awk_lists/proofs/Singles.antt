-- Single values as arrays of one item, and what is chosen of them.
use Rattle.std.proofs.Common.{◌≡◌, ◌∷◌, [], length, map, Ok, None, ap, ap₂, sym, ◌∙◌, subst}
use Rattle.awk_types.specs.Datum.{arr, one}
use Rattle.awk_types.specs.Gives.{refused_or}
use Rattle.awk_types.proofs.RefusalLaws.{refused_or-Ok}
use Rattle.awk_layout.specs.Layout.{Layout}
use Rattle.awk_layout.specs.Valid.{len}
use Rattle.awk_layout.specs.Datum.{IsDatum, first_item}
use Rattle.awk_layout.specs.declared.datum.Datum as code
use Rattle.awk_layout.specs.declared.datum.Datum.TheVariants.{One}
use Rattle.awk_layout.specs.Typing.{array_type, array_items, array_datum}
use Rattle.awk_layout.proofs.ArrayItems.{length-array_items, array_items-one}
use Rattle.awk_view.specs.Choice.{Choice, chosen_type, chosen_value}
use Rattle.awk_view.specs.Answer.{choice_fault, view_answer}
use Rattle.awk_lists.specs.WithoutField.{choice_of}

-- a datum that is a single value has one item
pub one_item : (d : code.Datum) (x : Layout) → d ≡ One x → IsDatum d → len x ≡ 1
one_item d x is h = subst IsDatum is h

-- ---- a choice of an array of one item

module _ (c : Choice) (x made : Layout) (single : len x ≡ 1)
    (given : view_answer c x ≡ Ok (array_datum made)) where
  kept : (choice_fault c (array_type x) ≡ None)
      × (arr (chosen_type c (array_type x)) (map (chosen_value c (array_type x)) (array_items x))
      ≡ array_datum made)
  kept = refused_or-Ok _ _ _ given

  chosen_items : chosen_value c (array_type x) (first_item x) ∷ [] ≡ array_items made
  chosen_items =
      let all : map (chosen_value c (array_type x)) (array_items x) ≡ array_items made =
      cc (kept.1) in
      ap (map (chosen_value c (array_type x))) (sym (array_items-one x single)) ∙ all

  -- is one of one item
  pub len-chosen : len made ≡ 1
  len-chosen = sym (length-array_items made) ∙ ap length (sym chosen_items)

  -- and it is what is chosen of the single value
  pub choice_of-one : choice_of c (one (array_type x) (first_item x))
      ≡ Ok (one (array_type made) (first_item made))
  choice_of-one =
      let typ : chosen_type c (array_type x) ≡ array_type made = cc (kept.1) in
      let items : chosen_value c (array_type x) (first_item x) ∷ [] ≡ first_item made ∷ [] =
      chosen_items ∙ array_items-one made len-chosen in
      let value : chosen_value c (array_type x) (first_item x) ≡ first_item made = cc (items) in
      ap (λ f. refused_or f
      (one (chosen_type c (array_type x)) (chosen_value c (array_type x) (first_item x)))) kept.0
      ∙ ap₂ (λ t v. Ok (one t v)) typ value
