-- What a choice answers in a primitive, where all ends are leaves.
use Rattle.std.proofs.Common.{◌≡◌, Bool, true, false, not, ap, ap₂, sym, subst, ◌∙◌}
use Rattle.std.specs.Prelude.{List, map, length, Option, Result, Ok, Err, if◌then◌else◌}
use Rattle.std.proofs.lemmas.List.{length-map}
use Rattle.awk_types.specs.DataType.{DataType, leaf}
use Rattle.awk_types.specs.Datum.{Datum, datum_type}
use Rattle.awk_types.specs.Faults.{limit_refused}
use Rattle.awk_types.specs.Gives.{Told, refused_or, ◌or◌}
use Rattle.awk_types.specs.Simple.{option_if}
use Rattle.awk_types.specs.Value.{Value}
use Rattle.awk_types.specs.declared.fault.Fault.{Fault}
use Rattle.awk_types.specs.declared.primitive.Primitive.{Primitive}
use Rattle.awk_types.proofs.RefusalLaws.{Told-later, Told-other, refused_or-Ok, refused_or-None}
use Rattle.awk_types.proofs.RefusalLaws.{or-None}
use Rattle.awk_columns.specs.Parts.{AreParts}
use Rattle.awk_layout.specs.Datum.{datum_of}
use Rattle.awk_layout.specs.Filler.{filler_of}
use Rattle.awk_layout.specs.Layout.{Layout}
use Rattle.awk_layout.specs.Typing.{array_type, array_items}
use Rattle.awk_layout.specs.Valid.{len}
use Rattle.awk_layout.specs.declared.datum.Datum.TheVariants.{Arr, One}
use Rattle.awk_layout.specs.declared.datum.Operand.{Operand}
use Rattle.awk_layout.proofs.ArrayItems.{length-array_items}
use Rattle.awk_leaves.specs.Table.{choice_judged}
use Rattle.awk_leaves.specs.declared.leaf_type.LeafType.{LeafType}
use Rattle.awk_frames.specs.Framed.{over, over_type}
use Rattle.awk_pair_operands.specs.Answer.{single_or_fault, shared_ends}
use Rattle.awk_pair_operands.specs.Pairs.{pair_refused, pair_type, pair_values, some_array}
use Rattle.awk_pair_operands.specs.Pairs.{datum_from, leaf_types}
use Rattle.awk_pair_sides.specs.Levels.{some_option}
use Rattle.awk_pair_types.proofs.EmptyLaws.{none_told}
use Rattle.awk_ends.specs.Operands.{leaf_in, in_primitive, leaf_of}
use Rattle.awk_ends.proofs.DatumLaws.{IsMade, values-one, datum_shown}
use Rattle.awk_choose.specs.Choice.{far, choice_data, are_leaves, choice_row, end_type, result_type}
use Rattle.awk_choose.specs.Choice.{result_values, chosen_in, judged_choice}
use Rattle.awk_choose.specs.Ends.{columns_judged, columns_said}
use Rattle.awk_choose.proofs.EndLaws.{AreGiven, pair-given, given-judged, given-said}

-- operands whose types are judged to give a primitive, in a type that passes no limit
pub record IsJudged (c : Datum) (a b : Operand) (ds : List Datum) (p : Primitive) (t : DataType)
    : Type 0 where
  pub given : ds ≡ choice_data c (filler_of a) (filler_of b)
  pub leaves : are_leaves ds ≡ true
  pub judged : choice_judged (leaf_in (datum_type c)) (leaf_of (filler_of a))
      (leaf_of (filler_of b)) ≡ Ok p
  pub limit : refused_or (limit_refused (result_type p ds)) (result_type p ds) ≡ Ok t

judged-as : (c : Datum) (a b : Operand) (p : Primitive) (x y z : LeafType)
    → x ≡ leaf_in (datum_type c) → y ≡ leaf_of (filler_of a) → z ≡ leaf_of (filler_of b)
    → Ok p ≡ choice_judged x y z
    → choice_judged (leaf_in (datum_type c)) (leaf_of (filler_of a)) (leaf_of (filler_of b)) ≡ Ok p
judged-as c a b p x y z e f g h =
    ap (λ x. choice_judged x (leaf_of (filler_of a)) (leaf_of (filler_of b))) (sym e)
    ∙ ap₂ (choice_judged x) (sym f) (sym g) ∙ sym h

pub type-as : (ds : List Datum) (p : Primitive) (o : Bool) (ts : List DataType)
    → o ≡ some_option ts → ts ≡ leaf_types far ds
    → over_type (pair_type false far ds) (option_if o (leaf p)) ≡ result_type p ds
type-as ds p o ts e f =
    ap (λ o. over_type (pair_type false far ds) (option_if o (leaf p)))
    (e ∙ ap (λ ts. some_option ts) f)

pub is_judged : (c : Datum) (a b : Operand) (ds : List Datum) (p : Primitive) (t : DataType)
    → ds ≡ choice_data c (filler_of a) (filler_of b) → are_leaves ds ≡ true → (x y z : LeafType)
    → x ≡ leaf_in (datum_type c) → y ≡ leaf_of (filler_of a) → z ≡ leaf_of (filler_of b)
    → Ok p ≡ choice_judged x y z → (o : Bool) (ts : List DataType) → o ≡ some_option ts
    → ts ≡ leaf_types far ds
    → refused_or (limit_refused (over_type (pair_type false far ds) (option_if o (leaf p))))
    (over_type (pair_type false far ds) (option_if o (leaf p))) ≡ Ok t
    → IsJudged c a b ds p t
is_judged c a b ds p t given leaves x y z e f g h o ts i j l = record {
  given = given;
  leaves = leaves;
  judged = judged-as c a b p x y z e f g h;
  limit = subst (λ u. refused_or (limit_refused u) u ≡ Ok t) (type-as ds p o ts i j) l;
}

ok-same : {A F : Type 0} (r : Result A F) (x y : A) → r ≡ Ok x → r ≡ Ok y → x ≡ y
ok-same (Ok z) x y e f = let a : z ≡ x = cc in let b : z ≡ y = cc in sym a ∙ b
ok-same (Err z) x y e f = absurd cc

module _ (c : Datum) (a b : Operand) (ds : List Datum) (p : Primitive) (t : DataType)
    (h : IsJudged c a b ds p t) where
  abbrev typ : DataType
  typ = result_type p ds

  abbrev values : List Value
  values = result_values (filler_of a) (filler_of b) ds

  abbrev ends : List Value
  ends = shared_ends false far ds

  abbrev whole : Datum
  whole = datum_from (some_array ds) typ values

  abbrev row : Value → Value
  row = choice_row (filler_of a) (filler_of b)

  in_it : judged_choice c (filler_of a) (filler_of b)
      ≡ chosen_in (filler_of a) (filler_of b) ds p
  in_it =
      ap (λ j. in_primitive j (chosen_in (filler_of a) (filler_of b)
      (choice_data c (filler_of a) (filler_of b)))) h.judged
      ∙ ap (λ ds. chosen_in (filler_of a) (filler_of b) ds p) (sym h.given)

  pub told_paired : (o : Option Fault) → Told o (single_or_fault false far ds)
      → Told o (judged_choice c (filler_of a) (filler_of b))
  told_paired o k =
      subst (Told o) (sym in_it)
      (Told-later o (limit_refused typ) (pair_refused false far ds) whole whole
      (refused_or-Ok (limit_refused typ) typ t h.limit).0
      (Told-other o (pair_refused false far ds) (not (some_array ds)) whole k))

  -- ---- the ends

  pub columns : (ys : List Layout) → AreParts 0 ends ys → map array_type ys ≡ leaf_types far ds
      → AreGiven c a b ends ys
  columns ys parts types = pair-given c a b ends ys ds h.given parts types h.leaves

  module _ (ys : List Layout) (parts : AreParts 0 ends ys)
      (types : map array_type ys ≡ leaf_types far ds) where
    said : columns_said a b ys ≡ Ok (map row ends)
    said = given-said c a b p ends ys h.judged (columns ys parts types)

    -- of the ends no fault is told
    pub told_ends : (o : Option Fault) → Told o (columns_said a b ys)
        → Told o (judged_choice c (filler_of a) (filler_of b))
    told_ends o k =
        subst (λ o. Told o (judged_choice c (filler_of a) (filler_of b)))
        (sym (none_told o (columns_said a b ys) (map row ends) k said)) tt

    module _ (y : Layout) (k : columns_said a b ys ≡ Ok (array_items y)) where
      pub items : array_items y ≡ map row ends
      items = ok-same (columns_said a b ys) (array_items y) (map row ends) k said

      pub long : len y ≡ length ends
      long = sym (length-array_items y) ∙ ap length items ∙ length-map ends row

      pub type_is : ((p : Primitive) → columns_judged a b ys ≡ Ok p
          → array_type y ≡ option_if (some_option (map array_type ys)) (leaf p))
          → array_type y ≡ end_type p ds
      type_is e =
          e p (given-judged c a b p ends ys h.judged (columns ys parts types))
          ∙ ap (λ ts. option_if (some_option ts) (leaf p)) types

  -- ---- the result

  pub is_made : (single : Bool) (y : Layout) → single_or_fault false far ds ≡ Ok single
      → array_type y ≡ typ → array_items y ≡ values → IsMade typ values ds single y
  is_made single y e same_type same_values = record {
    is_single = (refused_or-Ok (pair_refused false far ds) (not (some_array ds)) single e).1;
    one_value = λ e. length-map (pair_values false far ds)
        (over (pair_type false far ds) row) ∙ values-one far ds e;
    typ = same_type;
    items = same_values;
  }

  pub answer : (single : Bool) (y : Layout) → single_or_fault false far ds ≡ Ok single
      → IsMade typ values ds single y
      → judged_choice c (filler_of a) (filler_of b)
      ≡ Ok (datum_of (if single then One y else Arr y))
  answer single y e k =
      in_it
      ∙ refused_or-None (limit_refused typ or pair_refused false far ds) whole
      (datum_of (if single then One y else Arr y))
      (or-None (limit_refused typ) (pair_refused false far ds)
      (refused_or-Ok (limit_refused typ) typ t h.limit).0
      ∙ (refused_or-Ok (pair_refused false far ds) (not (some_array ds)) single e).0)
      (sym (datum_shown typ values ds single y k))
