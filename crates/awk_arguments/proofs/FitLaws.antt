-- The arguments of an allowed call are its operation's own.
use Rattle.std.proofs.Common.{◌≡◌, ◌<◌, ◌+◌, ℕ, suc, Bool, true, false, ◌&&◌, List, [], ◌∷◌}
use Rattle.std.proofs.Common.{◌++◌, length, Option, Some, None, option_map, refl, ◌∙◌, subst}
use Rattle.std.proofs.Common.{arith}
use Rattle.std.specs.List.{list_all}
use Rattle.std.proofs.lemmas.Bool.{and_parts}
use Rattle.awk_types.specs.Datum.{Datum}
use Rattle.awk_layout.specs.Filler.{literal, datum}
use Rattle.awk_expr.specs.Allowed.{AreArguments, HasArguments}
use Rattle.awk_expr.specs.Operations.{operations}
use Rattle.awk_expr.specs.declared.op.Op.{Op}
use Rattle.awk_expr.specs.declared.op.Op.TheVariants as op
use Rattle.awk_expr.specs.declared.kind.ArgKind.{ArgKind}
use Rattle.awk_expr.specs.declared.kind.ArgKind.TheVariants as kind
use Rattle.awk_expr.specs.declared.fixed.FixedArg.{FixedArg}
use Rattle.awk_arguments.specs.Fit.{IsGiven, IsRange, FitsFixed, FitsOperands}
use Rattle.awk_arguments.specs.Fixed.{place_in, text_in, texts_in, truth_in, padding_in, tuples_in}
use Rattle.awk_arguments.specs.Fixed.{depth_in, named_in, edges_in}
use Rattle.awk_arguments.specs.Primitives.{primitive_in}
use Rattle.awk_arguments.specs.Operand.{Operand, IsTakenAs, AreTaken, takes_literal, only_in}
use Rattle.awk_arguments.specs.Operand.{both_in, first_in, two_in, three_in, data_in, all_in}
use Rattle.awk_arguments.proofs.KindLaws.{AreOfKinds, fixed_kinds, of_kinds, one_expr, two_exprs}
use Rattle.awk_arguments.proofs.KindLaws.{three_exprs, some_exprs, one-count, two-count}
use Rattle.awk_arguments.proofs.KindLaws.{three-count}
use Rattle.awk_arguments.proofs.KindLaws.{some-count}
use Rattle.awk_arguments.proofs.FixedLaws.{place-given, text-given, texts-given, truth-given}
use Rattle.awk_arguments.proofs.FixedLaws.{depth-given, edges-given, primitive-given, range-given}
use Rattle.awk_arguments.proofs.FixedLaws.{stepped-given, named_texts-given, padding-given}
use Rattle.awk_arguments.proofs.FixedLaws.{tuples-given}
use Rattle.awk_arguments.proofs.Rows.{row_of-all}

-- ---- operands

pub only-given : (takes : ℕ → Bool) (operands : List Operand) → takes 0 ≡ false
    → length operands ≡ 1 → AreTaken takes 0 operands → IsGiven (only_in operands)
only-given takes [] never one are = absurd (omega arith)
only-given takes (datum d ∷ []) never one are = refl
only-given takes (literal z ∷ []) never one are = absurd (let said = are.0 in cc)
only-given takes (x ∷ y ∷ more) never one are = absurd (omega arith)

pub both-given : (takes : ℕ → Bool) (operands : List Operand) → takes 0 ≡ false
    → takes 1 ≡ false → length operands ≡ 2 → AreTaken takes 0 operands
    → IsGiven (both_in operands)
both-given takes [] never nor two are = absurd (omega arith)
both-given takes (x ∷ []) never nor two are = absurd (omega arith)
both-given takes (datum d ∷ datum e ∷ []) never nor two are = refl
both-given takes (literal z ∷ y ∷ []) never nor two are = absurd (let said = are.0 in cc)
both-given takes (datum d ∷ literal z ∷ []) never nor two are = absurd (let said = are.1.0 in cc)
both-given takes (x ∷ y ∷ z ∷ more) never nor two are = absurd (omega arith)

pub first-given : (takes : ℕ → Bool) (operands : List Operand) → takes 0 ≡ false
    → length operands ≡ 2 → AreTaken takes 0 operands → IsGiven (first_in operands)
first-given takes [] never two are = absurd (omega arith)
first-given takes (x ∷ []) never two are = absurd (omega arith)
first-given takes (datum d ∷ y ∷ []) never two are = refl
first-given takes (literal z ∷ y ∷ []) never two are = absurd (let said = are.0 in cc)
first-given takes (x ∷ y ∷ z ∷ more) never two are = absurd (omega arith)

pub two-given : (operands : List Operand) → length operands ≡ 2 → IsGiven (two_in operands)
two-given [] two = absurd (omega arith)
two-given (x ∷ []) two = absurd (omega arith)
two-given (x ∷ y ∷ []) two = refl
two-given (x ∷ y ∷ z ∷ more) two = absurd (omega arith)

pub three-given : (takes : ℕ → Bool) (operands : List Operand) → takes 0 ≡ false
    → length operands ≡ 3 → AreTaken takes 0 operands → IsGiven (three_in operands)
three-given takes [] never three are = absurd (omega arith)
three-given takes (x ∷ []) never three are = absurd (omega arith)
three-given takes (x ∷ y ∷ []) never three are = absurd (omega arith)
three-given takes (datum d ∷ y ∷ z ∷ []) never three are = refl
three-given takes (literal z ∷ y ∷ x ∷ []) never three are = absurd (let said = are.0 in cc)
three-given takes (x ∷ y ∷ z ∷ u ∷ more) never three are = absurd (omega arith)

one_more-given : (d : Datum) (found : Option (List Datum)) → IsGiven found
    → IsGiven (option_map (λ ds. d ∷ ds) found)
one_more-given d None h = absurd (cc)
one_more-given d (Some ds) h = refl

all-given : (takes : ℕ → Bool) (k : ℕ) (operands : List Operand) → ((j : ℕ) → takes j ≡ false)
    → AreTaken takes k operands → IsGiven (all_in operands)
all-given takes k [] never are = refl
all-given takes k (datum d ∷ more) never are =
    one_more-given d (all_in more) (all-given takes (suc k) more never are.1)
all-given takes k (literal z ∷ more) never are =
    absurd (let said = are.0 in let nor = never k in cc)

pub data-given : (takes : ℕ → Bool) (operands : List Operand) → ((j : ℕ) → takes j ≡ false)
    → 0 < length operands → AreTaken takes 0 operands → IsGiven (data_in operands)
data-given takes [] never enough are = absurd (omega arith)
data-given takes (x ∷ more) never enough are = all-given takes 0 (x ∷ more) never are

-- one operand more
pub AreTaken-push : (takes : ℕ → Bool) (k : ℕ) (xs : List Operand) (x : Operand) (i : ℕ)
    → i ≡ k + length xs → AreTaken takes k xs → IsTakenAs (takes i) x
    → AreTaken takes k (xs ++ x ∷ [])
AreTaken-push takes k [] x i last are h =
    let same : i ≡ k = omega (arith, last) in
    (subst (λ j. IsTakenAs (takes j) x) same h, tt)
AreTaken-push takes k (y ∷ ys) x i last are h =
    let more : i ≡ suc k + length ys = omega (arith, last) in
    (are.0, AreTaken-push takes (suc k) ys x i more are.1 h)

-- ---- the rows of the table

abbrev is_alone_place : List ArgKind → Bool
is_alone_place (kind.Place ∷ []) = true
is_alone_place _ = false

alone_place_row : (ks : List ArgKind) (fixed : List FixedArg) → is_alone_place ks ≡ true
    → AreOfKinds ks fixed → IsGiven (place_in fixed)
alone_place_row (kind.Place ∷ []) fixed h are = place-given fixed are
alone_place_row _ fixed h are = absurd (cc)

abbrev is_alone_text : List ArgKind → Bool
is_alone_text (kind.Text ∷ []) = true
is_alone_text _ = false

alone_text_row : (ks : List ArgKind) (fixed : List FixedArg) → is_alone_text ks ≡ true
    → AreOfKinds ks fixed → IsGiven (text_in fixed)
alone_text_row (kind.Text ∷ []) fixed h are = text-given fixed are
alone_text_row _ fixed h are = absurd (cc)

abbrev is_alone_texts : List ArgKind → Bool
is_alone_texts (kind.Texts ∷ []) = true
is_alone_texts _ = false

alone_texts_row : (ks : List ArgKind) (fixed : List FixedArg) → is_alone_texts ks ≡ true
    → AreOfKinds ks fixed → IsGiven (texts_in fixed)
alone_texts_row (kind.Texts ∷ []) fixed h are = texts-given fixed are
alone_texts_row _ fixed h are = absurd (cc)

abbrev is_named_texts : List ArgKind → Bool
is_named_texts (kind.SomeCount ∷ kind.Texts ∷ []) = true
is_named_texts _ = false

named_texts_row : (ks : List ArgKind) (fixed : List FixedArg) → is_named_texts ks ≡ true
    → AreOfKinds ks fixed → IsGiven (named_in fixed)
named_texts_row (kind.SomeCount ∷ kind.Texts ∷ []) fixed h are = named_texts-given fixed are
named_texts_row _ fixed h are = absurd (cc)

abbrev is_alone_depth : List ArgKind → Bool
is_alone_depth (kind.SomeCount ∷ []) = true
is_alone_depth _ = false

alone_depth_row : (ks : List ArgKind) (fixed : List FixedArg) → is_alone_depth ks ≡ true
    → AreOfKinds ks fixed → IsGiven (depth_in fixed)
alone_depth_row (kind.SomeCount ∷ []) fixed h are = depth-given fixed are
alone_depth_row _ fixed h are = absurd (cc)

abbrev is_padding : List ArgKind → Bool
is_padding (kind.Count ∷ kind.Place ∷ kind.Truth ∷ []) = true
is_padding _ = false

padding_row : (ks : List ArgKind) (fixed : List FixedArg) → is_padding ks ≡ true
    → AreOfKinds ks fixed → IsGiven (padding_in fixed)
padding_row (kind.Count ∷ kind.Place ∷ kind.Truth ∷ []) fixed h are = padding-given fixed are
padding_row _ fixed h are = absurd (cc)

abbrev is_alone_truth : List ArgKind → Bool
is_alone_truth (kind.Truth ∷ []) = true
is_alone_truth _ = false

alone_truth_row : (ks : List ArgKind) (fixed : List FixedArg) → is_alone_truth ks ≡ true
    → AreOfKinds ks fixed → IsGiven (truth_in fixed)
alone_truth_row (kind.Truth ∷ []) fixed h are = truth-given fixed are
alone_truth_row _ fixed h are = absurd (cc)

abbrev is_alone_primitive : List ArgKind → Bool
is_alone_primitive (kind.Primitive ∷ []) = true
is_alone_primitive _ = false

alone_primitive_row : (ks : List ArgKind) (fixed : List FixedArg) → is_alone_primitive ks ≡ true
    → AreOfKinds ks fixed → IsGiven (primitive_in fixed)
alone_primitive_row (kind.Primitive ∷ []) fixed h are = primitive-given fixed are
alone_primitive_row _ fixed h are = absurd (cc)

abbrev is_tuples : List ArgKind → Bool
is_tuples (kind.SomeCount ∷ kind.Truth ∷ kind.Place ∷ []) = true
is_tuples _ = false

tuples_row : (ks : List ArgKind) (fixed : List FixedArg) → is_tuples ks ≡ true
    → AreOfKinds ks fixed → IsGiven (tuples_in fixed)
tuples_row (kind.SomeCount ∷ kind.Truth ∷ kind.Place ∷ []) fixed h are = tuples-given fixed are
tuples_row _ fixed h are = absurd (cc)

abbrev is_alone_edges : List ArgKind → Bool
is_alone_edges (kind.Edges ∷ []) = true
is_alone_edges _ = false

alone_edges_row : (ks : List ArgKind) (fixed : List FixedArg) → is_alone_edges ks ≡ true
    → AreOfKinds ks fixed → IsGiven (edges_in fixed)
alone_edges_row (kind.Edges ∷ []) fixed h are = edges-given fixed are
alone_edges_row _ fixed h are = absurd (cc)

abbrev is_range : List ArgKind → Bool
is_range (kind.Bound ∷ kind.Bound ∷ []) = true
is_range (kind.Bound ∷ kind.Bound ∷ kind.Step ∷ []) = true
is_range _ = false

range_row : (ks : List ArgKind) (fixed : List FixedArg) → is_range ks ≡ true
    → AreOfKinds ks fixed → IsRange fixed
range_row (kind.Bound ∷ kind.Bound ∷ []) fixed h are = range-given fixed are
range_row (kind.Bound ∷ kind.Bound ∷ kind.Step ∷ []) fixed h are = stepped-given fixed are
range_row _ fixed h are = absurd (cc)

-- the kinds of those that are no expressions
abbrev takes_fixed : Op → List ArgKind → Bool
takes_fixed (op.Place o) ks = is_alone_place ks
takes_fixed op.Range ks = is_range ks
takes_fixed op.Field ks = is_alone_text ks
takes_fixed op.Fields ks = is_alone_texts ks
takes_fixed op.WithoutField ks = is_alone_text ks
takes_fixed (op.Pair o) ks = true
takes_fixed (op.Axis o) ks = is_alone_place ks
takes_fixed op.RunLengths ks = true
takes_fixed op.Zip ks = is_named_texts ks
takes_fixed op.Tuple ks = is_alone_depth ks
takes_fixed op.WithField ks = is_alone_text ks
takes_fixed op.FillNone ks = is_alone_place ks
takes_fixed op.PadNone ks = is_padding ks
takes_fixed op.PutMask ks = is_alone_truth ks
takes_fixed op.Concatenate ks = is_alone_place ks
takes_fixed (op.Calculate o) ks = true
takes_fixed (op.Test how) ks = true
takes_fixed (op.Join o) ks = true
takes_fixed (op.Single o) ks = true
takes_fixed op.Choose ks = true
takes_fixed op.Cast ks = is_alone_primitive ks
takes_fixed (op.Reduce how) ks = true
takes_fixed (op.Cartesian to) ks = is_alone_place ks
takes_fixed (op.Combinations to) ks = is_tuples ks
takes_fixed (op.Sort to) ks = is_alone_truth ks
takes_fixed (op.Hist of) ks = is_alone_edges ks

-- and how many are
abbrev takes_exprs : Op → List ArgKind → Bool
takes_exprs (op.Place o) ks = one_expr ks
takes_exprs op.Range ks = one_expr ks
takes_exprs op.Field ks = one_expr ks
takes_exprs op.Fields ks = one_expr ks
takes_exprs op.WithoutField ks = one_expr ks
takes_exprs (op.Pair o) ks = two_exprs ks
takes_exprs (op.Axis o) ks = one_expr ks
takes_exprs op.RunLengths ks = one_expr ks
takes_exprs op.Zip ks = some_exprs ks
takes_exprs op.Tuple ks = some_exprs ks
takes_exprs op.WithField ks = two_exprs ks
takes_exprs op.FillNone ks = two_exprs ks
takes_exprs op.PadNone ks = one_expr ks
takes_exprs op.PutMask ks = two_exprs ks
takes_exprs op.Concatenate ks = some_exprs ks
takes_exprs (op.Calculate o) ks = two_exprs ks
takes_exprs (op.Test how) ks = two_exprs ks
takes_exprs (op.Join o) ks = two_exprs ks
takes_exprs (op.Single o) ks = one_expr ks
takes_exprs op.Choose ks = three_exprs ks
takes_exprs op.Cast ks = one_expr ks
takes_exprs (op.Reduce how) ks = one_expr ks
takes_exprs (op.Cartesian to) ks = some_exprs ks
takes_exprs (op.Combinations to) ks = one_expr ks
takes_exprs (op.Sort to) ks = one_expr ks
takes_exprs (op.Hist of) ks = one_expr ks

abbrev takes_kinds : Op → List ArgKind → Bool
takes_kinds o ks = takes_fixed o (fixed_kinds ks) && takes_exprs o ks

each_row : list_all (λ r. takes_kinds r.1 r.2) operations ≡ true
each_row = refl

taken : (o : Op) (n : ℕ) (fixed : List FixedArg) (has : HasArguments o n fixed)
    → (takes_fixed o (fixed_kinds has.kinds) ≡ true) × (takes_exprs o has.kinds ≡ true)
taken o n fixed has =
    and_parts (takes_fixed o (fixed_kinds has.kinds)) (takes_exprs o has.kinds)
    (row_of-all takes_kinds has.name has.count o has.kinds each_row has.row)

fixed_row : (o : Op) (ks : List ArgKind) (fixed : List FixedArg) → takes_fixed o ks ≡ true
    → AreOfKinds ks fixed → FitsFixed o fixed
fixed_row (op.Place o) ks fixed h are = alone_place_row ks fixed h are
fixed_row op.Range ks fixed h are = range_row ks fixed h are
fixed_row op.Field ks fixed h are = alone_text_row ks fixed h are
fixed_row op.Fields ks fixed h are = alone_texts_row ks fixed h are
fixed_row op.WithoutField ks fixed h are = alone_text_row ks fixed h are
fixed_row (op.Pair o) ks fixed h are = tt
fixed_row (op.Axis o) ks fixed h are = alone_place_row ks fixed h are
fixed_row op.RunLengths ks fixed h are = tt
fixed_row op.Zip ks fixed h are = named_texts_row ks fixed h are
fixed_row op.Tuple ks fixed h are = alone_depth_row ks fixed h are
fixed_row op.WithField ks fixed h are = alone_text_row ks fixed h are
fixed_row op.FillNone ks fixed h are = alone_place_row ks fixed h are
fixed_row op.PadNone ks fixed h are = padding_row ks fixed h are
fixed_row op.PutMask ks fixed h are = alone_truth_row ks fixed h are
fixed_row op.Concatenate ks fixed h are = alone_place_row ks fixed h are
fixed_row (op.Calculate o) ks fixed h are = tt
fixed_row (op.Test how) ks fixed h are = tt
fixed_row (op.Join o) ks fixed h are = tt
fixed_row (op.Single o) ks fixed h are = tt
fixed_row op.Choose ks fixed h are = tt
fixed_row op.Cast ks fixed h are = alone_primitive_row ks fixed h are
fixed_row (op.Reduce how) ks fixed h are = tt
fixed_row (op.Cartesian to) ks fixed h are = alone_place_row ks fixed h are
fixed_row (op.Combinations to) ks fixed h are = tuples_row ks fixed h are
fixed_row (op.Sort to) ks fixed h are = alone_truth_row ks fixed h are
fixed_row (op.Hist of) ks fixed h are = alone_edges_row ks fixed h are

pub FitsFixed-call : (o : Op) (n : ℕ) (fixed : List FixedArg) → HasArguments o n fixed
    → FitsFixed o fixed
FitsFixed-call o n fixed has =
    fixed_row o (fixed_kinds has.kinds) fixed (taken o n fixed has).0
    (of_kinds has.kinds n fixed has.are)

some_long : (n m : ℕ) → m ≡ n → 0 < n → 0 < m
some_long n m same some = omega (arith, same, some)

module _ (operands : List Operand) (n : ℕ) (fixed : List FixedArg) (long : length operands ≡ n)
    (ks : List ArgKind) (a : AreArguments ks n fixed) where
  operands_row : (o : Op) → takes_exprs o ks ≡ true → AreTaken (takes_literal o) 0 operands
      → FitsOperands o operands
  operands_row (op.Place o) h are = only-given (takes_literal (op.Place o)) operands refl
      (long ∙ one-count ks n fixed h a) are
  operands_row op.Range h are = only-given (takes_literal op.Range) operands refl
      (long ∙ one-count ks n fixed h a) are
  operands_row op.Field h are = only-given (takes_literal op.Field) operands refl
      (long ∙ one-count ks n fixed h a) are
  operands_row op.Fields h are = only-given (takes_literal op.Fields) operands refl
      (long ∙ one-count ks n fixed h a) are
  operands_row op.WithoutField h are = only-given (takes_literal op.WithoutField) operands refl
      (long ∙ one-count ks n fixed h a) are
  operands_row (op.Pair o) h are = both-given (takes_literal (op.Pair o)) operands refl refl
      (long ∙ two-count ks n fixed h a) are
  operands_row (op.Axis o) h are = only-given (takes_literal (op.Axis o)) operands refl
      (long ∙ one-count ks n fixed h a) are
  operands_row op.RunLengths h are = only-given (takes_literal op.RunLengths) operands refl
      (long ∙ one-count ks n fixed h a) are
  operands_row op.Zip h are = data-given (takes_literal op.Zip) operands (λ j. refl)
      (some_long n (length operands) long (some-count ks n fixed h a)) are
  operands_row op.Tuple h are = data-given (takes_literal op.Tuple) operands (λ j. refl)
      (some_long n (length operands) long (some-count ks n fixed h a)) are
  operands_row op.WithField h are = both-given (takes_literal op.WithField) operands refl refl
      (long ∙ two-count ks n fixed h a) are
  operands_row op.FillNone h are = first-given (takes_literal op.FillNone) operands refl
      (long ∙ two-count ks n fixed h a) are
  operands_row op.PadNone h are = only-given (takes_literal op.PadNone) operands refl
      (long ∙ one-count ks n fixed h a) are
  operands_row op.PutMask h are = both-given (takes_literal op.PutMask) operands refl refl
      (long ∙ two-count ks n fixed h a) are
  operands_row op.Concatenate h are = data-given (takes_literal op.Concatenate) operands (λ j. refl)
      (some_long n (length operands) long (some-count ks n fixed h a)) are
  operands_row (op.Calculate o) h are = two-given operands (long ∙ two-count ks n fixed h a)
  operands_row (op.Test how) h are = two-given operands (long ∙ two-count ks n fixed h a)
  operands_row (op.Join o) h are = both-given (takes_literal (op.Join o)) operands refl refl
      (long ∙ two-count ks n fixed h a) are
  operands_row (op.Single o) h are = only-given (takes_literal (op.Single o)) operands refl
      (long ∙ one-count ks n fixed h a) are
  operands_row op.Choose h are = three-given (takes_literal op.Choose) operands refl
      (long ∙ three-count ks n fixed h a) are
  operands_row op.Cast h are = only-given (takes_literal op.Cast) operands refl
      (long ∙ one-count ks n fixed h a) are
  operands_row (op.Reduce how) h are = only-given (takes_literal (op.Reduce how)) operands refl
      (long ∙ one-count ks n fixed h a) are
  operands_row (op.Cartesian to) h are =
      data-given (takes_literal (op.Cartesian to)) operands (λ j. refl)
      (some_long n (length operands) long (some-count ks n fixed h a)) are
  operands_row (op.Combinations to) h are =
      only-given (takes_literal (op.Combinations to)) operands refl
      (long ∙ one-count ks n fixed h a) are
  operands_row (op.Sort to) h are = only-given (takes_literal (op.Sort to)) operands refl
      (long ∙ one-count ks n fixed h a) are
  operands_row (op.Hist of) h are = only-given (takes_literal (op.Hist of)) operands refl
      (long ∙ one-count ks n fixed h a) are

pub FitsOperands-call : (o : Op) (n : ℕ) (fixed : List FixedArg) (operands : List Operand)
    → HasArguments o n fixed → length operands ≡ n → AreTaken (takes_literal o) 0 operands
    → FitsOperands o operands
FitsOperands-call o n fixed operands has long are =
    operands_row operands n fixed long has.kinds has.are o (taken o n fixed has).1 are
