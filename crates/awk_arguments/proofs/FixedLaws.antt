-- Which argument one of a kind is, and what is read of arguments of the kinds of a row.
use Rattle.std.proofs.Common.{◌≡◌, ℕ, ℤ, Bool, true, false, cond, List, [], ◌∷◌, map, Option, Some}
use Rattle.std.proofs.Common.{None}
use Rattle.std.proofs.Common.{option_map, refl, sym, ap, ◌∙◌, subst}
use Rattle.std.specs.Prelude.{◌||◌}
use Rattle.awk_types.specs.DataType.{Name}
use Rattle.awk_types.specs.Names.{same_name, is_among}
use Rattle.awk_types.specs.declared.primitive.Primitive.{Primitive}
use Rattle.awk_expr.specs.Allowed.{is_of_kind}
use Rattle.awk_expr.specs.Arguments as query
use Rattle.awk_expr.specs.Arguments.{not_zero, some_count}
use Rattle.awk_expr.specs.declared.kind.ArgKind.TheVariants as kind
use Rattle.awk_expr.specs.declared.fixed.FixedArg.{FixedArg}
use Rattle.awk_expr.specs.declared.fixed.FixedArg.TheVariants.{Place, Count, Missing, Truth, Text}
use Rattle.awk_expr.specs.declared.fixed.FixedArg.TheVariants.{Texts, Wholes}
use Rattle.awk_arguments.specs.Fit.{IsGiven, IsRange}
use Rattle.awk_arguments.specs.Fixed.{stepped_in, stepped_by, place_in, text_in, texts_in}
use Rattle.awk_arguments.specs.Fixed.{truth_in, padding_in, tuples_in, depth_in, named_in, edges_in}
use Rattle.awk_arguments.specs.Primitives.{primitives, named_among, primitive_in}
use Rattle.awk_arguments.proofs.KindLaws.{AreOfKinds}

-- ---- one argument

record IsPlace (a : FixedArg) : Type 0 where
  value : ℤ
  is : a ≡ Place value

place_form : (a : FixedArg) → is_of_kind kind.Place a ≡ true → IsPlace a
place_form (Place z) h = record { value = z; is = refl }
place_form (Count n) h = absurd (cc)
place_form Missing h = absurd (cc)
place_form (Truth b) h = absurd (cc)
place_form (Text n) h = absurd (cc)
place_form (Texts ns) h = absurd (cc)
place_form (Wholes zs) h = absurd (cc)

record IsStep (a : FixedArg) : Type 0 where
  value : ℤ
  is : a ≡ Place value
  holds : IsGiven (not_zero value)

step_form : (a : FixedArg) → is_of_kind kind.Step a ≡ true → IsStep a
step_form (Place z) h = record { value = z; is = refl; holds = h }
step_form (Count n) h = absurd (cc)
step_form Missing h = absurd (cc)
step_form (Truth b) h = absurd (cc)
step_form (Text n) h = absurd (cc)
step_form (Texts ns) h = absurd (cc)
step_form (Wholes zs) h = absurd (cc)

record IsCount (a : FixedArg) : Type 0 where
  value : ℕ
  is : a ≡ Count value

count_form : (a : FixedArg) → is_of_kind kind.Count a ≡ true → IsCount a
count_form (Place z) h = absurd (cc)
count_form (Count n) h = record { value = n; is = refl }
count_form Missing h = absurd (cc)
count_form (Truth b) h = absurd (cc)
count_form (Text n) h = absurd (cc)
count_form (Texts ns) h = absurd (cc)
count_form (Wholes zs) h = absurd (cc)

record IsSome (a : FixedArg) : Type 0 where
  value : ℕ
  is : a ≡ Count value
  holds : IsGiven (some_count value)

some_form : (a : FixedArg) → is_of_kind kind.SomeCount a ≡ true → IsSome a
some_form (Place z) h = absurd (cc)
some_form (Count n) h = record { value = n; is = refl; holds = h }
some_form Missing h = absurd (cc)
some_form (Truth b) h = absurd (cc)
some_form (Text n) h = absurd (cc)
some_form (Texts ns) h = absurd (cc)
some_form (Wholes zs) h = absurd (cc)

record IsTruth (a : FixedArg) : Type 0 where
  value : Bool
  is : a ≡ Truth value

truth_form : (a : FixedArg) → is_of_kind kind.Truth a ≡ true → IsTruth a
truth_form (Place z) h = absurd (cc)
truth_form (Count n) h = absurd (cc)
truth_form Missing h = absurd (cc)
truth_form (Truth b) h = record { value = b; is = refl }
truth_form (Text n) h = absurd (cc)
truth_form (Texts ns) h = absurd (cc)
truth_form (Wholes zs) h = absurd (cc)

record IsText (a : FixedArg) : Type 0 where
  value : Name
  is : a ≡ Text value

text_form : (a : FixedArg) → is_of_kind kind.Text a ≡ true → IsText a
text_form (Place z) h = absurd (cc)
text_form (Count n) h = absurd (cc)
text_form Missing h = absurd (cc)
text_form (Truth b) h = absurd (cc)
text_form (Text n) h = record { value = n; is = refl }
text_form (Texts ns) h = absurd (cc)
text_form (Wholes zs) h = absurd (cc)

record IsNames (a : FixedArg) : Type 0 where
  value : List Name
  is : a ≡ Texts value

names_form : (a : FixedArg) → is_of_kind kind.Texts a ≡ true → IsNames a
names_form (Place z) h = absurd (cc)
names_form (Count n) h = absurd (cc)
names_form Missing h = absurd (cc)
names_form (Truth b) h = absurd (cc)
names_form (Text n) h = absurd (cc)
names_form (Texts ns) h = record { value = ns; is = refl }
names_form (Wholes zs) h = absurd (cc)

record IsPrimitive (a : FixedArg) : Type 0 where
  value : Name
  is : a ≡ Text value
  holds : is_among value query.primitives ≡ true

primitive_form : (a : FixedArg) → is_of_kind kind.Primitive a ≡ true → IsPrimitive a
primitive_form (Place z) h = absurd (cc)
primitive_form (Count n) h = absurd (cc)
primitive_form Missing h = absurd (cc)
primitive_form (Truth b) h = absurd (cc)
primitive_form (Text n) h = record { value = n; is = refl; holds = h }
primitive_form (Texts ns) h = absurd (cc)
primitive_form (Wholes zs) h = absurd (cc)

record IsEdges (a : FixedArg) : Type 0 where
  value : List ℤ
  is : a ≡ Wholes value

edges_form : (a : FixedArg) → is_of_kind kind.Edges a ≡ true → IsEdges a
edges_form (Place z) h = absurd (cc)
edges_form (Count n) h = absurd (cc)
edges_form Missing h = absurd (cc)
edges_form (Truth b) h = absurd (cc)
edges_form (Text n) h = absurd (cc)
edges_form (Texts ns) h = absurd (cc)
edges_form (Wholes zs) h = record { value = zs; is = refl }

given-map : {A B : Type 0} (f : A → B) (o : Option A) → IsGiven o → IsGiven (option_map f o)
given-map f None h = absurd (cc)
given-map f (Some a) h = refl

-- ---- rows of one argument

pub place-given : (fixed : List FixedArg) → AreOfKinds (kind.Place ∷ []) fixed
    → IsGiven (place_in fixed)
place-given [] h = absurd h
place-given (a ∷ []) h =
    let form = place_form a h.0 in
    subst (λ b. IsGiven (place_in (b ∷ []))) (sym form.is) refl
place-given (a ∷ b ∷ more) h = absurd h.1

pub text-given : (fixed : List FixedArg) → AreOfKinds (kind.Text ∷ []) fixed
    → IsGiven (text_in fixed)
text-given [] h = absurd h
text-given (a ∷ []) h =
    let form = text_form a h.0 in
    subst (λ b. IsGiven (text_in (b ∷ []))) (sym form.is) refl
text-given (a ∷ b ∷ more) h = absurd h.1

pub texts-given : (fixed : List FixedArg) → AreOfKinds (kind.Texts ∷ []) fixed
    → IsGiven (texts_in fixed)
texts-given [] h = absurd h
texts-given (a ∷ []) h =
    let form = names_form a h.0 in
    subst (λ b. IsGiven (texts_in (b ∷ []))) (sym form.is) refl
texts-given (a ∷ b ∷ more) h = absurd h.1

pub truth-given : (fixed : List FixedArg) → AreOfKinds (kind.Truth ∷ []) fixed
    → IsGiven (truth_in fixed)
truth-given [] h = absurd h
truth-given (a ∷ []) h =
    let form = truth_form a h.0 in
    subst (λ b. IsGiven (truth_in (b ∷ []))) (sym form.is) refl
truth-given (a ∷ b ∷ more) h = absurd h.1

pub depth-given : (fixed : List FixedArg) → AreOfKinds (kind.SomeCount ∷ []) fixed
    → IsGiven (depth_in fixed)
depth-given [] h = absurd h
depth-given (a ∷ []) h =
    let form = some_form a h.0 in
    subst (λ b. IsGiven (depth_in (b ∷ []))) (sym form.is) form.holds
depth-given (a ∷ b ∷ more) h = absurd h.1

pub edges-given : (fixed : List FixedArg) → AreOfKinds (kind.Edges ∷ []) fixed
    → IsGiven (edges_in fixed)
edges-given [] h = absurd h
edges-given (a ∷ []) h =
    let form = edges_form a h.0 in
    subst (λ b. IsGiven (edges_in (b ∷ []))) (sym form.is) refl
edges-given (a ∷ b ∷ more) h = absurd h.1

found_named : (b : Bool) (p : Primitive) (more : Bool) (later : Option Primitive)
    → (more ≡ true → IsGiven later) → (b || more) ≡ true → IsGiven (cond b (Some p) later)
found_named true p more later go h = refl
found_named false p more later go h = go h

-- a name among those of leaf types names one
named-given : (ps : List (Name × Primitive)) (name : Name)
    → is_among name (map (λ p. p.0) ps) ≡ true → IsGiven (named_among ps name)
named-given [] name h = absurd (cc)
named-given (p ∷ ps) name h =
    found_named (same_name p.0 name) p.1 (is_among name (map (λ p. p.0) ps)) (named_among ps name)
    (named-given ps name) h

same_primitives : query.primitives ≡ map (λ p. p.0) primitives
same_primitives = refl

pub primitive-given : (fixed : List FixedArg) → AreOfKinds (kind.Primitive ∷ []) fixed
    → IsGiven (primitive_in fixed)
primitive-given [] h = absurd h
primitive-given (a ∷ []) h =
    let form = primitive_form a h.0 in
    subst (λ b. IsGiven (primitive_in (b ∷ []))) (sym form.is)
    (named-given primitives form.value
    (ap (is_among form.value) (sym same_primitives) ∙ form.holds))
primitive-given (a ∷ b ∷ more) h = absurd h.1

-- ---- rows of several

pub range-given : (fixed : List FixedArg) → AreOfKinds (kind.Bound ∷ kind.Bound ∷ []) fixed
    → IsRange fixed
range-given [] h none = absurd h
range-given (a ∷ []) h none = absurd h.1
range-given (a ∷ b ∷ []) h none = absurd (cc)
range-given (a ∷ b ∷ c ∷ more) h none = absurd h.1.1

pub stepped-given : (fixed : List FixedArg)
    → AreOfKinds (kind.Bound ∷ kind.Bound ∷ kind.Step ∷ []) fixed → IsRange fixed
stepped-given [] h none = absurd h
stepped-given (a ∷ []) h none = absurd h.1
stepped-given (a ∷ b ∷ []) h none = absurd h.1.1
stepped-given (a ∷ b ∷ c ∷ []) h none =
    let form = step_form c h.1.1.0 in
    subst (λ d. IsGiven (stepped_in (a ∷ b ∷ d ∷ []))) (sym form.is)
    (given-map (stepped_by a b) (not_zero form.value) form.holds)
stepped-given (a ∷ b ∷ c ∷ d ∷ more) h none = absurd h.1.1.1

pub named_texts-given : (fixed : List FixedArg)
    → AreOfKinds (kind.SomeCount ∷ kind.Texts ∷ []) fixed → IsGiven (named_in fixed)
named_texts-given [] h = absurd h
named_texts-given (a ∷ []) h = absurd h.1
named_texts-given (a ∷ b ∷ []) h =
    let depth = some_form a h.0 in
    let names = names_form b h.1.0 in
    subst (λ x. IsGiven (named_in (a ∷ x ∷ []))) (sym names.is)
    (subst (λ x. IsGiven (named_in (x ∷ Texts names.value ∷ []))) (sym depth.is)
    (given-map (λ d. (d, names.value)) (some_count depth.value) depth.holds))
named_texts-given (a ∷ b ∷ c ∷ more) h = absurd h.1.1

pub padding-given : (fixed : List FixedArg)
    → AreOfKinds (kind.Count ∷ kind.Place ∷ kind.Truth ∷ []) fixed → IsGiven (padding_in fixed)
padding-given [] h = absurd h
padding-given (a ∷ []) h = absurd h.1
padding-given (a ∷ b ∷ []) h = absurd h.1.1
padding-given (a ∷ b ∷ c ∷ []) h =
    let count = count_form a h.0 in
    let place = place_form b h.1.0 in
    let truth = truth_form c h.1.1.0 in
    rw (count.is, place.is, truth.is) refl
padding-given (a ∷ b ∷ c ∷ d ∷ more) h = absurd h.1.1.1

pub tuples-given : (fixed : List FixedArg)
    → AreOfKinds (kind.SomeCount ∷ kind.Truth ∷ kind.Place ∷ []) fixed → IsGiven (tuples_in fixed)
tuples-given [] h = absurd h
tuples-given (a ∷ []) h = absurd h.1
tuples-given (a ∷ b ∷ []) h = absurd h.1.1
tuples-given (a ∷ b ∷ c ∷ []) h =
    let count = some_form a h.0 in
    let truth = truth_form b h.1.0 in
    let place = place_form c h.1.1.0 in
    rw (count.is, truth.is, place.is) refl
tuples-given (a ∷ b ∷ c ∷ d ∷ more) h = absurd h.1.1.1
