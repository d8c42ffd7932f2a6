-- What an allowed call has, from the table of operations by computing.
use Rattle.std.proofs.Common.{◌≡◌, ℕ, ◌&&◌, ◌==◌, Bool, true, false, cond, List, [], ◌∷◌, ◌++◌}
use Rattle.std.proofs.Common.{length, Option, Some, refl, sym, ap, ap₂, ◌∙◌, subst}
use Rattle.std.specs.List.{list_all}
use Rattle.std.proofs.lemmas.Bool.{and_parts}
use Rattle.awk_types.specs.DataType.{Name}
use Rattle.awk_types.specs.Names.{same_name, are_distinct, AreDistinct}
use Rattle.awk_types.proofs.DistinctLaws.{AreDistinct-true}
use Rattle.awk_expr.specs.Allowed.{is_of_kind, AreArguments, HasArguments}
use Rattle.awk_expr.specs.Operations.{Row, Found, operations, row_among, row_of}
use Rattle.awk_expr.specs.declared.op.Op.{Op}
use Rattle.awk_expr.specs.declared.op.Op.TheVariants as op
use Rattle.awk_expr.specs.declared.kind.ArgKind.{ArgKind}
use Rattle.awk_expr.specs.declared.kind.ArgKind.TheVariants as kind
use Rattle.awk_expr.specs.declared.fixed.FixedArg.{FixedArg}
use Rattle.awk_expr.specs.declared.fixed.FixedArg.TheVariants.{Place, Count, Missing, Truth, Text}
use Rattle.awk_expr.specs.declared.fixed.FixedArg.TheVariants.{Texts, Wholes}
use Rattle.awk_arguments.specs.Fixed.{texts_in}

-- ---- what is so of each row is so of the one that is found

module _ (test : Op → List ArgKind → Bool) where
  found_by : (b : Bool) (r : Row) (later : Option Found) (o : Op) (ks : List ArgKind)
      → test r.1 r.2 ≡ true → (later ≡ Some (o, ks) → test o ks ≡ true)
      → cond b (Some (r.1, r.2)) later ≡ Some (o, ks) → test o ks ≡ true
  found_by true r later o ks here others e =
      let row : Found = (r.1, r.2) in
      let wanted : Found = (o, ks) in
      let same : row ≡ wanted = cc in
      subst (λ f. test f.0 f.1 ≡ true) same here
  found_by false r later o ks here others e = others e

  row_among-all : (rows : List Row) (name : Name) (count : ℕ) (o : Op) (ks : List ArgKind)
      → list_all (λ r. test r.1 r.2) rows ≡ true → row_among rows name count ≡ Some (o, ks)
      → test o ks ≡ true
  row_among-all [] name count o ks all e = absurd (cc)
  row_among-all (r ∷ rs) name count o ks all e =
      let both = and_parts (test r.1 r.2) (list_all (λ r. test r.1 r.2) rs) all in
      found_by ((length r.2 == count) && same_name r.0 name) r (row_among rs name count) o ks
      both.0 (row_among-all rs name count o ks both.1) e

  pub row_of-all : (name : Name) (count : ℕ) (o : Op) (ks : List ArgKind)
      → list_all (λ r. test r.1 r.2) operations ≡ true → row_of name count ≡ Some (o, ks)
      → test o ks ≡ true
  unfolding row_of
  row_of-all name count o ks all e = row_among-all operations name count o ks all e

-- ---- the names of `fields`

-- `fields` takes an expression and texts
abbrev takes_texts : Op → List ArgKind → Bool
takes_texts op.Fields (kind.Expr ∷ kind.Texts ∷ []) = true
takes_texts op.Fields _ = false
takes_texts _ ks = true

each_row : list_all (λ r. takes_texts r.1 r.2) operations ≡ true
each_row = refl

distinct_texts : (arg : FixedArg) (ns : List Name) → is_of_kind kind.Texts arg ≡ true
    → texts_in (arg ∷ []) ≡ Some ns → are_distinct ns ≡ true
distinct_texts (Texts ms) ns h e = let same : ns ≡ ms = cc in ap are_distinct same ∙ h
distinct_texts (Place z) ns h e = absurd (cc)
distinct_texts (Count n) ns h e = absurd (cc)
distinct_texts Missing ns h e = absurd (cc)
distinct_texts (Truth b) ns h e = absurd (cc)
distinct_texts (Text n) ns h e = absurd (cc)
distinct_texts (Wholes zs) ns h e = absurd (cc)

distinct_given : (ks : List ArgKind) (n : ℕ) (fixed : List FixedArg) (ns : List Name)
    → takes_texts op.Fields ks ≡ true → AreArguments ks n fixed → texts_in fixed ≡ Some ns
    → are_distinct ns ≡ true
distinct_given (kind.Expr ∷ kind.Texts ∷ []) n fixed ns h a e =
    let texts = a.are in
    let one : fixed ≡ texts.is.arg ∷ [] =
    a.parts ∙ ap (λ first. first ++ a.others) a.is.1 ∙ texts.parts
    ∙ ap₂ (λ first others. first ++ others) texts.is.alone texts.are.1 in
    distinct_texts texts.is.arg ns texts.is.of_kind (ap texts_in (sym one) ∙ e)
distinct_given _ n fixed ns h a e = absurd (cc)

-- they differ from one another
pub AreDistinct-fields : (n : ℕ) (fixed : List FixedArg) (ns : List Name)
    → HasArguments op.Fields n fixed → texts_in fixed ≡ Some ns → AreDistinct ns
AreDistinct-fields n fixed ns has e =
    AreDistinct-true ns
    (distinct_given has.kinds n fixed ns
    (row_of-all takes_texts has.name has.count op.Fields has.kinds each_row has.row) has.are e)
