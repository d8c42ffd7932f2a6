-- What the arguments of an allowed `zip` are.
use Rattle.std.proofs.Common.{◌≡◌, ℕ, Bool, true, false, List, [], ◌∷◌, ◌++◌, length, Option, Some}
use Rattle.std.proofs.Common.{None, option_map, refl, sym, ap₂, ◌∙◌, subst, arith}
use Rattle.std.specs.List.{list_all}
use Rattle.std.specs.Prelude.{IfSome}
use Rattle.awk_types.specs.DataType.{Name}
use Rattle.awk_types.specs.Names.{are_distinct}
use Rattle.awk_types.proofs.DistinctLaws.{AreDistinct-true}
use Rattle.awk_layout.specs.Valid.{AreNames}
use Rattle.awk_expr.specs.Allowed.{AreArguments, HasArguments}
use Rattle.awk_expr.specs.Operations.{operations}
use Rattle.awk_expr.specs.declared.op.Op.{Op}
use Rattle.awk_expr.specs.declared.op.Op.TheVariants as op
use Rattle.awk_expr.specs.declared.kind.ArgKind.{ArgKind}
use Rattle.awk_expr.specs.declared.kind.ArgKind.TheVariants as kind
use Rattle.awk_expr.specs.declared.fixed.FixedArg.{FixedArg}
use Rattle.awk_expr.specs.declared.fixed.FixedArg.TheVariants.{Texts}
use Rattle.awk_arguments.specs.Fixed.{depth_of, named_in}
use Rattle.awk_arguments.proofs.Rows.{row_of-all}

-- `zip` takes a depth, and names with expressions
abbrev takes_names : Op → List ArgKind → Bool
takes_names op.Zip (kind.SomeCount ∷ kind.NamedExprs ∷ []) = true
takes_names op.Zip _ = false
takes_names _ ks = true

each_zip : list_all (λ r. takes_names r.1 r.2) operations ≡ true
each_zip = refl

abbrev NamesFor : ℕ → ℕ × List Name → Type 0
NamesFor n p = AreNames (Some p.1) n

-- the names, if any, fit n data
abbrev pub AreNamed : ℕ → List FixedArg → Type 0
AreNamed n fixed = IfSome (named_in fixed) (NamesFor n)

abbrev beside : List Name → ℕ → ℕ × List Name
beside ns d = (d, ns)

named_texts : (depth : Option ℕ) (ns : List Name) (n : ℕ) → n ≡ length ns
    → are_distinct ns ≡ true
    → IfSome (option_map (beside ns) depth) (NamesFor n)
named_texts None ns n long distinct = tt
named_texts (Some d) ns n long distinct = (sym long, AreDistinct-true ns distinct)

named_given : (ks : List ArgKind) (n : ℕ) (fixed : List FixedArg)
    → takes_names op.Zip ks ≡ true → AreArguments ks n fixed → AreNamed n fixed
named_given (kind.SomeCount ∷ kind.NamedExprs ∷ []) n fixed h a =
    let texts = a.are in
    let names = texts.is in
    let both : fixed ≡ a.is.arg ∷ Texts names.names ∷ [] =
    a.parts ∙ ap₂ (λ first others. first ++ others) a.is.alone texts.parts
    ∙ ap₂ (λ first others. a.is.arg ∷ first ++ others) names.alone texts.are.1 in
    let none : a.here ≡ 0 = a.is.no_exprs in
    let last : texts.later ≡ 0 = texts.are.0 in
    let long : n ≡ length names.names =
    omega (arith, a.exprs, none, texts.exprs, names.as_many, last) in
    subst (AreNamed n) (sym both)
    (named_texts (depth_of a.is.arg) names.names n long names.distinct)
named_given _ n fixed h a = absurd (cc)

-- they are as many as the expressions, and differ from one another
pub AreNamed-zip : (n : ℕ) (fixed : List FixedArg) → HasArguments op.Zip n fixed → AreNamed n fixed
AreNamed-zip n fixed has =
    named_given has.kinds n fixed
    (row_of-all takes_names has.name has.count op.Zip has.kinds each_zip has.row) has.are
