-- What the arguments of a call are by the kinds of its row: how many expressions, and which others.
use Rattle.std.proofs.Common.{◌≡◌, ◌+◌, ◌<◌, ℕ, suc, Bool, true, false, List, [], ◌∷◌, ◌++◌, ap}
use Rattle.std.proofs.Common.{◌∙◌}
use Rattle.std.proofs.Common.{length, sym, subst, arith}
use Rattle.awk_expr.specs.Allowed.{is_of_kind, IsFixed, AreArguments}
use Rattle.awk_expr.specs.declared.kind.ArgKind.{ArgKind}
use Rattle.awk_expr.specs.declared.kind.ArgKind.TheVariants as kind
use Rattle.awk_expr.specs.declared.fixed.FixedArg.{FixedArg}
use Rattle.awk_expr.specs.declared.fixed.FixedArg.TheVariants.{Texts}

-- ---- the arguments that are no expressions

-- their kinds: names with expressions leave names
abbrev pub fixed_kinds : List ArgKind → List ArgKind
fixed_kinds [] = []
fixed_kinds (kind.Expr ∷ ks) = fixed_kinds ks
fixed_kinds (kind.Exprs ∷ ks) = fixed_kinds ks
fixed_kinds (kind.NamedExprs ∷ ks) = kind.Texts ∷ fixed_kinds ks
fixed_kinds (k ∷ ks) = k ∷ fixed_kinds ks

abbrev pub AreOfKinds : List ArgKind → List FixedArg → Type 0
AreOfKinds [] [] = Unit {0}
AreOfKinds [] (a ∷ more) = ⊥
AreOfKinds (k ∷ ks) [] = ⊥
AreOfKinds (k ∷ ks) (a ∷ more) = (is_of_kind k a ≡ true) × AreOfKinds ks more

-- behind an expression
behind_none : (fixed first others : List FixedArg) → fixed ≡ first ++ others → first ≡ []
    → fixed ≡ others
behind_none fixed first others parts none = parts ∙ ap (λ before. before ++ others) none

-- behind an argument of a kind
behind_one : (k : ArgKind) (ks : List ArgKind) (a : FixedArg) (fixed first others : List FixedArg)
    → fixed ≡ first ++ others → first ≡ a ∷ [] → is_of_kind k a ≡ true → AreOfKinds ks others
    → AreOfKinds (k ∷ ks) fixed
behind_one k ks a fixed first others parts alone is more =
    subst (AreOfKinds (k ∷ ks)) (sym (parts ∙ ap (λ before. before ++ others) alone)) (is, more)

behind_fixed : (k : ArgKind) (ks : List ArgKind) (n : ℕ) (fixed first others : List FixedArg)
    → fixed ≡ first ++ others → IsFixed k n first → AreOfKinds ks others
    → AreOfKinds (k ∷ ks) fixed
behind_fixed k ks n fixed first others parts is more =
    behind_one k ks is.arg fixed first others parts is.alone is.of_kind more

pub of_kinds : (ks : List ArgKind) (n : ℕ) (fixed : List FixedArg) → AreArguments ks n fixed
    → AreOfKinds (fixed_kinds ks) fixed
of_kinds [] n fixed a = subst (AreOfKinds []) (sym a.1) tt
of_kinds (kind.Expr ∷ ks) n fixed a =
    subst (AreOfKinds (fixed_kinds ks)) (sym (behind_none fixed a.first a.others a.parts a.is.1))
    (of_kinds ks a.later a.others a.are)
of_kinds (kind.Exprs ∷ ks) n fixed a =
    subst (AreOfKinds (fixed_kinds ks)) (sym (behind_none fixed a.first a.others a.parts a.is.1))
    (of_kinds ks a.later a.others a.are)
of_kinds (kind.NamedExprs ∷ ks) n fixed a =
    behind_one kind.Texts (fixed_kinds ks) (Texts a.is.names) fixed a.first a.others a.parts
    a.is.alone a.is.distinct (of_kinds ks a.later a.others a.are)
of_kinds (kind.Place ∷ ks) n fixed a =
    behind_fixed kind.Place (fixed_kinds ks) a.here fixed a.first a.others a.parts a.is
    (of_kinds ks a.later a.others a.are)
of_kinds (kind.Bound ∷ ks) n fixed a =
    behind_fixed kind.Bound (fixed_kinds ks) a.here fixed a.first a.others a.parts a.is
    (of_kinds ks a.later a.others a.are)
of_kinds (kind.Step ∷ ks) n fixed a =
    behind_fixed kind.Step (fixed_kinds ks) a.here fixed a.first a.others a.parts a.is
    (of_kinds ks a.later a.others a.are)
of_kinds (kind.Count ∷ ks) n fixed a =
    behind_fixed kind.Count (fixed_kinds ks) a.here fixed a.first a.others a.parts a.is
    (of_kinds ks a.later a.others a.are)
of_kinds (kind.SomeCount ∷ ks) n fixed a =
    behind_fixed kind.SomeCount (fixed_kinds ks) a.here fixed a.first a.others a.parts a.is
    (of_kinds ks a.later a.others a.are)
of_kinds (kind.Truth ∷ ks) n fixed a =
    behind_fixed kind.Truth (fixed_kinds ks) a.here fixed a.first a.others a.parts a.is
    (of_kinds ks a.later a.others a.are)
of_kinds (kind.Text ∷ ks) n fixed a =
    behind_fixed kind.Text (fixed_kinds ks) a.here fixed a.first a.others a.parts a.is
    (of_kinds ks a.later a.others a.are)
of_kinds (kind.Texts ∷ ks) n fixed a =
    behind_fixed kind.Texts (fixed_kinds ks) a.here fixed a.first a.others a.parts a.is
    (of_kinds ks a.later a.others a.are)
of_kinds (kind.Primitive ∷ ks) n fixed a =
    behind_fixed kind.Primitive (fixed_kinds ks) a.here fixed a.first a.others a.parts a.is
    (of_kinds ks a.later a.others a.are)
of_kinds (kind.Edges ∷ ks) n fixed a =
    behind_fixed kind.Edges (fixed_kinds ks) a.here fixed a.first a.others a.parts a.is
    (of_kinds ks a.later a.others a.are)

-- ---- how many expressions

abbrev pub no_exprs : List ArgKind → Bool
no_exprs [] = true
no_exprs (kind.Expr ∷ ks) = false
no_exprs (kind.Exprs ∷ ks) = false
no_exprs (kind.NamedExprs ∷ ks) = false
no_exprs (k ∷ ks) = no_exprs ks

-- behind the first expression
abbrev behind : (List ArgKind → Bool) → List ArgKind → Bool
behind f [] = false
behind f (kind.Expr ∷ ks) = f ks
behind f (kind.Exprs ∷ ks) = false
behind f (kind.NamedExprs ∷ ks) = false
behind f (k ∷ ks) = behind f ks

abbrev pub one_expr : List ArgKind → Bool
one_expr ks = behind no_exprs ks

abbrev pub two_exprs : List ArgKind → Bool
two_exprs ks = behind one_expr ks

abbrev pub three_exprs : List ArgKind → Bool
three_exprs ks = behind two_exprs ks

-- at least one
abbrev pub some_exprs : List ArgKind → Bool
some_exprs (k ∷ kind.Exprs ∷ []) = true
some_exprs (k ∷ kind.NamedExprs ∷ []) = true
some_exprs _ = false

none_here : (n here later m : ℕ) → n ≡ here + later → here ≡ 0 → later ≡ m → n ≡ m
none_here n here later m parts none more = omega (arith, parts, none, more)

one_here : (n here later m : ℕ) → n ≡ here + later → here ≡ 1 → later ≡ m → n ≡ suc m
one_here n here later m parts one more = omega (arith, parts, one, more)

pub none-count : (ks : List ArgKind) (n : ℕ) (fixed : List FixedArg) → no_exprs ks ≡ true
    → AreArguments ks n fixed → n ≡ 0
none-count [] n fixed h a = a.0
none-count (kind.Expr ∷ ks) n fixed h a = absurd (cc)
none-count (kind.Exprs ∷ ks) n fixed h a = absurd (cc)
none-count (kind.NamedExprs ∷ ks) n fixed h a = absurd (cc)
none-count (kind.Place ∷ ks) n fixed h a =
    none_here n a.here a.later 0 a.exprs a.is.no_exprs (none-count ks a.later a.others h a.are)
none-count (kind.Bound ∷ ks) n fixed h a =
    none_here n a.here a.later 0 a.exprs a.is.no_exprs (none-count ks a.later a.others h a.are)
none-count (kind.Step ∷ ks) n fixed h a =
    none_here n a.here a.later 0 a.exprs a.is.no_exprs (none-count ks a.later a.others h a.are)
none-count (kind.Count ∷ ks) n fixed h a =
    none_here n a.here a.later 0 a.exprs a.is.no_exprs (none-count ks a.later a.others h a.are)
none-count (kind.SomeCount ∷ ks) n fixed h a =
    none_here n a.here a.later 0 a.exprs a.is.no_exprs (none-count ks a.later a.others h a.are)
none-count (kind.Truth ∷ ks) n fixed h a =
    none_here n a.here a.later 0 a.exprs a.is.no_exprs (none-count ks a.later a.others h a.are)
none-count (kind.Text ∷ ks) n fixed h a =
    none_here n a.here a.later 0 a.exprs a.is.no_exprs (none-count ks a.later a.others h a.are)
none-count (kind.Texts ∷ ks) n fixed h a =
    none_here n a.here a.later 0 a.exprs a.is.no_exprs (none-count ks a.later a.others h a.are)
none-count (kind.Primitive ∷ ks) n fixed h a =
    none_here n a.here a.later 0 a.exprs a.is.no_exprs (none-count ks a.later a.others h a.are)
none-count (kind.Edges ∷ ks) n fixed h a =
    none_here n a.here a.later 0 a.exprs a.is.no_exprs (none-count ks a.later a.others h a.are)

module _ (f : List ArgKind → Bool) (m : ℕ)
    (count : (ks : List ArgKind) (n : ℕ) (fixed : List FixedArg) → f ks ≡ true
    → AreArguments ks n fixed → n ≡ m) where
  behind-count : (ks : List ArgKind) (n : ℕ) (fixed : List FixedArg) → behind f ks ≡ true
      → AreArguments ks n fixed → n ≡ suc m
  behind-count [] n fixed h a = absurd (cc)
  behind-count (kind.Expr ∷ ks) n fixed h a =
      one_here n a.here a.later m a.exprs a.is.0 (count ks a.later a.others h a.are)
  behind-count (kind.Exprs ∷ ks) n fixed h a = absurd (cc)
  behind-count (kind.NamedExprs ∷ ks) n fixed h a = absurd (cc)
  behind-count (kind.Place ∷ ks) n fixed h a =
      none_here n a.here a.later (suc m) a.exprs a.is.no_exprs
      (behind-count ks a.later a.others h a.are)
  behind-count (kind.Bound ∷ ks) n fixed h a =
      none_here n a.here a.later (suc m) a.exprs a.is.no_exprs
      (behind-count ks a.later a.others h a.are)
  behind-count (kind.Step ∷ ks) n fixed h a =
      none_here n a.here a.later (suc m) a.exprs a.is.no_exprs
      (behind-count ks a.later a.others h a.are)
  behind-count (kind.Count ∷ ks) n fixed h a =
      none_here n a.here a.later (suc m) a.exprs a.is.no_exprs
      (behind-count ks a.later a.others h a.are)
  behind-count (kind.SomeCount ∷ ks) n fixed h a =
      none_here n a.here a.later (suc m) a.exprs a.is.no_exprs
      (behind-count ks a.later a.others h a.are)
  behind-count (kind.Truth ∷ ks) n fixed h a =
      none_here n a.here a.later (suc m) a.exprs a.is.no_exprs
      (behind-count ks a.later a.others h a.are)
  behind-count (kind.Text ∷ ks) n fixed h a =
      none_here n a.here a.later (suc m) a.exprs a.is.no_exprs
      (behind-count ks a.later a.others h a.are)
  behind-count (kind.Texts ∷ ks) n fixed h a =
      none_here n a.here a.later (suc m) a.exprs a.is.no_exprs
      (behind-count ks a.later a.others h a.are)
  behind-count (kind.Primitive ∷ ks) n fixed h a =
      none_here n a.here a.later (suc m) a.exprs a.is.no_exprs
      (behind-count ks a.later a.others h a.are)
  behind-count (kind.Edges ∷ ks) n fixed h a =
      none_here n a.here a.later (suc m) a.exprs a.is.no_exprs
      (behind-count ks a.later a.others h a.are)

pub one-count : (ks : List ArgKind) (n : ℕ) (fixed : List FixedArg) → one_expr ks ≡ true
    → AreArguments ks n fixed → n ≡ 1
one-count ks n fixed h a = behind-count no_exprs 0 none-count ks n fixed h a

pub two-count : (ks : List ArgKind) (n : ℕ) (fixed : List FixedArg) → two_exprs ks ≡ true
    → AreArguments ks n fixed → n ≡ 2
two-count ks n fixed h a = behind-count one_expr 1 one-count ks n fixed h a

pub three-count : (ks : List ArgKind) (n : ℕ) (fixed : List FixedArg) → three_exprs ks ≡ true
    → AreArguments ks n fixed → n ≡ 3
three-count ks n fixed h a = behind-count two_exprs 2 two-count ks n fixed h a

some_last : (n here later first rest : ℕ) → n ≡ here + later → later ≡ first + rest → 0 < first
    → 0 < n
some_last n here later first rest parts last some = omega (arith, parts, last, some)

same_some : (n m : ℕ) → n ≡ m → 0 < m → 0 < n
same_some n m same some = omega (arith, same, some)

pub some-count : (ks : List ArgKind) (n : ℕ) (fixed : List FixedArg) → some_exprs ks ≡ true
    → AreArguments ks n fixed → 0 < n
some-count (k ∷ kind.Exprs ∷ []) n fixed h a =
    some_last n a.here a.later a.are.here a.are.later a.exprs a.are.exprs a.are.is.0
some-count (k ∷ kind.NamedExprs ∷ []) n fixed h a =
    some_last n a.here a.later a.are.here a.are.later a.exprs a.are.exprs
    (same_some a.are.here (length a.are.is.names) a.are.is.as_many a.are.is.some)
some-count _ n fixed h a = absurd (cc)
