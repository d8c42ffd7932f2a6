-- What the arguments of an allowed `hist` or `hist_each` are.
use Rattle.std.proofs.Common.{◌≡◌, ℕ, ◌&&◌, nat_le, int_lt, Bool, true, false, List, [], ◌∷◌, ◌++◌}
use Rattle.std.proofs.Common.{ℤ, length, refl, sym, ap, ap₂, ◌∙◌, subst}
use Rattle.std.specs.List.{list_all}
use Rattle.std.specs.Prelude.{IfSome}
use Rattle.std.proofs.lemmas.Bool.{and_parts}
use Rattle.awk_bins.specs.Edges as bins
use Rattle.awk_expr.specs.Allowed.{is_of_kind, AreArguments, HasArguments}
use Rattle.awk_expr.specs.Operations.{operations}
use Rattle.awk_expr.specs.WholeNumbers as query
use Rattle.awk_expr.specs.WholeNumbers.{is_whole}
use Rattle.awk_expr.specs.declared.op.Extent.{Extent}
use Rattle.awk_expr.specs.declared.op.Op.{Op}
use Rattle.awk_expr.specs.declared.op.Op.TheVariants as op
use Rattle.awk_expr.specs.declared.kind.ArgKind.{ArgKind}
use Rattle.awk_expr.specs.declared.kind.ArgKind.TheVariants as kind
use Rattle.awk_expr.specs.declared.fixed.FixedArg.{FixedArg}
use Rattle.awk_expr.specs.declared.fixed.FixedArg.TheVariants.{Place, Count, Missing, Truth, Text}
use Rattle.awk_expr.specs.declared.fixed.FixedArg.TheVariants.{Texts, Wholes}
use Rattle.awk_arguments.specs.Fixed.{edges_in}
use Rattle.awk_arguments.proofs.Rows.{row_of-all}

-- an expression and edges
abbrev has_edges : List ArgKind → Bool
has_edges (kind.Expr ∷ kind.Edges ∷ []) = true
has_edges _ = false

abbrev takes_edges : Op → List ArgKind → Bool
takes_edges (op.Hist of) ks = has_edges ks
takes_edges _ ks = true

each_hist : list_all (λ r. takes_edges r.1 r.2) operations ≡ true
each_hist = refl

abbrev pub AreRising : List FixedArg → Type 0
AreRising fixed = IfSome (edges_in fixed) (λ zs. bins.are_edges zs ≡ true)

-- edges that are read are edges that are counted between
rise-same : (z : ℤ) (zs : List ℤ) → query.rise_above z zs ≡ bins.rise_above z zs
rise-same z [] = refl
rise-same z (y ∷ ys) = ap (λ b. int_lt z y && b) (rise-same y ys)

rising-same : (zs : List ℤ) → query.are_rising zs ≡ bins.are_rising zs
rising-same [] = refl
rising-same (z ∷ zs) = rise-same z zs

edges-same : (zs : List ℤ) → query.are_edges zs ≡ bins.are_edges zs
edges-same zs = ap (λ b. nat_le 2 (length zs) && b) (rising-same zs)

rising_edges : (arg : FixedArg) → is_of_kind kind.Edges arg ≡ true → AreRising (arg ∷ [])
rising_edges (Wholes zs) h =
    sym (edges-same zs) ∙ (and_parts (query.are_edges zs) (list_all is_whole zs) h).0
rising_edges (Place z) h = absurd (cc)
rising_edges (Count n) h = absurd (cc)
rising_edges Missing h = absurd (cc)
rising_edges (Truth b) h = absurd (cc)
rising_edges (Text n) h = absurd (cc)
rising_edges (Texts ns) h = absurd (cc)

rising_given : (ks : List ArgKind) (n : ℕ) (fixed : List FixedArg) → has_edges ks ≡ true
    → AreArguments ks n fixed → AreRising fixed
rising_given (kind.Expr ∷ kind.Edges ∷ []) n fixed h a =
    let edges = a.are in
    let one : fixed ≡ edges.is.arg ∷ [] =
    a.parts ∙ ap (λ first. first ++ a.others) a.is.1 ∙ edges.parts
    ∙ ap₂ (λ first others. first ++ others) edges.is.alone edges.are.1 in
    subst AreRising (sym one) (rising_edges edges.is.arg edges.is.of_kind)
rising_given _ n fixed h a = absurd (cc)

pub AreRising-hist : (of : Extent) (n : ℕ) (fixed : List FixedArg)
    → HasArguments (op.Hist of) n fixed → AreRising fixed
AreRising-hist of n fixed has =
    rising_given has.kinds n fixed
    (row_of-all takes_edges has.name has.count (op.Hist of) has.kinds each_hist has.row) has.are
