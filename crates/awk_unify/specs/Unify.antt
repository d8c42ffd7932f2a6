-- The type that two types unify to, and how the values of both are carried into it.
use Rattle.std.specs.Prelude.{◌||◌, ◌∷◌, [], ℕ, if◌then◌else◌, Bool, None, Option, Some, false, suc}
use Rattle.std.specs.Prelude.{true, zero}
use Rattle.awk_unify.specs.Carry.{carry, keep, no_carries, to_alternatives}
use Rattle.awk_unify.specs.Join.{Unifying, join_by}
use Rattle.awk_unify.specs.Merge.{start, insert_all, merged}
use Rattle.awk_unify.specs.Unification.{Unification}
use Rattle.awk_types.specs.DataType.{DataType, depth, no_types, opt, type, uni, unknown}
use Rattle.awk_types.specs.SameType.{same_type}
use Rattle.awk_types.specs.Simple.{alternatives, is_option, is_union, present}
use Rattle.awk_types.specs.Predicates.{is_unknown}

-- equal types, and unknown with another type
abbrev pub equal_or_unknown : DataType → DataType → Unification → Unification
equal_or_unknown a b rest =
    if same_type a b then record { typ = a; left = keep; right = keep }
    else if is_unknown a then record { typ = b; left = keep; right = keep }
    else if is_unknown b then record { typ = a; left = keep; right = keep }
    else rest

-- types that neither join nor are unions
abbrev pub apart : DataType → DataType → Unification
apart a b =
    record {
      typ = uni (type a (type b no_types));
      left = to_alternatives (0 ∷ []) (carry keep no_carries);
      right = to_alternatives (1 ∷ []) (carry keep no_carries);
    }

-- into the alternatives of a union, else a union of the two
abbrev pub in_unions : Unifying → DataType → DataType → Unification
in_unions u a b =
    if is_union a || is_union b
    then merged (insert_all (join_by u) (start (alternatives a)) (alternatives b))
    else apart a b

abbrev pub joined_or : Option Unification → Unification → Unification
joined_or (Some j) rest = j
joined_or None rest = rest

-- types that join, else a union
abbrev pub joins_or_unions : Unifying → DataType → DataType → Unification
joins_or_unions u a b = joined_or (join_by u a b) (in_unions u a b)

-- what unifies two types without options
abbrev pub bare : Unifying → DataType → DataType → Unification
bare u a b = equal_or_unknown a b (joins_or_unions u a b)

abbrev pub optional : Unification → Unification
optional r = record { typ = opt r.typ; left = r.left; right = r.right }

-- an option around what unifies without options, else the later rules
abbrev pub options_or : Unifying → DataType → DataType → Unification
options_or u a b =
    if is_option a || is_option b
    then optional (bare u (present a) (present b))
    else joins_or_unions u a b

abbrev pub rules : Unifying → DataType → DataType → Unification
rules u a b = equal_or_unknown a b (options_or u a b)

-- parts are parts of b at each step, so as many steps as b is deep are enough
abbrev pub unification_at : ℕ → Unifying
unification_at zero a b = apart a b
unification_at (suc n) a b = rules (unification_at n) a b

abbrev pub unification : Unifying
unification a b = unification_at (depth b) a b
