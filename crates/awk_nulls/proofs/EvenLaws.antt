-- Lists of one size: their offsets go without saying.
use Rattle.std.specs.Prelude.{◌≡◌, ◌≤◌, refl, length, Some, None}
use Rattle.std.proofs.Common.{arith, sym, ◌∙◌, subst}
use Rattle.awk_types.specs.DataType.{leaf}
use Rattle.awk_types.specs.ItemLimit.{item_limit}
use Rattle.awk_types.specs.declared.primitive.Primitive.TheVariants.{Bool as Truths}
use Rattle.awk_lanes.specs.Column.{Column}
use Rattle.awk_lanes.specs.Places.{size_of}
use Rattle.awk_layout.specs.Layout.{Layout, flat}
use Rattle.awk_layout.specs.Valid.{IsValid}
use Rattle.awk_counts.specs.Counted.{offsets_lane, spans}
use Rattle.awk_columns.specs.Joined.{IsJoined, total}
use Rattle.awk_columns.specs.ListClass.{Class}
use Rattle.awk_columns.specs.Lists.{AreLists, AreOfClass}
use Rattle.awk_columns.specs.Reached.{IsReached}
use Rattle.awk_columns.specs.declared.lists.Joined.TheVariants.{Lists}
use Rattle.awk_columns.proofs.JoinLaws.{join_given}
use Rattle.awk_columns.proofs.JoinedLists.{are_joined, joined_given, before-spans, offsets_by-is}
use Rattle.awk_columns.proofs.JoinedLists.{offsets_lane-is}
use Rattle.awk_list_functions.specs.Made.{AreGiven, IsSized, even_offsets}
use Rattle.awk_list_ends.proofs.TotalLaws.{before-total, offsets-sized}
use Rattle.awk_nulls.specs.IsNone.{nulls}
use Rattle.awk_nulls.specs.Lanes.{AreNulls}
use Rattle.awk_nulls.proofs.NullLaws.{nulls_given}

-- the offsets of lists of a sized class are those of any lists of these lengths
even_same : (class : Class) (s t : Column) → IsSized class → AreOfClass class s t
    → offsets_lane s t ≡ even_offsets class (size_of s)
even_same None s t z c = absurd z
even_same (Some m) s t z c = sym (offsets_by-is s t) ∙ offsets-sized m s t c

-- what holds the items of lists, which are few, holds them by these offsets
reached_joins : (class : Class) (s t : Column) (y z : Layout) → AreLists class s t y
    → total s t y ≤ item_limit → IsReached y (spans s t) z → IsValid z
    → IsJoined s t y (Lists (offsets_lane s t) z)
reached_joins class s t y z a few h v =
    let count : length (spans s t) ≤ item_limit =
    omega (arith, few, before-spans s t (size_of s), before-total s t y) in
    join_given s t y (offsets_lane s t) z (joined_given s t y z count h) (offsets_lane-is s t y)
    (are_joined s t y (offsets_lane s t) z a.spans a.fits refl h v)

-- whether their items are null
pub even_nulls_given : (class : Class) (s t : Column) (y x : Layout) (c : Column) → IsSized class
    → AreLists class s t y → total s t y ≤ item_limit → IsReached y (spans s t) x → IsValid x
    → AreNulls x c
    → AreGiven class (leaf Truths) (λ vs. nulls vs) s t y (even_offsets class (size_of s)) (flat c)
even_nulls_given class s t y x c z a few h v n =
    subst (λ (o : Column). AreGiven class (leaf Truths) (λ vs. nulls vs) s t y o (flat c))
    (even_same class s t z a.same_class)
    (nulls_given class s t y (offsets_lane s t) x c a v (reached_joins class s t y x a few h v).1 n)
