-- Columns with too many values.
use Rattle.std.proofs.Common.{◌≡◌, ◌<◌, ◌≤◌, ◌||◌, true, false, List, length, ap, ◌∙◌, Some, None}
use Rattle.std.specs.Prelude.{nat_lt, filter}
use Rattle.std.specs.List.{list_any}
use Rattle.std.proofs.lemmas.Bool.{lt-ltb, le-ltb, or_right}
use Rattle.awk_types.specs.DataType.{DataType, unknown, leaf, var, reg, rec, tup, opt, uni}
use Rattle.awk_types.specs.Value.{Value}
use Rattle.awk_types.specs.ItemLimit.{item_limit}
use Rattle.awk_layout.specs.Layout.{Layout}
use Rattle.awk_layout.specs.Typing.{array_type, array_items}
use Rattle.awk_layout.specs.Valid.{len}
use Rattle.awk_columns.specs.Columns.{joined_items, is_present}
use Rattle.awk_columns.specs.ListClass.{Class, list_type}
use Rattle.awk_columns.specs.Lists.{Listed}
use Rattle.awk_columns.specs.ListValues.{list_values}
use Rattle.awk_open.specs.declared.opening.Opened.TheVariants.{Items}
use Rattle.awk_layout.proofs.ArrayItems.{length-array_items}
use Rattle.awk_pack.specs.Columns.{placed_fields, placed_alternatives}
use Rattle.awk_pack.specs.Canon.{is_too_long, is_too_large}
use Rattle.awk_pack.specs.Packing.{IsColumn}

-- the column of the node itself is too long
pub large_node : (t : DataType) (vs : List Value) → nat_lt item_limit (length vs) ≡ true
    → is_too_large t vs ≡ true
large_node unknown vs h = ap (λ b. b || false) h
large_node (leaf p) vs h = ap (λ b. b || false) h
large_node (var t) vs h = ap (λ b. b || is_too_large t (joined_items vs)) h
large_node (reg n t) vs h = ap (λ b. b || is_too_large t (joined_items vs)) h
large_node (rec ns ts) vs h = ap (λ b. b || list_any is_too_long (placed_fields 0 ts vs)) h
large_node (tup ts) vs h = ap (λ b. b || list_any is_too_long (placed_fields 0 ts vs)) h
large_node (opt t) vs h = ap (λ b. b || is_too_large t (filter is_present vs)) h
large_node (uni ts) vs h = ap (λ b. b || list_any is_too_long (placed_alternatives 0 ts vs)) h

-- an array that is too long, and one that is not
pub large_array : (x : Layout) → item_limit < len x
    → is_too_large (array_type x) (array_items x) ≡ true
large_array x l = large_node (array_type x) (array_items x)
    (ap (nat_lt item_limit) (length-array_items x) ∙ lt-ltb item_limit (len x) l)

pub few_items : (x : Layout) → len x ≤ item_limit
    → nat_lt item_limit (length (array_items x)) ≡ false
few_items x l = ap (nat_lt item_limit) (length-array_items x) ∙ le-ltb item_limit (len x) l

-- a column below lists is too long
pub large_below : (c : Class) (t u : DataType) (vs : List Value) → t ≡ list_type c u
    → is_too_large u (joined_items vs) ≡ true → is_too_large t vs ≡ true
large_below None t u vs e l =
    ap (λ t. is_too_large t vs) e
    ∙ or_right (is_too_long (record { typ = var u; values = vs }))
    (is_too_large u (joined_items vs)) l
large_below (Some n) t u vs e l =
    ap (λ t. is_too_large t vs) e
    ∙ or_right (is_too_long (record { typ = reg n u; values = vs }))
    (is_too_large u (joined_items vs)) l

-- the items of lists are too many
pub large_of : (c : Class) (t u : DataType) (vs : List Value) → t ≡ list_type c u
    → nat_lt item_limit (length (joined_items vs)) ≡ true → is_too_large t vs ≡ true
large_of c t u vs e l = large_below c t u vs e (large_node u (joined_items vs) l)

pub large_lists : (t : DataType) (vs : List Value) (l : Listed)
    → nat_lt item_limit (length (joined_items (list_values l.starts l.stops l.content))) ≡ true
    → IsColumn t vs (Items l) → is_too_large t vs ≡ true
large_lists t vs l e h =
    large_of l.class t (array_type l.content) vs h.kind
    (ap (λ vs. nat_lt item_limit (length (joined_items vs))) h.order ∙ e)
