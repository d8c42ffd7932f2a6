-- One list of all items of an array.
use Rattle.std.proofs.Common.{◌≡◌, ℕ, ◌+◌, ◌-◌, ap, sym, subst, ◌∙◌, arith}
use Rattle.std.specs.Prelude.{List, [], ◌∷◌, length, pos}
use Rattle.std.specs.Prelude.{None}
use Rattle.std.proofs.lemmas.List.{append-nil, map-id}
use Rattle.awk_types.specs.Value.{Value, list, values_from, value_list}
use Rattle.awk_types.proofs.Trees.{value_list-from}
use Rattle.awk_lanes.specs.Column.{Column}
use Rattle.awk_lanes.specs.Places.{size_of, IsOffsets}
use Rattle.awk_lanes.specs.declared.kind.Kind.TheVariants.{I64}
use Rattle.awk_layout.specs.Layout.{Layout, offset_lists}
use Rattle.awk_layout.specs.Typing.{array_items}
use Rattle.awk_layout.specs.Valid.{len}
use Rattle.awk_layout.proofs.ArrayItems.{length-array_items}
use Rattle.awk_columns.specs.Columns.{joined_items}
use Rattle.awk_frames.specs.Shape.{offsets_column}
use Rattle.awk_frames.proofs.FramedItems.{lists-framed}
use Rattle.awk_frames.proofs.FrameLaws.{offsets_fill}

-- the items as one list
abbrev pub only : Layout → List Value
only x = list (values_from (array_items x)) ∷ []

joined-only : (x : Layout) → joined_items (only x) ≡ array_items x
joined-only x =
    append-nil (value_list (values_from (array_items x))) ∙ value_list-from (array_items x)

items-count : (x : Layout) → length (value_list (values_from (array_items x))) ≡ len x
items-count x = ap length (value_list-from (array_items x)) ∙ length-array_items x

offsets-only : (x : Layout) (o : Column) (n : ℕ) → n ≡ len x
    → o ≡ record { kind = I64; items = pos 0 ∷ pos n ∷ [] } → o ≡ offsets_column (only x)
offsets-only x o n e h =
    let f : n ≡ 0 + length (value_list (values_from (array_items x))) =
    omega (arith, e, items-count x) in
    h ∙ ap (λ k. record { kind = I64; items = pos 0 ∷ pos k ∷ [] }) f

pub one_offsets_fill : (x : Layout) (o : Column) (n : ℕ) → n ≡ len x
    → o ≡ record { kind = I64; items = pos 0 ∷ pos n ∷ [] } → IsOffsets o (len x)
one_offsets_fill x o n e h =
    subst (λ c. IsOffsets c (len x)) (sym (offsets-only x o n e h))
    (offsets_fill (only x) (len x) (sym (ap length (joined-only x) ∙ length-array_items x))
    (omega arith)).offsets

pub one_items : (x : Layout) (o : Column) (n : ℕ) → n ≡ len x
    → o ≡ record { kind = I64; items = pos 0 ∷ pos n ∷ [] }
    → array_items (offset_lists o x) ≡ only x
one_items x o n e h =
    ap (λ c. array_items (offset_lists c x)) (offsets-only x o n e h)
    ∙ lists-framed None (λ v. v) (only x) x (tt, tt) tt
    (sym (map-id (joined_items (only x)) ∙ joined-only x))
    ∙ ap (λ ws. list (values_from ws) ∷ [])
    (map-id (value_list (values_from (array_items x))) ∙ value_list-from (array_items x))

pub one_size : (o : Column) (n : ℕ) → o ≡ record { kind = I64; items = pos 0 ∷ pos n ∷ [] }
    → size_of o - 1 ≡ 1
one_size o n h = ap (λ c. size_of c - 1) h
