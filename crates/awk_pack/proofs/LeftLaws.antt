-- Going on from what is put to what is left.
use Rattle.std.proofs.Common.{◌≡◌, ◌<◌, ◌+◌, ℕ, true, ◌||◌, List, ◌∷◌, ◌++◌, drop, Some, slice_get}
use Rattle.std.proofs.Common.{subst, sym, ap, ◌∙◌, append_assoc, arith}
use Rattle.std.specs.List.{flat_map}
use Rattle.std.proofs.lemmas.Grind.{flat_map-append}
use Rattle.std.proofs.lemmas.List.Folds.{list_any-append}
use Rattle.awk_types.specs.DataType.{DataType, nodes}
use Rattle.awk_types.specs.Value.{Value}
use Rattle.awk_base.proofs.Lists.{drop-get}
use Rattle.awk_lanes.specs.Column.{Column}
use Rattle.awk_layout.specs.Layout.{Layout}
use Rattle.awk_layout.specs.Typing.{array_type, array_items}
use Rattle.awk_pack.specs.Lanes.{lanes_at}
use Rattle.awk_pack.specs.Canon.{is_too_long, is_too_large, lanes_of}
use Rattle.awk_pack.specs.Packing.{placed_of, are_too_large, IsPut, IsLeft}

-- the first of those that are left is put
next : (t : DataType) (vs : List Value) (old mid new : List Column) (y : Layout) (ys : List Layout)
    → IsLeft t vs old (y ∷ ys) mid → IsPut (array_type y) (array_items y) mid new
    → IsLeft t vs old ys new
next t vs old mid new y ys h p =
    let rest = lanes_of (flat_map placed_of ys) in
    record {
      lanes =
          ap (λ cs. cs ++ rest) p.lanes
          ∙ append_assoc mid (lanes_of (placed_of y)) rest
          ∙ ap (λ cs. mid ++ cs)
          (sym (flat_map-append lanes_at (placed_of y) (flat_map placed_of ys)))
          ∙ h.lanes;
      fits =
          sym
          (list_any-append is_too_long (placed_of y) (flat_map placed_of ys)
          ∙ ap (λ b. b || are_too_large ys) p.fits)
          ∙ h.fits;
      count = omega (arith, h.count);
    }

-- the first is the array at the place
first : (t : DataType) (vs : List Value) (old new : List Column) (ys : List Layout) (i : ℕ)
    (y : Layout) → slice_get ys i ≡ Some y → IsLeft t vs old (drop i ys) new
    → IsLeft t vs old (y ∷ drop (i + 1) ys) new
first t vs old new ys i y at h = subst (λ zs. IsLeft t vs old zs new) (drop-get ys i y at) h

pub left_next : (t : DataType) (vs : List Value) (old mid new : List Column) (ys : List Layout)
    (i : ℕ) (y : Layout) → slice_get ys i ≡ Some y → IsLeft t vs old (drop i ys) mid
    → IsPut (array_type y) (array_items y) mid new → IsLeft t vs old (drop (i + 1) ys) new
left_next t vs old mid new ys i y at h p =
    next t vs old mid new y (drop (i + 1) ys) (first t vs old mid ys i y at h) p

-- its type has fewer nodes
pub left_below : (t : DataType) (vs : List Value) (old new : List Column) (ys : List Layout) (i : ℕ)
    (y : Layout) → slice_get ys i ≡ Some y → IsLeft t vs old (drop i ys) new
    → nodes (array_type y) < nodes t
left_below t vs old new ys i y at h = omega (arith, (first t vs old new ys i y at h).count)

-- where it is too large, the whole is
pub left_large : (t : DataType) (vs : List Value) (old new : List Column) (ys : List Layout) (i : ℕ)
    (y : Layout) → slice_get ys i ≡ Some y → IsLeft t vs old (drop i ys) new
    → is_too_large (array_type y) (array_items y) ≡ true → is_too_large t vs ≡ true
left_large t vs old new ys i y at h large =
    let rest = drop (i + 1) ys in
    sym (first t vs old new ys i y at h).fits
    ∙ list_any-append is_too_long (placed_of y) (flat_map placed_of rest)
    ∙ ap (λ b. b || are_too_large rest) large
