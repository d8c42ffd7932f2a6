-- Arrays of what stands in a slot.
use Rattle.std.specs.Prelude.{◌≡◌, refl, ℕ, ◌+◌, ◌<◌, Bool, true, false, List, [], ◌∷◌, ◌++◌}
use Rattle.std.specs.Prelude.{get_or, nat_lt, ℤ, pos, negsuc, ◌≤ℤ◌}
use Rattle.std.proofs.Common.{arith, ap, sym, ◌∙◌, subst, ltb-true}
use Rattle.std.proofs.lemmas.Bool.{ltb-false}
use Rattle.std.proofs.lemmas.Int.{ints}
use Rattle.std.proofs.lemmas.List.{length-append, get_or_append_left, get_or_push}
use Rattle.awk_types.specs.DataType.{leaf}
use Rattle.awk_types.specs.Value.{int}
use Rattle.awk_lanes.specs.Column.{Column, no_places}
use Rattle.awk_lanes.specs.Numbers.{nat_of}
use Rattle.awk_lanes.specs.Places.{at}
use Rattle.awk_layout.specs.Item.{leaf_value}
use Rattle.awk_layout.specs.Kinds.{primitive_of}
use Rattle.awk_layout.specs.Layout.{Layout, flat, indexed, empty}
use Rattle.awk_layout.specs.Valid.{len, IsValid}
use Rattle.awk_combi.specs.Slots.{IsSlotLane, IsSlot, AreSlots}

pub place_slot : (y : Layout) (n : ℕ) (c : Column) → IsSlotLane true n c → IsSlot true y c (flat c)
place_slot y n c h = record {
  valid = h.few;
  size = refl;
  typ = ap (λ k. leaf (primitive_of k)) h.kind;
  items = λ k p. ap (λ kind. leaf_value kind (at c k)) h.kind
      ∙ ap int (kept (at c k) (h.positive k p));
}
  where
    kept : (z : ℤ) → pos 0 ≤ℤ z → z ≡ pos (nat_of z)
    kept (pos n) p = refl
    kept (negsuc n) p = absurd (omega (arith, ints, p))

-- items by an index over their content
pub index_slot : (places : Bool) (y : Layout) (c : Column) (z : Layout) → IsValid y
    → IsSlotLane places (len y) c → places ≡ false → z ≡ indexed c y → IsSlot places y c z
index_slot places y c z v h e f = rw (e, f) (record {
  valid = (h.few, h.within e, v);
  size = refl;
  typ = refl;
  items = λ k p. refl;
})

-- one slot more
pub one_more : (places : Bool) (y : Layout) (cs : List Column) (j : ℕ) (zs : List Layout)
    (z : Layout)
    → AreSlots places y cs j zs → IsSlot places y (get_or cs j no_places) z
    → AreSlots places y cs (j + 1) (zs ++ z ∷ [])
one_more places y cs j zs z h s = record {
  count = omega (arith, length-append zs (z ∷ []), h.count);
  each = λ i p. go i p (nat_lt i j) refl;
}
  where
    go : (i : ℕ) → i < j + 1 → (b : Bool) → nat_lt i j ≡ b
        → IsSlot places y (get_or cs i no_places) (get_or (zs ++ z ∷ []) i empty)
    go i p true e =
        let l : i < j = ltb-true i j e in
        subst (IsSlot places y (get_or cs i no_places))
        (sym (get_or_append_left zs (z ∷ []) empty i (omega (arith, l, h.count)))) (h.each i l)
    go i p false e =
        let q : i ≡ j = omega (arith, p, ltb-false i j e) in
        rw q (subst (IsSlot places y (get_or cs j no_places))
        (sym (get_or_push zs z empty j h.count)) s)
