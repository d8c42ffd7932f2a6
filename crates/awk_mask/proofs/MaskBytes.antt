-- Masks of truth values as they lie, over numbers.
use Rattle.std.specs.Prelude.{◌≡◌, ℕ, zero, suc, ◌+◌, ◌-◌, ◌*◌, ◌/◌, ◌<◌, pos, negsuc, refl, Bool}
use Rattle.std.specs.Prelude.{true, false, List, length, get_or, drop, slice_index, if◌then◌else◌}
use Rattle.std.specs.Int.{cast_signed, w8}
use Rattle.std.proofs.Common.{arith, ap, sym, ◌∙◌, ltb}
use Rattle.std.proofs.lemmas.List.{get_or-drop}
use Rattle.awk_types.specs.DataType.{DataType, unknown, leaf, var, reg, rec, tup, opt, uni}
use Rattle.awk_types.specs.Value.{null}
use Rattle.awk_lanes.specs.Column.{Column}
use Rattle.awk_lanes.specs.Numbers.{is_nonzero, element, numbers, width}
use Rattle.awk_lanes.specs.Places.{size_of, at, option_place}
use Rattle.awk_lanes.specs.declared.kind.Kind.TheVariants as kinds
use Rattle.awk_lanes.proofs.NumberParts.{length-numbers, get_or-numbers}
use Rattle.awk_layout.specs.Item.{agrees, at_option, byte_shows}
use Rattle.awk_layout.specs.Layout.{Layout, empty, flat, regular, lists, offset_lists, rows}
use Rattle.awk_layout.specs.Layout.{indexed, optional, byte_masked, bit_masked, unmasked, union}
use Rattle.awk_gather.specs.Arrays.{array_item}
use Rattle.awk_gather.specs.Composed.{IsComposed}
use Rattle.awk_gather.specs.Peeled.{IsPickedOpt}
use Rattle.awk_gather.proofs.FollowedIndexes.{item_if_shown}
use Rattle.awk_gather.proofs.OptionItems.{item-byte_masked}
use Rattle.awk_mask_pairs.specs.MaskTypes.{is_bare, is_innermost}
use Rattle.awk_mask.specs.MaskLeaves.{kept_lane, truths_in, IsLow}
use Rattle.awk_mask.proofs.MaskLeaves.{at-kept, size-kept, size-truths_in, truth_byte}
use mir.Val.{sel}

pub composed_low : (r : Layout) → IsComposed r → IsLow r
composed_low (optional j x) h = h
composed_low empty h = absurd h
composed_low (flat c) h = absurd h
composed_low (regular size n x) h = absurd h
composed_low (lists s t x) h = absurd h
composed_low (offset_lists o x) h = absurd h
composed_low (rows names n xs) h = absurd h
composed_low (indexed j x) h = absurd h
composed_low (byte_masked m v x) h = absurd h
composed_low (bit_masked m v x) h = absurd h
composed_low (unmasked n x) h = absurd h
composed_low (union t j xs) h = absurd h

pub bare_innermost : (u : DataType) → is_bare u ≡ true → is_innermost u ≡ true
bare_innermost unknown h = h
bare_innermost (leaf p) h = h
bare_innermost (var u) h = h
bare_innermost (reg n u) h = h
bare_innermost (rec ns ts) h = h
bare_innermost (tup ts) h = h
bare_innermost (opt u) h = cc
bare_innermost (uni ts) h = h

-- ---- bytes

nonzero_sel : (b : Bool) (n k : ℕ) → (n ≡ 0 → b ≡ true)
    → is_nonzero (sel b (pos n) (negsuc k)) ≡ is_nonzero (pos n)
nonzero_sel true n k h = refl
nonzero_sel false zero k h = let f : false ≡ true = h refl in cc
nonzero_sel false (suc n) k h = refl

-- a byte is 0 with a sign where it is 0 without one
nonzero_byte : (n : ℕ) → is_nonzero (cast_signed w8 n) ≡ is_nonzero (pos n)
nonzero_byte n = nonzero_sel (ltb n 128) n (256 - suc n) (λ e. ap (λ k. ltb k 128) e)

module _ (c mask : Column) (bytes : List ℕ) (truths : truths_in bytes ≡ c)
    (kind : mask.kind ≡ kinds.I8)
    (items : mask.items ≡ numbers kinds.I8 (length bytes / width kinds.I8) bytes) where
  count : length bytes / width kinds.I8 ≡ length bytes
  count = omega arith

  pub mask_size : size_of mask ≡ size_of c
  mask_size =
      ap length items ∙ length-numbers kinds.I8 (length bytes / width kinds.I8) bytes
      ∙ count ∙ size-truths_in bytes c truths

  mask_byte : (i : ℕ) → i < length bytes
      → is_nonzero (at mask i) ≡ is_nonzero (pos (get_or bytes i 0))
  mask_byte i p =
      let inside : i < length bytes / width kinds.I8 = omega (arith, p, count) in
      let there : i * 1 + 0 ≡ i = omega arith in
      ap (λ k. is_nonzero (element k (get_or mask.items i (pos 0)))) kind
      ∙ ap (λ zs. is_nonzero (get_or zs i (pos 0))) items
      ∙ ap is_nonzero (get_or-numbers kinds.I8 (length bytes / width kinds.I8) bytes i inside)
      ∙ nonzero_byte (slice_index (drop (i * 1) bytes) 0)
      ∙ ap (λ n. is_nonzero (pos n))
      (get_or-drop (i * 1) bytes 0 0 ∙ ap (λ k. get_or bytes k 0) there)

  mask_shows : (keep : Bool) (i : ℕ) → i < size_of c
      → byte_shows mask keep i ≡ agrees keep (is_nonzero (at c i))
  mask_shows keep i p =
      let q : i < length bytes = omega (arith, p, size-truths_in bytes c truths) in
      ap (agrees keep) (mask_byte i q ∙ sym (truth_byte bytes i q)
      ∙ ap (λ d. is_nonzero (at d i)) truths)

  -- the items that the mask shows are those at the places that are kept
  pub mask_picked : (x : Layout) (keep : Bool)
      → IsPickedOpt x (kept_lane c keep) (byte_masked mask keep x)
  mask_picked x keep = record {
    size = mask_size ∙ sym (size-kept c keep);
    items = λ j p.
        let q : j < size_of c = omega (arith, p, size-kept c keep) in
        let shown : Bool = agrees keep (is_nonzero (at c j)) in
        item-byte_masked mask keep x j
        ∙ ap (λ b. if b then array_item x j else null) (mask_shows keep j q)
        ∙ sym (item_if_shown shown j (array_item x))
        ∙ ap (λ z. at_option (option_place z) (array_item x)) (sym (at-kept c keep j q));
    typ = refl;
    held_within = omega arith;
  }
