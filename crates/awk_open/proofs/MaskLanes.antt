-- The bytes of a mask, and the index of an option that they stand for.
use Rattle.std.proofs.Common.{◌≡◌, ℕ, ◌*◌, ◌/◌, ◌<◌, List, [], length, get_or, map, arith, ap}
use Rattle.std.proofs.Common.{sym, ◌∙◌, subst}
use Rattle.std.specs.Prelude.{ℤ, pos, Bool}
use Rattle.std.specs.Simd.{first_chunks}
use Rattle.std.proofs.lemmas.List.{length-map, get_or-map}
use Rattle.awk_base.proofs.Ranges.{map-in}
use Rattle.awk_lanes.specs.Column.{Column}
use Rattle.awk_lanes.specs.Made.{lane_of}
use Rattle.awk_lanes.specs.Numbers.{element, number, numbers, width, is_nonzero}
use Rattle.awk_lanes.specs.Places.{size_of, at}
use Rattle.awk_lanes.specs.declared.kind.Kind.TheVariants.{I8, I64}
use Rattle.awk_lanes.proofs.MadeLanes.{size-lane_of, at-lane_of}
use Rattle.awk_lanes.proofs.NumberParts.{map-number_all}
use Rattle.awk_layout.specs.Item.{agrees}
use Rattle.awk_gather.specs.Peeled.{if_shown, byte_index}
use Rattle.awk_open.specs.Masked.{group_shows, mask_lane}
use Rattle.awk_open.proofs.FirstIndexes.{wide_itself}

-- the bytes of a mask, each in a group of its own
module _ (m : Column) (b : List ℕ) (byte : m.kind ≡ I8) (size : length b ≡ size_of m * width m.kind)
    (same : numbers m.kind (size_of m) b ≡ m.items) where
  abbrev groups : List (List ℕ)
  groups = first_chunks 1 (length b / 1) b

  numbers-groups : map (number I8) groups ≡ m.items
  numbers-groups =
      subst (λ k. length b ≡ size_of m * width k → numbers k (size_of m) b ≡ m.items
      → map (number I8) groups ≡ m.items) (sym byte)
      (λ s e. map-number_all I8 (size_of m) b m.items s e) size same

  count : length groups ≡ size_of m
  count = sym (length-map groups (number I8)) ∙ ap length numbers-groups

  number-group : (i : ℕ) → i < size_of m → number I8 (get_or groups i []) ≡ at m i
  number-group i l =
      sym (get_or-map (number I8) groups i [] (pos 0) (omega (arith, l, count)))
      ∙ ap (λ zs. get_or zs i (pos 0)) numbers-groups
      ∙ ap (λ k. element k (get_or m.items i (pos 0))) (sym byte)

  pub mask_lane-groups : (gs : List (List ℕ)) (v : Bool) → gs ≡ groups
      → mask_lane gs v ≡ lane_of I64 (size_of m) (byte_index m v)
  mask_lane-groups gs v e =
      ap (λ q. mask_lane q v) e
      ∙ ap (λ n. lane_of I64 n (λ i. if_shown (group_shows groups v i) i)) count
      ∙ ap (λ zs. record { kind = I64; items = zs })
      (map-in (λ i. if_shown (group_shows groups v i) i) (byte_index m v) 0 (size_of m)
      (λ i l. ap (λ z. if_shown (agrees v (is_nonzero z)) i) (number-group i (omega (arith, l)))))

-- ---- by groups

module _ (gs : List (List ℕ)) (v : Bool) where
  abbrev there : ℕ → ℤ
  there i = if_shown (group_shows gs v i) i

  pub size-mask_lane : size_of (mask_lane gs v) ≡ length gs
  size-mask_lane = size-lane_of I64 (length gs) there

  pub at-mask_lane : (i : ℕ) → i < length gs → at (mask_lane gs v) i ≡ there i
  at-mask_lane i l = at-lane_of I64 (length gs) there i l

-- an index that was made from the one that a mask stands for
pub made_index : (m k r : Column) (v : Bool) (n : ℕ) → k ≡ lane_of I64 (size_of m) (byte_index m v)
    → n ≡ size_of k → r ≡ lane_of I64 n (at k) → r ≡ lane_of I64 (size_of m) (byte_index m v)
made_index m k r v n e f h =
    h ∙ ap (λ q. lane_of I64 q (at k)) f ∙ sym (wide_itself k (ap (λ (c : Column). c.kind) e)) ∙ e
