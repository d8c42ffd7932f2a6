-- What stands beside the true items of masks, while it is put.
use Rattle.std.specs.Prelude.{◌≡◌, refl, ℕ, zero, suc, ◌+◌, ◌<◌, ◌≤◌, List, [], ◌++◌, length, map}
use Rattle.std.specs.Prelude.{get_or, Bool, true, false}
use Rattle.std.proofs.Common.{arith, ap, ap₂, sym, ◌∙◌}
use Rattle.std.proofs.lemmas.List.{append_assoc, length-map, map-append}
use Rattle.awk_base.proofs.Each.{each_of, each_of-more, length-each_of, each_of-room}
use Rattle.awk_types.specs.Value.{Value, truth}
use Rattle.awk_lanes.specs.Counted.{before}
use Rattle.awk_columns.specs.Lists.{Listed, length_of}
use Rattle.awk_select.specs.Cells.{place_number}
use Rattle.awk_select.specs.Picks.{mask_place}
use Rattle.awk_select.specs.Kept.{kept}
use Rattle.awk_jagged_places.specs.Beside.{group_at, groups_beside, kept_length}
use Rattle.awk_jagged_places.specs.Leaves.{mask_at, mask_first, mask_numbers}
use Rattle.awk_jagged_places.proofs.FlatLists.{length-each}
use Rattle.awk_jagged_places.proofs.MaskLaws.{first-more, length-more, few_first}
use Rattle.awk_jagged_rows.specs.Levels.{row_at}
use Rattle.awk_jagged_rows.specs.Rows.{place_by}

-- the group beside a true item is kept
beside_one : (gs : List (List ℕ)) (p : ℕ) (keep : Bool) (v : Value) → truth keep ≡ v
    → kept keep (get_or gs p []) ≡ map (group_at gs) (map place_number (mask_place p v))
beside_one gs p true v e =
    ap (λ w. map (group_at gs) (map place_number (mask_place p w))) e
beside_one gs p false v e =
    ap (λ w. map (group_at gs) (map place_number (mask_place p w))) e

module _ (xs ws : Listed) (gs : List (List ℕ)) where
  -- the groups beside the first k items of list i
  abbrev pub groups_first : ℕ → ℕ → List (List ℕ)
  groups_first i k = map (group_at gs) (mask_first xs ws i k)

  -- the groups of the first i lists
  abbrev pub groups_each : ℕ → List (List ℕ)
  groups_each i = map (group_at gs) (each_of (mask_numbers xs ws) i)

  kept_here : (i k : ℕ) (keep : Bool) (b : List ℕ) → truth keep ≡ row_at ws i k
      → b ≡ get_or gs (place_by xs i k) [] → kept keep b ≡ map (group_at gs) (mask_at xs ws i k)
  kept_here i k keep b e f =
      ap (kept keep) f ∙ beside_one gs (place_by xs i k) keep (row_at ws i k) e

  -- what one item more gives is put
  pub groups-next : (i k : ℕ) (keep : Bool) (b : List ℕ) (old mid new : List (List ℕ))
      → truth keep ≡ row_at ws i k → b ≡ get_or gs (place_by xs i k) []
      → mid ≡ old ++ groups_first i k → new ≡ mid ++ kept keep b
      → new ≡ old ++ groups_first i (k + 1)
  groups-next i k keep b old mid new e f p n =
      n
      ∙ ap₂ (λ (us : List (List ℕ)) (vs : List (List ℕ)). us ++ vs) p (kept_here i k keep b e f)
      ∙ append_assoc old (groups_first i k) (map (group_at gs) (mask_at xs ws i k))
      ∙ ap (λ us. old ++ us)
      (sym (map-append (group_at gs) (mask_first xs ws i k) (mask_at xs ws i k))
      ∙ sym (ap (map (group_at gs)) (first-more xs ws i k)))

  pub count-next : (i k : ℕ) (keep : Bool) (b : List ℕ) (old mid new : ℕ)
      → truth keep ≡ row_at ws i k → b ≡ get_or gs (place_by xs i k) []
      → mid ≡ old + length (mask_first xs ws i k) → new ≡ mid + length (kept keep b)
      → new ≡ old + length (mask_first xs ws i (k + 1))
  count-next i k keep b old mid new e f p n =
      omega (
        arith,
        p,
        n,
        ap length (kept_here i k keep b e f),
        length-map (mask_at xs ws i k) (group_at gs),
        length-more xs ws i k (mask_at xs ws i k) refl,
      )

  -- there is room for one group more
  pub groups-room : (i k old mid room : ℕ) → old + length (mask_numbers xs ws i) < room
      → k < length_of ws i → mid ≡ old + length (mask_first xs ws i k) → mid < room
  groups-room i k old mid room r q p =
      omega (arith, p, r, each_of-room (mask_at xs ws i) k (length_of ws i) q)

  -- one list more
  pub lists-next : (i : ℕ) (old new : List (List ℕ)) → old ≡ groups_each i
      → new ≡ old ++ groups_beside xs ws gs i → new ≡ groups_each (i + 1)
  lists-next i old new p n =
      n ∙ ap (λ us. us ++ groups_beside xs ws gs i) p
      ∙ sym (map-append (group_at gs) (each_of (mask_numbers xs ws) i) (mask_numbers xs ws i))
      ∙ sym (ap (map (group_at gs)) (each_of-more (mask_numbers xs ws) i))

  pub total-next : (i old new : ℕ) → old ≡ length (each_of (mask_numbers xs ws) i)
      → new ≡ old + length (mask_numbers xs ws i)
      → new ≡ length (each_of (mask_numbers xs ws) (i + 1))
  total-next i old new p n = omega (arith, p, n, length-each_of (mask_numbers xs ws) i)

  -- there is room for one list more
  pub lists-room : (i n most made room : ℕ) → i < n → before (kept_length xs ws) n ≤ most
      → room ≡ most + 1 → made ≡ length (each_of (mask_numbers xs ws) i)
      → made + length (mask_numbers xs ws i) < room
  lists-room i n most made room l e r m =
      omega (
        arith,
        e,
        r,
        m,
        length-each (mask_numbers xs ws) n,
        each_of-room (mask_numbers xs ws) i n l,
      )

  -- how many groups the lists before this one and it have
  pub offset-next : (i old new : ℕ) → old ≡ length (each_of (mask_numbers xs ws) i)
      → new ≡ old + length (mask_numbers xs ws i) → new ≡ before (kept_length xs ws) (i + 1)
  offset-next i old new p n =
      total-next i old new p n ∙ length-each (mask_numbers xs ws) (i + 1)

-- ---- room

before_le : (f g : ℕ → ℕ) (n : ℕ) → ((i : ℕ) → f i ≤ g i) → before f n ≤ before g n
before_le f g zero h = omega arith
before_le f g (suc n) h = omega (arith, before_le f g n h, h n)

-- lists keep no more than they hold
pub kept-within : (xs ws : Listed) (n : ℕ) → before (kept_length xs ws) n ≤ before (length_of ws) n
kept-within xs ws n =
    before_le (kept_length xs ws) (length_of ws) n (λ i. few_first xs ws i (length_of ws i))
