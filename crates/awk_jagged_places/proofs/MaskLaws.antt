-- Numbers of masks, while a lane of them is made.
use Rattle.std.specs.Prelude.{◌≡◌, ℕ, zero, suc, ◌+◌, ◌<◌, ◌≤◌, List, ◌++◌, length}
use Rattle.std.specs.Prelude.{map, true, false, ℤ}
use Rattle.std.proofs.Common.{arith, ap, sym, ◌∙◌, subst}
use Rattle.std.proofs.lemmas.List.{length-append}
use Rattle.awk_types.specs.Value.{Value, int, truth, null, list, row, alt}
use Rattle.awk_lanes.specs.Making.{Making}
use Rattle.awk_columns.specs.Lists.{Listed, length_of}
use Rattle.awk_base.proofs.Each.{each_of-more, length-each_of, each_of-room}
use Rattle.awk_select.specs.Cells.{place_number}
use Rattle.awk_select.specs.Picks.{mask_place}
use Rattle.awk_select.specs.Kept.{Puts}
use Rattle.awk_jagged_places.specs.Leaves.{mask_at, mask_first, mask_numbers}
use Rattle.awk_jagged_rows.specs.Levels.{row_at}
use Rattle.awk_jagged_rows.specs.Rows.{place_by}
use Rattle.awk_jagged_places.proofs.PutLaws.{put_more}

few : (k : ℕ) (v : Value) → length (map place_number (mask_place k v)) ≤ 1
few k (truth true) = omega arith
few k (truth false) = omega arith
few k null = omega arith
few k (int z) = omega arith
few k (list vs) = omega arith
few k (row vs) = omega arith
few k (alt j v) = omega arith

-- no more numbers than items
pub few_first : (xs ws : Listed) (i k : ℕ) → length (mask_first xs ws i k) ≤ k
few_first xs ws i zero = omega arith
few_first xs ws i (suc k) =
    let e : k + 1 ≡ suc k = omega arith in
    subst (λ j. length (mask_first xs ws i j) ≤ j) e (omega (
      arith,
      few_first xs ws i k,
      length-each_of (mask_at xs ws i) k,
      few (place_by xs i k) (row_at ws i k),
    ))

pub first-more : (xs ws : Listed) (i k : ℕ)
    → mask_first xs ws i (k + 1) ≡ mask_first xs ws i k ++ mask_at xs ws i k
first-more xs ws i k = each_of-more (mask_at xs ws i) k

pub length-more : (xs ws : Listed) (i k : ℕ) (zs : List ℤ) → zs ≡ mask_at xs ws i k
    → length (mask_first xs ws i (k + 1)) ≡ length (mask_first xs ws i k) + length zs
length-more xs ws i k zs e =
    length-each_of (mask_at xs ws i) k
    ∙ ap (λ us. length (mask_first xs ws i k) + length us) (sym e)

-- ---- one list

-- what one item more gives is put
pub marks-put : (xs ws : Listed) (i k : ℕ) (us : List ℤ) (old mid new : Making)
    → us ≡ mask_at xs ws i k → Puts (mask_first xs ws i k) old mid → Puts us mid new
    → Puts (mask_first xs ws i (k + 1)) old new
marks-put xs ws i k us old mid new e p n =
    subst (λ zs. Puts zs old new)
    (ap (λ vs. mask_first xs ws i k ++ vs) e ∙ sym (first-more xs ws i k))
    (put_more (mask_first xs ws i k) us old mid new p n)

-- there is room for one number more
pub marks-room : (xs ws : Listed) (i k : ℕ) (old mid : Making)
    → length old.items + length (mask_numbers xs ws i) < old.room → k < length_of ws i
    → Puts (mask_first xs ws i k) old mid → length mid.items < mid.room
marks-room xs ws i k old mid r q p =
    let size : length mid.items ≡ length old.items + length (mask_first xs ws i k) =
    ap (λ (m : Making). length m.items) p ∙ length-append old.items (mask_first xs ws i k) in
    let room : mid.room ≡ old.room = ap (λ (m : Making). m.room) p in
    omega (arith, size, room, r, each_of-room (mask_at xs ws i) k (length_of ws i) q)
