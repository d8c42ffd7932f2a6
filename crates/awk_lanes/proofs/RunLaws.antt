-- Places in order, by place and in part, and the bytes of them.
use Rattle.std.proofs.Common.{◌≡◌, ℕ, suc, ◌+◌, ◌-◌, ◌*◌, ◌<◌, ◌≤◌, ◌^◌, ◌⊎◌, inl, inr, List}
use Rattle.std.proofs.Common.{[], ◌∷◌, ◌++◌, map, length, get_or, refl, ap, ap₂, sym, subst, ◌∙◌}
use Rattle.std.proofs.Common.{get_or-take, get_or-drop, length-take, length-drop, drop, arith, w64}
use Rattle.std.proofs.lemmas.Bool.{cases_lt, lt-ltb, le-ltb}
use Rattle.std.proofs.lemmas.Int.{ints}
use Rattle.std.proofs.lemmas.List.{ext_get_or, get_or_past}
use Rattle.std.proofs.lemmas.List.FromFn.{get_or-map-range_with_len, length-map-range_with_len}
use Rattle.std.proofs.lemmas.List.FromFn.{map-range_with_len_more}
use Rattle.std.specs.Prelude.{ℤ, pos, negsuc, ◌≤ℤ◌, slice_range, min}
use Rattle.std.specs.Int.{cast_unsigned, to_le_bytes}
use Rattle.std.specs.List.{flat_map, range_with_len}
use Rattle.awk_lanes.specs.declared.kind.Kind.TheVariants.{I64}
use Rattle.awk_lanes.specs.declared.lane.Held.{Held}
use Rattle.awk_lanes.specs.declared.lane.Held.TheVariants.{Bytes, Run}
use Rattle.awk_lanes.specs.Column.{Column}
use Rattle.awk_lanes.specs.Cut.{cut_of}
use Rattle.awk_lanes.specs.Held.{held_column}
use Rattle.awk_lanes.specs.Made.{lane_of}
use Rattle.awk_lanes.specs.Numbers.{width, numbers, nat_of, bytes_of}
use Rattle.awk_lanes.specs.Places.{size_of, at}
use Rattle.awk_lanes.specs.Ranges.{IsNumber, AreNumbers}
use Rattle.awk_lanes.specs.Words.{low_bytes, low_groups, HasNats, integers}
use Rattle.awk_lanes.specs.Runs.{run_at}
use Rattle.awk_lanes.proofs.MadeLanes.{size-lane_of}
use Rattle.awk_lanes.proofs.PlaceLaws.{pos-nat_of}
use Rattle.awk_lanes.proofs.RangeLaws.{zero_number}
use Rattle.awk_lanes.proofs.RowLaws.{numbers-low_row}
use Rattle.awk_lanes.proofs.WordLaws.{flat_map-map}

-- ---- one number

pub run_within : (first count i : ℕ) → i < count → run_at first count i ≡ pos (first + i)
run_within first count i h = rw (lt-ltb i count h) refl

pub run_past : (first count i : ℕ) → count ≤ i → run_at first count i ≡ negsuc 0
run_past first count i h = rw (le-ltb i count h) refl

-- each is of 64 bits
pub run_fits : (first count : ℕ) → first + count ≤ 2 ^ 63 → (i : ℕ)
    → IsNumber I64 (run_at first count i)
run_fits first count h i = within_or_past (cases_lt i count)
  where
    within_or_past : (i < count) ⊎ (count ≤ i) → IsNumber I64 (run_at first count i)
    within_or_past (inl l) =
        let f : first + i < 2 ^ 63 = omega (arith, h, l) in
        subst (IsNumber I64) (sym (run_within first count i l))
        (omega (arith, ints, f), omega (arith, ints, f))
    within_or_past (inr l) =
        subst (IsNumber I64) (sym (run_past first count i l))
        (omega (arith, ints), omega (arith, ints))

-- from a later place on
pub run_later : (first count lo before : ℕ) → before ≡ min lo count → (i : ℕ)
    → run_at (first + before) (count - before) i ≡ run_at first count (lo + i)
run_later first count lo before m i = within_or_past (cases_lt (lo + i) count)
  where
    within_or_past : (lo + i < count) ⊎ (count ≤ lo + i)
        → run_at (first + before) (count - before) i ≡ run_at first count (lo + i)
    within_or_past (inl l) =
        let same : before ≡ lo = omega (arith, m, l) in
        let e : first + before + i ≡ first + (lo + i) = omega (arith, same) in
        run_within (first + before) (count - before) i (omega (arith, l, same))
        ∙ ap pos e
        ∙ sym (run_within first count (lo + i) l)
    within_or_past (inr l) =
        run_past (first + before) (count - before) i (omega (arith, m, l))
        ∙ sym (run_past first count (lo + i) l)

-- ---- numbers by their places, in part

pub map-part : (f g : ℕ → ℤ) (n lo hi : ℕ) → lo ≤ hi → hi ≤ n → ((i : ℕ) → g i ≡ f (lo + i))
    → map g (range_with_len 0 (hi - lo)) ≡ slice_range (map f (range_with_len 0 n)) lo hi
map-part f g n lo hi p q same =
    let zs : List ℤ = map f (range_with_len 0 n) in
    let size : length (map g (range_with_len 0 (hi - lo))) ≡ hi - lo =
    length-map-range_with_len g 0 (hi - lo) in
    let long : length (slice_range zs lo hi) ≡ hi - lo = omega (
      arith,
      length-take (hi - lo) (drop lo zs),
      length-drop lo zs,
      length-map-range_with_len f 0 n,
      p,
      q,
    ) in
    ext_get_or (pos 0) _ _ (size ∙ sym long)
    (λ j h.
    let l : j < hi - lo = omega (arith, h, size) in
    get_or-map-range_with_len g 0 (hi - lo) j j (pos 0) l (omega arith)
    ∙ same j
    ∙ sym (get_or-map-range_with_len f 0 n (lo + j) (lo + j) (pos 0) (omega (arith, l, q))
    (omega arith))
    ∙ sym (get_or-drop lo zs j (pos 0))
    ∙ sym (get_or-take (hi - lo) (drop lo zs) j (pos 0) l))

-- ---- what is known of opened places in order

pub run_size : (n first count : ℕ) (v : Column) → lane_of I64 n (run_at first count) ≡ v
    → n ≡ size_of v
run_size n first count v e =
    sym (size-lane_of I64 n (run_at first count)) ∙ ap (λ (c : Column). size_of c) e

pub run_number : (n first count i : ℕ) (v : Column) → lane_of I64 n (run_at first count) ≡ v
    → i < size_of v → run_at first count i ≡ at v i
run_number n first count i v e l =
    sym (get_or-map-range_with_len (run_at first count) 0 n i i (pos 0)
    (omega (arith, l, run_size n first count v e)) (omega arith))
    ∙ ap (λ (c : Column). at c i) e

pub run_part : (n first count lo hi before : ℕ) (v : Column)
    → lane_of I64 n (run_at first count) ≡ v → lo ≤ hi → hi ≤ size_of v → before ≡ min lo count
    → lane_of I64 (hi - lo) (run_at (first + before) (count - before)) ≡ cut_of v lo hi
run_part n first count lo hi before v e p q m =
    ap (λ zs. record { kind = I64; items = zs })
    (map-part (run_at first count) (run_at (first + before) (count - before)) n lo hi p
    (omega (arith, q, run_size n first count v e)) (run_later first count lo before m))
    ∙ ap (λ (c : Column). cut_of c lo hi) e

pub run_kind : (n first count : ℕ) (v : Column) → lane_of I64 n (run_at first count) ≡ v
    → I64 ≡ v.kind
run_kind n first count v e = ap (λ (c : Column). c.kind) e

numbers_fit : (n first count : ℕ) → first + count ≤ 2 ^ 63
    → AreNumbers (lane_of I64 n (run_at first count))
numbers_fit n first count h i = within_or_past (cases_lt i n)
  where
    within_or_past : (i < n) ⊎ (n ≤ i)
        → IsNumber I64 (get_or (map (run_at first count) (range_with_len 0 n)) i (pos 0))
    within_or_past (inl l) =
        subst (IsNumber I64) (sym (get_or-map-range_with_len (run_at first count) 0 n i i (pos 0) l
        (omega arith))) (run_fits first count h i)
    within_or_past (inr l) =
        subst (IsNumber I64) (sym (get_or_past (map (run_at first count) (range_with_len 0 n)) i
        (pos 0) (omega (arith, l, length-map-range_with_len (run_at first count) 0 n))))
        (zero_number I64)

pub run_numbers_fit : (n first count : ℕ) (v : Column) → first + count ≤ 2 ^ 63
    → lane_of I64 n (run_at first count) ≡ v → AreNumbers v
run_numbers_fit n first count v h e = subst AreNumbers e (numbers_fit n first count h)

-- ---- their bytes

low-8 : (n : ℕ) → to_le_bytes w64 n ≡ low_bytes 8 n
low-8 n = refl

bytes-low_row : (f : ℕ → ℤ) (xs : List ℕ)
    → flat_map (λ i. low_bytes 8 (cast_unsigned w64 (f i))) xs ≡ flat_map (bytes_of I64) (map f xs)
bytes-low_row f [] = refl
bytes-low_row f (x ∷ xs) =
    ap₂ (λ b bs. b ++ bs) (sym (low-8 (cast_unsigned w64 (f x)))) (bytes-low_row f xs)

-- bytes that are those of the numbers of a lane, one group after another
pub record AreBytesOf (v : Column) (b : List ℕ) : Type 0 where
  pub numbers : numbers v.kind (size_of v) b ≡ v.items
  pub size : length b ≡ size_of v * width v.kind
  pub bytes : b ≡ flat_map (bytes_of v.kind) v.items

pub run_made : (n first count : ℕ) (v : Column) (gs : List (List ℕ)) (b : List ℕ)
    → first + count ≤ 2 ^ 63 → lane_of I64 n (run_at first count) ≡ v
    → gs ≡ low_groups 8 n (run_at first count) → b ≡ flat_map (λ g. g) gs
    → length b ≡ length gs * 8 → AreBytesOf v b
run_made n first count v gs b h e groups flat long =
    let f : ℕ → ℤ = run_at first count in
    let size : length (map f (range_with_len 0 n)) ≡ n = length-map-range_with_len f 0 n in
    let row : b ≡ flat_map (λ i. low_bytes 8 (cast_unsigned w64 (f i))) (range_with_len 0 n) =
    flat ∙ ap (λ (hs : List (List ℕ)). flat_map (λ g. g) hs) groups
    ∙ flat_map-map _ (range_with_len 0 n) in
    subst (λ (c : Column). AreBytesOf c b) e (record {
      numbers = ap (λ m. numbers I64 m b) size
          ∙ ap (numbers I64 n) row
          ∙ numbers-low_row I64 n f (λ i l. run_fits first count h i);
      size = long
          ∙ ap (λ m. m * 8) (ap length groups ∙ length-map-range_with_len
          (λ i. low_bytes 8 (cast_unsigned w64 (f i))) 0 n ∙ sym size);
      bytes = row ∙ bytes-low_row f (range_with_len 0 n);
    })

-- one more of what is told by its place
pub one_more : {A : Type 0} (f : ℕ → A) (i : ℕ) (x : A) (old new : List A) → new ≡ old ++ x ∷ []
    → x ≡ f i → old ≡ map f (range_with_len 0 i) → new ≡ map f (range_with_len 0 (i + 1))
one_more f i x old new e d h =
    rw (e, d, h) (sym (map-range_with_len_more f 0 i i (omega arith)))

-- ---- numbers that are not negative

integers-nats : (f : ℕ → ℤ) (xs : List ℕ) → ((i : ℕ) → pos 0 ≤ℤ get_or (map f xs) i (pos 0))
    → integers (map (λ i. nat_of (f i)) xs) ≡ map f xs
integers-nats f [] h = refl
integers-nats f (x ∷ xs) h =
    ap₂ (λ z zs. z ∷ zs) (sym (pos-nat_of (f x) (h 0))) (integers-nats f xs (λ i. h (suc i)))

pub run_integers : (n first count : ℕ) (v : Column) → lane_of I64 n (run_at first count) ≡ v
    → HasNats v.kind v.items
    → integers (map (λ i. nat_of (run_at first count i)) (range_with_len 0 n)) ≡ v.items
run_integers n first count v e h =
    integers-nats (run_at first count) (range_with_len 0 n)
    (subst (λ (c : Column). HasNats c.kind c.items) (sym e) h)
    ∙ ap (λ (c : Column). c.items) e

-- ---- how a lane holds its numbers

pub seen_bytes : (h : Held) (c v : Column) → h ≡ Bytes c → held_column h ≡ v → c ≡ v
seen_bytes h c v e f = sym (ap held_column e) ∙ f

pub seen_run : (h : Held) (c v : Column) → h ≡ Run c → held_column h ≡ v → c ≡ v
seen_run h c v e f = sym (ap held_column e) ∙ f

-- ---- from 0 on

-- each is its own place
pub from_zero : (n : ℕ) → lane_of I64 n (run_at 0 n) ≡ lane_of I64 n pos
from_zero n =
    let size : length (map (run_at 0 n) (range_with_len 0 n)) ≡ n =
    length-map-range_with_len (run_at 0 n) 0 n in
    ap (λ zs. record { kind = I64; items = zs })
    (ext_get_or (pos 0) _ _ (size ∙ sym (length-map-range_with_len pos 0 n))
    (λ j h.
    let l : j < n = omega (arith, h, size) in
    get_or-map-range_with_len (run_at 0 n) 0 n j j (pos 0) l (omega arith)
    ∙ run_within 0 n j l
    ∙ ap pos (omega arith)
    ∙ sym (get_or-map-range_with_len pos 0 n j j (pos 0) l (omega arith))))
