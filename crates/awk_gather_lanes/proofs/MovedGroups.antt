-- The numbers of groups of bytes that were moved.
use Rattle.std.proofs.Common.{◌≡◌, ◌≢◌, ℕ, suc, zero, ◌+◌, ◌-◌, ◌*◌, ◌/◌, ◌<◌, List, [], ◌∷◌}
use Rattle.std.proofs.Common.{◌++◌, length, drop, get_or, map, refl, ap, sym, subst, ◌∙◌, arith}
use Rattle.std.proofs.Common.{drop-drop}
use Rattle.std.specs.Prelude.{◌^◌, ℤ, pos}
use Rattle.std.specs.List.{range_with_len, flat_map}
use Rattle.std.specs.Simd.{first_chunks}
use Rattle.std.proofs.lemmas.List.{length-map, get_or-map, take_at, drop_at}
use Rattle.std.proofs.lemmas.List.FromFn.{map-range_with_len_more, length-map-range_with_len}
use Rattle.std.proofs.lemmas.List.FromFn.{get_or-map-range_with_len, fill_by_all}
use Rattle.std.proofs.Math.Nat.{mul-div_left, div-mul-le_self}
use Rattle.awk_lanes.specs.declared.kind.Kind.{Kind}
use Rattle.awk_lanes.specs.declared.kind.Kind.TheVariants.{Bool as Truths, I64, U32}
use Rattle.awk_lanes.specs.Column.{Column}
use Rattle.awk_lanes.specs.Numbers.{width, number, numbers, nat_of, element}
use Rattle.awk_lanes.specs.Places.{size_of, at, place_at, IsIndex}
use Rattle.awk_lanes.specs.declared.kind.Num.TheVariants.{Nat}
use Rattle.std.specs.Int.{to_le_bytes, w32}
use Rattle.awk_base.proofs.Lists.{length-chunk}
use Rattle.awk_lanes.proofs.NumberParts.{number-bytes_of, length-numbers, get_or-numbers}
use Rattle.awk_lanes.proofs.NumberParts.{number-take, map-number_all}
use Rattle.awk_lanes.proofs.PlaceLaws.{element-same, pos-nat_of}
use Rattle.awk_gather_lanes.specs.Moved.{past, eight, group_past, groups_past, ArePlacesPast}
use Rattle.awk_gather_lanes.specs.Moved.{narrow_group, narrow_groups}

-- the number at a place of groups that are joined is that of the group
number-flat : (k : Kind) (gs : List (List ℕ)) (j : ℕ)
    → ((i : ℕ) → i < length gs → length (get_or gs i []) ≡ width k) → j < length gs
    → number k (drop (j * width k) (flat_map (λ x. x) gs)) ≡ number k (get_or gs j [])
number-flat k [] j h l = absurd (omega arith)
number-flat k (g ∷ gs) zero h l =
    let w : ℕ = width k in
    let e : 0 * w ≡ 0 = omega arith in
    let long : length g ≡ w = h 0 (omega arith) in
    ap (λ m. number k (drop m (g ++ flat_map (λ x. x) gs))) e
    ∙ sym (number-take k w (g ++ flat_map (λ x. x) gs) (omega arith))
    ∙ ap (number k) (take_at g (flat_map (λ x. x) gs) w long)
number-flat k (g ∷ gs) (suc j) h l =
    let w : ℕ = width k in
    let e : suc j * w ≡ w + j * w = omega arith in
    let long : length g ≡ w = h 0 (omega arith) in
    ap (λ m. number k (drop m (g ++ flat_map (λ x. x) gs))) e
    ∙ ap (number k) (sym (drop-drop (j * w) w (g ++ flat_map (λ x. x) gs)))
    ∙ ap (λ b. number k (drop (j * w) b)) (drop_at g (flat_map (λ x. x) gs) w long)
    ∙ number-flat k gs j (λ i m. h (suc i) (omega arith)) (omega arith)

-- a lane's number at a place is that of the group there
module _ (c : Column) (b : List ℕ) (size : length b ≡ size_of c * width c.kind)
    (same : numbers c.kind (size_of c) b ≡ c.items) where
  abbrev pub groups : List (List ℕ)
  groups = first_chunks (width c.kind) (length b / width c.kind) b

  pub map-number_groups : map (number c.kind) groups ≡ c.items
  map-number_groups = map-number_all c.kind (size_of c) b c.items size same

  pub length-groups : length groups ≡ size_of c
  length-groups = sym (length-map groups (number c.kind)) ∙ ap length map-number_groups

  pub number-group : (i : ℕ) → i < size_of c
      → number c.kind (get_or groups i []) ≡ get_or c.items i (pos 0)
  number-group i h =
      sym (get_or-map (number c.kind) groups i [] (pos 0) (omega (arith, length-groups)))
      ∙ ap (λ zs. get_or zs i (pos 0)) map-number_groups

-- one group more
pub group_pushed : (f : ℕ → List ℕ) (i : ℕ) (x : List ℕ) (old new : List (List ℕ))
    → new ≡ old ++ x ∷ [] → x ≡ f i → old ≡ map f (range_with_len 0 i)
    → new ≡ map f (range_with_len 0 (i + 1))
group_pushed f i x old new e g h =
    rw (e, h, g) (sym (map-range_with_len_more f 0 i i (omega arith)))

-- ---- moved groups make the lane of the numbers

-- the numbers of groups that are joined
pub numbers-flat : (k : Kind) (w n : ℕ) (g : ℕ → List ℕ) (f : ℕ → ℤ) → width k ≡ w → 0 < w
    → ((i : ℕ) → i < n → length (g i) ≡ width k) → ((i : ℕ) → i < n → number k (g i) ≡ f i)
    → (gs : List (List ℕ)) → gs ≡ map g (range_with_len 0 n) → (flat : List ℕ)
    → flat ≡ flat_map (λ x. x) gs → length flat ≡ length gs * w
    → numbers k (length flat / width k) flat ≡ map f (range_with_len 0 n)
numbers-flat k w n g f wide some long is gs m flat e size =
    let count : length gs ≡ n = ap length m ∙ length-map-range_with_len g 0 n in
    let each : (i : ℕ) → i < n → get_or gs i [] ≡ g i =
    λ i l. ap (λ xs. get_or xs i []) m ∙ get_or-map-range_with_len g 0 n i i [] l (omega arith) in
    let h : length flat / width k ≡ n =
    ap (λ x. x / width k) (size ∙ ap (λ v. length gs * v) (sym wide)) ∙ mul-div_left (length gs)
    (rw wide some) ∙ count in
    fill_by_all f (numbers k (length flat / width k) flat) n (pos 0)
    (length-numbers k (length flat / width k) flat ∙ h)
    (λ j l.
    get_or-numbers k (length flat / width k) flat j (omega (arith, h))
    ∙ ap (λ x. number k (drop (j * width k) x)) e
    ∙ number-flat k gs j (λ i l'. let i' : i < n = omega (arith, count) in ap length (each i i') ∙
    long i i') (omega (arith, count))
    ∙ ap (number k) (each j l)
    ∙ is j l)

-- places in bytes
module _ (p : Column) (b : List ℕ) (n d : ℕ) (kind : p.kind ≡ I64)
    (size : length b ≡ size_of p * width p.kind) (same : numbers p.kind (size_of p) b ≡ p.items)
  where
    abbrev pub eights : List (List ℕ)
    eights = first_chunks 8 (length b / 8) b

    abbrev Whole : Kind → Type 0
    Whole k =
        length b ≡ size_of p * width k → numbers k (size_of p) b ≡ p.items →
        (length eights ≡ size_of p) × ((i : ℕ) → i < size_of p → eight (get_or eights i []) ≡
        element
        k (get_or p.items i (pos 0)))

    whole : Whole p.kind
    whole =
        subst Whole (sym kind) (λ s e. let c : Column = record { kind = I64; items = p.items } in
        (length-groups c b s e, λ i l. number-group c b s e i l))

    pub length-eights : length eights ≡ size_of p
    length-eights = (whole size same).0

    pub eight-at : (i : ℕ) → i < size_of p → eight (get_or eights i []) ≡ at p i
    eight-at i l = (whole size same).1 i l

    pub places_past : IsIndex p (n - d) → ArePlacesPast d n eights
    places_past h i l =
        let l' : i < size_of p = omega (arith, length-eights) in
        let e : eight (get_or eights i []) ≡ at p i = eight-at i l' in
        let f : nat_of (eight (get_or eights i [])) ≡ place_at p i = ap nat_of e in
        (rw e (h.places i l').0, omega (arith, (h.places i l').1))

-- the numbers of the groups that were moved are those so far past the places
module _ (c p : Column) (b q : List ℕ) (d w : ℕ) (plain : c.kind ≢ Truths) (wide : width c.kind ≡ w)
    (some : 0 < w) (size : length b ≡ size_of c * width c.kind)
    (same : numbers c.kind (size_of c) b ≡ c.items) (kind : p.kind ≡ I64)
    (p-size : length q ≡ size_of p * width p.kind) (p-same : numbers p.kind (size_of p) q ≡ p.items)
    (within : IsIndex p (size_of c - d)) (moved : List (List ℕ)) where
  abbrev group_at : ℕ → List ℕ
  group_at =
      group_past d (first_chunks (width c.kind) (length b / width c.kind) b)
      (first_chunks 8 (length q / 8) q)

  number-past : (i : ℕ) → i < size_of p → number c.kind (group_at i) ≡ at c (place_at p i + d)
  number-past i l =
      let e : nat_of (eight (get_or (first_chunks 8 (length q / 8) q) i [])) ≡ place_at p i = ap
      nat_of (eight-at p q (size_of c) d kind p-size p-same i l) in
      let l' : place_at p i + d < size_of c = omega (arith, (within.places i l).1) in
      ap (λ j. number c.kind (get_or (first_chunks (width c.kind) (length b / width c.kind) b)
      (j + d) [])) e
      ∙ number-group c b size same (place_at p i + d) l'
      ∙ sym (element-same c.kind (get_or c.items (place_at p i + d) (pos 0)) plain)

  count : length b / width c.kind ≡ size_of c
  count = ap (λ m. m / width c.kind) size ∙ mul-div_left (size_of c) (rw wide some)

  group-wide : (i : ℕ) → i < size_of p → length (group_at i) ≡ width c.kind
  group-wide i l =
      let e : nat_of (eight (get_or (first_chunks 8 (length q / 8) q) i [])) ≡ place_at p i = ap
      nat_of (eight-at p q (size_of c) d kind p-size p-same i l) in
      let l' : place_at p i + d < size_of c = omega (arith, (within.places i l).1) in
      length-chunk (width c.kind) (length b / width c.kind) b
      (nat_of (eight (get_or (first_chunks 8 (length q / 8) q) i [])) + d)
      (div-mul-le_self (length b) (width c.kind)) (omega (arith, count))

  pub numbers-moved : moved ≡ groups_past d (first_chunks w (length b / w) b)
      (first_chunks 8 (length q / 8) q) → (flat : List ℕ) → flat ≡ flat_map (λ x. x) moved → length
      flat ≡ length moved * w → numbers c.kind (length flat / width c.kind) flat ≡
      (past d c p).items
  numbers-moved h =
      numbers-flat c.kind w (size_of p) group_at (λ i. at c (place_at p i + d)) wide some group-wide
      number-past moved
      (h ∙ ap (λ v. groups_past d (first_chunks v (length b / v) b)
      (first_chunks 8 (length q / 8) q)) (sym wide)
      ∙ ap (λ n. map group_at (range_with_len 0 n))
      (length-eights p q (size_of c) d kind p-size p-same))

-- the numbers of the groups that places were narrowed to are the places
module _ (p : Column) (q : List ℕ) (kind : p.kind ≡ I64)
    (p-size : length q ≡ size_of p * width p.kind) (p-same : numbers p.kind (size_of p) q ≡ p.items)
    (within : IsIndex p (2 ^ 32)) where
  abbrev narrow_at : ℕ → List ℕ
  narrow_at = narrow_group (first_chunks 8 (length q / 8) q)

  number-narrow : (i : ℕ) → i < size_of p → number U32 (narrow_at i) ≡ at p i
  number-narrow i l =
      let e : eight (get_or (first_chunks 8 (length q / 8) q) i []) ≡ at p i = eight-at p q (2 ^ 32)
      0 kind p-size p-same i l in
      ap (λ z. number U32 (to_le_bytes w32 (nat_of z))) e
      ∙ number-bytes_of U32 (Nat (place_at p i)) (within.places i l).1
      ∙ sym (pos-nat_of (at p i) (within.places i l).0)

  pub numbers-narrow : (gs : List (List ℕ)) → gs ≡ narrow_groups (first_chunks 8 (length q / 8) q)
      → (flat : List ℕ) → flat ≡ flat_map (λ x. x) gs → length flat ≡ length gs * 4
      → numbers U32 (length flat / 4) flat ≡ map (at p) (range_with_len 0 (size_of p))
  numbers-narrow gs h =
      numbers-flat U32 4 (size_of p) narrow_at (at p) refl (omega arith) (λ i l. refl) number-narrow
      gs
      (h ∙ ap (λ n. map narrow_at (range_with_len 0 n))
      (length-eights p q (2 ^ 32) 0 kind p-size p-same))
