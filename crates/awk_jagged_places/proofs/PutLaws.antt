-- Numbers of lists, while a lane of them is made.
use Rattle.std.specs.Prelude.{◌≡◌, ℕ, ◌+◌, ◌<◌, List, [], ◌∷◌, ◌++◌, length, map, ℤ}
use Rattle.std.specs.List.{range_with_len}
use Rattle.std.proofs.Common.{arith, ap, sym, ◌∙◌, subst}
use Rattle.std.proofs.lemmas.List.{append_assoc, length-append}
use Rattle.std.proofs.lemmas.List.FromFn.{length-map-range_with_len, map-range_with_len_more}
use Rattle.awk_lanes.specs.Counted.{before}
use Rattle.awk_lanes.specs.Making.{Making, with_item}
use Rattle.awk_lanes.specs.declared.kind.Kind.TheVariants.{I64}
use Rattle.awk_base.proofs.Each.{each_of, each_of-more, each_of-room}
use Rattle.awk_select.specs.Kept.{Puts}
use Rattle.awk_jagged_places.specs.Put.{HasRoom}
use Rattle.awk_jagged_places.proofs.FlatLists.{length-each}

-- ---- one list

pub put_more : (zs us : List ℤ) (old mid new : Making) → Puts zs old mid
    → new ≡ record { kind = mid.kind; room = mid.room; items = mid.items ++ us }
    → Puts (zs ++ us) old new
put_more zs us old mid new p e =
    e ∙ ap (λ (m : Making). record { kind = m.kind; room = m.room; items = m.items ++ us }) p
    ∙ ap (λ vs. record { kind = old.kind; room = old.room; items = vs })
    (append_assoc old.items zs us)

-- the first numbers by their places
abbrev pub first_numbers : (ℕ → ℤ) → ℕ → List ℤ
first_numbers f k = map f (range_with_len 0 k)

pub puts-next : (f : ℕ → ℤ) (k : ℕ) (z : ℤ) (old mid new : Making) → z ≡ f k
    → Puts (first_numbers f k) old mid → new ≡ with_item mid z
    → Puts (first_numbers f (k + 1)) old new
puts-next f k z old mid new e p n =
    subst (λ zs. Puts zs old new)
    (ap (λ u. first_numbers f k ++ u ∷ []) e
    ∙ sym (map-range_with_len_more f 0 k k (omega arith)))
    (put_more (first_numbers f k) (z ∷ []) old mid new p n)

pub next-room : (f : ℕ → ℤ) (n k : ℕ) (old mid : Making) → HasRoom (first_numbers f n) old
    → k < n → Puts (first_numbers f k) old mid → length mid.items < mid.room
next-room f n k old mid r q p =
    let size : length mid.items ≡ length old.items + length (first_numbers f k) =
    ap (λ (m : Making). length m.items) p ∙ length-append old.items (first_numbers f k) in
    omega (
      arith,
      size,
      ap (λ (m : Making). m.room) p,
      r,
      q,
      length-map-range_with_len f 0 n,
      length-map-range_with_len f 0 k,
    )

-- ---- all lists

-- the numbers of the first lists are made, of n
pub record AreMade (numbers : ℕ → List ℤ) (n i : ℕ) (m : Making) : Type 0 where
  pub kind : m.kind ≡ I64
  pub room : m.room ≡ n
  pub items : m.items ≡ each_of numbers i

pub made-room : (f : ℕ → List ℤ) (n total i : ℕ) (m : Making)
    → total ≡ before (λ k. length (f k)) n → i < n → AreMade f total i m → HasRoom (f i) m
made-room f n total i m e p h =
    omega (arith, ap length h.items, h.room, e, length-each f n, each_of-room f i n p)

-- the same with room for one number more
pub made-room_more : (f : ℕ → List ℤ) (n total i : ℕ) (m : Making)
    → total ≡ before (λ k. length (f k)) n → i < n → AreMade f (total + 1) i m
    → length m.items + length (f i) < m.room
made-room_more f n total i m e p h =
    omega (arith, ap length h.items, h.room, e, length-each f n, each_of-room f i n p)

pub made-more : (f : ℕ → List ℤ) (n i : ℕ) (old new : Making) → AreMade f n i old
    → Puts (f i) old new → AreMade f n (i + 1) new
made-more f n i old new h p = record {
  kind = ap (λ (m : Making). m.kind) p ∙ h.kind;
  room = ap (λ (m : Making). m.room) p ∙ h.room;
  items = ap (λ (m : Making). m.items) p ∙ ap (λ zs. zs ++ f i) h.items ∙ sym (each_of-more f i);
}
