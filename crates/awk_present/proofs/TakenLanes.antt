-- A lane of the numbers of another at places, while it is made.
use Rattle.std.proofs.Common.{◌≡◌, ℕ, ◌+◌, ◌<◌, List, [], ◌∷◌, ◌++◌, map, length, arith, ap, sym}
use Rattle.std.proofs.Common.{◌∙◌, subst}
use Rattle.std.specs.Prelude.{ℤ, pos, ◌<ℤ◌, negsuc, Some}
use Rattle.std.proofs.lemmas.Int.{ints}
use Rattle.std.proofs.lemmas.List.{append-nil, length-map, map-append}
use Rattle.awk_lanes.specs.Column.{Column}
use Rattle.awk_lanes.specs.Making.{Making, with_item}
use Rattle.awk_lanes.specs.Places.{size_of, at, option_place, option_place_at, IsOptionalIndex}
use Rattle.awk_counts.specs.Counted.{first_of, present_place, present_at}
use Rattle.awk_counts.proofs.FirstPlaces.{first_of-more, first_of-room}

-- the numbers at these places are made, of n
pub record AreTaken (c : Column) (n : ℕ) (ks : List ℕ) (m : Making) : Type 0 where
  pub kind : m.kind ≡ c.kind
  pub room : m.room ≡ n
  pub items : m.items ≡ map (at c) ks

-- an index of an option names places that are there
pub named_within : (j : Column) (n i k : ℕ) → IsOptionalIndex j n → i < size_of j
    → option_place_at j i ≡ Some k → k < n
named_within j n i k h l e = go (at j i) e (h.below i l)
  where
    go : (z : ℤ) → option_place z ≡ Some k → z <ℤ pos n → k < n
    go (pos m) f b = let g : m ≡ k = cc in omega (arith, ints, g, b)
    go (negsuc m) f b = cc

module _ (j c : Column) (n : ℕ) where
  abbrev so_far : ℕ → List ℕ
  so_far i = first_of (present_at j) i

  pub taken_more : (i k : ℕ) (z : ℤ) (old new : Making) → option_place_at j i ≡ Some k
      → new ≡ with_item old z → z ≡ at c k → AreTaken c n (so_far i) old
      → AreTaken c n (so_far (i + 1)) new
  taken_more i k z old new o e g h =
      subst (λ ks. AreTaken c n ks new)
      (ap (λ ks. so_far i ++ ks) (sym (ap present_place o)) ∙ sym (first_of-more (present_at j) i))
      (record {
        kind = ap (λ (m : Making). m.kind) e ∙ h.kind;
        room = ap (λ (m : Making). m.room) e ∙ h.room;
        items = ap (λ (m : Making). m.items) e ∙ ap (λ ys. ys ++ z ∷ []) h.items
            ∙ ap (λ y. map (at c) (so_far i) ++ y ∷ []) g
            ∙ sym (map-append (at c) (so_far i) (k ∷ []));
      })

  pub taken_same : (i : ℕ) (m : Making) → present_at j i ≡ [] → AreTaken c n (so_far i) m
      → AreTaken c n (so_far (i + 1)) m
  taken_same i m o h =
      subst (λ ks. AreTaken c n ks m)
      (sym (append-nil (so_far i)) ∙ ap (λ ks. so_far i ++ ks) (sym o)
      ∙ sym (first_of-more (present_at j) i))
      h

  pub taken_room : (i k : ℕ) (m : Making) → n ≡ length (so_far (size_of j)) → i < size_of j
      → option_place_at j i ≡ Some k → AreTaken c n (so_far i) m → length m.items < m.room
  taken_room i k m e l o h =
      omega (
        arith,
        e,
        first_of-room (present_at j) i (size_of j) l,
        ap (λ p. length (present_place p)) o,
        ap length h.items,
        length-map (so_far i) (at c),
        h.room,
      )

  pub taken_all : (m : Making) → n ≡ length (so_far (size_of j))
      → AreTaken c n (so_far (size_of j)) m → length m.items ≡ m.room
  taken_all m e h =
      omega (arith, e, ap length h.items, length-map (so_far (size_of j)) (at c), h.room)
