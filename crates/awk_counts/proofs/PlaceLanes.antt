-- Lanes of places, while they are made.
use Rattle.std.proofs.Common.{◌≡◌, ℕ, ◌+◌, ◌<◌, List, [], ◌∷◌, ◌++◌, map, length, arith, ap}
use Rattle.std.proofs.Common.{sym, ◌∙◌, subst}
use Rattle.std.specs.Prelude.{ℤ, pos}
use Rattle.std.proofs.lemmas.List.{append-nil, length-map, map-append}
use Rattle.awk_lanes.specs.declared.kind.Kind.TheVariants.{I64}
use Rattle.awk_lanes.specs.Making.{Making, with_item}
use Rattle.awk_counts.specs.Counted.{first_of}
use Rattle.awk_counts.proofs.FirstPlaces.{first_of-more, first_of-room}

-- these places are made, of n
pub record ArePlaces (n : ℕ) (ks : List ℕ) (m : Making) : Type 0 where
  pub kind : m.kind ≡ I64
  pub room : m.room ≡ n
  pub items : m.items ≡ map (λ k. pos k) ks

pub places_pushed : (n : ℕ) (ks : List ℕ) (k : ℕ) (z : ℤ) (old new : Making)
    → new ≡ with_item old z → z ≡ pos k → ArePlaces n ks old → ArePlaces n (ks ++ k ∷ []) new
places_pushed n ks k z old new e g h = record {
  kind = ap (λ (m : Making). m.kind) e ∙ h.kind;
  room = ap (λ (m : Making). m.room) e ∙ h.room;
  items =
      ap (λ (m : Making). m.items) e ∙ ap (λ ys. ys ++ z ∷ []) h.items ∙ ap
      (λ y. map (λ k. pos k) ks ++ y ∷ []) g ∙ sym (map-append (λ k. pos k) ks (k ∷ []));
}

-- there is room for one place more
pub places_room : (n : ℕ) (ks : List ℕ) (m : Making) → length ks < n → ArePlaces n ks m
    → length m.items < m.room
places_room n ks m l h = omega (arith, ap length h.items, length-map ks (λ k. pos k), h.room)

-- ---- the places that f gives, one place after another

pub given_pushed : (f : ℕ → List ℕ) (n i k : ℕ) (z : ℤ) (old new : Making) → f i ≡ k ∷ []
    → new ≡ with_item old z → z ≡ pos k → ArePlaces n (first_of f i) old
    → ArePlaces n (first_of f (i + 1)) new
given_pushed f n i k z old new o e g h =
    subst (λ ks. ArePlaces n ks new) (ap (λ ks. first_of f i ++ ks) (sym o) ∙ sym
    (first_of-more f i))
    (places_pushed n (first_of f i) k z old new e g h)

pub given_none : (f : ℕ → List ℕ) (n i : ℕ) (m : Making) → f i ≡ [] → ArePlaces n (first_of f i) m
    → ArePlaces n (first_of f (i + 1)) m
given_none f n i m o h =
    subst (λ ks. ArePlaces n ks m) (sym (append-nil _) ∙ ap (λ ks. first_of f i ++ ks) (sym o) ∙ sym
    (first_of-more f i)) h

pub given_room : (f : ℕ → List ℕ) (n i k w : ℕ) (m : Making) → n ≡ length (first_of f w) → i < w
    → f i ≡ k ∷ [] → ArePlaces n (first_of f i) m → length m.items < m.room
given_room f n i k w m e l o h =
    places_room n (first_of f i) m (omega (arith, first_of-room f i w l, ap length o)) h
