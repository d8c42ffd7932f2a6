-- Which items are present, by an index whose numbers are negative for nulls.
use Rattle.std.proofs.Common.{◌≡◌, ℕ, suc, ◌+◌, ◌-◌, List, [], ◌∷◌, length}
use Rattle.std.proofs.Common.{map, refl, ap, ap₂, sym, subst, ◌∙◌, arith}
use Rattle.std.specs.Prelude.{ℤ, Bool, true, false, cond, ◌&&◌, ◌==◌, position}
use Rattle.std.specs.Prelude.{Option, Some, None, if◌then◌else◌}
use Rattle.std.specs.List.{slice_range, count_by}
use Rattle.std.specs.Option.{option_map}
use Rattle.std.specs.Ordering.{int_eq}
use Rattle.std.proofs.lemmas.List.{length-map}
use Rattle.std.proofs.lemmas.List.Sums.{sum_by-cons, length-filter}
use Rattle.awk_base.proofs.Lists.{position-cons}
use Rattle.awk_types.specs.Parts.{number_of}
use Rattle.awk_types.specs.Value.{Value}
use Rattle.awk_columns.specs.Columns.{is_present, present_values}
use Rattle.awk_numbers.specs.Places.{is_place, nth_true, nth_place}
use Rattle.awk_numbers.proofs.PartLaws.{slice_range-map}
use Rattle.awk_present.specs.Numbers.{numbers, number_place}

-- ---- how many are present

counted_true : {X : Type 0} (p : X → Bool) (xs : List X)
    → count_by p xs ≡ count_by (λ (b : Bool). b) (map p xs)
counted_true p [] = refl
counted_true p (x ∷ xs) =
    sum_by-cons (λ y. cond (p y) 1 0) x xs
    ∙ ap (λ n. cond (p x) 1 0 + n) (counted_true p xs)
    ∙ sym (sum_by-cons (λ (b : Bool). cond b 1 0) (p x) (map p xs))

-- an index whose places are the items that are present
abbrev pub IsFlagged : List ℤ → List Value → Type 0
IsFlagged js vs = map is_place js ≡ map is_present vs

pub part_flagged : (js : List ℤ) (vs : List Value) (a b : ℕ) → IsFlagged js vs
    → IsFlagged (slice_range js a b) (slice_range vs a b)
part_flagged js vs a b h =
    sym (slice_range-map is_place js a b) ∙ ap (λ bs. slice_range bs a b) h
    ∙ slice_range-map is_present vs a b

pub count_flagged : (js : List ℤ) (vs : List Value) → IsFlagged js vs
    → count_by is_place js ≡ length (present_values vs)
count_flagged js vs h =
    counted_true is_place js ∙ ap (count_by (λ (b : Bool). b)) h
    ∙ sym (counted_true is_present vs) ∙ sym (length-filter is_present vs)

pub length_flagged : (js : List ℤ) (vs : List Value) → IsFlagged js vs → length js ≡ length vs
length_flagged js vs h = sym (length-map js is_place) ∙ ap length h ∙ length-map vs is_present

-- ---- back from a number to its item

-- a number has a place, and so has the item that q others that are present stand before
abbrev IsThere : List Value → ℤ → ℕ → Type 0
IsThere vs z q = (k : ℕ) × (number_place vs z ≡ Some k)
    × (nth_true q (map is_present vs) ≡ Some k)

abbrev is_number : ℤ → Value → Bool
is_number z v = is_present v && int_eq z (number_of v)

-- behind one item more
behind : (q r : ℕ) (z : ℤ) (v : Value) (vs : List Value) → is_number z v ≡ false
    → nth_true q (map is_present (v ∷ vs)) ≡ option_map suc (nth_true r (map is_present vs))
    → IsThere vs z r → IsThere (v ∷ vs) z q
behind q r z v vs f g t = (
  suc t.0,
  position-cons (is_number z) v vs
      ∙ ap (λ b. cond b (Some 0) (option_map suc (number_place vs z))) f
      ∙ ap (option_map suc) t.1,
  g ∙ ap (option_map suc) t.2,
)

-- at this item
at_first : (z : ℤ) (v : Value) (vs : List Value) → is_number z v ≡ true
    → nth_true 0 (map is_present (v ∷ vs)) ≡ Some 0 → IsThere (v ∷ vs) z 0
at_first z v vs f g = (
  0,
  position-cons (is_number z) v vs
      ∙ ap (λ b. cond b (Some 0) (option_map suc (number_place vs z))) f,
  g,
)

-- where a number stands among those that are present, by its first item
split_first : (q : ℕ) (o : Option ℕ) (b : Bool) → cond b (Some 0) (option_map suc o) ≡ Some q
    → b ≡ false → (r : ℕ) × (o ≡ Some r) × (q ≡ suc r)
split_first q None true e f = cc
split_first q None false e f = cc
split_first q (Some r) true e f = cc
split_first q (Some r) false e f = (r, refl, cc)

no_place : (q : ℕ) → None ≡ Some q → ⊥
no_place q e = cc

abbrev present-first : Bool → Value → List Value → List Value
present-first b v vs = cond b (v ∷ present_values vs) (present_values vs)

-- behind an item that is present
nth_later : (r : ℕ) (v : Value) (vs : List Value) → is_present v ≡ true
    → nth_true (suc r) (map is_present (v ∷ vs)) ≡ option_map suc (nth_true r (map is_present vs))
nth_later r v vs p =
    let some : (suc r == 0) ≡ false = grind arith in
    let less : suc r - 1 ≡ r = omega arith in
    ap (λ b. nth_true (suc r) (b ∷ map is_present vs)) p
    ∙ ap (λ b. if b then Some 0 else option_map suc (nth_true (suc r - 1) (map is_present vs))) some
    ∙ ap (λ m. option_map suc (nth_true m (map is_present vs))) less

pub leads_back : (vs : List Value) (z : ℤ) (q : ℕ)
    → position (int_eq z) (numbers vs) ≡ Some q → IsThere vs z q
leads_back [] z q e = absurd (no_place q e)
leads_back (v ∷ vs) z q e = go (is_present v) refl (λ r. leads_back vs z r) e
  where
    same_place : (k l : ℕ) → Some k ≡ Some l → k ≡ l
    same_place k l h = cc

    found : (c : Bool) → is_present v ≡ true → int_eq z (number_of v) ≡ c
        → ((r : ℕ) → position (int_eq z) (numbers vs) ≡ Some r → IsThere vs z r)
        → cond (int_eq z (number_of v)) (Some 0)
        (option_map suc (position (int_eq z) (numbers vs))) ≡ Some q
        → IsThere (v ∷ vs) z q
    found true p f ih h =
        let first : 0 ≡ q =
        same_place 0 q (sym (ap (λ c. cond c (Some 0)
        (option_map suc (position (int_eq z) (numbers vs)))) f) ∙ h) in
        subst (IsThere (v ∷ vs) z) first
        (at_first z v vs (ap₂ (λ a b. a && b) p f)
        (ap (λ b. nth_true 0 (b ∷ map is_present vs)) p))
    found false p f ih h =
        let r = split_first q (position (int_eq z) (numbers vs)) (int_eq z (number_of v)) h f in
        subst (IsThere (v ∷ vs) z) (sym r.2)
        (behind (suc r.0) r.0 z v vs (ap₂ (λ a b. a && b) p f) (nth_later r.0 v vs p) (ih r.0 r.1))

    go : (b : Bool) → is_present v ≡ b
        → ((r : ℕ) → position (int_eq z) (numbers vs) ≡ Some r → IsThere vs z r)
        → position (int_eq z) (map number_of (present-first b v vs)) ≡ Some q
        → IsThere (v ∷ vs) z q
    go true p ih h =
        found (int_eq z (number_of v)) p refl ih
        (sym (position-cons (int_eq z) (number_of v) (numbers vs)) ∙ h)
    go false p ih h =
        behind q q z v vs (ap (λ b. b && int_eq z (number_of v)) p)
        (ap (λ b. nth_true q (b ∷ map is_present vs)) p) (ih q h)

pub leads_to : (js : List ℤ) (vs : List Value) (z : ℤ) (q : ℕ) → IsFlagged js vs
    → position (int_eq z) (numbers vs) ≡ Some q
    → (k : ℕ) × (number_place vs z ≡ Some k) × (nth_place q js ≡ Some k)
leads_to js vs z q h e =
    let t = leads_back vs z q e in
    (t.0, t.1, ap (nth_true q) h ∙ t.2)
