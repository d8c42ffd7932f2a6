-- The first place that breaks its rule, from what a search over the numbers answers.
use Rattle.std.proofs.Common.{◌≡◌, ◌<◌, ◌≤◌, ℕ, zero, suc, ◌+◌, Bool, true, false, not, ◌&&◌, ◌||◌}
use Rattle.std.proofs.Common.{cond, List, [], ◌∷◌, length, get_or, Some, None, Option, refl, arith}
use Rattle.std.proofs.Common.{ℤ, pos}
use Rattle.std.specs.Prelude.{int_lt, nat_lt, position}
use Rattle.std.specs.List.{range_with_len, zip, position_or_len}
use Rattle.std.specs.Ordering.{int_eq}
use Rattle.std.proofs.lemmas.Slice.Zip.{get_or-zip, length-zip}
use Rattle.std.proofs.lemmas.List.Quantifiers.{position-Some}
use Rattle.std.proofs.lemmas.Bool.Decides.{nat_tests}
use Rattle.awk_kernels.specs.Kernels.{is_out_of_order, first_out_of_order}
use Rattle.awk_valid.specs.Broken.{invalid, first_broken, rule_break, list_rule, index_rule}
use Rattle.awk_valid.specs.Rules.{list_rules, index_rules}
use Rattle.awk_valid.specs.declared.fault.Rule.{Rule}
use Rattle.awk_valid.specs.declared.fault.Rule.TheVariants.{Order, Start, Negative}

first_broken-clear : (m a n : ℕ) (rule : ℕ → Option Rule) → ((j : ℕ) → j < n → rule (a + j) ≡ None)
    → first_broken m rule (range_with_len a n) ≡ None
first_broken-clear m a zero rule h = refl
first_broken-clear m a (suc n) rule h =
    let first : a + 0 ≡ a = omega arith in
    let here : rule a ≡ None = rw first at (h 0 (omega arith)) in
    rw here (first_broken-clear m (a + 1) n rule later)
  where
    later : (j : ℕ) → j < n → rule (a + 1 + j) ≡ None
    later j l = let e : a + suc j ≡ a + 1 + j = omega arith in rw e at (h (suc j) (omega arith))

-- no place below n breaks its rule
pub rule_break-clear : (m n : ℕ) (rule : ℕ → Option Rule) → ((k : ℕ) → k < n → rule k ≡ None)
    → rule_break m n rule ≡ None
rule_break-clear m n rule h =
    first_broken-clear m 0 n rule (λ j l. let e : 0 + j ≡ j = omega arith in rw e (h j l))

first_broken-first : (m a n j : ℕ) (rule : ℕ → Option Rule) (r : Rule) → j < n
    → ((k : ℕ) → k < j → rule (a + k) ≡ None) → rule (a + j) ≡ Some r
    → first_broken m rule (range_with_len a n) ≡ Some (invalid m r (a + j))
first_broken-first m a zero j rule r l h e = absurd (omega arith)
first_broken-first m a (suc n) zero rule r l h e =
    let first : a + 0 ≡ a = omega arith in
    let here : rule a ≡ Some r = rw first at e in
    rw (here, first) refl
first_broken-first m a (suc n) (suc j) rule r l h e =
    let first : a + 0 ≡ a = omega arith in
    let next : a + suc j ≡ a + 1 + j = omega arith in
    let here : rule a ≡ None = rw first at (h 0 (omega arith)) in
    let there : rule (a + 1 + j) ≡ Some r = rw next at e in
    rw (here, next) (first_broken-first m (a + 1) n j rule r (omega arith) earlier there)
  where
    earlier : (k : ℕ) → k < j → rule (a + 1 + k) ≡ None
    earlier k l = let e : a + suc k ≡ a + 1 + k = omega arith in rw e at (h (suc k) (omega arith))

-- place i breaks its rule, and no earlier one does
pub rule_break-first : (m n i : ℕ) (rule : ℕ → Option Rule) (r : Rule) → i < n
    → ((k : ℕ) → k < i → rule k ≡ None) → rule i ≡ Some r
    → rule_break m n rule ≡ Some (invalid m r i)
rule_break-first m n i rule r l h e =
    let here : 0 + i ≡ i = omega arith in
    let found =
    first_broken-first m 0 n i rule r l (λ k p. let z : 0 + k ≡ k = omega arith in rw z (h k p))
    (rw here e) in
    rw here at found

-- ---- searches

none_before : {X : Type 0} (p : X → Bool) (xs : List X) (k : ℕ) (d : X)
    → length xs ≤ position_or_len p xs → k < length xs → p (get_or xs k d) ≡ false
none_before p [] k d h l = absurd (omega arith)
none_before p (x ∷ xs) k d h l = by (p x) k refl h l (λ j f g. none_before p xs j d f g)
  where
    by : (b : Bool) (k : ℕ) → p x ≡ b → suc (length xs) ≤ cond (not b) (1 + position_or_len p xs) 0
        → k < suc (length xs)
        → ((j : ℕ) → length xs ≤ position_or_len p xs → j < length xs → p (get_or xs j d) ≡ false)
        → p (get_or (x ∷ xs) k d) ≡ false
    by true k e h l later = absurd (omega arith)
    by false zero e h l later = e
    by false (suc k) e h l later = later k (omega arith) (omega arith)

-- where a search finds nothing, each test fails
pub position-none : {X : Type 0} (p : X → Bool) (xs : List X) (k : ℕ) (d : X) → position p xs ≡ None
    → k < length xs → p (get_or xs k d) ≡ false
position-none p xs k d h l = by (nat_lt (position_or_len p xs) (length xs)) refl h
  where
    by : (b : Bool) → nat_lt (position_or_len p xs) (length xs) ≡ b
        → cond b (Some (position_or_len p xs)) None ≡ None → p (get_or xs k d) ≡ false
    by true e h = absurd (cc)
    by false e h = none_before p xs k d (grind (arith, nat_tests)) l

-- ---- lists

-- a list in order keeps its rule
list_rule-clear : (a b : ℤ) → is_out_of_order (a, b) ≡ false → list_rule a b ≡ None
list_rule-clear a b h = by (int_eq a b) (int_lt b a) (int_lt a (pos 0)) h
  where
    by : (e l s : Bool) → (not e && (l || s)) ≡ false
        → cond e None (cond l (Some Order) (cond s (Some Start) None)) ≡ None
    by true l s h = refl
    by false true s h = absurd (cc)
    by false false true h = absurd (cc)
    by false false false h = refl

-- one out of order ends before it starts, or starts below 0
list_rule-broken : (a b : ℤ) → is_out_of_order (a, b) ≡ true
    → list_rule a b ≡ Some (cond (int_lt b a) Order Start)
list_rule-broken a b h = by (int_eq a b) (int_lt b a) (int_lt a (pos 0)) h
  where
    by : (e l s : Bool) → (not e && (l || s)) ≡ true
        → cond e None (cond l (Some Order) (cond s (Some Start) None)) ≡ Some (cond l Order Start)
    by true l s h = absurd (cc)
    by false true s h = refl
    by false false true h = refl
    by false false false h = absurd (cc)

zipped : (starts stops : List ℤ) (i : ℕ) → length starts ≡ length stops → i < length starts
    → get_or (zip starts stops) i (pos 0, pos 0) ≡ (get_or starts i (pos 0), get_or stops i (pos 0))
zipped starts stops i e l = get_or-zip starts stops i (pos 0, pos 0) l (omega arith)

pub lists-clear : (m : ℕ) (starts stops : List ℤ) → length starts ≡ length stops
    → first_out_of_order starts stops ≡ None
    → rule_break m (length starts) (list_rules starts stops) ≡ None
lists-clear m starts stops e h = rule_break-clear m (length starts) (list_rules starts stops) each
  where
    each : (k : ℕ) → k < length starts → list_rules starts stops k ≡ None
    each k l =
        let within : k < length (zip starts stops) = omega (arith, length-zip starts stops) in
        let keeps = position-none is_out_of_order (zip starts stops) k (pos 0, pos 0) h within in
        list_rule-clear (get_or starts k (pos 0)) (get_or stops k (pos 0))
        (rw (zipped starts stops k e l) at keeps)

pub lists-broken : (m i : ℕ) (starts stops : List ℤ) → length starts ≡ length stops
    → first_out_of_order starts stops ≡ Some i
    → (i < length starts)
    × (rule_break m (length starts) (list_rules starts stops)
    ≡ Some
    (invalid m
    (cond (int_lt (get_or stops i (pos 0)) (get_or starts i (pos 0))) Order Start) i))
lists-broken m i starts stops e h =
    let found = position-Some is_out_of_order (zip starts stops) i (pos 0, pos 0) h in
    let within : i < length starts = omega (arith, found.0, length-zip starts stops) in
    let broken = rw (zipped starts stops i e within) at found.1 in (
      within,
      rule_break-first m (length starts) i (list_rules starts stops) _ within
          (earlier found.2 within)
          (list_rule-broken (get_or starts i (pos 0)) (get_or stops i (pos 0)) broken),
    )
  where
    earlier : ((k : ℕ) → k < i
        → is_out_of_order (get_or (zip starts stops) k (pos 0, pos 0)) ≡ false) → i < length starts
        → (k : ℕ) → k < i → list_rules starts stops k ≡ None
    earlier before within k l =
        let keeps = before k l in
        list_rule-clear (get_or starts k (pos 0)) (get_or stops k (pos 0))
        (rw (zipped starts stops k e (omega arith)) at keeps)

-- ---- indexes

index_rule-clear : (z : ℤ) → int_lt z (pos 0) ≡ false → index_rule z ≡ None
index_rule-clear z h = rw h refl

index_rule-broken : (z : ℤ) → int_lt z (pos 0) ≡ true → index_rule z ≡ Some Negative
index_rule-broken z h = rw h refl

pub indexes-clear : (m : ℕ) (index : List ℤ) → position (λ x. int_lt x (pos 0)) index ≡ None
    → rule_break m (length index) (index_rules index) ≡ None
indexes-clear m index h =
    rule_break-clear m (length index) (index_rules index)
    (λ k l. index_rule-clear (get_or index k (pos 0))
    (position-none (λ (x : ℤ). int_lt x (pos 0)) index k (pos 0) h l))

pub indexes-broken : (m i : ℕ) (index : List ℤ) → position (λ x. int_lt x (pos 0)) index ≡ Some i
    → rule_break m (length index) (index_rules index) ≡ Some (invalid m Negative i)
indexes-broken m i index h =
    let found = position-Some (λ (x : ℤ). int_lt x (pos 0)) index i (pos 0) h in
    rule_break-first m (length index) i (index_rules index) Negative found.0
    (λ k l. index_rule-clear (get_or index k (pos 0)) (found.2 k l))
    (index_rule-broken (get_or index i (pos 0)) found.1)
