-- Values with a property at each end of a chain.
use Rattle.std.specs.Prelude.{◌≡◌, Bool, true, false, List, [], ◌∷◌, map}
use Rattle.std.specs.Prelude.{filter, Some, None, refl}
use Rattle.std.specs.List.{AllByRecursion}
use Rattle.std.proofs.Common.{ap, sym, ◌∙◌, subst}
use Rattle.awk_base.proofs.Every.{all-append}
use Rattle.awk_types.specs.DataType.{DataType, opt}
use Rattle.awk_types.specs.Has.{Has}
use Rattle.awk_types.specs.Simple.{in_option}
use Rattle.awk_types.specs.Value.{Value, int, truth, null, list, row, alt, value_list, values_from}
use Rattle.awk_types.proofs.Trees.{value_list-from}
use Rattle.awk_columns.specs.Columns.{is_present, list_items, joined_items}
use Rattle.awk_columns.specs.ListClass.{Class, list_type}
use Rattle.awk_law_chains.proofs.Chains.{Chain, IsAt, IsEndAt, all-each, all-of}
use Rattle.awk_law_chains.proofs.Chains.{at_ends}
use Rattle.awk_law_chains.proofs.Chains.{both-each, chain_ends, chain_type, close, is_lists}
use Rattle.awk_law_chains.proofs.Chains.{joined-in_list, layer, same-each}

-- ---- values with a property at each end

pub all-items : (P : Value → Type 0) (o : Bool) (c : Class) (k : Chain) (vs : List Value)
    → AllByRecursion (IsAt (layer o c k) P) vs → AllByRecursion (IsAt k P) (joined_items vs)
all-items P o c k [] h = tt
all-items P o c k (v ∷ vs) h =
    all-append (IsAt k P) (list_items v) (joined_items vs) h.0.1 (all-items P o c k vs h.1)

present_option : (f : Value → Value) (w : Value) → is_present w ≡ true → in_option f w ≡ f w
present_option f null e = cc
present_option f (int z) e = refl
present_option f (truth b) e = refl
present_option f (list vs) e = refl
present_option f (row vs) e = refl
present_option f (alt j v) e = refl

module _ (P : Value → Type 0) (f : Value → Value)
    (stays : (x : Value) → P x → is_present (f x) ≡ true) where
  present-one : (v : Value) (vs : List Value) → is_present v ≡ true → is_present (f v) ≡ true
      → filter is_present (in_option f v ∷ vs) ≡ f v ∷ filter is_present vs
  present-one v vs e h =
      ap (λ w. filter is_present (w ∷ vs)) (present_option f v e) ∙ first (f v) h
    where
      first : (w : Value) → is_present w ≡ true
          → filter is_present (w ∷ vs) ≡ w ∷ filter is_present vs
      first null e = cc
      first (int z) e = refl
      first (truth b) e = refl
      first (list ws) e = refl
      first (row ws) e = refl
      first (alt j w) e = refl

  present-mapped : (vs : List Value) → AllByRecursion (IsEndAt true P) vs
      → filter is_present (map (in_option f) vs) ≡ map f (filter is_present vs)
  present-mapped [] h = refl
  present-mapped (null ∷ vs) h = present-mapped vs h.1
  present-mapped (int z ∷ vs) h =
      present-one (int z) (map (in_option f) vs) refl (stays (int z) (h.0 refl))
      ∙ ap (λ ws. f (int z) ∷ ws) (present-mapped vs h.1)
  present-mapped (truth b ∷ vs) h =
      present-one (truth b) (map (in_option f) vs) refl (stays (truth b) (h.0 refl))
      ∙ ap (λ ws. f (truth b) ∷ ws) (present-mapped vs h.1)
  present-mapped (list us ∷ vs) h =
      present-one (list us) (map (in_option f) vs) refl (stays (list us) (h.0 refl))
      ∙ ap (λ ws. f (list us) ∷ ws) (present-mapped vs h.1)
  present-mapped (row us ∷ vs) h =
      present-one (row us) (map (in_option f) vs) refl (stays (row us) (h.0 refl))
      ∙ ap (λ ws. f (row us) ∷ ws) (present-mapped vs h.1)
  present-mapped (alt j u ∷ vs) h =
      present-one (alt j u) (map (in_option f) vs) refl (stays (alt j u) (h.0 refl))
      ∙ ap (λ ws. f (alt j u) ∷ ws) (present-mapped vs h.1)

  pub ends-mapped : (k : Chain) (vs : List Value) → AllByRecursion (IsAt k P) vs
      → chain_ends k (map (at_ends k f) vs) ≡ map f (chain_ends k vs)
  ends-mapped (close false) vs h = refl
  ends-mapped (close true) vs h = present-mapped vs h
  ends-mapped (layer o c k) vs h =
      ap (chain_ends k) (joined-in_list (at_ends k f) vs)
      ∙ ends-mapped k (joined_items vs) (all-items P o c k vs h)

  -- one function after another
  pub twice-at : (g h : Value → Value) → ((x : Value) → P x → g (f x) ≡ h x) → (k : Chain)
      (v : Value) → IsAt k P v → at_ends k g (at_ends k f v) ≡ at_ends k h v
  twice-at g h e (close false) v i = e v i
  twice-at g h e (close true) null i = refl
  twice-at g h e (close true) (int z) i =
      present_option g (f (int z)) (stays (int z) (i refl)) ∙ e (int z) (i refl)
  twice-at g h e (close true) (truth b) i =
      present_option g (f (truth b)) (stays (truth b) (i refl)) ∙ e (truth b) (i refl)
  twice-at g h e (close true) (list vs) i =
      present_option g (f (list vs)) (stays (list vs) (i refl)) ∙ e (list vs) (i refl)
  twice-at g h e (close true) (row vs) i =
      present_option g (f (row vs)) (stays (row vs) (i refl)) ∙ e (row vs) (i refl)
  twice-at g h e (close true) (alt j v) i =
      present_option g (f (alt j v)) (stays (alt j v) (i refl)) ∙ e (alt j v) (i refl)
  twice-at g h e (layer o c k) (list vs) i =
      ap (λ xs. list (values_from (map (at_ends k g) xs)))
      (value_list-from (map (at_ends k f) (value_list vs)))
      ∙ ap (λ xs. list (values_from xs))
      (both-each (IsAt k P) (at_ends k f) (at_ends k g) (at_ends k h) (value_list vs)
      (λ x j. twice-at g h e k x j) i.1)
  twice-at g h e (layer o c k) (int z) i = refl
  twice-at g h e (layer o c k) (truth b) i = refl
  twice-at g h e (layer o c k) null i = refl
  twice-at g h e (layer o c k) (row vs) i = refl
  twice-at g h e (layer o c k) (alt j v) i = refl

  pub twice-each : (g h : Value → Value) → ((x : Value) → P x → g (f x) ≡ h x) → (k : Chain)
      (vs : List Value) → AllByRecursion (IsAt k P) vs
      → map (at_ends k g) (map (at_ends k f) vs) ≡ map (at_ends k h) vs
  twice-each g h e k vs i =
      both-each (IsAt k P) (at_ends k f) (at_ends k g) (at_ends k h) vs
      (λ x j. twice-at g h e k x j) i

-- functions that are the same at each end
module _ (P : Value → Type 0) (f g : Value → Value) (e : (x : Value) → P x → f x ≡ g x) where
  pub same-at : (k : Chain) (v : Value) → IsAt k P v → at_ends k f v ≡ at_ends k g v
  same-at (close false) v i = e v i
  same-at (close true) null i = refl
  same-at (close true) (int z) i = e (int z) (i refl)
  same-at (close true) (truth b) i = e (truth b) (i refl)
  same-at (close true) (list vs) i = e (list vs) (i refl)
  same-at (close true) (row vs) i = e (row vs) (i refl)
  same-at (close true) (alt j v) i = e (alt j v) (i refl)
  same-at (layer o c k) (list vs) i =
      ap (λ xs. list (values_from xs))
      (same-each (IsAt k P) (at_ends k f) (at_ends k g) (value_list vs)
      (λ x j. same-at k x j) i.1)
  same-at (layer o c k) (int z) i = refl
  same-at (layer o c k) (truth b) i = refl
  same-at (layer o c k) null i = refl
  same-at (layer o c k) (row vs) i = refl
  same-at (layer o c k) (alt j v) i = refl

  pub same-all : (k : Chain) (vs : List Value) → AllByRecursion (IsAt k P) vs
      → map (at_ends k f) vs ≡ map (at_ends k g) vs
  same-all k vs i =
      same-each (IsAt k P) (at_ends k f) (at_ends k g) vs (λ x j. same-at k x j) i

-- what a function gives at each end
module _ (P Q : Value → Type 0) (f : Value → Value) (e : (x : Value) → P x → Q (f x)) where
  pub at-mapped : (k : Chain) (v : Value) → IsAt k P v → IsAt k Q (at_ends k f v)
  at-mapped (close false) v i = e v i
  at-mapped (close true) null i = λ q. absurd (cc)
  at-mapped (close true) (int z) i = λ q. e (int z) (i refl)
  at-mapped (close true) (truth b) i = λ q. e (truth b) (i refl)
  at-mapped (close true) (list vs) i = λ q. e (list vs) (i refl)
  at-mapped (close true) (row vs) i = λ q. e (row vs) (i refl)
  at-mapped (close true) (alt j v) i = λ q. e (alt j v) (i refl)
  at-mapped (layer o c k) (list vs) i = (
    refl,
    subst (AllByRecursion (IsAt k Q))
        (sym (value_list-from (map (at_ends k f) (value_list vs))))
        (all-each (IsAt k P) (IsAt k Q) (at_ends k f) (value_list vs)
        (λ x j. at-mapped k x j) i.1),
  )
  at-mapped (layer o c k) (int z) i = (i.0, tt)
  at-mapped (layer o c k) (truth b) i = (i.0, tt)
  at-mapped (layer o c k) null i = (i.0, tt)
  at-mapped (layer o c k) (row vs) i = (i.0, tt)
  at-mapped (layer o c k) (alt j v) i = (i.0, tt)

  pub all-mapped : (k : Chain) (vs : List Value) → AllByRecursion (IsAt k P) vs
      → AllByRecursion (IsAt k Q) (map (at_ends k f) vs)
  all-mapped k vs i =
      all-each (IsAt k P) (IsAt k Q) (at_ends k f) vs (λ x j. at-mapped k x j) i

-- ---- values of such a type

pub list-at : (c : Class) (t : DataType) (o : Bool) (v : Value) → Has (list_type c t) v
    → (is_lists o v ≡ true) × AllByRecursion (Has t) (list_items v)
list-at None t o (list vs) h = (refl, h)
list-at (Some n) t o (list vs) h = (refl, h.1)
list-at None t o (int z) h = absurd h
list-at (Some n) t o (int z) h = absurd h
list-at None t o (truth b) h = absurd h
list-at (Some n) t o (truth b) h = absurd h
list-at None t o null h = absurd h
list-at (Some n) t o null h = absurd h
list-at None t o (row vs) h = absurd h
list-at (Some n) t o (row vs) h = absurd h
list-at None t o (alt j v) h = absurd h
list-at (Some n) t o (alt j v) h = absurd h

option-has : (t : DataType) (v : Value) → Has (opt t) v → is_present v ≡ true → Has t v
option-has t null h e = cc
option-has t (int z) h e = h
option-has t (truth b) h e = h
option-has t (list vs) h e = h
option-has t (row vs) h e = h
option-has t (alt j v) h e = h

pub option-at : (c : Class) (t : DataType) (v : Value) → Has (opt (list_type c t)) v
    → (is_lists true v ≡ true) × AllByRecursion (Has t) (list_items v)
option-at c t null h = (refl, tt)
option-at c t (int z) h = list-at c t true (int z) h
option-at c t (truth b) h = list-at c t true (truth b) h
option-at c t (list vs) h = list-at c t true (list vs) h
option-at c t (row vs) h = list-at c t true (row vs) h
option-at c t (alt j v) h = list-at c t true (alt j v) h

pub has-at : (k : Chain) (u : DataType) (v : Value) → Has (chain_type k u) v → IsAt k (Has u) v
has-at (close false) u v h = h
has-at (close true) u v h = option-has u v h
has-at (layer false c k) u v h =
    let q = list-at c (chain_type k u) false v h in (
      q.0,
      all-of (Has (chain_type k u)) (IsAt k (Has u)) (list_items v)
          (λ x i. has-at k u x i) q.1,
    )
has-at (layer true c k) u v h =
    let q = option-at c (chain_type k u) v h in (
      q.0,
      all-of (Has (chain_type k u)) (IsAt k (Has u)) (list_items v)
          (λ x i. has-at k u x i) q.1,
    )

pub have-at : (k : Chain) (u : DataType) (vs : List Value)
    → AllByRecursion (Has (chain_type k u)) vs → AllByRecursion (IsAt k (Has u)) vs
have-at k u vs h =
    all-of (Has (chain_type k u)) (IsAt k (Has u)) vs (λ x i. has-at k u x i) h

-- what follows at each end
module _ (P Q : Value → Type 0) (e : (x : Value) → P x → Q x) where
  at-of : (k : Chain) (v : Value) → IsAt k P v → IsAt k Q v
  at-of (close false) v i = e v i
  at-of (close true) v i = λ q. e v (i q)
  at-of (layer o c k) v i =
      (i.0, all-of (IsAt k P) (IsAt k Q) (list_items v) (λ x j. at-of k x j) i.1)

  pub all-at : (k : Chain) (vs : List Value) → AllByRecursion (IsAt k P) vs
      → AllByRecursion (IsAt k Q) vs
  all-at k vs i = all-of (IsAt k P) (IsAt k Q) vs (λ x j. at-of k x j) i
