-- Trees of numbers that values are stored as, and back: a type that contains itself needs such a
-- code where it is seen behind a reference.
use Rattle.std.specs.Prelude.{◌≡◌, ℕ, List, [], ◌∷◌, Option, Some, None, Bool, true, false, ℤ, pos}
use Rattle.std.specs.Prelude.{negsuc, refl}
use Rattle.std.specs.Coded.{Coded, code_by}
use base.Stored.{Gv, gnil, gnum, gcons}
use denote.Struct.Codes.{itself}

-- a way to trees of numbers, and back
pub record Tree (A : Type 0) : Type 0 where
  pub to : A → Gv
  pub from : Gv → A
  pub same : (x : A) → from (to x) ≡ x

-- what has such a way is stored by it
abbrev pub coded_tree : {A : Type 0} → Tree A → Coded A
coded_tree t = code_by Gv itself t.to t.from t.same

module _ {A : Type 0} (t : Tree A) where
  abbrev pub list_to : List A → Gv
  list_to [] = gnil
  list_to (x ∷ xs) = gcons (t.to x) (list_to xs)

  abbrev pub list_from : Gv → List A
  list_from (gcons x xs) = t.from x ∷ list_from xs
  list_from _ = []

  pub list_same : (xs : List A) → list_from (list_to xs) ≡ xs
  list_same [] = refl
  list_same (x ∷ xs) = λ i. t.same x i ∷ list_same xs i

  abbrev pub list_tree : Tree (List A)
  list_tree = record { to = list_to; from = list_from; same = list_same }

  abbrev pub option_to : Option A → Gv
  option_to None = gnil
  option_to (Some x) = gcons (t.to x) gnil

  abbrev pub option_from : Gv → Option A
  option_from (gcons x _) = Some (t.from x)
  option_from _ = None

  pub option_same : (o : Option A) → option_from (option_to o) ≡ o
  option_same None = refl
  option_same (Some x) = λ i. Some (t.same x i)

  abbrev pub option_tree : Tree (Option A)
  option_tree = record { to = option_to; from = option_from; same = option_same }

module _ {A B : Type 0} (t : Tree A) (u : Tree B) where
  abbrev pub pair_to : A × B → Gv
  pair_to (x, y) = gcons (t.to x) (u.to y)

  abbrev pub pair_from : Gv → A × B
  pair_from (gcons x y) = (t.from x, u.from y)
  pair_from x = (t.from x, u.from x)

  pub pair_same : (p : A × B) → pair_from (pair_to p) ≡ p
  pair_same (x, y) = λ i. (t.same x i, u.same y i)

  abbrev pub pair_tree : Tree (A × B)
  pair_tree = record { to = pair_to; from = pair_from; same = pair_same }

abbrev pub number_from : Gv → ℕ
number_from (gnum n) = n
number_from _ = 0

abbrev pub number_tree : Tree ℕ
number_tree = record { to = gnum; from = number_from; same = λ n. refl }

abbrev pub int_to : ℤ → Gv
int_to (pos n) = gnum n
int_to (negsuc n) = gcons (gnum n) gnil

abbrev pub int_from : Gv → ℤ
int_from (gcons n _) = negsuc (number_from n)
int_from (gnum n) = pos n
int_from gnil = pos 0

pub int_same : (z : ℤ) → int_from (int_to z) ≡ z
int_same (pos n) = refl
int_same (negsuc n) = refl

abbrev pub int_tree : Tree ℤ
int_tree = record { to = int_to; from = int_from; same = int_same }

abbrev pub bool_to : Bool → Gv
bool_to false = gnil
bool_to true = gnum 0

abbrev pub bool_from : Gv → Bool
bool_from gnil = false
bool_from _ = true

pub bool_same : (b : Bool) → bool_from (bool_to b) ≡ b
bool_same false = refl
bool_same true = refl

abbrev pub bool_tree : Tree Bool
bool_tree = record { to = bool_to; from = bool_from; same = bool_same }
