-- A measure of what may be there: it is at most a number.
use Rattle.std.proofs.Common.{ℕ, ◌≤◌, Option, Some, None, option_map, option_and_then, Ordering}
use Rattle.std.proofs.Common.{Less, Equal, Greater, arith}
use Rattle.std.specs.Prelude.{⊤}
use Rattle.std.specs.Ordering.{match_ordering}

abbrev pub AtMost : {A : Type 0} → (A → ℕ) → ℕ → Option A → Type 0
AtMost f n None = ⊤
AtMost f n (Some a) = f a ≤ n

pub AtMost-wider : {A : Type 0} (f : A → ℕ) (n m : ℕ) (o : Option A) → AtMost f n o → n ≤ m
    → AtMost f m o
AtMost-wider f n m None h le = tt
AtMost-wider f n m (Some a) h le = omega arith

pub AtMost-map : {A B : Type 0} (f : A → ℕ) (g : B → ℕ) (n m : ℕ) (h : A → B)
    → ((a : A) → f a ≤ n → g (h a) ≤ m) → (o : Option A) → AtMost f n o
    → AtMost g m (option_map h o)
AtMost-map f g n m h k None x = tt
AtMost-map f g n m h k (Some a) x = k a x

pub AtMost-and_then : {A B : Type 0} (f : A → ℕ) (g : B → ℕ) (n m : ℕ) (h : A → Option B)
    → ((a : A) → f a ≤ n → AtMost g m (h a)) → (o : Option A) → AtMost f n o
    → AtMost g m (option_and_then h o)
AtMost-and_then f g n m h k None x = tt
AtMost-and_then f g n m h k (Some a) x = k a x

pub AtMost-ordering : {A : Type 0} (f : A → ℕ) (n : ℕ) (o : Ordering) (a b c : Option A)
    → AtMost f n a → AtMost f n b → AtMost f n c → AtMost f n (match_ordering o a b c)
AtMost-ordering f n Less a b c p q r = p
AtMost-ordering f n Equal a b c p q r = q
AtMost-ordering f n Greater a b c p q r = r
