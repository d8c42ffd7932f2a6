-- The sizes of an inner shape, from a place on.
use Rattle.std.proofs.Common.{◌≡◌, ◌≤◌, ℕ, ◌+◌, ◌*◌, List, [], ◌∷◌, drop, Some, None, Option, Ok}
use Rattle.std.proofs.Common.{refl, sym, ap, ◌∙◌, arith, Bool, false}
use Rattle.std.specs.Prelude.{nat_lt}
use Rattle.std.specs.List.{slice_get}
use Rattle.std.proofs.Math.Nat.{mul_assoc}
use Rattle.std.proofs.lemmas.Bool.Decides.{nat_tests}
use Rattle.std.proofs.lemmas.List.{drop_more}
use Rattle.std.proofs.lemmas.Option.{slice_get_within, get_or_from_slice_get}
use Rattle.awk_types.proofs.RefusalLaws.{refused_or-Ok, or-both}
use Rattle.awk_types.specs.Gives.{Told, refused_or}
use Rattle.awk_types.specs.ItemLimit.{item_limit}
use Rattle.awk_lanes.specs.declared.kind.Kind.{Kind}
use Rattle.awk_lanes.specs.Column.{Column}
use Rattle.awk_lanes.specs.Places.{size_of}
use Rattle.awk_layout.specs.Layout.{Layout, regular}
use Rattle.awk_layout.specs.Valid.{len}
use Rattle.awk_valid.specs.Broken.{Refusal, size_break, shape_break}
use Rattle.awk_valid.specs.Container.{column_at}
use Rattle.awk_valid.specs.Loaded.{shaped}
use Rattle.awk_valid.specs.Needs.{product}
use Rattle.awk_valid.proofs.OrderLaws.{length-numbers_by}
use Rattle.awk_valid.proofs.Places.{size_break-none}

-- the numbers from a place on begin with the one there
left : (inner : List ℕ) (i m : ℕ) → slice_get inner i ≡ Some m
    → drop i inner ≡ m ∷ drop (i + 1) inner
left inner i m at =
    drop_more inner i m (slice_get_within inner i m at)
    ∙ ap (λ x. x ∷ drop (i + 1) inner) (get_or_from_slice_get inner i m m at)

-- ---- judging

-- a lane that was read has so many numbers
pub read-size : (b : Option Refusal) (big : Bool) (k : Kind) (n : ℕ) (bytes : List ℕ)
    (lane : Column)
    → refused_or b (column_at big k n bytes) ≡ Ok lane → size_of lane ≡ n
read-size b big k n bytes lane h =
    ap size_of (sym (refused_or-Ok b (column_at big k n bytes) lane h).1)
    ∙ length-numbers_by big k n bytes

size_break-small : (n : ℕ) → n ≤ item_limit → size_break n ≡ None
size_break-small n h =
    let e : nat_lt item_limit n ≡ false = grind (arith, nat_tests) in
    rw e refl

-- a size that is too large is so in each shape
shape-broken : (n : ℕ) (ms : List ℕ) (b : Refusal) → size_break n ≡ Some b
    → shape_break n ms ≡ Some b
shape-broken n [] b e = e
shape-broken n (m ∷ ms) b e = rw e refl

-- what judging the first size tells is told of the shape
pub told_of_size : {A B : Type 0} (o : Option Refusal) (n : ℕ) (ms : List ℕ) (x : A) (y : B)
    → Told o (refused_or (size_break n) x) → Told o (refused_or (shape_break n ms) y)
told_of_size {A} {B} o n ms x y h = by o (size_break n) refl h
  where
    by : (o : Option Refusal) (s : Option Refusal) → size_break n ≡ s → Told o (refused_or s x)
        → Told o (refused_or (shape_break n ms) y)
    by None s e h = tt
    by (Some f) None e h = absurd (cc)
    by (Some f) (Some b) e h = rw (shape-broken n ms b e) (cc)

-- once a size is judged, the shape goes on with the next
pub shape-next : (n i items m : ℕ) (inner : List ℕ) → items ≤ item_limit
    → slice_get inner i ≡ Some m → shape_break n inner ≡ shape_break items (drop i inner)
    → shape_break n inner ≡ shape_break (items * m) (drop (i + 1) inner)
shape-next n i items m inner few at e =
    let here = rw (left inner i m at) at e in
    here ∙ rw (size_break-small items few) refl

-- what judging the next size tells is told of the shape
pub told_of_next : {A B : Type 0} (o : Option Refusal) (n i items m : ℕ) (inner : List ℕ) (x : A)
    (y : B) → items ≤ item_limit → slice_get inner i ≡ Some m
    → shape_break n inner ≡ shape_break items (drop i inner)
    → Told o (refused_or (size_break (items * m)) x) → Told o (refused_or (shape_break n inner) y)
told_of_next o n i items m inner x y few at e h =
    rw (shape-next n i items m inner few at e)
    (told_of_size o (items * m) (drop (i + 1) inner) x y h)

pub numbers-next : (whole i items m : ℕ) (inner : List ℕ) → slice_get inner i ≡ Some m
    → whole ≡ items * product (drop i inner) → whole ≡ items * m * product (drop (i + 1) inner)
numbers-next whole i items m inner at e =
    let here = rw (left inner i m at) at e in
    here ∙ sym (mul_assoc items m (product (drop (i + 1) inner)))

-- ---- a shape that is not broken

pub shape-few : (n : ℕ) (ms : List ℕ) → shape_break n ms ≡ None → n ≤ item_limit
shape-few n [] h = size_break-none n h
shape-few n (m ∷ ms) h = size_break-none n (or-both (size_break n) (shape_break (n * m) ms) h).0

pub shape-left : (n i m : ℕ) (inner : List ℕ) → slice_get inner i ≡ Some m
    → shape_break n (drop i inner) ≡ None → shape_break (n * m) (drop (i + 1) inner) ≡ None
shape-left n i m inner at h =
    let here = rw (left inner i m at) at h in
    (or-both (size_break n) (shape_break (n * m) (drop (i + 1) inner)) here).1

-- ---- the node

shaped-len : (n : ℕ) (ms : List ℕ) (x : Layout) → len x ≡ n * product ms → len (shaped ms n x) ≡ n
shaped-len n [] x e = omega arith
shaped-len n (m ∷ ms) x e = refl

-- a content has the items that it is made for
pub content-len : (n : ℕ) (ms : List ℕ) (x made boxed : Layout) → boxed ≡ made
    → made ≡ shaped ms n x → len x ≡ n * product ms → len boxed ≡ n
content-len n ms x made boxed kept is e = ap len (kept ∙ is) ∙ shaped-len n ms x e

-- lists over the content of the numbers that are left
pub lists-over : (n i m : ℕ) (inner : List ℕ) (x made boxed : Layout) → slice_get inner i ≡ Some m
    → boxed ≡ made → made ≡ shaped (drop (i + 1) inner) (n * m) x
    → regular m n boxed ≡ shaped (drop i inner) n x
lists-over n i m inner x made boxed at kept is =
    ap (regular m n) (kept ∙ is) ∙ sym (ap (λ ms. shaped ms n x) (left inner i m at))
