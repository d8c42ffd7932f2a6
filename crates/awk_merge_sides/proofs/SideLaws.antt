-- Columns one after another: their items, one column more, and the steps of loops over them.
use Rattle.std.proofs.Common.{◌≡◌, ◌==◌, ◌+◌, ◌<◌, ◌≤◌, ◌∷◌, ◌++◌, ◌^◌, [], ℕ, suc, zero, List}
use Rattle.std.proofs.Common.{Bool, true, false, length, map, take, get_or, slice_get, Some, Result}
use Rattle.std.proofs.Common.{Ok, Err, if◌then◌else◌, refl, ap, sym, subst, ◌∙◌, arith}
use Rattle.std.proofs.lemmas.Grind.{flat_map-append}
use Rattle.std.proofs.lemmas.List.{append-nil, length-append, length-map, map-append, get_or-map}
use Rattle.std.proofs.lemmas.List.{get_or_append_left, get_or-append-add, take_all}
use Rattle.std.specs.List.{AllByRecursion}
use Rattle.std.specs.Prelude.{OnErr}
use Rattle.awk_base.proofs.Every.{all-append, all-get, all-at}
use Rattle.awk_base.proofs.Lists.{take-get}
use Rattle.awk_types.proofs.SimpleLaws.{has_each}
use Rattle.awk_types.specs.DataType.{DataType}
use Rattle.awk_types.specs.Has.{Has}
use Rattle.awk_types.specs.Simple.{simple_value}
use Rattle.awk_types.specs.Value.{null}
use Rattle.awk_layout.proofs.ArrayItems.{length-array_items, get_or-array_items}
use Rattle.awk_layout.specs.Item.{item}
use Rattle.awk_layout.specs.Layout.{Layout}
use Rattle.awk_layout.specs.Typing.{layout_type, array_type, array_items}
use Rattle.awk_layout.specs.Valid.{len}
use Rattle.awk_unify.specs.Carry.{Carry, carried}
use Rattle.awk_merge_sides.specs.Sides.{Side, side_of, sides_of, side_items, merged_items, Carries}
use Rattle.awk_merge_sides.specs.Sides.{IsSide, AreSides, IsCounted, with_side}
use Rattle.awk_merge_sides.specs.declared.sides.Side as declared
use Rattle.awk_merge_sides.specs.declared.sides.Sides.{Sides}

-- ---- lists

-- what holds anyway
pub on_err-anyway : {A E : Type 0} (r : Result A E) (P : Type 0) → P → OnErr r P
on_err-anyway (Ok a) P p = tt
on_err-anyway (Err e) P p = p

none-of : {X : Type 0} (xs : List X) → length xs ≡ 0 → xs ≡ []
none-of [] e = refl
none-of (x ∷ xs) e = cc

-- ---- the items of one column

pub length-side_items : (s : Side) → length (side_items s) ≡ len s.column
length-side_items s =
    length-map (array_items s.column) (carried s.carry) ∙ length-array_items s.column

pub length-carried : (x : Layout) (f : Carry) → length (map (carried f) (array_items x)) ≡ len x
length-carried x f = length-map (array_items x) (carried f) ∙ length-array_items x

-- the carried item at a place
pub get_or-carried : (x : Layout) (f : Carry) (j : ℕ) → j < len x
    → get_or (map (carried f) (array_items x)) j null
    ≡ carried f (simple_value (layout_type x) (item x j))
get_or-carried x f j h =
    get_or-map (carried f) (array_items x) j null null (omega (arith, length-array_items x))
    ∙ ap (carried f) (get_or-array_items x j h)

pub get_or-side_items : (s : Side) (j : ℕ) → j < len s.column → get_or (side_items s) j null
    ≡ carried s.carry (simple_value (layout_type s.column) (item s.column j))
get_or-side_items s j h = get_or-carried s.column s.carry j h

pub item_has : (x : Layout) (j : ℕ) → AllByRecursion (Has (array_type x)) (array_items x)
    → j < len x
    → Has (array_type x) (simple_value (layout_type x) (item x j))
item_has x j h l =
    subst (Has (array_type x)) (get_or-array_items x j l)
    (all-at (Has (array_type x)) (array_items x) j null h (omega (arith, l, length-array_items x)))

-- and carried of the other type
pub side_has : (t : DataType) (s : Side) → IsSide t s
    → AllByRecursion (Has (array_type s.column)) (array_items s.column)
    → AllByRecursion (Has t) (side_items s)
side_has t s h k =
    has_each (array_type s.column) t (carried s.carry) h.values (array_items s.column) k

-- ---- one column more

pub merged_items-side : (ss : List Side) (s : Side)
    → merged_items (ss ++ s ∷ []) ≡ merged_items ss ++ side_items s
merged_items-side ss s =
    flat_map-append side_items ss (s ∷ [])
    ∙ ap (λ vs. merged_items ss ++ vs) (append-nil (side_items s))

with_items : (ss : List Side) (x : Layout) (f : Carry) (b : Bool) → (len x == 0) ≡ b
    → merged_items (if b then ss else ss ++ record { column = x; carry = f } ∷ [])
    ≡ merged_items ss ++ map (carried f) (array_items x)
with_items ss x f true e =
    let none : array_items x ≡ [] = none-of (array_items x)
    (length-array_items x ∙ grind (arith, e)) in
    sym (ap (λ vs. merged_items ss ++ map (carried f) vs) none ∙ append-nil (merged_items ss))
with_items ss x f false e = merged_items-side ss (record { column = x; carry = f })

pub merged_items-with_side : (ss : List Side) (x : Layout) (f : Carry)
    → merged_items (with_side ss x f) ≡ merged_items ss ++ map (carried f) (array_items x)
merged_items-with_side ss x f = with_items ss x f (len x == 0) refl

pub total-with_side : (ss : List Side) (x : Layout) (f : Carry)
    → length (merged_items (with_side ss x f)) ≡ length (merged_items ss) + len x
total-with_side ss x f =
    ap length (merged_items-with_side ss x f)
    ∙ length-append (merged_items ss) (map (carried f) (array_items x))
    ∙ ap (λ n. length (merged_items ss) + n) (length-carried x f)

-- the number that is kept stays that of all
pub counted_push : (before now : Sides) (s : declared.Side) → IsCounted before
    → now.sides.items ≡ before.sides.items ++ s ∷ []
    → now.total ≡ before.total + len s.column → now.total < 2 ^ 63 → IsCounted now
counted_push before now s h e n l =
    let all : sides_of now ≡ sides_of before ++ side_of s ∷ []
    = ap (map side_of) e ∙ map-append side_of before.sides.items (s ∷ []) in
    let more : length (merged_items (sides_of now))
    ≡ length (merged_items (sides_of before)) + length (side_items (side_of s))
    = ap (λ ss. length (merged_items ss)) all
    ∙ ap length (merged_items-side (sides_of before) (side_of s))
    ∙ length-append (merged_items (sides_of before)) (side_items (side_of s)) in
    record { total = omega (arith, n, h.total, more, length-side_items (side_of s)); fits = l }

-- the items that were there stay, and the new ones follow
pub get_or-before : (ss : List Side) (x : Layout) (f : Carry) (j : ℕ) → j < length (merged_items ss)
    → get_or (merged_items (with_side ss x f)) j null ≡ get_or (merged_items ss) j null
get_or-before ss x f j h =
    ap (λ vs. get_or vs j null) (merged_items-with_side ss x f)
    ∙ get_or_append_left (merged_items ss) (map (carried f) (array_items x)) null j h

pub get_or-added : (ss : List Side) (x : Layout) (f : Carry) (j : ℕ) → j < len x
    → get_or (merged_items (with_side ss x f)) (length (merged_items ss) + j) null
    ≡ carried f (simple_value (layout_type x) (item x j))
get_or-added ss x f j h =
    ap (λ vs. get_or vs (length (merged_items ss) + j) null) (merged_items-with_side ss x f)
    ∙ get_or-append-add (merged_items ss) (map (carried f) (array_items x)) j null
    ∙ get_or-carried x f j h

with_all : (t : DataType) (ss : List Side) (x : Layout) (f : Carry) (b : Bool) → (len x == 0) ≡ b
    → AreSides t ss → (0 < len x → Carries (array_type x) f t)
    → AreSides t (if b then ss else ss ++ record { column = x; carry = f } ∷ [])
with_all t ss x f true e h k = h
with_all t ss x f false e h k =
    let some : 0 < len x = grind (arith, e) in
    all-append (IsSide t) ss (record { column = x; carry = f } ∷ []) h
    (record { some = some; values = k some }, tt)

pub AreSides-with_side : (t : DataType) (ss : List Side) (x : Layout) (f : Carry) → AreSides t ss
    → (0 < len x → Carries (array_type x) f t) → AreSides t (with_side ss x f)
AreSides-with_side t ss x f h k = with_all t ss x f (len x == 0) refl h k

-- ---- loops

pub IsSide-get : (t : DataType) (ss : List Side) (i : ℕ) (s : Side) → slice_get ss i ≡ Some s
    → AreSides t ss → IsSide t s
IsSide-get t ss i s e h = all-get (IsSide t) ss i s e h

pub merged_items-next : (ss : List Side) (i : ℕ) (s : Side) → slice_get ss i ≡ Some s
    → merged_items (take (i + 1) ss) ≡ merged_items (take i ss) ++ side_items s
merged_items-next ss i s e =
    ap merged_items (take-get ss i s e) ∙ merged_items-side (take i ss) s

pub total-next : (ss : List Side) (i : ℕ) (s : Side) → slice_get ss i ≡ Some s
    → length (merged_items (take (i + 1) ss)) ≡ length (merged_items (take i ss)) + len s.column
total-next ss i s e =
    ap length (merged_items-next ss i s e)
    ∙ length-append (merged_items (take i ss)) (side_items s)
    ∙ ap (λ n. length (merged_items (take i ss)) + n) (length-side_items s)

pub merged_items-all : (ss : List Side) (i : ℕ) → length ss ≤ i
    → merged_items (take i ss) ≡ merged_items ss
merged_items-all ss i h = ap merged_items (take_all i ss h)

-- the items of the first columns are no more than all
total-take : (ss : List Side) (i : ℕ) → length (merged_items (take i ss)) ≤ length (merged_items ss)
total-take [] zero = omega arith
total-take [] (suc i) = omega arith
total-take (s ∷ ss) zero = omega arith
total-take (s ∷ ss) (suc i) =
    let e : length (side_items s ++ merged_items (take i ss))
    ≡ length (side_items s) + length (merged_items (take i ss))
    = length-append (side_items s) (merged_items (take i ss)) in
    let f : length (side_items s ++ merged_items ss)
    ≡ length (side_items s) + length (merged_items ss)
    = length-append (side_items s) (merged_items ss) in
    omega (arith, e, f, total-take ss i)

-- so many fit where all do
pub total-within : (ss : List Side) (i : ℕ) (s : Side) → slice_get ss i ≡ Some s
    → length (merged_items (take i ss)) + len s.column ≤ length (merged_items ss)
total-within ss i s e =
    let f : length (merged_items (take (i + 1) ss)) ≤ length (merged_items ss) = total-take ss
    (i + 1) in
    subst (λ n. n ≤ length (merged_items ss)) (total-next ss i s e) f
