-- Arrays one after another: what is made of the first of them, and of all.
use Rattle.std.proofs.Common.{◌≡◌, ℕ, ◌+◌, ◌≤◌, ◌||◌, Bool, true, false, List, []}
use Rattle.std.proofs.Common.{◌∷◌, ◌++◌, length, take, drop, slice_get, Some, None, refl}
use Rattle.std.proofs.Common.{ap, ap₂, sym, subst, ◌∙◌, add-one}
use Rattle.std.specs.Prelude.{Result, Ok, Err}
use Rattle.std.specs.List.{list_any}
use Rattle.std.proofs.lemmas.List.{take_all, drop_all}
use Rattle.std.proofs.lemmas.Bool.{or_right}
use Rattle.awk_base.proofs.Lists.{drop_suc-get, take_suc-get}
use Rattle.awk_types.specs.declared.fault.Fault.TheVariants as fault
use Rattle.awk_types.specs.declared.primitive.Primitive.{Primitive}
use Rattle.awk_layout.specs.Layout.{Layout}
use Rattle.awk_cast.specs.Cast.{told}
use Rattle.awk_cast.specs.Casting.{IsCast, IsAnswer, IsTaken, IsTold, AreCast}
use Rattle.awk_cast.specs.Casting.{is_large_array, array_overflows, told_of, told_of_all}
use Rattle.awk_cast.specs.declared.fault.CastFault.{CastFault}
use Rattle.awk_cast.specs.declared.fault.CastFault.TheVariants.{Size, Overflow, NoMemory}

-- what is known once i of the arrays are taken, of which none is too large
pub record AreSoFar (p : Primitive) (xs : List Layout) (i : ℕ) (past : Bool) (ys : List Layout)
    : Type 0 where
  pub sizes : list_any is_large_array xs ≡ list_any is_large_array (drop i xs)
  pub overflow : list_any (array_overflows p) xs
      ≡ (past || list_any (array_overflows p) (drop i xs))
  pub made : past ≡ false → AreCast p (take i xs) ys

-- ---- what is told

told_size : (b c : Bool) → told b c ≡ Some fault.Size → b ≡ true
told_size true c e = refl
told_size false true e = cc
told_size false false e = cc

told_overflow : (b c : Bool) → told b c ≡ Some fault.Overflow → (b ≡ false) × (c ≡ true)
told_overflow true c e = cc
told_overflow false true e = (refl, refl)
told_overflow false false e = cc

pub told_none : (b c : Bool) → told b c ≡ None → (b ≡ false) × (c ≡ false)
told_none true c e = cc
told_none false true e = cc
told_none false false e = (refl, refl)

-- ---- one array more

any_at : (f : Layout → Bool) (xs : List Layout) (i : ℕ) (x : Layout) → slice_get xs i ≡ Some x
    → list_any f (drop i xs) ≡ (f x || list_any f (drop (i + 1) xs))
any_at f xs i x e =
    let d : drop i xs ≡ x ∷ drop (i + 1) xs = rw add-one (drop_suc-get xs i x e) in
    ap (list_any f) d

cast_behind : (p : Primitive) (xs ys : List Layout) (x y : Layout) → AreCast p xs ys → IsCast p x y
    → AreCast p (xs ++ x ∷ []) (ys ++ y ∷ [])
cast_behind p [] [] x y m h = (h, tt)
cast_behind p [] (w ∷ ys) x y m h = absurd m
cast_behind p (v ∷ xs) [] x y m h = absurd m
cast_behind p (v ∷ xs) (w ∷ ys) x y m h = (m.0, cast_behind p xs ys x y m.1 h)

-- what stands before is false: the rest decides
rest_decides : (a b c : Bool) → a ≡ (b || c) → b ≡ false → a ≡ c
rest_decides a true c e h = cc
rest_decides a false c e h = e

moved : (a past b c : Bool) → a ≡ (past || (b || c)) → a ≡ ((past || b) || c)
moved a true b c e = e
moved a false b c e = e

either_same : (past b : Bool) → b ≡ false → (past || b) ≡ past
either_same true b e = refl
either_same false b e = e

module _ (p : Primitive) (xs : List Layout) (i : ℕ) (x : Layout) (past : Bool) (ys : List Layout)
    (at : slice_get xs i ≡ Some x) (so : AreSoFar p xs i past ys) where
  large_next : is_large_array x ≡ false
      → list_any is_large_array xs ≡ list_any is_large_array (drop (i + 1) xs)
  large_next e = rest_decides _ _ _ (so.sizes ∙ any_at is_large_array xs i x at) e

  past_next : list_any (array_overflows p) xs
      ≡ ((past || array_overflows p x) || list_any (array_overflows p) (drop (i + 1) xs))
  past_next = moved _ past _ _
      (so.overflow ∙ ap (λ b. past || b) (any_at (array_overflows p) xs i x at))

  -- one that is cast
  next_cast : (y : Layout) (more : List Layout) (b : Bool) → told_of p x ≡ None → IsCast p x y
      → b ≡ past → more ≡ ys ++ y ∷ [] → AreSoFar p xs (i + 1) b more
  next_cast y more b none m same put =
      let n = told_none (is_large_array x) (array_overflows p x) none in
      record {
        sizes = large_next n.0;
        overflow = past_next
            ∙ ap (λ c. c || list_any (array_overflows p) (drop (i + 1) xs))
            (either_same past (array_overflows p x) n.1 ∙ sym same);
        made = λ e. rw (add-one, take_suc-get xs i x at, put)
            (cast_behind p (take i xs) ys x y (so.made (sym same ∙ e)) m);
      }

  -- one that overflows
  next_past : (more : List Layout) (b : Bool) → told_of p x ≡ Some fault.Overflow → b ≡ true
      → AreSoFar p xs (i + 1) b more
  next_past more b said is =
      let n = told_overflow (is_large_array x) (array_overflows p x) said in
      record {
        sizes = large_next n.0;
        overflow = past_next
            ∙ ap (λ c. c || list_any (array_overflows p) (drop (i + 1) xs))
            (or_right past (array_overflows p x) n.1 ∙ sym is);
        made = λ e. absurd (cc);
      }

  pub so_far_taken : (made : Result Layout CastFault) (b : Bool) (more : List Layout)
      → IsAnswer p x made → IsTaken past ys made more (Ok b) → AreSoFar p xs (i + 1) b more
  so_far_taken (Ok y) b more h t = next_cast y more b h.0 h.1 t.0 t.1
  so_far_taken (Err Overflow) b more h t = next_past more b h t
  so_far_taken (Err Size) b more h t = absurd t
  so_far_taken (Err NoMemory) b more h t = absurd t

  -- one that is too large, or want of memory
  pub so_far_failed : (made : Result Layout CastFault) (e : CastFault) (more : List Layout)
      → IsAnswer p x made → IsTaken past ys made more (Err e) → IsTold (told_of_all p xs) e
  so_far_failed (Ok y) e more h t = rw t tt
  so_far_failed (Err Overflow) e more h t = absurd t
  so_far_failed (Err NoMemory) e more h t = rw t tt
  so_far_failed (Err Size) e more h t =
      let l : is_large_array x ≡ true = told_size (is_large_array x) (array_overflows p x) h in
      let all : list_any is_large_array xs ≡ true =
      so.sizes ∙ any_at is_large_array xs i x at
      ∙ ap (λ b. b || list_any is_large_array (drop (i + 1) xs)) l in
      rw t (ap (λ b. told b (list_any (array_overflows p) xs)) all)

-- ---- all of them

module _ (p : Primitive) (xs : List Layout) (i : ℕ) (past : Bool) (ys : List Layout)
    (all : length xs ≤ i) (so : AreSoFar p xs i past ys) where
  none_large : list_any is_large_array xs ≡ false
  none_large = so.sizes ∙ ap (list_any is_large_array) (drop_all i xs all)

  last_past : list_any (array_overflows p) xs ≡ past
  last_past = so.overflow ∙ ap (λ zs. past || list_any (array_overflows p) zs) (drop_all i xs all)
      ∙ or_false past
    where
      or_false : (b : Bool) → (b || false) ≡ b
      or_false true = refl
      or_false false = refl

  pub all_past : past ≡ true → told_of_all p xs ≡ Some fault.Overflow
  all_past e = ap₂ told none_large (last_past ∙ e)

  pub all_cast : past ≡ false → (told_of_all p xs ≡ None) × AreCast p xs ys
  all_cast e = (
    ap₂ told none_large (last_past ∙ e),
    subst (λ zs. AreCast p zs ys) (take_all i xs all) (so.made e),
  )
