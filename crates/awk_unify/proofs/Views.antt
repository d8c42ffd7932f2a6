-- The equations of `lift_of` and its like.
use Rattle.std.proofs.Common.{◌≡◌, Bool, true, false, ℕ, ◌<◌, List, [], ◌∷◌, map, arith, length}
use Rattle.std.proofs.Common.{slice_get, Some, get_or, sym, ap, ◌∙◌}
use Rattle.std.proofs.lemmas.List.{length-map}
use Rattle.awk_base.proofs.Lists.{slice_get_of_map}
use Rattle.awk_unify.specs.Carry.{Carry, Carries, carry, keep, no_carries, in_items, to_parts}
use Rattle.awk_unify.specs.Carry.{to_alternatives, carries_from, tag_at}
use Rattle.awk_unify.specs.After.{after}
use Rattle.awk_unify.specs.Carries.{carry_at, put_after}
use Rattle.awk_unify.proofs.Afters.{by_place, each_are}
use Rattle.awk_unify.specs.View.{lift_step, lifts_step, lift_of, lifts_of}
use Rattle.awk_unify.specs.declared.lift.Lift.{Lift, Same, Parts, Alternatives}
use Rattle.awk_unify.specs.declared.lift.Lift.TheVariants.{rolls-Same, rolls-Parts}
use Rattle.awk_unify.specs.declared.lift.Lift.TheVariants.{rolls-Alternatives}
use Rattle.awk_unify.specs.declared.lift.Lift.TheOpen.{Lift-F}
use Rattle.awk_unify.specs.declared.lift.Lifts.{Lifts}
use Rattle.awk_unify.specs.declared.lift.Lift.TheViews.{out-Lifts}
use Rattle.awk_unify.specs.declared.lift.Lift.TheFolds.{fold_out-Lifts, fold-roll-Lift}

pub lifts_out : (fs : Lifts) → lifts_of fs ≡ map lift_of (out-Lifts fs).items.items
lifts_out = fold_out-Lifts Carry (List Carry) lift_step lifts_step

-- the lift that `get` reads
pub lifts_get : (fs : Lifts) (i : ℕ) (x : Lift) → i < length (lifts_of fs)
    → x ≡ get_or fs.items.items i x → slice_get (lifts_of fs) i ≡ Some (lift_of x)
lifts_get fs i x within read =
    rw (lifts_out fs) (slice_get_of_map lift_of fs.items.items i x
    (omega (arith, ap length (lifts_out fs), length-map fs.items.items lift_of)) read)

-- the variants that hold lists
pub lift_of-Same : lift_of Same ≡ keep
lift_of-Same =
    ap lift_of (sym rolls-Same) ∙ fold-roll-Lift Carry (List Carry) lift_step lifts_step Lift-F.Same

pub lift_of-Parts : (places : List ℕ) (parts : Lifts)
    → lift_of (Parts places parts) ≡ to_parts places (carries_from (lifts_of parts))
lift_of-Parts places parts =
    ap lift_of (sym (rolls-Parts places parts)) ∙ fold-roll-Lift Carry (List Carry) lift_step
    lifts_step (Lift-F.Parts places parts)

pub lift_of-Alternatives : (tags : List ℕ) (parts : Lifts)
    → lift_of (Alternatives tags parts) ≡ to_alternatives tags (carries_from (lifts_of parts))
lift_of-Alternatives tags parts =
    ap lift_of (sym (rolls-Alternatives tags parts)) ∙ fold-roll-Lift Carry (List Carry) lift_step
    lifts_step (Lift-F.Alternatives tags parts)

-- what comes after, by the lifts' shapes
pub parts_after : (g f : Lift) (qs ps ms : List ℕ) (gs fs hs : Lifts) → g ≡ Parts qs gs
    → f ≡ Parts ps fs → ms ≡ ps → lifts_of hs ≡ put_after (lifts_of gs) ps (lifts_of fs)
    → lift_of (Parts ms hs) ≡ after (lift_of g) (lift_of f)
parts_after g f qs ps ms gs fs hs a b c d =
    lift_of-Parts ms hs
    ∙ ap (λ ks. to_parts ks (carries_from (lifts_of hs))) c
    ∙ ap (λ xs. to_parts ps (carries_from xs)) d
    ∙ ap (to_parts ps) (sym (each_are (lifts_of gs) ps (lifts_of fs)))
    ∙ ap (λ x. after x (to_parts ps (carries_from (lifts_of fs)))) (sym (lift_of-Parts qs gs))
    ∙ ap (after (lift_of (Parts qs gs))) (sym (lift_of-Parts ps fs))
    ∙ ap (λ x. after (lift_of x) (lift_of (Parts ps fs))) (sym a)
    ∙ ap (λ x. after (lift_of g) (lift_of x)) (sym b)

pub alternatives_after : (g f : Lift) (us ts ms : List ℕ) (gs fs hs : Lifts)
    → g ≡ Alternatives us gs → f ≡ Alternatives ts fs → ms ≡ map (tag_at us) ts
    → lifts_of hs ≡ put_after (lifts_of gs) ts (lifts_of fs)
    → lift_of (Alternatives ms hs) ≡ after (lift_of g) (lift_of f)
alternatives_after g f us ts ms gs fs hs a b c d =
    lift_of-Alternatives ms hs
    ∙ ap (λ ks. to_alternatives ks (carries_from (lifts_of hs))) c
    ∙ ap (λ xs. to_alternatives (map (tag_at us) ts) (carries_from xs)) d
    ∙ ap (to_alternatives (map (tag_at us) ts)) (sym (each_are (lifts_of gs) ts (lifts_of fs)))
    ∙ ap (λ x. after x (to_alternatives ts (carries_from (lifts_of fs))))
    (sym (lift_of-Alternatives us gs))
    ∙ ap (after (lift_of (Alternatives us gs))) (sym (lift_of-Alternatives ts fs))
    ∙ ap (λ x. after (lift_of x) (lift_of (Alternatives ts fs))) (sym a)
    ∙ ap (λ x. after (lift_of g) (lift_of x)) (sym b)

-- a side that is no union counts as a union of one
items_after : (us : List ℕ) (gs : Lifts) (f : Carry)
    → after (to_alternatives us (carries_from (lifts_of gs))) (in_items f) ≡ to_alternatives
    (tag_at us 0 ∷ []) (carry (after (carry_at (lifts_of gs) 0) (in_items f)) no_carries)
items_after us gs f =
    ap (λ x. to_alternatives (tag_at us 0 ∷ []) (carry x no_carries))
    (by_place (lifts_of gs) 0 (in_items f))

rows_after : (us ps : List ℕ) (gs : Lifts) (fs : Carries)
    → after (to_alternatives us (carries_from (lifts_of gs))) (to_parts ps fs) ≡ to_alternatives
    (tag_at us 0 ∷ []) (carry (after (carry_at (lifts_of gs) 0) (to_parts ps fs)) no_carries)
rows_after us ps gs fs =
    ap (λ x. to_alternatives (tag_at us 0 ∷ []) (carry x no_carries))
    (by_place (lifts_of gs) 0 (to_parts ps fs))

pub first_after_rows : (g f h : Lift) (us ps : List ℕ) (gs fs : Lifts) → g ≡ Alternatives us gs
    → f ≡ Parts ps fs
    → lift_of h ≡ to_alternatives (tag_at us 0 ∷ [])
    (carry (after (carry_at (lifts_of gs) 0) (lift_of f)) no_carries) → lift_of h ≡ after
    (lift_of g) (lift_of f)
first_after_rows g f h us ps gs fs a b c =
    let is : lift_of f ≡ to_parts ps (carries_from (lifts_of fs)) = ap lift_of b ∙ lift_of-Parts ps
    fs in
    c ∙ ap (λ x. to_alternatives (tag_at us 0 ∷ [])
    (carry (after (carry_at (lifts_of gs) 0) x) no_carries)) is
    ∙ sym (rows_after us ps gs (carries_from (lifts_of fs)))
    ∙ ap (λ x. after x (to_parts ps (carries_from (lifts_of fs))))
    (sym (lift_of-Alternatives us gs))
    ∙ ap (λ x. after (lift_of x) (to_parts ps (carries_from (lifts_of fs)))) (sym a)
    ∙ ap (after (lift_of g)) (sym is)

-- a carry of a list or of a row
abbrev pub other : Carry → Bool
other keep = false
other (to_alternatives ts fs) = false
other f = true

other_after : (us : List ℕ) (gs : Lifts) (f : Carry) → other f ≡ true
    → after (to_alternatives us (carries_from (lifts_of gs))) f ≡ to_alternatives (tag_at us 0 ∷ [])
    (carry (after (carry_at (lifts_of gs) 0) f) no_carries)
other_after us gs keep e = cc
other_after us gs (to_alternatives ts fs) e = cc
other_after us gs (in_items f) e = items_after us gs f
other_after us gs (to_parts ps fs) e = rows_after us ps gs fs

pub first_after_other : (g f h : Lift) (us : List ℕ) (gs : Lifts) → g ≡ Alternatives us gs
    → other (lift_of f) ≡ true
    → lift_of h ≡ to_alternatives (tag_at us 0 ∷ [])
    (carry (after (carry_at (lifts_of gs) 0) (lift_of f)) no_carries) → lift_of h ≡ after
    (lift_of g) (lift_of f)
first_after_other g f h us gs a b c =
    c ∙ sym (other_after us gs (lift_of f) b)
    ∙ ap (λ x. after x (lift_of f)) (sym (lift_of-Alternatives us gs))
    ∙ ap (λ x. after (lift_of x) (lift_of f)) (sym a)

pub other_of : (f x : Lift) → f ≡ x → other (lift_of x) ≡ true → other (lift_of f) ≡ true
other_of f x e h = ap (λ y. other (lift_of y)) e ∙ h
