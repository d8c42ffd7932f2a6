-- The lanes of a packed node: how long they are, what they hold, and that they keep their rules.
use Rattle.std.proofs.Common.{◌≡◌, ◌<◌, ◌≤◌, ℕ, zero, suc, ◌+◌, Bool, true, false, cond, List, []}
use Rattle.std.proofs.Common.{◌∷◌, length, get_or, Some, None, refl, ap, ◌∙◌, arith, length-append}
use Rattle.std.proofs.Common.{pos, negsuc}
use Rattle.std.specs.Prelude.{filter, int_lt, int_le, ◌==◌, ◌||◌}
use Rattle.std.specs.List.{AllByRecursion}
use Rattle.std.specs.Ordering.{int_eq}
use Rattle.std.proofs.lemmas.Int.{ints}
use Rattle.awk_types.specs.Value.{Value, null}
use Rattle.awk_lanes.specs.declared.kind.Kind.TheVariants.{I8, I64}
use Rattle.awk_lanes.specs.declared.kind.Num.TheVariants.{Int}
use Rattle.awk_valid.specs.Broken.{list_rule, tag_rule}
use Rattle.awk_valid.specs.declared.fault.Rule.TheVariants.{Order, Start, Tag, Negative}
use Rattle.awk_columns.specs.Columns.{list_items, joined_items, is_present, tag_of, offsets}
use Rattle.awk_columns.specs.Columns.{option_index, tags, one_more, union_index}
use Rattle.awk_readback.proofs.LaneBytes.{IsHeld}

-- ---- numbers of int64 and int8

held_place : (n : ℕ) → n < 9223372036854775808 → IsHeld I64 (pos n)
held_place n h = (Int (pos n), omega (arith, ints), refl)

held_tag : (n : ℕ) → n < 128 → IsHeld I8 (pos n)
held_tag n h = (Int (pos n), omega (arith, ints), refl)

held_missing : IsHeld I64 (negsuc 0)
held_missing = (Int (negsuc 0), omega (arith, ints), refl)

-- ---- offsets

pub length-offsets : (n : ℕ) (vs : List Value) → length (offsets n vs) ≡ suc (length vs)
length-offsets n [] = refl
length-offsets n (v ∷ vs) = ap suc (length-offsets (n + length (list_items v)) vs)

pub offsets-head : (n : ℕ) (vs : List Value) → get_or (offsets n vs) 0 (pos 0) ≡ pos n
offsets-head n [] = refl
offsets-head n (v ∷ vs) = refl

pub offsets-held : (n : ℕ) (vs : List Value) → n + length (joined_items vs) < 9223372036854775808
    → AllByRecursion (IsHeld I64) (offsets n vs)
offsets-held n [] h = (held_place n (omega arith), tt)
offsets-held n (v ∷ vs) h =
    let l = length-append (list_items v) (joined_items vs) in
    (held_place n (omega arith), offsets-held (n + length (list_items v)) vs (omega (arith, l)))

spans_well : (n w : ℕ) → list_rule (pos n) (pos (n + w)) ≡ None
spans_well n w =
    by (int_eq (pos n) (pos (n + w))) (int_lt (pos (n + w)) (pos n)) (int_lt (pos n) (pos 0))
    (grind (arith, ints)) (grind (arith, ints))
  where
    by : (e l s : Bool) → l ≡ false → s ≡ false
        → cond e None (cond l (Some Order) (cond s (Some Start) None)) ≡ None
    by true l s f g = refl
    by false true s f g = absurd (cc)
    by false false true f g = absurd (cc)
    by false false false f g = refl

pub offsets-rule : (n : ℕ) (vs : List Value) (i : ℕ) → i < length vs
    → list_rule (get_or (offsets n vs) i (pos 0)) (get_or (offsets n vs) (suc i) (pos 0)) ≡ None
offsets-rule n [] i h = absurd (omega arith)
offsets-rule n (v ∷ vs) zero h =
    ap (list_rule (pos n)) (offsets-head (n + length (list_items v)) vs)
    ∙ spans_well n (length (list_items v))
offsets-rule n (v ∷ vs) (suc i) h = offsets-rule (n + length (list_items v)) vs i (omega arith)

-- ---- options

pub option_index-held : (n : ℕ) (vs : List Value)
    → n + length (filter is_present vs) < 9223372036854775808
    → AllByRecursion (IsHeld I64) (option_index n vs)
option_index-held n [] h = tt
option_index-held n (null ∷ vs) h = (held_missing, option_index-held n vs h)
option_index-held n (v ∷ vs) h =
    (held_place n (omega arith), option_index-held (suc n) vs (omega arith))

-- ---- unions

pub length-tags : (vs : List Value) → length (tags vs) ≡ length vs
length-tags [] = refl
length-tags (v ∷ vs) = ap suc (length-tags vs)

pub tags-held : (vs : List Value) → AllByRecursion (λ v. tag_of v < 128) vs
    → AllByRecursion (IsHeld I8) (tags vs)
tags-held [] h = tt
tags-held (v ∷ vs) h = (held_tag (tag_of v) h.0, tags-held vs h.1)

pub length-union_index : (counts : ℕ → ℕ) (vs : List Value)
    → length (union_index counts vs) ≡ length vs
length-union_index counts [] = refl
length-union_index counts (v ∷ vs) = ap suc (length-union_index (one_more (tag_of v) counts) vs)

one_more-most : (b : Bool) (c : ℕ) → cond b (suc c) c ≤ suc c
one_more-most true c = omega arith
one_more-most false c = omega arith

pub union_index-held : (counts : ℕ → ℕ) (vs : List Value)
    → ((k : ℕ) → counts k + length vs < 9223372036854775808)
    → AllByRecursion (IsHeld I64) (union_index counts vs)
union_index-held counts [] h = tt
union_index-held counts (v ∷ vs) h =
    let t = tag_of v in (
      held_place (counts t) (omega (arith, h t)),
      union_index-held (one_more t counts) vs
          (λ k. omega (arith, h k, one_more-most (k == t) (counts k))),
    )

tag_well : (count t n : ℕ) → t < count → tag_rule count (pos t) (pos n) ≡ None
tag_well count t n h =
    by (int_lt (pos t) (pos 0)) (int_le (pos count) (pos t)) (int_lt (pos n) (pos 0))
    (grind (arith, ints)) (grind (arith, ints)) (grind (arith, ints))
  where
    by : (s l z : Bool) → s ≡ false → l ≡ false → z ≡ false
        → cond (s || l) (Some Tag) (cond z (Some Negative) None) ≡ None
    by false false false e f g = refl
    by true l z e f g = absurd (cc)
    by false true z e f g = absurd (cc)
    by false false true e f g = absurd (cc)

pub union_index-rule : (count : ℕ) (counts : ℕ → ℕ) (vs : List Value) (i : ℕ)
    → AllByRecursion (λ v. tag_of v < count) vs → i < length vs
    → tag_rule count (get_or (tags vs) i (pos 0)) (get_or (union_index counts vs) i (pos 0)) ≡ None
union_index-rule count counts [] i h l = absurd (omega arith)
union_index-rule count counts (v ∷ vs) zero h l = tag_well count (tag_of v) (counts (tag_of v)) h.0
union_index-rule count counts (v ∷ vs) (suc i) h l =
    union_index-rule count (one_more (tag_of v) counts) vs i h.1 (omega arith)
