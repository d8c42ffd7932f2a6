-- What judging the numbers of a lane tells of the lane.
use Rattle.std.proofs.Common.{◌≡◌, ◌<◌, ℕ, ◌+◌, ◌-◌, List, length, get_or, take, drop, get_or-take}
use Rattle.std.proofs.Common.{get_or-drop, map, Result, length-take, sym, ap, ap₂, ◌∙◌, arith, ℤ}
use Rattle.std.proofs.Common.{pos}
use Rattle.std.specs.List.{range_with_len}
use Rattle.awk_types.specs.Gives.{refused_or}
use Rattle.awk_lanes.specs.declared.kind.Kind.TheVariants.{I8}
use Rattle.awk_lanes.specs.Column.{Column}
use Rattle.awk_lanes.specs.Places.{at, size_of, IsIndexKind}
use Rattle.awk_lanes.proofs.PlaceLaws.{at-index, element-same}
use Rattle.awk_valid.specs.Broken.{Refusal, rule_break, list_rule, tag_rule}
use Rattle.awk_valid.specs.Needs.{reach, lists_length, tag_length}
use Rattle.awk_valid.proofs.LengthLaws.{greatest_below-same, rule_break-same}

-- ---- the numbers of a lane, by place

pub at-index_numbers : (c : Column) (xs : List ℤ) → IsIndexKind c.kind → xs ≡ c.items
    → at c ≡ (λ i. get_or xs i (pos 0))
at-index_numbers c xs k e =
    λ j i. (at-index c i k ∙ ap (λ (ys : List ℤ). get_or ys i (pos 0)) (sym e)) j

pub at-tag_numbers : (c : Column) (xs : List ℤ) → c.kind ≡ I8 → xs ≡ c.items
    → at c ≡ (λ i. get_or xs i (pos 0))
at-tag_numbers c xs k e =
    λ j i.
    (element-same c.kind (get_or c.items i (pos 0)) (λ t. absurd (cc))
    ∙ ap (λ (ys : List ℤ). get_or ys i (pos 0)) (sym e)) j

-- ---- lists

-- what judging n lists answers, and how many items they need
abbrev pub spans_said : ℕ → ℕ → (ℕ → ℤ) → (ℕ → ℤ) → Result ℕ Refusal
spans_said node n starts stops =
    refused_or (rule_break node n (λ i. list_rule (starts i) (stops i)))
    (lists_length n starts stops)

spans_said-same : (node n : ℕ) (f g h k : ℕ → ℤ) → ((i : ℕ) → i < n → f i ≡ h i)
    → ((i : ℕ) → i < n → g i ≡ k i) → spans_said node n f g ≡ spans_said node n h k
spans_said-same node n f g h k p q =
    let rules =
    rule_break-same node n (λ (i : ℕ). list_rule (f i) (g i)) (λ (i : ℕ). list_rule (h i) (k i))
    (λ i l. ap₂ list_rule (p i l) (q i l)) in
    let needs =
    greatest_below-same n (λ (i : ℕ). reach (f i) (g i)) (λ (i : ℕ). reach (h i) (k i))
    (λ i l. ap₂ reach (p i l) (q i l)) in
    ap₂ refused_or rules needs

pub spans_said-lists : (node : ℕ) (s t : Column) (xs ys : List ℤ) → IsIndexKind s.kind
    → IsIndexKind t.kind → xs ≡ s.items → ys ≡ t.items
    → spans_said node (length xs) (λ i. get_or xs i (pos 0)) (λ i. get_or ys i (pos 0))
    ≡ spans_said node (size_of s) (at s) (at t)
spans_said-lists node s t xs ys k l e f =
    λ j. spans_said node (length (e j)) (sym (at-index_numbers s xs k e) j)
    (sym (at-index_numbers t ys l f) j)

-- offsets but the last are starts, and offsets but the first are stops
spans_said-cut : (node : ℕ) (c : Column) → IsIndexKind c.kind
    → spans_said node (length (take (size_of c - 1) c.items))
    (λ i. get_or (take (size_of c - 1) c.items) i (pos 0))
    (λ i. get_or (take (size_of c - 1) (drop 1 c.items)) i (pos 0))
    ≡ spans_said node (size_of c - 1) (at c) (λ i. at c (i + 1))
spans_said-cut node c k =
    let n = size_of c - 1 in
    let zs = c.items in
    let count : length (take n zs) ≡ n = omega (arith, length-take n zs) in
    rw count
    (spans_said-same node n (λ (i : ℕ). get_or (take n zs) i (pos 0))
    (λ (i : ℕ). get_or (take n (drop 1 zs)) i (pos 0)) (at c) (λ (i : ℕ). at c (i + 1))
    (λ i l. get_or-take n zs i (pos 0) l ∙ sym (at-index c i k))
    (λ i l. get_or-take n (drop 1 zs) i (pos 0) l ∙ next i ∙ sym (at-index c (i + 1) k)))
  where
    next : (i : ℕ) → get_or (drop 1 c.items) i (pos 0) ≡ get_or c.items (i + 1) (pos 0)
    next i = let s : i + 1 ≡ 1 + i = omega arith in rw s (get_or-drop 1 c.items i (pos 0))

pub spans_said-offsets : (node count : ℕ) (c : Column) (xs ys : List ℤ) → IsIndexKind c.kind
    → count ≡ size_of c → xs ≡ c.items → ys ≡ c.items
    → spans_said node (length (take (count - 1) xs)) (λ i. get_or (take (count - 1) xs) i (pos 0))
    (λ i. get_or (take (length ys - 1) (drop 1 ys)) i (pos 0))
    ≡ spans_said node (size_of c - 1) (at c) (λ i. at c (i + 1))
spans_said-offsets node count c xs ys k m e f =
    (λ j. spans_said node (length (take (m j - 1) (e j)))
    (λ i. get_or (take (m j - 1) (e j)) i (pos 0))
    (λ i. get_or (take (length (f j) - 1) (drop 1 (f j))) i (pos 0)))
    ∙ spans_said-cut node c k

-- ---- tags

-- what judging n tags answers, and how many items each alternative needs
abbrev pub tags_said : ℕ → ℕ → ℕ → (ℕ → ℤ) → (ℕ → ℤ) → Result (List ℕ) Refusal
tags_said node alternatives n tags index =
    refused_or (rule_break node n (λ i. tag_rule alternatives (tags i) (index i)))
    (map (tag_length n tags index) (range_with_len 0 alternatives))

pub tags_said-lanes : (node alternatives : ℕ) (t z : Column) (xs ys : List ℤ) → t.kind ≡ I8
    → IsIndexKind z.kind → xs ≡ t.items → ys ≡ z.items
    → tags_said node alternatives (length xs) (λ i. get_or xs i (pos 0)) (λ i. get_or ys i (pos 0))
    ≡ tags_said node alternatives (size_of t) (at t) (at z)
tags_said-lanes node alternatives t z xs ys k l e f =
    λ j. tags_said node alternatives (length (e j)) (sym (at-tag_numbers t xs k e) j)
    (sym (at-index_numbers z ys l f) j)
