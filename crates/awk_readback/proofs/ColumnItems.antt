-- The items that lie behind offsets, an option's index, or tags and an index, over the columns of
-- the contents.
use Rattle.std.proofs.Common.{◌≡◌, ◌<◌, ℕ, zero, suc, ◌+◌, ◌-◌, ◌*◌, Bool, true, false, cond, List}
use Rattle.std.proofs.Common.{[], ◌∷◌, ◌++◌, length, get_or, refl, ap, sym, subst, ◌∙◌, arith}
use Rattle.std.proofs.Common.{length-append, append_assoc, ℤ, pos}
use Rattle.std.specs.Prelude.{filter, ◌==◌}
use Rattle.std.specs.List.{AllByRecursion}
use Rattle.std.proofs.lemmas.Grind.{flat_map-append}
use Rattle.awk_types.specs.Parts.{IsAlternative}
use Rattle.awk_types.specs.Value.{Value, null, alt, values_from}
use Rattle.awk_lanes.specs.Numbers.{nat_of}
use Rattle.awk_lanes.specs.Places.{option_place}
use Rattle.awk_layout.specs.Item.{run, at_option}
use Rattle.awk_valid.specs.Denote.{between}
use Rattle.awk_columns.specs.Columns.{list_items, joined_items, is_present, given_to}
use Rattle.awk_columns.specs.Columns.{alternative_values, offsets, option_index, tags, one_more}
use Rattle.awk_columns.specs.Columns.{union_index}
use Rattle.awk_readback.proofs.IndexLanes.{offsets-head}
use Rattle.awk_readback.proofs.ValueLists.{Reads, get_or-seam, snoc, length-snoc, seam-below}

-- the items from a place on are those that stand there
run-reads : (f : ℕ → Value) (n : ℕ) (pre xs rest : List Value) → length pre ≡ n
    → Reads f (pre ++ (xs ++ rest)) → run f n (length xs) ≡ values_from xs
run-reads f n pre [] rest e h = refl
run-reads f n pre (x ∷ xs) rest e h =
    let here : f n ≡ x =
    ap f (sym e) ∙ h (length pre) (seam-below pre x (xs ++ rest))
    ∙ get_or-seam pre x (xs ++ rest) in
    let more =
    run-reads f (suc n) (pre ++ x ∷ []) xs rest (length-snoc pre x ∙ ap suc e)
    (subst (Reads f) (sym (snoc pre x (xs ++ rest))) h) in
    rw (here, more) refl

moved : (f : ℕ → Value) (pre xs rest : List Value) → Reads f (pre ++ (xs ++ rest))
    → Reads f ((pre ++ xs) ++ rest)
moved f pre xs rest h = subst (Reads f) (sym (append_assoc pre xs rest)) h

-- ---- lists

lists-from : (f : ℕ → Value) (n : ℕ) (pre vs : List Value) (i : ℕ) → length pre ≡ n
    → Reads f (pre ++ joined_items vs) → i < length vs
    → between f (get_or (offsets n vs) i (pos 0)) (get_or (offsets n vs) (suc i) (pos 0))
    ≡ values_from (list_items (get_or vs i null))
lists-from f n pre [] i e h l = absurd (omega arith)
lists-from f n pre (v ∷ vs) zero e h l =
    let width : n + length (list_items v) - n ≡ length (list_items v) = omega arith in
    ap (between f (pos n)) (offsets-head (n + length (list_items v)) vs) ∙ ap (run f n) width
    ∙ run-reads f n pre (list_items v) (joined_items vs) e h
lists-from f n pre (v ∷ vs) (suc i) e h l =
    lists-from f (n + length (list_items v)) (pre ++ list_items v) vs i
    (grind (arith, length-append)) (moved f pre (list_items v) (joined_items vs) h) (omega arith)

-- between an offset and the next stand the items of the list
pub lists-read : (f : ℕ → Value) (vs : List Value) (i : ℕ) → Reads f (joined_items vs)
    → i < length vs
    → between f (get_or (offsets 0 vs) i (pos 0)) (get_or (offsets 0 vs) (suc i) (pos 0))
    ≡ values_from (list_items (get_or vs i null))
lists-read f vs i h l = lists-from f 0 [] vs i refl h l

blocks-from : (f : ℕ → Value) (m n : ℕ) (pre vs : List Value) (i : ℕ) → length pre ≡ n
    → AllByRecursion (λ v. length (list_items v) ≡ m) vs → Reads f (pre ++ joined_items vs)
    → i < length vs → run f (n + i * m) m ≡ values_from (list_items (get_or vs i null))
blocks-from f m n pre [] i e a h l = absurd (omega arith)
blocks-from f m n pre (v ∷ vs) zero e a h l =
    let here : n + 0 * m ≡ n = omega arith in
    rw here
    (subst (λ k. run f n k ≡ values_from (list_items v)) a.0
    (run-reads f n pre (list_items v) (joined_items vs) e h))
blocks-from f m n pre (v ∷ vs) (suc i) e a h l =
    let there : n + suc i * m ≡ n + m + i * m = omega arith in
    let size : length (pre ++ list_items v) ≡ n + m = grind (arith, length-append, a.0) in
    rw there
    (blocks-from f m (n + m) (pre ++ list_items v) vs i size a.1
    (moved f pre (list_items v) (joined_items vs) h) (omega arith))

-- lists of m items stand in blocks
pub blocks-read : (f : ℕ → Value) (m : ℕ) (vs : List Value) (i : ℕ)
    → AllByRecursion (λ v. length (list_items v) ≡ m) vs → Reads f (joined_items vs)
    → i < length vs → run f (i * m) m ≡ values_from (list_items (get_or vs i null))
blocks-read f m vs i a h l =
    let start : 0 + i * m ≡ i * m = omega arith in
    rw start at (blocks-from f m 0 [] vs i refl a h l)

-- ---- options

options-from : (f : ℕ → Value) (n : ℕ) (pre vs : List Value) (i : ℕ) → length pre ≡ n
    → Reads f (pre ++ filter is_present vs) → i < length vs
    → at_option (option_place (get_or (option_index n vs) i (pos 0))) f ≡ get_or vs i null
options-from f n pre [] i e h l = absurd (omega arith)
options-from f n pre (null ∷ vs) zero e h l = refl
options-from f n pre (null ∷ vs) (suc i) e h l = options-from f n pre vs i e h (omega arith)
options-from f n pre (v ∷ vs) zero e h l =
    ap f (sym e) ∙ h (length pre) (seam-below pre v (filter is_present vs))
    ∙ get_or-seam pre v (filter is_present vs)
options-from f n pre (v ∷ vs) (suc i) e h l =
    options-from f (suc n) (pre ++ v ∷ []) vs i (length-snoc pre v ∙ ap suc e)
    (subst (Reads f) (sym (snoc pre v (filter is_present vs))) h) (omega arith)

pub options-read : (f : ℕ → Value) (vs : List Value) (i : ℕ) → Reads f (filter is_present vs)
    → i < length vs
    → at_option (option_place (get_or (option_index 0 vs) i (pos 0))) f ≡ get_or vs i null
options-read f vs i h l = options-from f 0 [] vs i refl h l

-- ---- unions

own-first : (j : ℕ) (w : Value) (pre vs : List Value)
    → alternative_values j (pre ++ alt j w ∷ vs)
    ≡ alternative_values j pre ++ w ∷ alternative_values j vs
own-first j w pre vs =
    let same : (j == j) ≡ true = grind arith in
    flat_map-append (given_to j) pre (alt j w ∷ vs)
    ∙ ap (λ (b : Bool). alternative_values j pre ++ (cond b (w ∷ []) [] ++ alternative_values j vs))
    same

-- one more value of a tag is one more of its alternative
counts-more : (k j : ℕ) (w : Value) (counts : ℕ → ℕ) (pre : List Value)
    → counts k ≡ length (alternative_values k pre)
    → one_more j counts k ≡ length (alternative_values k (pre ++ alt j w ∷ []))
counts-more k j w counts pre e =
    by (k == j) ∙ sym (ap length (flat_map-append (given_to k) pre (alt j w ∷ [])))
  where
    by : (b : Bool)
        → cond b (suc (counts k)) (counts k)
        ≡ length (alternative_values k pre ++ (cond b (w ∷ []) [] ++ []))
    by true = grind (arith, length-append, e)
    by false = grind (arith, length-append, e)

-- the value of a tag and a place, where g gives the items of each alternative
abbrev pub alternative_by : (ℕ → ℕ → Value) → ℤ → ℤ → Value
alternative_by g tag place = alt (nat_of tag) (g (nat_of tag) (nat_of place))

unions-from : (g : ℕ → ℕ → Value) (counts : ℕ → ℕ) (pre vs : List Value) (i : ℕ)
    → AllByRecursion IsAlternative vs
    → ((k : ℕ) → counts k ≡ length (alternative_values k pre))
    → ((k : ℕ) → Reads (g k) (alternative_values k (pre ++ vs))) → i < length vs
    → alternative_by g (get_or (tags vs) i (pos 0)) (get_or (union_index counts vs) i (pos 0))
    ≡ get_or vs i null
unions-from g counts pre [] i are e r l = absurd (omega arith)
unions-from g counts pre (alt j w ∷ vs) zero are e r l =
    let before = alternative_values j pre in
    let behind = alternative_values j vs in
    let reads = subst (Reads (g j)) (own-first j w pre vs) (r j) in
    ap (alt j)
    (ap (g j) (e j) ∙ reads (length before) (seam-below before w behind)
    ∙ get_or-seam before w behind)
unions-from g counts pre (alt j w ∷ vs) (suc i) are e r l =
    unions-from g (one_more j counts) (pre ++ alt j w ∷ []) vs i are.1
    (λ k. counts-more k j w counts pre (e k))
    (λ k. subst (λ xs. Reads (g k) (alternative_values k xs)) (sym (snoc pre (alt j w) vs)) (r k))
    (omega arith)
unions-from g counts pre (v ∷ vs) i are e r l = absurd are.0

pub unions-read : (g : ℕ → ℕ → Value) (vs : List Value) (i : ℕ) → AllByRecursion IsAlternative vs
    → ((k : ℕ) → Reads (g k) (alternative_values k vs)) → i < length vs
    → alternative_by g (get_or (tags vs) i (pos 0)) (get_or (union_index (λ k. 0) vs) i (pos 0))
    ≡ get_or vs i null
unions-read g vs i are r l = unions-from g (λ k. 0) [] vs i are (λ k. refl) r l
