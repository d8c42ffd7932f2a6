-- What is made of the rows of a level: nulls, lists and their lanes.
use Rattle.std.proofs.Common.{◌≡◌, ℕ, suc, ◌+◌, Bool, true, false, not, ◌||◌, refl, ap, ◌∙◌}
use Rattle.std.specs.Prelude.{List, [], ◌∷◌, ◌++◌, map, filter, length, if◌then◌else◌, pos}
use Rattle.std.specs.Prelude.{negsuc, cond}
use Rattle.std.specs.List.{list_any, flat_map}
use Rattle.std.proofs.lemmas.List.{map-append, length-map}
use Rattle.std.proofs.lemmas.List.Folds.{list_any-append}
use Rattle.awk_types.specs.Value.{Value, int, truth, null, list, row, alt, values_from}
use Rattle.awk_columns.specs.Columns.{list_items, joined_items, is_present, offsets, option_index}
use Rattle.awk_types.proofs.Trees.{value_list-from}
use Rattle.awk_pair_sides.specs.Rows.{flags_index, lengths_offsets}
use Rattle.awk_pair_sides.specs.Sides.{is_whole}

-- a value by a function where the row has no null, and null elsewhere
abbrev pub or_null : (List Value → Value) → List Value → Value
or_null h vs = if not (is_whole vs) then null else h vs

-- ---- nulls

-- an index by values is one by whether they are there
pub option_index-flags : (n : ℕ) (vs : List Value)
    → option_index n vs ≡ flags_index n (map is_present vs)
option_index-flags n [] = refl
option_index-flags n (null ∷ vs) = ap (λ zs. negsuc 0 ∷ zs) (option_index-flags n vs)
option_index-flags n (int z ∷ vs) = ap (λ zs. pos n ∷ zs) (option_index-flags (suc n) vs)
option_index-flags n (truth b ∷ vs) = ap (λ zs. pos n ∷ zs) (option_index-flags (suc n) vs)
option_index-flags n (list ws ∷ vs) = ap (λ zs. pos n ∷ zs) (option_index-flags (suc n) vs)
option_index-flags n (row ws ∷ vs) = ap (λ zs. pos n ∷ zs) (option_index-flags (suc n) vs)
option_index-flags n (alt k w ∷ vs) = ap (λ zs. pos n ∷ zs) (option_index-flags (suc n) vs)

present-or : (h : List Value → Value) (b : Bool) (vs : List Value) → is_present (h vs) ≡ true
    → is_present (if not b then null else h vs) ≡ b
present-or h true vs e = e
present-or h false vs e = refl

pub flags-rows : (h : List Value → Value) → ((vs : List Value) → is_present (h vs) ≡ true)
    → (rows : List (List Value)) → map is_present (map (or_null h) rows) ≡ map is_whole rows
flags-rows h e [] = refl
flags-rows h e (vs ∷ rows) = rw (present-or h (is_whole vs) vs (e vs))
    (ap (λ bs. is_whole vs ∷ bs) (flags-rows h e rows))

-- the index of rows, some of which are null
pub index-rows : (h : List Value → Value) → ((vs : List Value) → is_present (h vs) ≡ true)
    → (n : ℕ) (rows : List (List Value))
    → option_index n (map (or_null h) rows) ≡ flags_index n (map is_whole rows)
index-rows h e n rows = option_index-flags n (map (or_null h) rows)
    ∙ ap (flags_index n) (flags-rows h e rows)

kept-step : (h : List Value → Value) (b : Bool) (vs : List Value) (ws us : List Value)
    (rows : List (List Value)) → is_present (h vs) ≡ true → ws ≡ map h rows
    → cond (is_present (if not b then null else h vs)) ((if not b then null else h vs) ∷ ws) ws
    ≡ map h (cond b (vs ∷ rows) rows)
kept-step h true vs ws us rows e f = rw e (ap (λ zs. h vs ∷ zs) f)
kept-step h false vs ws us rows e f = f

-- what is there of rows
pub present-rows : (h : List Value → Value) → ((vs : List Value) → is_present (h vs) ≡ true)
    → (rows : List (List Value))
    → filter is_present (map (or_null h) rows) ≡ map h (filter is_whole rows)
present-rows h e [] = refl
present-rows h e (vs ∷ rows) = kept-step h (is_whole vs) vs
    (filter is_present (map (or_null h) rows)) [] (filter is_whole rows) (e vs)
    (present-rows h e rows)

-- ---- lists

-- lists of what is made of rows
abbrev pub list_by : (List Value → Value) → (List Value → List (List Value)) → List Value → Value
list_by g f vs = list (values_from (map g (f vs)))

-- the items of all lists
pub joined-rows : (g : List Value → Value) (f : List Value
    → List (List Value)) (rows : List (List Value))
    → joined_items (map (list_by g f) rows) ≡ map g (flat_map f rows)
joined-rows g f [] = refl
joined-rows g f (vs ∷ rows) = rw
    (value_list-from (map g (f vs)), map-append g (f vs) (flat_map f rows))
    (ap (λ ws. map g (f vs) ++ ws) (joined-rows g f rows))

-- offsets go by lengths alone
pub offsets-lengths : (n : ℕ) (vs : List Value)
    → offsets n vs ≡ lengths_offsets n (map (λ v. length (list_items v)) vs)
offsets-lengths n [] = refl
offsets-lengths n (v ∷ vs) = ap (λ zs. pos n ∷ zs) (offsets-lengths (n + length (list_items v)) vs)

pub lengths-rows : (g : List Value → Value) (f : List Value
    → List (List Value)) (rows : List (List Value))
    → map (λ v. length (list_items v)) (map (list_by g f) rows) ≡ map (λ vs. length (f vs)) rows
lengths-rows g f [] = refl
lengths-rows g f (vs ∷ rows) = rw (value_list-from (map g (f vs)), length-map (f vs) g)
    (ap (λ ns. length (f vs) ∷ ns) (lengths-rows g f rows))

pub offsets-rows : (g : List Value → Value) (f : List Value
    → List (List Value)) (n : ℕ) (rows : List (List Value))
    → offsets n (map (list_by g f) rows) ≡ lengths_offsets n (map (λ vs. length (f vs)) rows)
offsets-rows g f n rows = offsets-lengths n (map (list_by g f) rows)
    ∙ ap (lengths_offsets n) (lengths-rows g f rows)

-- ---- tests of rows

any-step : {A : Type 0} (u : A → Bool) (b : Bool) (x : A) (c d : Bool) (xs : List A)
    → d ≡ list_any u xs → (if not b then false else u x) || d ≡ list_any u (cond b (x ∷ xs) xs)
any-step u true x c d xs e = ap (λ w. u x || w) e
any-step u false x c d xs e = e

-- a row with a null fails no test
pub any-kept : (u : List Value → Bool) (rows : List (List Value))
    → list_any (λ vs. if not (is_whole vs) then false else u vs) rows
    ≡ list_any u (filter is_whole rows)
any-kept u [] = refl
any-kept u (vs ∷ rows) = any-step u (is_whole vs) vs false _ (filter is_whole rows)
    (any-kept u rows)

or-assoc : (a b c d : Bool) → (a || b) || (c || d) ≡ (a || c) || (b || d)
or-assoc true b c d = refl
or-assoc false true true d = refl
or-assoc false true false d = refl
or-assoc false false c d = refl

-- tests of rows and of the rows below them
pub any-below : (a b : List Value → Bool) (f : List Value
    → List (List Value)) (rows : List (List Value))
    → list_any (λ vs. a vs || list_any b (f vs)) rows
    ≡ list_any a rows || list_any b (flat_map f rows)
any-below a b f [] = refl
any-below a b f (vs ∷ rows) =
    rw (any-below a b f rows, list_any-append b (f vs) (flat_map f rows))
    (or-assoc (a vs) (list_any b (f vs)) (list_any a rows) (list_any b (flat_map f rows)))

-- ---- all rows

pub any-by : {A : Type 0} (f g : A → Bool) → ((x : A) → f x ≡ g x) → (xs : List A)
    → list_any f xs ≡ list_any g xs
any-by f g e [] = refl
any-by f g e (x ∷ xs) = ap (λ y. y || list_any f xs) (e x) ∙ ap (λ y. g x || y) (any-by f g e xs)

-- ---- sizes
