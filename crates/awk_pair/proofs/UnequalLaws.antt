-- Whether lists differ in length, row by row.
use Rattle.std.proofs.Common.{◌≡◌, ℕ, ◌+◌, ◌-◌, ◌<◌, ◌≤◌, Bool, true, false, ◌&&◌, ◌||◌}
use Rattle.std.proofs.Common.{refl, ap}
use Rattle.std.proofs.Common.{arith, sym, subst, ◌∙◌}
use Rattle.std.proofs.Common.{take}
use Rattle.std.specs.Prelude.{List, [], ◌∷◌, ◌++◌, map, filter, nat_lt, slice_get, slice_range}
use Rattle.std.specs.Prelude.{Some, length}
use Rattle.std.proofs.lemmas.List.{take_all}
use Rattle.std.specs.List.{list_any, flat_map, range_with_len}
use Rattle.std.proofs.lemmas.Bool.{and_parts}
use Rattle.std.proofs.lemmas.List.Folds.{list_any-append}
use Rattle.awk_base.proofs.Lists.{take-get}
use Rattle.awk_types.specs.DataType.{DataType}
use Rattle.awk_types.specs.Simple.{present}
use Rattle.awk_types.specs.Value.{Value}
use Rattle.awk_layout.specs.Layout.{Layout}
use Rattle.awk_layout.specs.Typing.{array_type, array_items}
use Rattle.awk_layout.specs.Valid.{len}
use Rattle.awk_gather.specs.Arrays.{array_item}
use Rattle.awk_open.specs.Opened.{AreLong}
use Rattle.awk_pair_operands.specs.Paired.{any_uneven, is_uneven}
use Rattle.awk_pair.specs.Unequal.{IsAlone, AreAlone, IsRow}
use Rattle.awk_pair_sides.specs.Levels.{goes_on, opens, some_option, item_types}
use Rattle.awk_pair_sides.proofs.LevelTypes.{presents-bare}
use Rattle.awk_types.specs.Predicates.{is_list}
use Rattle.awk_pair_sides.specs.Rows.{row_at, rows_at}
use Rattle.awk_pair_levels.specs.Shares.{length_at, share_types, share_row, share_rows}
use Rattle.awk_pair_levels.specs.Shares.{AreAsLong, AreEven}
use Rattle.awk_pair_levels.specs.declared.shares.Share.{Share}
use Rattle.awk_pair_levels.proofs.EvenLaws.{among_long, among_even}
use Rattle.awk_pair_levels.proofs.ItemLaws.{all_inside, items_row, items_types}
use Rattle.awk_pair_levels.proofs.ItemLaws.{alone-size, alone-item}
use Rattle.awk_pair_sides.proofs.RangeLaws.{no_place, place_fails}
use Rattle.awk_pair_sides.proofs.TestLaws.{any-map}
use Rattle.awk_pair_sides.specs.Sides.{is_whole, differ, inner_rows}
use Rattle.awk_pair_levels.specs.Single.{AreItems}
use Rattle.awk_pair.proofs.EndLaws.{end_even}
use Rattle.awk_pair_operands.proofs.LevelLaws.{unevens-nulls, unevens-lists}

-- ---- tests of places

pub some_place : (p : ℕ → Bool) (n i : ℕ) (b : Bool) → list_any p (range_with_len 0 n) ≡ b → i < n
    → p i ≡ true → true ≡ b
some_place p n i true e h f = refl
some_place p n i false e h f =
    let g : p i ≡ false = place_fails p 0 n i e (omega arith) (omega arith) in cc

pub none_next : (p : ℕ → Bool) (i : ℕ) → p i ≡ false → ((k : ℕ) → k < i → p k ≡ false) → (k : ℕ)
    → k < i + 1 → p k ≡ false
none_next p i e h k l = step (nat_lt k i) refl
  where
    step : (b : Bool) → nat_lt k i ≡ b → p k ≡ false
    step true f = h k (grind (arith, f))
    step false f = let r : i ≡ k = grind (arith, f, l) in subst (λ j. p j ≡ false) r e

pub none_all : (p : ℕ → Bool) (n : ℕ) → ((k : ℕ) → k < n → p k ≡ false)
    → false ≡ list_any p (range_with_len 0 n)
none_all p n h = sym (no_place p 0 n (λ i l. h i (omega arith)))

any-flat : {A B : Type 0} (u : B → Bool) (f : A → List B) (xs : List A)
    → list_any u (flat_map f xs) ≡ list_any (λ x. list_any u (f x)) xs
any-flat u f [] = refl
any-flat u f (x ∷ xs) =
    list_any-append u (f x) (flat_map f xs) ∙ ap (λ b. list_any u (f x) || b) (any-flat u f xs)

or-false : (b : Bool) → b || false ≡ b
or-false true = refl
or-false false = refl

-- ---- rows that are made alone

abbrev pub row_uneven : Bool → ℕ → List Share → ℕ → ℕ → Bool
row_uneven keep d ps i k = is_uneven keep d (share_types ps) (share_row ps i k)

abbrev pub rows_uneven : Bool → ℕ → List Share → ℕ → Bool
rows_uneven keep d ps i = any_uneven keep d (share_types ps) (share_rows ps i)

pub rows-of-row : (keep : Bool) (d : ℕ) (ps : List Share) (i : ℕ)
    → rows_uneven keep d ps i ≡ list_any (row_uneven keep d ps i)
    (range_with_len 0 (length_at ps i))
rows-of-row keep d ps i =
    sym (any-map (is_uneven keep d (share_types ps)) (share_row ps i)
    (range_with_len 0 (length_at ps i)))

pub rows-of-all : (keep : Bool) (d n : ℕ) (ps : List Share)
    → any_uneven keep d (share_types ps) (flat_map (share_rows ps) (range_with_len 0 n))
    ≡ list_any (rows_uneven keep d ps) (range_with_len 0 n)
rows-of-all keep d n ps =
    any-flat (is_uneven keep d (share_types ps)) (share_rows ps) (range_with_len 0 n)

-- a row that is made alone
pub item_uneven : (keep : Bool) (d : ℕ) (ps : List Share) (i k : ℕ) (zs : List Layout) (b : Bool)
    → AreItems i k ps zs → b ≡ any_uneven keep d (map array_type zs) (rows_at zs 1)
    → row_uneven keep d ps i k ≡ b
item_uneven keep d ps i k zs b h e =
    sym (e
    ∙ or-false (is_uneven keep d (map array_type zs) (row_at zs 0))
    ∙ ap (λ ts. is_uneven keep d ts (row_at zs 0)) (items_types i k ps zs h)
    ∙ ap (is_uneven keep d (share_types ps)) (items_row i k ps zs h))

pub row_is : (n i : ℕ) (ps : List Share) → AreAsLong n ps → AreEven (length_at ps) n ps → i < n
    → IsRow i ps
row_is n i ps a e h = record {
  within = λ l g. omega (arith, h, among_long n l ps g a);
  same = λ l g. among_even (length_at ps) n i l ps h g e;
  inside = λ k q. all_inside (length_at ps) n i k ps h q a e;
}

-- ---- rows alone

alone-types : (i : ℕ) (xs zs : List Layout) → AreAlone i xs zs
    → map array_type zs ≡ map array_type xs
alone-types i [] [] h = refl
alone-types i (x ∷ xs) (z ∷ zs) h =
    ap (λ t. t ∷ map array_type zs) h.0.typ
    ∙ ap (λ ts. array_type x ∷ ts) (alone-types i xs zs h.1)
alone-types i [] (z ∷ zs) h = absurd h
alone-types i (x ∷ xs) [] h = absurd h

alone-row : (i : ℕ) (xs zs : List Layout) → AreAlone i xs zs → row_at zs 0 ≡ row_at xs i
alone-row i [] [] h = refl
alone-row i (x ∷ xs) (z ∷ zs) h =
    ap (λ v. v ∷ row_at zs 0) h.0.item ∙ ap (λ vs. array_item x i ∷ vs) (alone-row i xs zs h.1)
alone-row i [] (z ∷ zs) h = absurd h
alone-row i (x ∷ xs) [] h = absurd h

pub alone_long : (i : ℕ) (xs zs : List Layout) → AreAlone i xs zs → AreLong 1 zs
alone_long i [] [] h = tt
alone_long i (x ∷ xs) (z ∷ zs) h = (h.0.size, alone_long i xs zs h.1)
alone_long i [] (z ∷ zs) h = absurd h
alone_long i (x ∷ xs) [] h = absurd h

abbrev pub place_uneven : Bool → ℕ → List Layout → ℕ → Bool
place_uneven keep d xs i = is_uneven keep d (map array_type xs) (row_at xs i)

pub places-of-all : (keep : Bool) (d n : ℕ) (xs : List Layout)
    → any_uneven keep d (map array_type xs) (rows_at xs n)
    ≡ list_any (place_uneven keep d xs) (range_with_len 0 n)
places-of-all keep d n xs =
    sym (any-map (is_uneven keep d (map array_type xs)) (row_at xs) (range_with_len 0 n))

pub alone_uneven : (keep : Bool) (d i : ℕ) (xs zs : List Layout) (b : Bool) → AreAlone i xs zs
    → b ≡ any_uneven keep d (map array_type zs) (rows_at zs 1) → place_uneven keep d xs i ≡ b
alone_uneven keep d i xs zs b h e =
    sym (e
    ∙ or-false (is_uneven keep d (map array_type zs) (row_at zs 0))
    ∙ ap (λ ts. is_uneven keep d ts (row_at zs 0)) (alone-types i xs zs h)
    ∙ ap (is_uneven keep d (map array_type xs)) (alone-row i xs zs h))

alone-append : (i : ℕ) (xs zs : List Layout) (x z : Layout) → AreAlone i xs zs → IsAlone i x z
    → AreAlone i (xs ++ x ∷ []) (zs ++ z ∷ [])
alone-append i [] [] x z h g = (g, tt)
alone-append i (w ∷ xs) (y ∷ zs) x z h g = (h.0, alone-append i xs zs x z h.1 g)
alone-append i [] (y ∷ zs) x z h g = absurd h
alone-append i (w ∷ xs) [] x z h g = absurd h

pub alone_push : (i : ℕ) (xs zs ws : List Layout) (j : ℕ) (x z : Layout) → slice_get xs j ≡ Some x
    → ws ≡ zs ++ z ∷ [] → AreAlone i (take j xs) zs → IsAlone i x z
    → AreAlone i (take (j + 1) xs) ws
alone_push i xs zs ws j x z e f h g =
    subst (λ w. AreAlone i (take (j + 1) xs) w) (sym f)
    (subst (λ w. AreAlone i w (zs ++ z ∷ [])) (sym (take-get xs j x e))
    (alone-append i (take j xs) zs x z h g))

pub alone_all : (i : ℕ) (xs zs : List Layout) (j : ℕ) → length xs ≤ j
    → AreAlone i (take j xs) zs → AreAlone i xs zs
alone_all i xs zs j l h = subst (λ w. AreAlone i w zs) (take_all j xs l) h

pub alone_is : (x r : Layout) (i : ℕ) → i < len x → array_type r ≡ array_type x
    → array_items r ≡ slice_range (array_items x) i (i + 1) → IsAlone i x r
alone_is x r i h t e = record {
  size = alone-size x r i h e;
  typ = t;
  item = alone-item x r i h e;
}

-- ---- level by level

module _ (keep : Bool) where
  pub nulls_same : (d : ℕ) (ts us : List DataType) (rows kept : List (List Value)) (b : Bool)
      → some_option ts ≡ true → us ≡ map present ts → some_option us ≡ false
      → kept ≡ filter is_whole rows → b ≡ any_uneven keep d us kept
      → b ≡ any_uneven keep d ts rows
  nulls_same d ts us rows kept b o u n k e =
      e ∙ ap (any_uneven keep d us) k
      ∙ ap (λ vs. any_uneven keep d vs (filter is_whole rows)) u
      ∙ sym (unevens-nulls keep d ts rows o (subst (λ vs. some_option vs ≡ false) u n))

  pub lists_same : (d : ℕ) (us vs : List DataType) (rows below : List (List Value)) (b : Bool)
      → some_option us ≡ false → goes_on d us ≡ true → list_any (differ keep us) rows ≡ false
      → vs ≡ item_types us → below ≡ flat_map (inner_rows keep us) rows
      → b ≡ any_uneven keep (d - 1) vs below → b ≡ any_uneven keep d us rows
  lists_same d us vs rows below b n g f t k e =
      e ∙ ap (any_uneven keep (d - 1) vs) k
      ∙ ap (λ ws. any_uneven keep (d - 1) ws (flat_map (inner_rows keep us) rows)) t
      ∙ sym (unevens-lists keep d us rows n g
      ∙ ap (λ c. c || any_uneven keep (d - 1) (item_types us) (flat_map (inner_rows keep us) rows))
      f)

-- where no level is left below
pub no_level : (keep : Bool) (d : ℕ) (ts : List DataType) (rows : List (List Value))
    → goes_on d ts ≡ false → false ≡ any_uneven keep d ts rows
no_level keep d ts rows g = sym (end_even keep d ts rows g)

pub goes_same : (d : ℕ) (ts us : List DataType) → us ≡ map present ts → some_option us ≡ false
    → goes_on d ts ≡ true → goes_on d us ≡ true
goes_same d ts us u n h =
    ap (λ w. nat_lt 0 d && list_any is_list w) (presents-bare us n ∙ u) ∙ h

pub some_levels : (d : ℕ) (ts : List DataType) → goes_on d ts ≡ true → 0 < d
some_levels d ts h = step (nat_lt 0 d) refl h
  where
    step : (b : Bool) → nat_lt 0 d ≡ b → b && opens ts ≡ true → 0 < d
    step true e f = grind (arith, e)
    step false e f = cc

pub some_opens : (d : ℕ) (ts : List DataType) → goes_on d ts ≡ true → opens ts ≡ true
some_opens d ts h = (and_parts (nat_lt 0 d) (opens ts) h).1
