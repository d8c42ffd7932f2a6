-- Options over one column of what is there.
use Rattle.std.proofs.Common.{◌≡◌, ℕ, ◌+◌, ◌<◌, ◌≤◌, suc, List, [], ◌∷◌, ◌++◌, map, length, true}
use Rattle.std.proofs.Common.{false, refl, ap, ap₂, sym, ◌∙◌, subst, arith, get_or, pos, negsuc, ℤ}
use Rattle.std.proofs.Common.{add-one, append_assoc, drop}
use Rattle.std.specs.Prelude.{◌&&◌, filter}
use Rattle.std.proofs.lemmas.List.{drop_more, length_push}
use Rattle.serde_json.specs.Data.{Data, null, boolean, number, string, array, object}
use Rattle.awk_types.specs.DataType.{DataType, opt, unknown, leaf, var, reg, rec, tup, uni}
use Rattle.awk_types.specs.Parts.{is_record, names_of_fields, types_of_fields}
use Rattle.awk_types.specs.Simple.{in_option, is_option, option_of}
use Rattle.awk_types.specs.Value as values
use Rattle.awk_types.specs.Value.{Value, int, truth, list, row, alt}
use Rattle.awk_lanes.specs.Column.{Column}
use Rattle.awk_lanes.specs.Places.{IsOptionalIndex, size_of}
use Rattle.awk_layout.proofs.ArrayItems.{length-array_items}
use Rattle.awk_layout.specs.Layout.{Layout, optional}
use Rattle.awk_layout.specs.Typing.{array_items}
use Rattle.awk_layout.specs.Valid.{len}
use Rattle.awk_columns.specs.Columns.{is_present, option_index}
use Rattle.awk_frames.proofs.FrameLaws.{index_into}
use Rattle.awk_frames.proofs.FramedItems.{nulls-framed}
use Rattle.awk_frames.specs.Shape.{index_column}
use Rattle.awk_plain.specs.Suits.{all_suit, is_int64, is_of, is_of_lists, item_of, members_suit}
use Rattle.awk_plain.specs.Suits.{own_value}
use Rattle.awk_types.specs.declared.primitive.Primitive.TheVariants as primitive
use Rattle.awk_types.proofs.SimpleLaws.{present_stays}
use Rattle.awk_columns.proofs.PresentItems.{length-option_index}
use Rattle.awk_plain_columns.specs.Suited.{AllSuit, Suits, is_there, there}

-- ---- what is there

pub own_there : (ds : List Data) → filter is_present (map own_value ds) ≡ map own_value (there ds)
own_there [] = refl
own_there (null ∷ ds) = own_there ds
own_there (string s ∷ ds) = own_there ds
own_there (boolean b ∷ ds) = ap (λ vs. own_value (boolean b) ∷ vs) (own_there ds)
own_there (number n ∷ ds) = ap (λ vs. own_value (number n) ∷ vs) (own_there ds)
own_there (array es ∷ ds) = ap (λ vs. own_value (array es) ∷ vs) (own_there ds)
own_there (object ms ∷ ds) = ap (λ vs. own_value (object ms) ∷ vs) (own_there ds)

step : {X : Type 0} (xs : List X) (i : ℕ) (x : X) → i < length xs → x ≡ get_or xs i x
    → drop i xs ≡ x ∷ drop (i + 1) xs
step xs i x l at = drop_more xs i x l ∙ ap (λ y. y ∷ drop (i + 1) xs) (sym at)

-- ---- the index

index_more : (n : ℕ) (d : Data) (vs : List Value) → is_there d ≡ true
    → option_index n (own_value d ∷ vs) ≡ pos n ∷ option_index (n + 1) vs
index_more n d vs e = rw add-one (by_case d e)
  where
    by_case : (d : Data) → is_there d ≡ true
        → option_index n (own_value d ∷ vs) ≡ pos n ∷ option_index (suc n) vs
    by_case null e = cc
    by_case (string s) e = cc
    by_case (boolean b) e = refl
    by_case (number m) e = refl
    by_case (array es) e = refl
    by_case (object ms) e = refl

index_less : (n : ℕ) (d : Data) (vs : List Value) → is_there d ≡ false
    → option_index n (own_value d ∷ vs) ≡ negsuc 0 ∷ option_index n vs
index_less n null vs e = refl
index_less n (string s) vs e = refl
index_less n (boolean b) vs e = cc
index_less n (number m) vs e = cc
index_less n (array es) vs e = cc
index_less n (object ms) vs e = cc

abbrev own_of : {X : Type 0} → (X → Data) → List X → List Value
own_of f xs = map (λ x. own_value (f x)) xs

-- the numbers so far and those that are left
pub record AreIndexed {X : Type 0} (f : X → Data) (xs : List X) (i n : ℕ) (zs : List ℤ)
    : Type 0 where
  pub all : option_index 0 (own_of f xs) ≡ zs ++ option_index n (own_of f (drop i xs))
  pub size : length zs ≡ i
  pub few : n ≤ i

pub indexed_more : {X : Type 0} (f : X → Data) (xs : List X) (i n : ℕ) (x : X) (zs ys : List ℤ)
    → i < length xs → x ≡ get_or xs i x → is_there (f x) ≡ true → AreIndexed f xs i n zs
    → ys ≡ zs ++ pos n ∷ [] → AreIndexed f xs (i + 1) (n + 1) ys
indexed_more f xs i n x zs ys l at t h e =
    let rest = option_index (n + 1) (own_of f (drop (i + 1) xs)) in
    record {
      all =
          h.all ∙ ap (λ ws. zs ++ option_index n (own_of f ws)) (step xs i x l at)
          ∙ ap (λ us. zs ++ us) (index_more n (f x) (own_of f (drop (i + 1) xs)) t)
          ∙ sym (append_assoc zs (pos n ∷ []) rest) ∙ ap (λ us. us ++ rest) (sym e);
      size = ap length e ∙ length_push zs (pos n) ∙ ap (λ m. m + 1) h.size;
      few = omega (arith, h.few);
    }

pub indexed_less : {X : Type 0} (f : X → Data) (xs : List X) (i n : ℕ) (x : X) (zs ys : List ℤ)
    → i < length xs → x ≡ get_or xs i x → is_there (f x) ≡ false → AreIndexed f xs i n zs
    → ys ≡ zs ++ negsuc 0 ∷ [] → AreIndexed f xs (i + 1) n ys
indexed_less f xs i n x zs ys l at t h e =
    let rest = option_index n (own_of f (drop (i + 1) xs)) in
    record {
      all =
          h.all ∙ ap (λ ws. zs ++ option_index n (own_of f ws)) (step xs i x l at)
          ∙ ap (λ us. zs ++ us) (index_less n (f x) (own_of f (drop (i + 1) xs)) t)
          ∙ sym (append_assoc zs (negsuc 0 ∷ []) rest) ∙ ap (λ us. us ++ rest) (sym e);
      size = ap length e ∙ length_push zs (negsuc 0) ∙ ap (λ m. m + 1) h.size;
      few = omega (arith, h.few);
    }

-- ---- the column

pub options_fit : (vs : List Value) (j : Column) (z : Layout) → j ≡ index_column vs
    → array_items z ≡ filter is_present vs → IsOptionalIndex j (len z)
options_fit vs j z e h =
    subst (λ c. IsOptionalIndex c (len z)) (sym e)
    (index_into vs (len z) (sym (length-array_items z) ∙ ap length h))

map_same : (vs : List Value) → vs ≡ map (λ v. v) vs
map_same [] = refl
map_same (v ∷ vs) = ap (λ ws. v ∷ ws) (map_same vs)

option_same : (v : Value) → in_option (λ w. w) v ≡ v
option_same values.null = refl
option_same (int z) = refl
option_same (truth b) = refl
option_same (list ws) = refl
option_same (row ws) = refl
option_same (alt k w) = refl

options_same : (vs : List Value) → map (in_option (λ w. w)) vs ≡ vs
options_same [] = refl
options_same (v ∷ vs) = ap₂ (λ w ws. w ∷ ws) (option_same v) (options_same vs)

pub options_made : (vs : List Value) (j : Column) (z y : Layout) → j ≡ index_column vs
    → array_items z ≡ filter is_present vs → y ≡ optional j z → array_items y ≡ vs
options_made vs j z y e h g =
    ap array_items (g ∙ ap (λ c. optional c z) e)
    ∙ nulls-framed (λ v. v) vs z (h ∙ map_same (filter is_present vs)) ∙ options_same vs

pub options_size : (vs : List Value) (j : Column) → j ≡ index_column vs → size_of j ≡ length vs
options_size vs j e = ap size_of e ∙ length-option_index 0 vs

-- ---- what suits

pub option_typed : (t : DataType) → is_option t ≡ false → option_of t ≡ opt t
option_typed (opt t) e = cc
option_typed unknown e = refl
option_typed (leaf p) e = refl
option_typed (var t) e = refl
option_typed (reg n t) e = refl
option_typed (rec ns ts) e = refl
option_typed (tup ts) e = refl
option_typed (uni ts) e = refl

-- a value that is there, within an option
suit_in : (t : DataType) (d : Data) → is_option t ≡ false → is_there d ≡ true → Suits (opt t) d
    → Suits t d
suit_in t null e i s = absurd (cc)
suit_in t (string c) e i s = absurd (cc)
suit_in t (boolean b) e i s =
    (s.0, ap (λ u. is_of primitive.Bool u) (present_stays t e) ∙ s.1)
suit_in t (number n) e i s =
    (s.0, ap (λ u. is_of primitive.I64 u && is_int64 n) (present_stays t e) ∙ s.1)
suit_in t (array ds) e i s =
    (s.0, ap (λ u. is_of_lists u && all_suit (item_of u) ds) (present_stays t e) ∙ s.1)
suit_in t (object ms) e i s = (
  s.0,
  ap (λ u. is_record u
      && members_suit (names_of_fields u) (types_of_fields u) ms) (present_stays t e) ∙ s.1,
)

pub there_suit : (t : DataType) (ds : List Data) → is_option t ≡ false → AllSuit (opt t) ds
    → AllSuit t (there ds)
there_suit t [] e a = tt
there_suit t (null ∷ ds) e a = there_suit t ds e a.1
there_suit t (string s ∷ ds) e a = there_suit t ds e a.1
there_suit t (boolean b ∷ ds) e a = (suit_in t (boolean b) e refl a.0, there_suit t ds e a.1)
there_suit t (number n ∷ ds) e a = (suit_in t (number n) e refl a.0, there_suit t ds e a.1)
there_suit t (array es ∷ ds) e a = (suit_in t (array es) e refl a.0, there_suit t ds e a.1)
there_suit t (object ms ∷ ds) e a = (suit_in t (object ms) e refl a.0, there_suit t ds e a.1)
