-- How many items are not null.
use Rattle.std.proofs.Common.{◌≡◌, ℕ, zero, suc, ◌+◌, ◌-◌, ◌<◌, ◌≤◌, List, [], ◌∷◌, length, map}
use Rattle.std.proofs.Common.{take, drop, get_or, refl, ap, ap₂, sym, ◌∙◌, subst, arith}
use Rattle.std.specs.Prelude.{Bool, true, false, cond, not, ◌==◌, ℤ, pos, negsuc}
use Rattle.std.specs.Prelude.{Option, Some, None}
use Rattle.std.specs.Int.{cast_signed, cast_unsigned, w8}
use Rattle.std.specs.List.{range_with_len, count_by, flat_map}
use Rattle.std.specs.Option.{is_some, option_map}
use Rattle.std.proofs.lemmas.Int.{of_z-to_z}
use Rattle.std.proofs.lemmas.List.{length-append, drop_more}
use Rattle.std.proofs.lemmas.List.FromFn.{length-map-range_with_len}
use Rattle.std.proofs.lemmas.List.FromFn.{sum_by-map-range_with_len_more}
use Rattle.std.proofs.lemmas.List.Sums.{sum_by-cons, count_by-le-length}
use Rattle.awk_kernels.specs.Kernels.{count_true}
use Rattle.awk_lanes.specs.Column.{Column}
use Rattle.awk_lanes.specs.Numbers.{number, is_nonzero, AreBytes}
use Rattle.awk_lanes.specs.Places.{at}
use Rattle.awk_lanes.specs.declared.kind.Kind.TheVariants.{I8}
use Rattle.awk_nullable.specs.Masks.{if_shown, byte_place}
use Rattle.awk_nullable.specs.Numbers.{leaf_number, number_list, numbers_from, present_count}

abbrev one_of : Bool → ℕ
one_of b = cond b 1 0

abbrev pub one_some : Option ℕ → ℕ
one_some o = cond (is_some o) 1 0

module _ (f : ℕ → Option ℕ) where
  -- one item more
  pub present-more : (a n : ℕ)
      → present_count f a (n + 1) ≡ present_count f a n + one_some (f (a + n))
  present-more a n = sum_by-map-range_with_len_more one_some f a n (a + n) refl

  -- no more than there are items
  pub present-few : (a n : ℕ) → present_count f a n ≤ n
  present-few a n =
      omega (
        arith,
        count_by-le-length is_some (map f (range_with_len a n)),
        length-map-range_with_len f a n,
      )

  present-cons : (a n : ℕ)
      → present_count f a (suc n) ≡ one_some (f a) + present_count f (a + 1) n
  present-cons a n = sum_by-cons one_some (f a) (map f (range_with_len (a + 1) n))

  -- each that is not null has a number
  pub present-numbers : (c : Column) (a n : ℕ)
      → present_count f a n ≡ length (numbers_from (leaf_number f c) a n)
  present-numbers c a zero = refl
  present-numbers c a (suc n) =
      omega (
        arith,
        present-cons a n,
        present-numbers c (a + 1) n,
        one (f a),
        length-append (number_list (leaf_number f c a)) (numbers_from (leaf_number f c) (a + 1) n),
      )
    where
      one : (o : Option ℕ) → one_some o ≡ length (number_list (option_map (at c) o))
      one None = refl
      one (Some k) = refl

  -- no numbers, if none is there
  pub none_present : (c : Column) (a n : ℕ) → present_count f a n ≡ 0
      → numbers_from (leaf_number f c) a n ≡ []
  none_present c a n e =
      empty (numbers_from (leaf_number f c) a n) (sym (present-numbers c a n) ∙ e)
    where
      empty : (zs : List ℤ) → length zs ≡ 0 → zs ≡ []
      empty [] h = refl
      empty (z ∷ zs) h = absurd (omega (arith, h))

-- each item is there
pub present-all : (a n : ℕ) → present_count (λ i. Some i) a n ≡ n
present-all a zero = refl
present-all a (suc n) =
    omega (arith, present-cons (λ i. Some i) a n, present-all (a + 1) n)

-- ---- by the bytes of a mask

abbrev pub set_count : List (List ℕ) → ℕ
set_count gs = count_by is_nonzero (map (number I8) gs)

module _ (gs : List (List ℕ)) where
  abbrev set_at : ℕ → Bool
  set_at a = is_nonzero (number I8 (get_or gs a []))

  set-cons : (a n : ℕ) → a < length gs
      → set_count (take (suc n) (drop a gs))
      ≡ one_of (set_at a) + set_count (take n (drop (a + 1) gs))
  set-cons a n l =
      ap (λ hs. set_count (take (suc n) hs)) (drop_more gs a [] l)
      ∙ sum_by-cons (λ z. one_of (is_nonzero z)) (number I8 (get_or gs a []))
      (map (number I8) (take n (drop (a + 1) gs)))

  -- those of which the byte is not 0
  set_present : (a n : ℕ) → a + n ≤ length gs
      → present_count (byte_place gs true) a n ≡ set_count (take n (drop a gs))
  set_present a zero l = refl
  set_present a (suc n) l =
      let inside : a < length gs = omega (arith, l) in
      omega (
        arith,
        present-cons (byte_place gs true) a n,
        set-cons a n inside,
        set_present (a + 1) n (omega (arith, l)),
        one (set_at a),
      )
    where
      one : (b : Bool) → one_some (if_shown b a) ≡ one_of b
      one true = refl
      one false = refl

  -- those of which it is 0
  unset_present : (a n : ℕ) → a + n ≤ length gs
      → present_count (byte_place gs false) a n + set_count (take n (drop a gs)) ≡ n
  unset_present a zero l = refl
  unset_present a (suc n) l =
      let inside : a < length gs = omega (arith, l) in
      omega (
        arith,
        present-cons (byte_place gs false) a n,
        set-cons a n inside,
        unset_present (a + 1) n (omega (arith, l)),
        one (set_at a),
      )
    where
      one : (b : Bool) → one_some (if_shown (not b) a) + one_of b ≡ 1
      one true = refl
      one false = refl

  -- either, by how many bytes are not 0
  pub present-bytes : (v : Bool) (a n : ℕ) → a + n ≤ length gs
      → present_count (byte_place gs v) a n
      ≡ cond v (set_count (take n (drop a gs))) (n - set_count (take n (drop a gs)))
  present-bytes true a n l = set_present a n l
  present-bytes false a n l = omega (arith, unset_present a n l)
