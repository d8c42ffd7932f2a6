-- The rows of one operand that are not null are its present items.
use Rattle.std.proofs.Common.{◌≡◌, ℕ, suc, arith, refl, ap, sym, ◌∙◌, subst}
use Rattle.std.specs.Prelude.{pos, negsuc, List, [], ◌∷◌, map, filter, length, slice_get, Some}
use Rattle.std.specs.List.{range_with_len}
use Rattle.std.proofs.lemmas.Simd.{map-map}
use Rattle.awk_types.specs.Simple.{present}
use Rattle.awk_types.specs.Value.{Value, null, int, truth, list, row, alt}
use Rattle.awk_lanes.specs.Column.{Column}
use Rattle.awk_lanes.specs.declared.kind.Kind.TheVariants.{I64}
use Rattle.awk_layout.proofs.ArrayItems.{length-array_items}
use Rattle.awk_layout.specs.Layout.{Layout}
use Rattle.awk_layout.specs.Typing.{array_items}
use Rattle.awk_layout.specs.Valid.{len}
use Rattle.awk_gather.specs.Arrays.{array_item}
use Rattle.awk_open.specs.Inner.{IsInner}
use Rattle.awk_open.specs.Opened.{IsOpened}
use Rattle.awk_open.specs.declared.opening.Opened.TheVariants.{Option as Optional}
use Rattle.awk_columns.specs.Columns.{is_present, option_index}
use Rattle.awk_open.specs.InOrder.{IsInOrder}
use Rattle.awk_columns.proofs.ArrayLaws.{array_items-at}
use Rattle.awk_columns.proofs.PresentItems.{fewer-present}
use Rattle.awk_pair_sides.specs.Rows.{rows_at, flags_index}
use Rattle.awk_pair_sides.specs.Sides.{is_whole}
use Rattle.awk_pair_present.specs.Present.{ArePresent}

-- one array alone
pub only_one : (xs : List Layout) (x : Layout) → length xs ≡ 1 → slice_get xs 0 ≡ Some x
    → xs ≡ x ∷ []
only_one [] x l e = cc
only_one (y ∷ []) x l e = let f : y ≡ x = cc in rw f refl
only_one (y ∷ z ∷ zs) x l e = absurd (omega (arith, l))

-- a row of one value
abbrev one_value : Value → List Value
one_value v = v ∷ []

rows-one : (x : Layout) → rows_at (x ∷ []) (len x) ≡ map one_value (array_items x)
rows-one x =
    sym (ap (map one_value) (array_items-at x)
    ∙ map-map one_value (array_item x) (range_with_len 0 (len x)))

flags-one : (k : ℕ) (vs : List Value)
    → flags_index k (map is_whole (map one_value vs)) ≡ option_index k vs
flags-one k [] = refl
flags-one k (null ∷ vs) = ap (λ zs. negsuc 0 ∷ zs) (flags-one k vs)
flags-one k (int z ∷ vs) = ap (λ zs. pos k ∷ zs) (flags-one (suc k) vs)
flags-one k (truth b ∷ vs) = ap (λ zs. pos k ∷ zs) (flags-one (suc k) vs)
flags-one k (list ws ∷ vs) = ap (λ zs. pos k ∷ zs) (flags-one (suc k) vs)
flags-one k (row ws ∷ vs) = ap (λ zs. pos k ∷ zs) (flags-one (suc k) vs)
flags-one k (alt j v ∷ vs) = ap (λ zs. pos k ∷ zs) (flags-one (suc k) vs)

filter-one : (vs : List Value)
    → map one_value (filter is_present vs) ≡ filter is_whole (map one_value vs)
filter-one [] = refl
filter-one (null ∷ vs) = filter-one vs
filter-one (int z ∷ vs) = ap (λ ws. one_value (int z) ∷ ws) (filter-one vs)
filter-one (truth b ∷ vs) = ap (λ ws. one_value (truth b) ∷ ws) (filter-one vs)
filter-one (list us ∷ vs) = ap (λ ws. one_value (list us) ∷ ws) (filter-one vs)
filter-one (row us ∷ vs) = ap (λ ws. one_value (row us) ∷ ws) (filter-one vs)
filter-one (alt j v ∷ vs) = ap (λ ws. one_value (alt j v) ∷ ws) (filter-one vs)

-- an option in order
pub one_present : (n : ℕ) (x y : Layout) (j : Column) (m : ℕ) → len x ≡ n
    → IsOpened x (Optional j y) → IsInner (Optional j y)
    → IsInOrder (array_items x) (Optional j y) → m ≡ len y → ArePresent n (x ∷ []) j m (y ∷ [])
one_present n x y j m l o b h e = record {
  index = h.0 ∙ ap (λ zs. record { kind = I64; items = zs }) (sym (
      ap (λ k. flags_index 0 (map is_whole (rows_at (x ∷ []) k))) (sym l)
      ∙ ap (λ rs. flags_index 0 (map is_whole rs)) (rows-one x) ∙ flags-one 0 (array_items x)));
  few = omega (
    arith,
    e,
    l,
    length-array_items y,
    length-array_items x,
    ap length h.1,
    fewer-present (array_items x),
  );
  types = ap (λ t. t ∷ []) (sym (ap present o.kind));
  bare = rw b refl;
  long = (sym e, tt);
  rows = ap (rows_at (y ∷ [])) e ∙ rows-one y ∙ ap (map one_value) h.1
      ∙ filter-one (array_items x)
      ∙ sym (ap (filter is_whole) (ap (rows_at (x ∷ [])) (sym l) ∙ rows-one x));
}

pub of_only : (n : ℕ) (xs : List Layout) (x : Layout) (j : Column) (m : ℕ) (ys : List Layout)
    → xs ≡ x ∷ [] → ArePresent n (x ∷ []) j m ys → ArePresent n xs j m ys
of_only n xs x j m ys e h = subst (λ w. ArePresent n w j m ys) (sym e) h
