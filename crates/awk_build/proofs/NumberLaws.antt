-- A list of whole numbers is of int64, and has them as its items.
use Rattle.std.proofs.Common.{◌≡◌, ◌<◌, List, [], ◌∷◌, ◌++◌, length, map}
use Rattle.std.proofs.Common.{refl, ap, ap₂, sym, subst, ◌∙◌, arith, append-nil, append_assoc}
use Rattle.std.proofs.Common.{ℤ, pos, negsuc, SFits, to_z, of_z, w64}
use Rattle.std.specs.List.{AllByRecursion}
use Rattle.std.proofs.lemmas.Int.{ints, to_z-of_z}
use Rattle.serde_json.specs.Data.{Data, null, boolean, number, string, array, object}
use Rattle.serde_json.specs.Data.{Items, no_items, item}
use Rattle.awk_types.specs.DataType.{unknown, leaf}
use Rattle.awk_types.specs.Has.{Holds}
use Rattle.awk_types.specs.Value.{Value, int}
use Rattle.awk_types.specs.declared.primitive.Primitive.TheVariants.{I64}
use Rattle.awk_lanes.specs.declared.kind.Kind.TheVariants as Kinds
use Rattle.awk_layout.specs.Layout.{Layout, flat}
use Rattle.awk_layout.specs.Typing.{array_type, array_items}
use Rattle.awk_merge_lists.proofs.NumberLaws.{flat_items}
use Rattle.awk_unify.specs.Unify.{unification}
use Rattle.awk_plain.specs.IsPlain.{IsPlain, ArePlain}
use Rattle.awk_plain.specs.Plain.{items_type, items_values, one_more, plain_type, plain_value}
use Rattle.awk_plain.specs.Plain.{with_one}
use Rattle.awk_build.specs.Built.{IsArrayOfItems}
use Rattle.awk_build.specs.Numbers.{AreNumbersOf, HasNumbers, IsNumberOf}
use Rattle.awk_build.proofs.SuffixLaws.{kept}

-- ---- one number

number_plain : (d : Data) (z : ℤ) → IsNumberOf d z → IsPlain d
number_plain (number n) z h = subst (Holds I64) (sym h.0) h.1
number_plain null z h = absurd h
number_plain (boolean b) z h = absurd h
number_plain (string s) z h = absurd h
number_plain (array ds) z h = absurd h
number_plain (object ms) z h = absurd h

number_holds : (d : Data) (z : ℤ) → IsNumberOf d z → Holds I64 z
number_holds (number n) z h = h.1
number_holds null z h = absurd h
number_holds (boolean b) z h = absurd h
number_holds (string s) z h = absurd h
number_holds (array ds) z h = absurd h
number_holds (object ms) z h = absurd h

number_typed : (d : Data) (z : ℤ) → IsNumberOf d z → plain_type d ≡ leaf I64
number_typed (number n) z h = refl
number_typed null z h = absurd h
number_typed (boolean b) z h = absurd h
number_typed (string s) z h = absurd h
number_typed (array ds) z h = absurd h
number_typed (object ms) z h = absurd h

number_valued : (d : Data) (z : ℤ) → IsNumberOf d z → plain_value d ≡ int z
number_valued (number n) z h = ap int h.0
number_valued null z h = absurd h
number_valued (boolean b) z h = absurd h
number_valued (string s) z h = absurd h
number_valued (array ds) z h = absurd h
number_valued (object ms) z h = absurd h

fits_word : (z : ℤ) → Holds I64 z → SFits w64 z
fits_word (pos n) h = record { sfits = omega (arith, ints, h.1) }
fits_word (negsuc n) h = record { sfits = omega (arith, ints, h.0) }

-- as a vector holds it
pub number_again : (d : Data) (z : ℤ) → IsNumberOf d z → to_z w64 (of_z w64 z) ≡ z
number_again d z h = to_z-of_z w64 z (fits_word z (number_holds d z h))

-- ---- numbers one after another

pub numbers_more : (ds : Items) (zs : List ℤ) (d : Data) (left : Items) (z : ℤ)
    → AreNumbersOf ds zs (item d left) → IsNumberOf d z → AreNumbersOf ds (zs ++ z ∷ []) left
numbers_more ds [] d left z h p =
    subst (λ es. AreNumbersOf es (z ∷ []) left) (sym h) (p, refl)
numbers_more no_items (y ∷ zs) d left z h p = absurd h
numbers_more (item e es) (y ∷ zs) d left z h p = (h.0, numbers_more es zs d left z h.1 p)

pub numbers_hold : (ds : Items) (zs : List ℤ) → AreNumbersOf ds zs no_items
    → AllByRecursion (Holds I64) zs
numbers_hold ds [] h = tt
numbers_hold no_items (z ∷ zs) h = absurd h
numbers_hold (item d ds) (z ∷ zs) h = (number_holds d z h.0, numbers_hold ds zs h.1)

-- ---- a list of numbers

numbers_plain : (ds : Items) (zs : List ℤ) → AreNumbersOf ds zs no_items → ArePlain ds
numbers_plain ds [] h = subst ArePlain (sym h) tt
numbers_plain no_items (z ∷ zs) h = absurd h
numbers_plain (item d ds) (z ∷ zs) h = (number_plain d z h.0, numbers_plain ds zs h.1)

numbers_type : (ds : Items) (zs : List ℤ) → AreNumbersOf ds zs no_items
    → items_type (leaf I64) ds ≡ leaf I64
numbers_type ds [] h = ap (items_type (leaf I64)) h
numbers_type no_items (z ∷ zs) h = absurd h
numbers_type (item d ds) (z ∷ zs) h =
    ap (λ b. items_type (one_more (leaf I64) b) ds) (number_typed d z h.0)
    ∙ numbers_type ds zs h.1

numbers_values : (vs : List Value) (ds : Items) (zs : List ℤ) → AreNumbersOf ds zs no_items
    → items_values (leaf I64) vs ds ≡ vs ++ map int zs
numbers_values vs ds [] h = ap (items_values (leaf I64) vs) h ∙ sym (append-nil vs)
numbers_values vs no_items (z ∷ zs) h = absurd h
numbers_values vs (item d ds) (z ∷ zs) h =
    ap₂ (λ b v. items_values (one_more (leaf I64) b) (with_one (unification (leaf I64) b) vs v) ds)
    (number_typed d z h.0) (number_valued d z h.0)
    ∙ ap (λ us. items_values (leaf I64) (us ++ int z ∷ []) ds) (sym (kept vs))
    ∙ numbers_values (vs ++ int z ∷ []) ds zs h.1
    ∙ append_assoc vs (int z ∷ []) (map int zs)

numbers_listed : (ds : Items) (zs : List ℤ) (x : Layout) → 0 < length zs
    → AreNumbersOf ds zs no_items → array_type x ≡ leaf I64 → array_items x ≡ map int zs
    → IsArrayOfItems ds x
numbers_listed ds [] x s h e f = absurd (omega (arith, s))
numbers_listed no_items (z ∷ zs) x s h e f = absurd h
numbers_listed (item d ds) (z ∷ zs) x s h e f = record {
  plain = numbers_plain (item d ds) (z ∷ zs) h;
  typ =
      e
      ∙ sym
      (ap (λ b. items_type (one_more unknown b) ds) (number_typed d z h.0)
      ∙ numbers_type ds zs h.1);
  items =
      f
      ∙ sym
      (ap₂ (λ b v. items_values (one_more unknown b) (with_one (unification unknown b) [] v) ds)
      (number_typed d z h.0) (number_valued d z h.0)
      ∙ numbers_values (int z ∷ []) ds zs h.1);
}

pub numbers_made : (ds : Items) (zs : List ℤ) (x : Layout) → HasNumbers ds zs
    → array_type x ≡ leaf I64 → array_items x ≡ map int zs → IsArrayOfItems ds x
numbers_made ds zs x h e f = numbers_listed ds zs x h.some h.all e f

pub numbers_lane : (zs : List ℤ)
    → array_items (flat (record { kind = Kinds.I64; items = zs })) ≡ map int zs
numbers_lane zs = flat_items (record { kind = Kinds.I64; items = zs })
