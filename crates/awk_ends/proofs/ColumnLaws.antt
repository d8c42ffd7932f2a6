-- The columns at the ends of a pairing: their types, their sizes and their values.
use Rattle.std.proofs.Common.{◌≡◌, ℕ, zero, suc, ◌+◌, ◌<◌, refl, ap, sym, ◌∙◌, arith}
use Rattle.std.specs.Prelude.{List, [], ◌∷◌, map, length, get_or, replicate, Option}
use Rattle.std.proofs.lemmas.List.{length-map}
use Rattle.std.proofs.lemmas.Simd.{map-map}
use Rattle.std.proofs.Math.ListN.{get_or-map}
use Rattle.awk_types.specs.Datum.{Datum}
use Rattle.awk_types.specs.Value.{Value}
use Rattle.awk_columns.specs.Columns.{part_at}
use Rattle.awk_columns.specs.Parts.{AreParts}
use Rattle.awk_layout.specs.Layout.{Layout, empty}
use Rattle.awk_layout.specs.Typing.{array_type, array_items}
use Rattle.awk_leaves.specs.declared.leaf_type.LeafType.TheVariants.{Unknown}
use Rattle.awk_pair_operands.specs.Pairs.{leaf_types, typs}
use Rattle.awk_ends.specs.Operands.{leaf_in}
use Rattle.awk_ends.specs.Columns.{column_at}
use Rattle.awk_ends.proofs.LeafLaws.{leaf_types-leaves, length-leaf_types}

pub same-at : (es : List Value) (z : Value) (n : ℕ) → n ≡ length es
    → replicate n z ≡ map (λ v. z) es
same-at es z n e = ap (λ m. replicate m z) e ∙ all es
  where
    all : (vs : List Value) → replicate (length vs) z ≡ map (λ v. z) vs
    all [] = refl
    all (v ∷ vs) = ap (λ zs. z ∷ zs) (all vs)

pub parts-at : (es : List Value) (j : ℕ) (ys : List Layout) (k : ℕ) → AreParts j es ys
    → k < length ys → array_items (column_at ys k) ≡ map (part_at (j + k)) es
parts-at es j [] k h l = absurd (omega (arith, l))
parts-at es j (y ∷ ys) zero h l =
    let e : j + 0 ≡ j = omega arith in h.0 ∙ ap (λ i. map (part_at i) es) (sym e)
parts-at es j (y ∷ ys) (suc k) h l =
    let e : suc j + k ≡ j + suc k = omega arith in
    parts-at es (suc j) ys k h.1 (omega (arith, l)) ∙ ap (λ i. map (part_at i) es) e

-- ---- the columns of data that are paired, to their leaves or to a depth

pub record AreEnds (d : Option ℕ) (ds : List Datum) (es : List Value) (ys : List Layout)
    : Type 0 where
  pub parts : AreParts 0 es ys
  pub types : map array_type ys ≡ leaf_types d ds

pub ends-count : (d : Option ℕ) (ds : List Datum) (es : List Value) (ys : List Layout)
    → AreEnds d ds es ys → length ys ≡ length ds
ends-count d ds es ys h =
    sym (length-map ys array_type) ∙ ap length h.types ∙ length-leaf_types d ds

-- the leaves of a column are those of the datum
pub ends-leaf : (d : Option ℕ) (ds : List Datum) (es : List Value) (ys : List Layout) (k : ℕ)
    → AreEnds d ds es ys
    → leaf_in (array_type (column_at ys k)) ≡ get_or (map leaf_in (typs ds)) k Unknown
ends-leaf d ds es ys k h =
    sym (get_or-map (λ y. leaf_in (array_type y)) ys k empty)
    ∙ ap (λ ts. get_or ts k Unknown) (sym (map-map leaf_in array_type ys)
    ∙ ap (map leaf_in) h.types ∙ leaf_types-leaves d ds)
