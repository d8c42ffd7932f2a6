-- Columns of leaves at the ends of a pairing, and two operands among them.
use Rattle.std.proofs.Common.{◌≡◌, ℕ, suc, ◌<◌, true, false, refl, ap, sym, subst, ◌∙◌}
use Rattle.std.proofs.Common.{arith}
use Rattle.std.specs.Prelude.{List, [], ◌∷◌, map, length, None}
use Rattle.std.specs.List.{list_all}
use Rattle.std.proofs.lemmas.List.{length-map}
use Rattle.std.proofs.lemmas.Bool.{and_parts}
use Rattle.awk_types.specs.Datum.{Datum}
use Rattle.awk_types.specs.Predicates.{is_leaf}
use Rattle.awk_types.specs.Value.{Value, int}
use Rattle.awk_columns.specs.Columns.{part_at}
use Rattle.awk_columns.specs.Parts.{AreParts}
use Rattle.awk_layout.specs.Datum.{datum_of}
use Rattle.awk_layout.specs.Filler.{filler_of}
use Rattle.awk_layout.specs.Layout.{Layout}
use Rattle.awk_layout.specs.Typing.{array_type}
use Rattle.awk_layout.specs.declared.datum.Operand.{Operand}
use Rattle.awk_layout.specs.declared.datum.Operand.TheVariants as operand
use Rattle.awk_layout.proofs.ArrayItems.{length-array_items}
use Rattle.awk_pair_operands.specs.Pairs.{has_wrong_end}
use Rattle.awk_ends.specs.Operands.{data_in, both_data, leaf_of, at_end}
use Rattle.awk_ends.specs.Columns.{IsAmong, data_before, leaf_at, values_at, ends_of}
use Rattle.awk_ends.proofs.LeafLaws.{leaf_types-all}
use Rattle.awk_ends.proofs.ColumnLaws.{same-at, parts-at, AreEnds, ends-count, ends-leaf}
use Rattle.awk_arith.specs.Sides.{AreLeaves}

-- ---- columns of parts

parts-long : (es : List Value) (k : ℕ) (ys : List Layout) → AreParts k es ys
    → list_all is_leaf (map array_type ys) ≡ true → AreLeaves (length es) ys
parts-long es k [] h e = tt
parts-long es k (y ∷ ys) h e =
    let split : (is_leaf (array_type y) ≡ true)
    × (list_all is_leaf (map array_type ys) ≡ true) =
    and_parts (is_leaf (array_type y)) (list_all is_leaf (map array_type ys)) e in (
      sym (length-array_items y) ∙ ap length h.0 ∙ length-map es (part_at k),
      split.0,
      parts-long es (suc k) ys h.1 split.1,
    )

pub ends-long : (ds : List Datum) (es : List Value) (ys : List Layout) → AreEnds None ds es ys
    → has_wrong_end None ds ≡ false → AreLeaves (length es) ys
ends-long ds es ys h e =
    parts-long es 0 ys h.parts (ap (list_all is_leaf) h.types ∙ leaf_types-all ds e)

pub first-long : (n : ℕ) (ys : List Layout) → AreLeaves n ys → 0 < length ys → ends_of ys ≡ n
first-long n [] h l = absurd (omega (arith, l))
first-long n (y ∷ ys) h l = h.0

-- ---- two operands among them

pub record AreSides (x y : Operand) (es : List Value) (ys : List Layout) : Type 0 where
  pub some : 0 < length ys
  pub long : AreLeaves (ends_of ys) ys
  pub count : ends_of ys ≡ length es
  pub first_among : IsAmong x 0 ys
  pub second_among : IsAmong y (data_before x) ys
  pub first_leaf : leaf_at x 0 ys ≡ leaf_of (filler_of x)
  pub second_leaf : leaf_at y (data_before x) ys ≡ leaf_of (filler_of y)
  pub first_values : values_at (ends_of ys) x 0 ys ≡ map (at_end (filler_of x) 0) es
  pub second_values : values_at (ends_of ys) y (data_before x) ys
      ≡ map (at_end (filler_of y) (length (data_in (filler_of x)))) es

module _ (es : List Value) (ys : List Layout) where
  pub sides : (x y : Operand) → AreEnds None (both_data (filler_of x) (filler_of y)) es ys
      → has_wrong_end None (both_data (filler_of x) (filler_of y)) ≡ false → 0 < length ys
      → AreSides x y es ys
  sides (operand.Of d) (operand.Of e) h w l =
      let ds = datum_of d ∷ datum_of e ∷ [] in
      let n : length ys ≡ 2 = ends-count None ds es ys h in
      let long : AreLeaves (length es) ys = ends-long ds es ys h w in
      let count : ends_of ys ≡ length es = first-long (length es) ys long l in
      record {
        some = l;
        long = subst (λ m. AreLeaves m ys) (sym count) long;
        count = count;
        first_among = l;
        second_among = omega (arith, n);
        first_leaf = ends-leaf None ds es ys 0 h;
        second_leaf = ends-leaf None ds es ys 1 h;
        first_values = parts-at es 0 ys 0 h.parts l;
        second_values = parts-at es 0 ys 1 h.parts (omega (arith, n));
      }
  sides (operand.Of d) (operand.Literal z) h w l =
      let ds = datum_of d ∷ [] in
      let long : AreLeaves (length es) ys = ends-long ds es ys h w in
      let count : ends_of ys ≡ length es = first-long (length es) ys long l in
      record {
        some = l;
        long = subst (λ m. AreLeaves m ys) (sym count) long;
        count = count;
        first_among = l;
        second_among = tt;
        first_leaf = ends-leaf None ds es ys 0 h;
        second_leaf = refl;
        first_values = parts-at es 0 ys 0 h.parts l;
        second_values = same-at es (int z) (ends_of ys) count;
      }
  sides (operand.Literal z) (operand.Of e) h w l =
      let ds = datum_of e ∷ [] in
      let long : AreLeaves (length es) ys = ends-long ds es ys h w in
      let count : ends_of ys ≡ length es = first-long (length es) ys long l in
      record {
        some = l;
        long = subst (λ m. AreLeaves m ys) (sym count) long;
        count = count;
        first_among = tt;
        second_among = l;
        first_leaf = refl;
        second_leaf = ends-leaf None ds es ys 0 h;
        first_values = same-at es (int z) (ends_of ys) count;
        second_values = parts-at es 0 ys 0 h.parts l;
      }
  sides (operand.Literal z) (operand.Literal w) h w' l =
      let n : length ys ≡ 0 = ends-count None [] es ys h in absurd (omega (arith, n, l))
