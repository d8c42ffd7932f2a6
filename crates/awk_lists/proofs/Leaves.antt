-- The numbers of an array of leaves, as a lane.
use Rattle.std.specs.Prelude.{◌≡◌, refl, true, ℤ}
use Rattle.std.proofs.Common.{arith, ap, sym, ◌∙◌}
use Rattle.awk_types.specs.DataType.{leaf}
use Rattle.awk_types.specs.Value.{int}
use Rattle.awk_lanes.specs.Column.{Column}
use Rattle.awk_lanes.specs.Places.{at}
use Rattle.awk_lanes.specs.declared.kind.Kind.{Kind}
use Rattle.awk_lanes.specs.declared.kind.Kind.TheVariants as kinds
use Rattle.awk_layout.specs.Kinds.{primitive_of}
use Rattle.awk_layout.specs.Item.{leaf_value}
use Rattle.awk_layout.specs.Layout.{Layout}
use Rattle.awk_layout.specs.Typing.{array_type}
use Rattle.awk_open.specs.Opened.{IsOpened}
use Rattle.awk_open.specs.declared.opening.Opened.TheVariants as opened
use Rattle.awk_lists.specs.Numbers.{AreNumbers, AreCounts}
use Rattle.awk_types.specs.WholeNumbers.{is_numbers}

pub leaf_numbers : (x : Layout) (c : Column) → IsOpened x (opened.Leaf c) → AreNumbers x c
leaf_numbers x c o = record { typ = λ p. o.kind; size = o.size; fits = o.valid; items = o.items }

-- ---- whole numbers

whole_value : (k : Kind) (z : ℤ) → is_numbers (leaf (primitive_of k)) ≡ true
    → leaf_value k z ≡ int z
whole_value kinds.Bool z e = cc
whole_value kinds.I8 z e = refl
whole_value kinds.I16 z e = refl
whole_value kinds.I32 z e = refl
whole_value kinds.I64 z e = refl
whole_value kinds.U8 z e = refl
whole_value kinds.U16 z e = refl
whole_value kinds.U32 z e = refl
whole_value kinds.U64 z e = refl

pub are_whole : (x : Layout) (c : Column) → is_numbers (array_type x) ≡ true → AreNumbers x c
    → AreCounts x c
are_whole x c e n = record {
  size = n.size;
  items = λ i p.
      n.items i p
      ∙ whole_value c.kind (at c i) (sym (ap is_numbers (n.typ (omega (arith, p)))) ∙ e);
}
