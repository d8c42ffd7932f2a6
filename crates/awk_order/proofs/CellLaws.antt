-- Arrays of leaves as cells, by what they are opened as.
use Rattle.std.proofs.Common.{◌≡◌, refl, ap, sym, ◌∙◌, arith, true≢false}
use Rattle.std.specs.Prelude.{ℤ, pos, negsuc, ◌<ℤ◌, Bool, true, false, Some}
use Rattle.std.specs.Prelude.{option_map, if◌then◌else◌}
use Rattle.std.proofs.lemmas.Int.{ints}
use Rattle.awk_types.specs.DataType.{unknown}
use Rattle.awk_types.specs.Parts.{option_number}
use Rattle.awk_types.specs.Predicates.{is_unknown}
use Rattle.awk_types.specs.Simple.{present}
use Rattle.awk_types.specs.Value.{truth}
use Rattle.awk_lanes.specs.Column.{Column}
use Rattle.awk_lanes.specs.Numbers.{element, is_nonzero}
use Rattle.awk_lanes.specs.Places.{size_of, at, option_place}
use Rattle.awk_lanes.specs.declared.kind.Kind.{Kind}
use Rattle.awk_lanes.specs.declared.kind.Kind.TheVariants as kind
use Rattle.awk_layout.specs.Item.{leaf_value, at_option}
use Rattle.awk_layout.specs.Layout.{Layout}
use Rattle.awk_layout.specs.Typing.{array_type}
use Rattle.awk_layout.specs.Valid.{len}
use Rattle.awk_gather.specs.Arrays.{array_item}
use Rattle.awk_open.specs.Opened.{IsOpened}
use Rattle.awk_open.specs.declared.opening.Opened.TheVariants as opened
use Rattle.awk_order.specs.Cells.{AreItemCells, AreNumbers}

truth_number : (b : Bool)
    → option_number (truth (is_nonzero (pos (if b then 1 else 0))))
    ≡ Some (pos (if b then 1 else 0))
truth_number true = refl
truth_number false = refl

leaf_number : (k : Kind) (z : ℤ) → option_number (leaf_value k (element k z)) ≡ Some (element k z)
leaf_number kind.Bool z = truth_number (is_nonzero z)
leaf_number kind.I8 z = refl
leaf_number kind.I16 z = refl
leaf_number kind.I32 z = refl
leaf_number kind.I64 z = refl
leaf_number kind.U8 z = refl
leaf_number kind.U16 z = refl
leaf_number kind.U32 z = refl
leaf_number kind.U64 z = refl

pub leaf_numbers : (x : Layout) (c : Column) → IsOpened x (opened.Leaf c) → AreNumbers x c
leaf_numbers x c o = record {
  typ = λ known. o.kind;
  cells = record {
    cells = sym o.size;
    items = λ i l. ap option_number (o.items i l) ∙ leaf_number c.kind _;
  };
}

pub optional_numbers : (x : Layout) (j c : Column) (y : Layout)
    → IsOpened x (opened.Option j y) → AreNumbers y c → AreItemCells x c (Some j)
optional_numbers x j c y o h =
    let same : len y ≡ size_of c = h.cells.cells in
    record {
      cells = (rw (← same) o.valid.1, sym o.size);
      items = λ i l.
          ap option_number (o.items i l)
          ∙ at_number (at j i) (o.valid.1.below i (omega (arith, l, o.size)));
    }
  where
    at_number : (z : ℤ) → z <ℤ pos (len y)
        → option_number (at_option (option_place z) (array_item y))
        ≡ option_map (at c) (option_place z)
    at_number (pos k) l = h.cells.items k (omega (arith, ints, l))
    at_number (negsuc k) l = refl

pub known_type : (x : Layout) → is_unknown (present (array_type x)) ≡ false
    → array_type x ≡ unknown → ⊥
known_type x h e = true≢false (sym (ap (λ t. is_unknown (present t)) e) ∙ h)
