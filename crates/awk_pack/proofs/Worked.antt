-- Packing at worked values.
use Rattle.std.specs.Prelude.{◌≡◌, List, [], ◌∷◌, Some, None, Ok, true, ℤ, pos, negsuc, codes, refl}
use Rattle.std.specs.Fmt.{digits}
use Rattle.awk_types.specs.declared.primitive.Primitive.TheVariants as primitive
use Rattle.awk_types.specs.DataType.{unknown, leaf, var, reg, tup, opt, uni, no_types, type}
use Rattle.awk_types.specs.Value.{Value, int, truth, null, list, row, alt, no_values, value}
use Rattle.awk_types.specs.Value.{values_from}
use Rattle.awk_lanes.specs.declared.kind.Kind.TheVariants as kind
use Rattle.awk_form.specs.FormTree as form
use Rattle.awk_form.specs.FormTree.{FormTree}
use Rattle.awk_form.specs.declared.kind.IndexKind.TheVariants.{I64}
use Rattle.awk_pack.specs.Columns.{placed}
use Rattle.awk_pack.specs.Lanes.{lane_of}
use Rattle.awk_pack.specs.Canon.{canon, packed, lanes_of}

abbrev numbers_in : List ℤ → List Value
numbers_in [] = []
numbers_in (z ∷ zs) = int z ∷ numbers_in zs

abbrev ints : List ℤ → Value
ints zs = list (values_from (numbers_in zs))

abbrev jagged : FormTree
jagged =
    form.list_offset (Some (codes "node0")) I64
    (form.numpy (Some (codes "node1")) primitive.I64 [])

abbrev one_to_three : List ℤ
one_to_three = pos 1 ∷ pos 2 ∷ pos 3 ∷ []

-- lists with the same items are packed one after another
repeated : canon (var (leaf primitive.I64)) (ints one_to_three ∷ ints one_to_three ∷ [])
    ≡ Ok (record {
      form = jagged;
      length = 2;
      lanes = lane_of kind.I64 (pos 0 ∷ pos 3 ∷ pos 6 ∷ [])
          ∷ lane_of kind.I64 (pos 1 ∷ pos 2 ∷ pos 3 ∷ pos 1 ∷ pos 2 ∷ pos 3 ∷ []) ∷ [];
    })
unfolding digits
repeated = refl

-- lists of size 0 have no buffer
hollow : canon (reg 0 unknown) (ints [] ∷ ints [] ∷ ints [] ∷ []) ≡ Ok (record {
  form = form.regular (Some (codes "node0")) 0 (form.empty (Some (codes "node1")));
  length = 3;
  lanes = [];
})
unfolding digits
hollow = refl

abbrev three_lists : List Value
three_lists = ints (pos 5 ∷ negsuc 0 ∷ []) ∷ ints [] ∷ ints (pos 7 ∷ []) ∷ []

plain : canon (var (leaf primitive.I64)) three_lists ≡ Ok (record {
  form = jagged;
  length = 3;
  lanes = lane_of kind.I64 (pos 0 ∷ pos 2 ∷ pos 2 ∷ pos 3 ∷ [])
      ∷ lane_of kind.I64 (pos 5 ∷ negsuc 0 ∷ pos 7 ∷ []) ∷ [];
})
unfolding digits
plain = refl

abbrev mixed_values : List Value
mixed_values = alt 0 (int (pos 7)) ∷ alt 1 (truth true) ∷ alt 0 (int (pos 9)) ∷ []

-- tags, and places counting up for each alternative
mixed : lanes_of (placed (uni (type (leaf primitive.I64) (type (leaf primitive.Bool) no_types)))
    mixed_values)
    ≡ lane_of kind.I8 (pos 0 ∷ pos 1 ∷ pos 0 ∷ []) ∷ lane_of kind.I64 (pos 0 ∷ pos 0 ∷ pos 1 ∷ [])
    ∷ lane_of kind.I64 (pos 7 ∷ pos 9 ∷ []) ∷ lane_of kind.Bool (pos 1 ∷ []) ∷ []
mixed = refl

abbrev two_of : Value → Value
two_of v = row (value v (value (truth true) no_values))

-- a null reaches no item; nodes are numbered in pre-order
some_null : packed (tup (type (opt (leaf primitive.I8)) (type (leaf primitive.Bool) no_types)))
    (two_of (int (pos 4)) ∷ two_of null ∷ two_of (int (pos 6)) ∷ [])
    ≡ record {
      form = form.row (Some (codes "node0")) None
          (form.form
          (form.indexed_option (Some (codes "node1")) I64
          (form.numpy (Some (codes "node2")) primitive.I8 []))
          (form.form (form.numpy (Some (codes "node3")) primitive.Bool []) form.no_forms));
      length = 3;
      lanes =
          lane_of kind.I64 (pos 0 ∷ negsuc 0 ∷ pos 1 ∷ []) ∷ lane_of kind.I8 (pos 4 ∷ pos 6 ∷ [])
          ∷ lane_of kind.Bool (pos 1 ∷ pos 1 ∷ pos 1 ∷ []) ∷ [];
    }
unfolding digits
some_null = refl
