-- Columns of leaves, and of leaves and nulls, by their places.
use Rattle.std.proofs.Common.{◌≡◌, ℕ, ◌<◌, ◌^◌, arith, refl, ap, ◌∙◌}
use Rattle.std.specs.Prelude.{ℤ, true, if◌then◌else◌, Option, Some, None}
use Rattle.awk_types.specs.DataType.{leaf, opt}
use Rattle.awk_types.specs.Simple.{simple_value}
use Rattle.awk_types.specs.Value.{Value, null}
use Rattle.awk_lanes.specs.Column.{Column}
use Rattle.awk_lanes.specs.Made.{lane_of}
use Rattle.awk_lanes.specs.Numbers.{element, is_nonzero}
use Rattle.awk_lanes.specs.Places.{size_of}
use Rattle.awk_lanes.specs.declared.kind.Kind.{Kind}
use Rattle.awk_lanes.specs.declared.kind.Kind.TheVariants as kind
use Rattle.awk_lanes.proofs.MadeLanes.{size-lane_of, at-lane_of}
use Rattle.awk_layout.specs.Item.{leaf_value, at_option, item}
use Rattle.awk_layout.specs.Kinds.{primitive_of}
use Rattle.awk_layout.specs.Layout.{flat, byte_masked}
use Rattle.awk_layout.specs.Valid.{IsByteMask}
use Rattle.awk_list_functions.specs.Made.{IsColumn}
use Rattle.awk_parts.specs.Lanes.{mask_byte}

pub flat_column : (k : Kind) (n : ℕ) (f : ℕ → ℤ) (value : ℕ → Value) → n < 2 ^ 63
    → ((i : ℕ) → i < n → leaf_value k (element k (f i)) ≡ value i)
    → IsColumn (leaf (primitive_of k)) value n (flat (lane_of k n f))
flat_column k n f value small h = record {
  valid = omega (arith, size-lane_of k n f, small);
  size = size-lane_of k n f;
  typ = refl;
  items = λ i l. ap (leaf_value k) (at-lane_of k n f i l) ∙ h i l;
}

-- how many numbers a lane has that was made
pub size-made : (c : Column) (k : Kind) (n : ℕ) (f : ℕ → ℤ) → c ≡ lane_of k n f → size_of c ≡ n
size-made c k n f e = ap size_of {y = lane_of k n f} e ∙ size-lane_of k n f

-- a mask of n items, over as many
pub mask_valid : (n m : ℕ) (g : ℕ → ℤ) → m ≡ n → IsByteMask (lane_of kind.I8 n g) m
mask_valid n m g e = record { kind = refl; reach = omega (arith, size-lane_of kind.I8 n g, e) }

module _ (k : Kind) (n : ℕ) (g : ℕ → Option ℕ) (f : ℕ → ℤ) (value : ℕ → Value)
    (small : n < 2 ^ 63)
    (h : (i : ℕ) → i < n → at_option (g i) (λ q. leaf_value k (element k (f i))) ≡ value i) where
  abbrev mask : ℕ → ℤ
  mask i = mask_byte (g i)

  here : (i : ℕ) → i < n → (o : Option ℕ)
      → (if is_nonzero (element kind.I8 (mask_byte o)) then item (flat (lane_of k n f)) i else null)
      ≡ at_option o (λ q. leaf_value k (element k (f i)))
  here i l None = refl
  here i l (Some q) = ap (leaf_value k) (at-lane_of k n f i l)

  pub masked_column : IsColumn (opt (leaf (primitive_of k))) value n
      (byte_masked (lane_of kind.I8 n mask) true (flat (lane_of k n f)))
  masked_column = record {
    valid = (
      omega (arith, size-lane_of kind.I8 n mask, small),
      mask_valid n (size_of (lane_of k n f)) mask (size-lane_of k n f),
      omega (arith, size-lane_of k n f, small),
    );
    size = size-lane_of kind.I8 n mask;
    typ = refl;
    items = λ i l.
        ap (simple_value (opt (leaf (primitive_of k))))
        (ap (λ z. if is_nonzero z then item (flat (lane_of k n f)) i else null)
        (at-lane_of kind.I8 n mask i l)
        ∙ here i l (g i) ∙ h i l);
  }
