-- The layout that a form stands for has the form's type.
use Rattle.std.specs.Prelude.{◌≡◌, ℕ, suc, ◌*◌, List, [], ◌∷◌, refl}
use Rattle.std.proofs.Common.{ap, ap₂}
use Rattle.awk_types.specs.DataType.{DataType, leaf, var, reg, opt, uni, row_type, type}
use Rattle.awk_layout.specs.Layout.{Layout}
use Rattle.awk_layout.specs.Kinds.{primitive_of-kind_of}
use Rattle.awk_layout.specs.Typing.{layout_type, layout_types}
use Rattle.awk_form.specs.FormTree.{FormTree, empty, numpy, regular, list, list_offset, row}
use Rattle.awk_form.specs.FormTree.{indexed, indexed_option, byte_masked, bit_masked, unmasked}
use Rattle.awk_form.specs.FormTree.{union, FormTrees, no_forms, form}
use Rattle.awk_form.specs.FormType as said
use Rattle.awk_form.specs.FormType.{type_of, types_of}
use Rattle.awk_valid.specs.Container.{Container}
use Rattle.awk_valid.specs.Loaded.{shaped, layout_of, layouts_of}

shaped-type : (inner : List ℕ) (n : ℕ) (x : Layout) (t : DataType) → layout_type x ≡ t
    → layout_type (shaped inner n x) ≡ said.shaped inner t
shaped-type [] n x t e = e
shaped-type (m ∷ ms) n x t e = ap (reg m) (shaped-type ms (n * m) x t e)

mutual
  pub layout_type-layout_of : (f : FormTree) (n : ℕ) (c : Container)
      → layout_type (layout_of f n c) ≡ type_of f
  layout_type-layout_of (empty key) n c = refl
  layout_type-layout_of (numpy key prim inner) n c =
      shaped-type inner n _ (leaf prim) (ap leaf (primitive_of-kind_of prim))
  layout_type-layout_of (regular key size f) n c = ap (reg size) (layout_type-layout_of f _ c)
  layout_type-layout_of (list key starts stops f) n c = ap var (layout_type-layout_of f _ c)
  layout_type-layout_of (list_offset key offsets f) n c = ap var (layout_type-layout_of f _ c)
  layout_type-layout_of (row key names fs) n c =
      ap (row_type names) (layout_types-layouts_of fs _ c)
  layout_type-layout_of (indexed key index f) n c = layout_type-layout_of f _ c
  layout_type-layout_of (indexed_option key index f) n c = ap opt (layout_type-layout_of f _ c)
  layout_type-layout_of (byte_masked key valid_when f) n c = ap opt (layout_type-layout_of f _ c)
  layout_type-layout_of (bit_masked key valid_when lsb_order f) n c =
      ap opt (layout_type-layout_of f _ c)
  layout_type-layout_of (unmasked key f) n c = ap opt (layout_type-layout_of f _ c)
  layout_type-layout_of (union key index fs) n c = ap uni (layout_types-layouts_of fs _ c)

  pub layout_types-layouts_of : (fs : FormTrees) (lengths : ℕ → ℕ) (c : Container)
      → layout_types (layouts_of fs lengths c) ≡ types_of fs
  layout_types-layouts_of no_forms lengths c = refl
  layout_types-layouts_of (form f fs) lengths c =
      ap₂ type (layout_type-layout_of f (lengths 0) c)
      (layout_types-layouts_of fs (λ k. lengths (suc k)) c)
