-- The layout that a form stands for is as large as the form.
use Rattle.std.proofs.Common.{◌≡◌, ℕ, suc, ◌+◌, ◌*◌, max, List, [], ◌∷◌, length, refl, ap, ap₂}
use Rattle.std.proofs.Common.{arith}
use Rattle.awk_layout.specs.Layout.{Layout, weight, weights, height, heights}
use Rattle.awk_form.specs.FormTree.{FormTree, empty, numpy, regular, list, list_offset, row}
use Rattle.awk_form.specs.FormTree.{indexed, indexed_option, byte_masked, bit_masked, unmasked}
use Rattle.awk_form.specs.FormTree.{union, FormTrees, no_forms, form}
use Rattle.awk_valid.specs.Container.{Container}
use Rattle.awk_valid.specs.Loaded.{shaped, layout_of, layouts_of}
use Rattle.awk_form.specs.Measures.{width, width_of, height as form_height}
use Rattle.awk_form.specs.Measures.{height_of as form_height_of}

shaped-weight : (inner : List ℕ) (n : ℕ) (x : Layout) → weight x ≡ 1
    → weight (shaped inner n x) ≡ length inner + 1
shaped-weight [] n x e = omega (arith, e)
shaped-weight (k ∷ ks) n x e = omega (arith, shaped-weight ks (n * k) x e)

shaped-height : (inner : List ℕ) (n : ℕ) (x : Layout) → height x ≡ 1
    → height (shaped inner n x) ≡ length inner + 1
shaped-height [] n x e = omega (arith, e)
shaped-height (k ∷ ks) n x e = omega (arith, shaped-height ks (n * k) x e)

mutual
  pub weight-layout_of : (f : FormTree) (n : ℕ) (c : Container) → weight (layout_of f n c) ≡ width f
  weight-layout_of (empty key) n c = refl
  weight-layout_of (numpy key prim inner) n c = shaped-weight inner n _ refl
  weight-layout_of (regular key size f) n c = ap (λ w. w + 1) (weight-layout_of f _ c)
  weight-layout_of (list key starts stops f) n c = ap (λ w. w + 1) (weight-layout_of f _ c)
  weight-layout_of (list_offset key offsets f) n c = ap (λ w. w + 1) (weight-layout_of f _ c)
  weight-layout_of (row key names fs) n c = ap (λ w. w + 1) (weights-layouts_of fs _ c)
  weight-layout_of (indexed key index f) n c = ap (λ w. w + 1) (weight-layout_of f _ c)
  weight-layout_of (indexed_option key index f) n c = ap (λ w. w + 1) (weight-layout_of f _ c)
  weight-layout_of (byte_masked key valid_when f) n c = ap (λ w. w + 1) (weight-layout_of f n c)
  weight-layout_of (bit_masked key valid_when lsb_order f) n c =
      ap (λ w. w + 1) (weight-layout_of f n c)
  weight-layout_of (unmasked key f) n c = ap (λ w. w + 1) (weight-layout_of f n c)
  weight-layout_of (union key index fs) n c = ap (λ w. w + 1) (weights-layouts_of fs _ c)

  pub weights-layouts_of : (fs : FormTrees) (lengths : ℕ → ℕ) (c : Container)
      → weights (layouts_of fs lengths c) ≡ width_of fs
  weights-layouts_of no_forms lengths c = refl
  weights-layouts_of (form f fs) lengths c =
      ap₂ (λ v w. v + w) (weight-layout_of f (lengths 0) c)
      (weights-layouts_of fs (λ k. lengths (suc k)) c)

mutual
  pub height-layout_of : (f : FormTree) (n : ℕ) (c : Container)
      → height (layout_of f n c) ≡ form_height f
  height-layout_of (empty key) n c = refl
  height-layout_of (numpy key prim inner) n c = shaped-height inner n _ refl
  height-layout_of (regular key size f) n c = ap (λ h. h + 1) (height-layout_of f _ c)
  height-layout_of (list key starts stops f) n c = ap (λ h. h + 1) (height-layout_of f _ c)
  height-layout_of (list_offset key offsets f) n c = ap (λ h. h + 1) (height-layout_of f _ c)
  height-layout_of (row key names fs) n c = ap (λ h. h + 1) (heights-layouts_of fs _ c)
  height-layout_of (indexed key index f) n c = ap (λ h. h + 1) (height-layout_of f _ c)
  height-layout_of (indexed_option key index f) n c = ap (λ h. h + 1) (height-layout_of f _ c)
  height-layout_of (byte_masked key valid_when f) n c = ap (λ h. h + 1) (height-layout_of f n c)
  height-layout_of (bit_masked key valid_when lsb_order f) n c =
      ap (λ h. h + 1) (height-layout_of f n c)
  height-layout_of (unmasked key f) n c = ap (λ h. h + 1) (height-layout_of f n c)
  height-layout_of (union key index fs) n c = ap (λ h. h + 1) (heights-layouts_of fs _ c)

  pub heights-layouts_of : (fs : FormTrees) (lengths : ℕ → ℕ) (c : Container)
      → heights (layouts_of fs lengths c) ≡ form_height_of fs
  heights-layouts_of no_forms lengths c = refl
  heights-layouts_of (form f fs) lengths c =
      ap₂ max (height-layout_of f (lengths 0) c) (heights-layouts_of fs (λ k. lengths (suc k)) c)
