-- What holds of every form, by one step for all classes.
use Rattle.std.specs.Prelude.{◌≡◌, ℕ, ◌+◌, ◌≤◌, max, List, length, Option, refl}
use Rattle.std.proofs.Common.{arith, ap, sym}
use Rattle.awk_types.specs.DataType.{Name}
use Rattle.awk_types.specs.declared.primitive.Primitive.{Primitive}
use Rattle.awk_form.specs.FormTree.{FormTree, FormTrees, contents_of, fold, folds, empty, numpy}
use Rattle.awk_form.specs.FormTree.{regular, list, list_offset, row, indexed, indexed_option}
use Rattle.awk_form.specs.FormTree.{byte_masked, bit_masked, unmasked, union, no_forms, form}
use Rattle.awk_form.specs.Measures.{inner_shape, one_more, inner_more, nodes, nodes_of, width}
use Rattle.awk_form.specs.Measures.{width_of, height, height_of}

-- P of each of these
abbrev pub AllOf : (FormTree → Type 0) → FormTrees → Type 0
AllOf P no_forms = Unit {0}
AllOf P (form f fs) = P f × AllOf P fs

-- P of every form, if P of a form follows from P of its contents
module _ (P : FormTree → Type 0) (step : (f : FormTree) → AllOf P (contents_of f) → P f) where
  mutual
    pub by_contents : (f : FormTree) → P f
    by_contents (empty key) = step (empty key) tt
    by_contents (numpy key prim inner) = step (numpy key prim inner) tt
    by_contents (regular key size f) = step (regular key size f) (by_contents f, tt)
    by_contents (list key starts stops f) = step (list key starts stops f) (by_contents f, tt)
    by_contents (list_offset key offsets f) = step (list_offset key offsets f) (by_contents f, tt)
    by_contents (row key names fs) = step (row key names fs) (all_contents fs)
    by_contents (indexed key index f) = step (indexed key index f) (by_contents f, tt)
    by_contents (indexed_option key index f) = step (indexed_option key index f) (by_contents f, tt)
    by_contents (byte_masked key valid_when f) =
        step (byte_masked key valid_when f) (by_contents f, tt)
    by_contents (bit_masked key valid_when lsb_order f) =
        step (bit_masked key valid_when lsb_order f) (by_contents f, tt)
    by_contents (unmasked key f) = step (unmasked key f) (by_contents f, tt)
    by_contents (union key index fs) = step (union key index fs) (all_contents fs)

    pub all_contents : (fs : FormTrees) → AllOf P fs
    all_contents no_forms = tt
    all_contents (form f fs) = (by_contents f, all_contents fs)

-- a fold by the contents, where joining `none` changes nothing
module _ {ℓ} {A : Type ℓ} (none : A) (join : A → A → A) (own : FormTree → A → A)
    (neutral : (a : A) → join a none ≡ a) where
  one_content : (f g : FormTree)
      → own f (fold none join own g) ≡ own f (folds none join own (form g no_forms))
  one_content f g = ap (own f) (sym (neutral (fold none join own g)))

  pub fold-contents : (f : FormTree)
      → fold none join own f ≡ own f (folds none join own (contents_of f))
  fold-contents (empty key) = refl
  fold-contents (numpy key prim inner) = refl
  fold-contents (regular key size f) = one_content (regular key size f) f
  fold-contents (list key starts stops f) = one_content (list key starts stops f) f
  fold-contents (list_offset key offsets f) = one_content (list_offset key offsets f) f
  fold-contents (row key names fs) = refl
  fold-contents (indexed key index f) = one_content (indexed key index f) f
  fold-contents (indexed_option key index f) = one_content (indexed_option key index f) f
  fold-contents (byte_masked key valid_when f) = one_content (byte_masked key valid_when f) f
  fold-contents (bit_masked key valid_when lsb_order f) =
      one_content (bit_masked key valid_when lsb_order f) f
  fold-contents (unmasked key f) = one_content (unmasked key f) f
  fold-contents (union key index fs) = refl

-- ---- the measures by their contents

pub nodes-contents : (f : FormTree) → nodes f ≡ nodes_of (contents_of f) + 1
nodes-contents = fold-contents 0 ◌+◌ one_more (λ n. omega arith)

inner-contents : (join : ℕ → ℕ → ℕ) (neutral : (n : ℕ) → join n 0 ≡ n) (f : FormTree)
    → fold 0 join inner_more f
    ≡ folds 0 join inner_more (contents_of f) + (length (inner_shape f) + 1)
inner-contents join neutral (empty key) = omega arith
inner-contents join neutral (numpy key prim inner) = omega arith
inner-contents join neutral (regular key size f) = omega (arith, neutral (fold 0 join inner_more f))
inner-contents join neutral (list key starts stops f) =
    omega (arith, neutral (fold 0 join inner_more f))
inner-contents join neutral (list_offset key offsets f) =
    omega (arith, neutral (fold 0 join inner_more f))
inner-contents join neutral (row key names fs) = omega arith
inner-contents join neutral (indexed key index f) =
    omega (arith, neutral (fold 0 join inner_more f))
inner-contents join neutral (indexed_option key index f) =
    omega (arith, neutral (fold 0 join inner_more f))
inner-contents join neutral (byte_masked key valid_when f) =
    omega (arith, neutral (fold 0 join inner_more f))
inner-contents join neutral (bit_masked key valid_when lsb_order f) =
    omega (arith, neutral (fold 0 join inner_more f))
inner-contents join neutral (unmasked key f) = omega (arith, neutral (fold 0 join inner_more f))
inner-contents join neutral (union key index fs) = omega arith

pub width-contents : (f : FormTree)
    → width f ≡ width_of (contents_of f) + (length (inner_shape f) + 1)
width-contents = inner-contents ◌+◌ (λ n. omega arith)

pub height-contents : (f : FormTree)
    → height f ≡ height_of (contents_of f) + (length (inner_shape f) + 1)
height-contents = inner-contents max (λ n. omega arith)

-- no form has more nodes than its width
nodes_within : (fs : FormTrees) → AllOf (λ f. nodes f ≤ width f) fs → nodes_of fs ≤ width_of fs
nodes_within no_forms h = omega arith
nodes_within (form f fs) h = omega (arith, h.0, nodes_within fs h.1)

pub nodes-width : (f : FormTree) → nodes f ≤ width f
nodes-width =
    by_contents (λ f. nodes f ≤ width f)
    (λ f h. omega (arith, nodes-contents f, width-contents f, nodes_within (contents_of f) h))

-- no path is longer than the width
heights_within : (fs : FormTrees) → AllOf (λ f. height f ≤ width f) fs → height_of fs ≤ width_of fs
heights_within no_forms h = omega arith
heights_within (form f fs) h = omega (arith, h.0, heights_within fs h.1)

pub height-width : (f : FormTree) → height f ≤ width f
height-width =
    by_contents (λ f. height f ≤ width f)
    (λ f h. omega (arith, height-contents f, width-contents f, heights_within (contents_of f) h))

-- ---- the equations by class hold by computing

nodes_of_content : (key : Option Name) (f : FormTree) → nodes (unmasked key f) ≡ nodes f + 1
nodes_of_content key f = refl

width_of_numbers : (key : Option Name) (prim : Primitive) (inner : List ℕ)
    → width (numpy key prim inner) ≡ length inner + 1
width_of_numbers key prim inner = refl

height_of_two : (f g : FormTree)
    → height_of (form f (form g no_forms)) ≡ max (height f) (max (height g) 0)
height_of_two f g = refl
