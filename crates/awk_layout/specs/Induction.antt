-- What holds of every layout, by one step for all classes.
use Rattle.std.specs.Prelude.{◌≡◌, ◌+◌, ◌<◌, max, refl}
use Rattle.std.proofs.Common.{arith, ap, sym}
use Rattle.awk_layout.specs.Layout.{Layout, Layouts, contents_of, fold, folds, one_more, weight}
use Rattle.awk_layout.specs.Layout.{weights, height, heights, empty, flat, regular, lists}
use Rattle.awk_layout.specs.Layout.{offset_lists, rows, indexed, optional, byte_masked, bit_masked}
use Rattle.awk_layout.specs.Layout.{unmasked, union, no_layouts, layout}

-- P of each of these
abbrev pub AllOf : (Layout → Type 0) → Layouts → Type 0
AllOf P no_layouts = Unit {0}
AllOf P (layout x xs) = P x × AllOf P xs

-- P of every layout, if P of a layout follows from P of its contents
module _ (P : Layout → Type 0) (step : (x : Layout) → AllOf P (contents_of x) → P x) where
  mutual
    pub by_contents : (x : Layout) → P x
    by_contents empty = step empty tt
    by_contents (flat c) = step (flat c) tt
    by_contents (regular size n x) = step (regular size n x) (by_contents x, tt)
    by_contents (lists s t x) = step (lists s t x) (by_contents x, tt)
    by_contents (offset_lists o x) = step (offset_lists o x) (by_contents x, tt)
    by_contents (rows names n xs) = step (rows names n xs) (all_contents xs)
    by_contents (indexed j x) = step (indexed j x) (by_contents x, tt)
    by_contents (optional j x) = step (optional j x) (by_contents x, tt)
    by_contents (byte_masked m v x) = step (byte_masked m v x) (by_contents x, tt)
    by_contents (bit_masked m v x) = step (bit_masked m v x) (by_contents x, tt)
    by_contents (unmasked n x) = step (unmasked n x) (by_contents x, tt)
    by_contents (union t j xs) = step (union t j xs) (all_contents xs)

    pub all_contents : (xs : Layouts) → AllOf P xs
    all_contents no_layouts = tt
    all_contents (layout x xs) = (by_contents x, all_contents xs)

-- a fold by the contents, where joining `none` changes nothing
module _ {ℓ} {A : Type ℓ} (none : A) (join : A → A → A) (own : Layout → A → A)
    (neutral : (a : A) → join a none ≡ a) where
  one_content : (x y : Layout)
      → own x (fold none join own y) ≡ own x (folds none join own (layout y no_layouts))
  one_content x y = ap (own x) (sym (neutral (fold none join own y)))

  pub fold-contents : (x : Layout)
      → fold none join own x ≡ own x (folds none join own (contents_of x))
  fold-contents empty = refl
  fold-contents (flat c) = refl
  fold-contents (regular size n x) = one_content (regular size n x) x
  fold-contents (lists s t x) = one_content (lists s t x) x
  fold-contents (offset_lists o x) = one_content (offset_lists o x) x
  fold-contents (rows names n xs) = refl
  fold-contents (indexed j x) = one_content (indexed j x) x
  fold-contents (optional j x) = one_content (optional j x) x
  fold-contents (byte_masked m v x) = one_content (byte_masked m v x) x
  fold-contents (bit_masked m v x) = one_content (bit_masked m v x) x
  fold-contents (unmasked n x) = one_content (unmasked n x) x
  fold-contents (union t j xs) = refl

-- ---- the measures by their contents

pub weight-contents : (x : Layout) → weight x ≡ weights (contents_of x) + 1
weight-contents = fold-contents 0 ◌+◌ one_more (λ n. omega arith)

pub height-contents : (x : Layout) → height x ≡ heights (contents_of x) + 1
height-contents = fold-contents 0 max one_more (λ n. omega arith)

pub height-some : (x : Layout) → 0 < height x
height-some x = omega (arith, height-contents x)
