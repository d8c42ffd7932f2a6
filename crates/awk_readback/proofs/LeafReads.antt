-- What it is that a form is read as values; an EmptyArray and numbers are.
use Rattle.std.proofs.Common.{◌≡◌, ◌<◌, ◌≤◌, ℕ, zero, suc, ◌*◌, Bool, true, false, List, [], ◌∷◌}
use Rattle.std.proofs.Common.{length, get_or, map, None, Option, refl, ap, sym, subst, ◌∙◌, arith}
use Rattle.std.proofs.Common.{codes, pos, negsuc, ℤ, ◌≤ℤ◌}
use Rattle.std.specs.List.{AllByRecursion}
use Rattle.std.proofs.lemmas.Int.{ints}
use Rattle.std.proofs.lemmas.List.{length-map}
use Rattle.awk_base.proofs.Every.{all-at}
use Rattle.awk_types.specs.DataType.{Name, unknown, leaf}
use Rattle.awk_types.specs.Value.{Value, int, truth, null}
use Rattle.awk_types.specs.Has.{Has}
use Rattle.awk_types.specs.declared.primitive.Primitive.{Primitive}
use Rattle.awk_types.specs.declared.primitive.Primitive.TheVariants as primitive
use Rattle.awk_lanes.specs.declared.kind.Num.TheVariants.{Int, Nat, Truth}
use Rattle.awk_lanes.specs.Numbers.{width, is_nonzero}
use Rattle.awk_layout.specs.Kinds.{kind_of}
use Rattle.awk_form.specs.FormTree as form
use Rattle.awk_form.specs.FormTree.{FormTree}
use Rattle.awk_pack.specs.Lanes.{number_of}
use Rattle.awk_valid.specs.Container.{Container, bytes_at, num}
use Rattle.awk_valid.specs.Broken.{size_break, broken_from}
use Rattle.awk_valid.specs.Denote.{element, item}
use Rattle.awk_valid.proofs.PartLaws.{both_none}
use Rattle.awk_readback.proofs.LaneBytes.{IsHeld}
use Rattle.awk_readback.proofs.ValueLists.{Reads}
use Rattle.awk_readback.proofs.ColumnTypes.{none-unknown}
use Rattle.awk_readback.proofs.BufferParts.{HasLane, num-read, bytes-well, size-well}

-- from any node on nothing breaks
abbrev pub IsUnbroken : FormTree → ℕ → Container → Type 0
IsUnbroken f n c = (m : ℕ) → broken_from f m n c ≡ None

-- nothing breaks, and the items are these
abbrev pub IsRead : FormTree → Container → List Value → Type 0
IsRead f c vs = IsUnbroken f (length vs) c × Reads (item f c) vs

-- the same of a number that is equal
pub unbroken-at : (f : FormTree) (m n : ℕ) (c : Container) → m ≡ n → IsUnbroken f m c
    → IsUnbroken f n c
unbroken-at f m n c e h = subst (λ l. IsUnbroken f l c) e h

-- ---- no items

pub empty-node : (key : Option Name) (vs : List Value) (c : Container)
    → AllByRecursion (Has unknown) vs → IsRead (form.empty key) c vs
empty-node key vs c h = (
  unbroken-at (form.empty key) 0 (length vs) c (sym (none-unknown vs h)) (λ m. refl),
  λ j l. absurd (all-at (Has unknown) vs j null h l),
)

-- ---- leaves

leaf-held : (p : Primitive) (v : Value) → Has (leaf p) v → IsHeld (kind_of p) (number_of v)
leaf-held primitive.Bool (truth true) h = (Truth true, tt, refl)
leaf-held primitive.Bool (truth false) h = (Truth false, tt, refl)
leaf-held primitive.Bool (int z) h = absurd (omega (arith, ints, h.0, h.1))
leaf-held primitive.I8 (int z) h = (Int z, omega (arith, ints, h.0, h.1), refl)
leaf-held primitive.I16 (int z) h = (Int z, omega (arith, ints, h.0, h.1), refl)
leaf-held primitive.I32 (int z) h = (Int z, omega (arith, ints, h.0, h.1), refl)
leaf-held primitive.I64 (int z) h = (Int z, omega (arith, ints, h.0, h.1), refl)
leaf-held primitive.U8 (int (pos n)) h = (Nat n, omega (arith, ints, h.0, h.1), refl)
leaf-held primitive.U16 (int (pos n)) h = (Nat n, omega (arith, ints, h.0, h.1), refl)
leaf-held primitive.U32 (int (pos n)) h = (Nat n, omega (arith, ints, h.0, h.1), refl)
leaf-held primitive.U64 (int (pos n)) h = (Nat n, omega (arith, ints, h.0, h.1), refl)
leaf-held primitive.U8 (int (negsuc n)) h = absurd (omega (arith, ints, h.0, h.1))
leaf-held primitive.U16 (int (negsuc n)) h = absurd (omega (arith, ints, h.0, h.1))
leaf-held primitive.U32 (int (negsuc n)) h = absurd (omega (arith, ints, h.0, h.1))
leaf-held primitive.U64 (int (negsuc n)) h = absurd (omega (arith, ints, h.0, h.1))
leaf-held p v h = absurd h

pub leaves-held : (p : Primitive) (vs : List Value) → AllByRecursion (Has (leaf p)) vs
    → AllByRecursion (IsHeld (kind_of p)) (map number_of vs)
leaves-held p [] h = tt
leaves-held p (v ∷ vs) h = (leaf-held p v h.0, leaves-held p vs h.1)

-- the value of a number of a primitive
abbrev value_of : Primitive → ℤ → Value
value_of primitive.Bool z = truth (is_nonzero z)
value_of p z = int z

element-value : (big : Bool) (p : Primitive) (b : List ℕ) (i : ℕ) (z : ℤ)
    → num big (kind_of p) b i ≡ z → element big p b i ≡ value_of p z
element-value big primitive.Bool b i z e = ap (λ y. truth (is_nonzero y)) e
element-value big primitive.I8 b i z e = ap int e
element-value big primitive.I16 b i z e = ap int e
element-value big primitive.I32 b i z e = ap int e
element-value big primitive.I64 b i z e = ap int e
element-value big primitive.U8 b i z e = ap int e
element-value big primitive.U16 b i z e = ap int e
element-value big primitive.U32 b i z e = ap int e
element-value big primitive.U64 b i z e = ap int e

no-bool : (z : ℤ) → (pos 0 ≤ℤ z) × (z ≤ℤ negsuc 0) → ⊥
no-bool z h = omega (arith, ints)

value-back : (p : Primitive) (v : Value) → Has (leaf p) v → value_of p (number_of v) ≡ v
value-back primitive.Bool (truth true) h = refl
value-back primitive.Bool (truth false) h = refl
value-back primitive.Bool (int z) h = absurd (no-bool z h)
value-back p (int z) h = refl
value-back p v h = absurd h

number-at : (p : Primitive) (vs : List Value) (i : ℕ) → AllByRecursion (Has (leaf p)) vs
    → i < length vs → value_of p (get_or (map number_of vs) i (pos 0)) ≡ get_or vs i null
number-at p [] i h l = absurd (omega arith)
number-at p (v ∷ vs) zero h l = value-back p v h.0
number-at p (v ∷ vs) (suc i) h l = number-at p vs i h.1 (omega arith)

pub leaves-node : (key : Option Name) (p : Primitive) (vs : List Value) (c : Container)
    → AllByRecursion (Has (leaf p)) vs → length vs ≤ 1073741824
    → HasLane c key (codes "data") (kind_of p) (map number_of vs)
    → IsRead (form.numpy key p []) c vs
leaves-node key p vs c h small e =
    let zs = map number_of vs in
    let size = length-map vs number_of in
    let needs : length vs * 1 * width (kind_of p) ≡ length zs * width (kind_of p) =
    let one : length vs * 1 ≡ length zs = omega (arith, size) in
    ap (λ n. n * width (kind_of p)) one in
    let bytes = bytes-well c key (codes "data") (kind_of p) _ zs e needs in (
      λ m. both_none (size_break (length vs)) _ (size-well (length vs) small)
          (both_none _ None (both_none _ None bytes refl) refl),
      λ i l. element-value c.big p (bytes_at c key (codes "data")) i _
          (num-read c key (codes "data") (kind_of p) zs i e (leaves-held p vs h)
          (omega (arith, size)))
          ∙ number-at p vs i h l,
    )
