-- Frames whose lists take the classes of a type.
use Rattle.std.proofs.Common.{◌≡◌, ℕ, Option, Box, Global, ap, ap₂, sym, ◌∙◌}
use Rattle.awk_types.specs.DataType.{DataType}
use Rattle.awk_types.specs.Simple.{present}
use Rattle.awk_lanes.specs.Column.{Column}
use Rattle.awk_frames.specs.Shape.{items, missing}
use Rattle.awk_frames.specs.View.{shape_of}
use Rattle.awk_frames.specs.declared.frame.Frame.{Frame, Leaf, Items, Missing}
use Rattle.awk_frames.proofs.Views.{shape_of-Leaf, shape_of-Items, shape_of-Missing}
use Rattle.awk_types.specs.Parts.{item_of}
use Rattle.awk_mask_pairs.specs.MaskTypes.{class_of, classed}

pub classed-leaf : (t : DataType) (s : Frame) (n : ℕ) → s ≡ Leaf n
    → shape_of (Leaf n) ≡ classed t (shape_of s)
classed-leaf t s n e =
    shape_of-Leaf n ∙ sym (ap (λ w. classed t (shape_of w)) e ∙ ap (classed t) (shape_of-Leaf n))

pub classed-missing : (t : DataType) (s : Frame) (j k : Column) (b r : Box Frame Global)
    → s ≡ Missing j b → k ≡ j → shape_of r.value ≡ classed t (shape_of b.value)
    → shape_of (Missing k r) ≡ classed t (shape_of s)
classed-missing t s j k b r e f h =
    shape_of-Missing k r ∙ ap₂ missing f h
    ∙ sym (ap (λ w. classed t (shape_of w)) e ∙ ap (classed t) (shape_of-Missing j b))

pub classed-items : (t : DataType) (s : Frame) (o p : Column) (c d : Option ℕ)
    (b r : Box Frame Global) → s ≡ Items o c b → p ≡ o → d ≡ class_of (present t)
    → shape_of r.value ≡ classed (item_of (present t)) (shape_of b.value)
    → shape_of (Items p d r) ≡ classed t (shape_of s)
classed-items t s o p c d b r e f g h =
    shape_of-Items p d r
    ∙ ap₂ (λ q k. items q k (shape_of r.value)) f g
    ∙ ap (items o (class_of (present t))) h
    ∙ sym (ap (λ w. classed t (shape_of w)) e ∙ ap (classed t) (shape_of-Items o c b))
