use Rattle.std.proofs.Common.{◌≡◌, ap, ap₂, ◌∙◌}
use Rattle.awk_types.specs.Parts.{item_of}
use Rattle.awk_types.specs.Simple.{present}
use Rattle.awk_types.specs.View.{typ_of}
use Rattle.awk_frames.specs.View.{shape_of}
use Rattle.awk_mask_pairs.specs.MaskTypes.{class_of, classed}
use Rattle.awk_mask.proofs.ClassLaws.{classed-leaf, classed-missing, classed-items}
use Rattle.awk_mask.proofs.classes.+classed.Goals as goal

pub returns-in-Leaf : goal.returns-in-Leaf
returns-in-Leaf t c =
    classed-leaf (typ_of c.args.t.now) c.args.shape.now c.in-Leaf.n c.in-Leaf.is

pub returns-in_ok-below-in-Missing : goal.returns-in_ok-below-in-Missing
returns-in_ok-below-in-Missing t c =
    classed-missing (typ_of c.args.t.now) c.args.shape.now c.in-Missing.index
    c.copy-index.result c.in-Missing.below c.in_ok-below-in-Missing.below
    c.in-Missing.is c.copy-index.ensures
    (ap shape_of c.in_ok-below-in-Missing.ensures.ok ∙ c.in_ok-inner-in-Missing.ensures
    ∙ ap (λ f. classed (typ_of c.args.t.now) (shape_of f)) c.deref.ensures)

pub returns-in_ok-below-in-Items : goal.returns-in_ok-below-in-Items
returns-in_ok-below-in-Items t c =
    let typ : typ_of c.item_type.result.now ≡ item_of (present (typ_of c.args.t.now)) =
    c.item_type.ensures ∙ ap item_of c.present_type-lists.ensures in
    classed-items (typ_of c.args.t.now) c.args.shape.now c.in-Items.offsets
    c.copy-offsets.result c.in-Items.regular c.class_of-regular.result
    c.in-Items.below c.in_ok-below-in-Items.below c.in-Items.is c.copy-offsets.ensures
    (c.class_of-regular.ensures ∙ ap class_of c.present_type-lists.ensures)
    (ap shape_of c.in_ok-below-in-Items.ensures.ok ∙ c.in_ok-inner-in-Items.ensures
    ∙ ap₂ (λ u f. classed u (shape_of f)) typ c.deref-in-Items.ensures)
