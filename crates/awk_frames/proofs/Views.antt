-- The equations of `shape_of`.
use Rattle.std.proofs.Common.{◌≡◌, ℕ, Option, Box, Global, ap, sym, ◌∙◌}
use Rattle.awk_lanes.specs.Column.{Column}
use Rattle.awk_frames.specs.Shape.{Shape, leaves, items, missing}
use Rattle.awk_frames.specs.View.{frame_step, shape_of}
use Rattle.awk_frames.specs.declared.frame.Frame.{Frame, Leaf, Items, Missing}
use Rattle.awk_frames.specs.declared.frame.Frame.TheVariants.{rolls-Leaf, rolls-Items}
use Rattle.awk_frames.specs.declared.frame.Frame.TheVariants.{rolls-Missing}
use Rattle.awk_frames.specs.declared.frame.Frame.TheOpen.{Frame-F}
use Rattle.awk_frames.specs.declared.frame.Frame.TheFolds.{fold-roll-Frame}

pub shape_of-Leaf : (n : ℕ) → shape_of (Leaf n) ≡ leaves n
shape_of-Leaf n =
    ap shape_of (sym (rolls-Leaf n)) ∙ fold-roll-Frame Shape frame_step (Frame-F.Leaf n)

pub shape_of-Items : (o : Column) (c : Option ℕ) (b : Box Frame Global)
    → shape_of (Items o c b) ≡ items o c (shape_of b.value)
shape_of-Items o c b =
    ap shape_of (sym (rolls-Items o c b))
    ∙ fold-roll-Frame Shape frame_step (Frame-F.Items o c
    (record { ptr = b.ptr; alloc = b.alloc; value = b.value }))

pub shape_of-Missing : (j : Column) (b : Box Frame Global)
    → shape_of (Missing j b) ≡ missing j (shape_of b.value)
shape_of-Missing j b =
    ap shape_of (sym (rolls-Missing j b))
    ∙ fold-roll-Frame Shape frame_step (Frame-F.Missing j
    (record { ptr = b.ptr; alloc = b.alloc; value = b.value }))
