-- The shape that a frame is.
use Rattle.awk_frames.specs.Shape.{Shape, leaves, items, missing}
use Rattle.awk_frames.specs.declared.frame.Frame.{Frame}
use Rattle.awk_frames.specs.declared.frame.Frame.TheOpen.{Frame-F}
use Rattle.awk_frames.specs.declared.frame.Frame.TheFolds.{fold-Frame}

abbrev pub frame_step : Frame-F Shape → Shape
frame_step (Frame-F.Leaf n) = leaves n
frame_step (Frame-F.Items offsets regular below) = items offsets regular below.value
frame_step (Frame-F.Missing index below) = missing index below.value

abbrev pub shape_of : Frame → Shape
shape_of = fold-Frame Shape frame_step
