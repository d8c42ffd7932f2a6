use Rattle.awk_frames.proofs.NodeLaws.{under_items, under_type, under_size}
use Rattle.awk_frames.specs.View.{shape_of}
use Rattle.awk_frames.proofs.framing.framed.Goals as goal

pub returns-clause-items : goal.returns-clause-items
returns-clause-items g c =
    under_items (shape_of c.args.shape.now) c.args.ends c.node_under.result c.requires.frame
    c.node_under.ensures

pub returns-clause-typ : goal.returns-clause-typ
returns-clause-typ g c =
    under_type (shape_of c.args.shape.now) c.args.ends c.node_under.result c.node_under.ensures

pub returns-clause-size : goal.returns-clause-size
returns-clause-size g c =
    under_size (shape_of c.args.shape.now) c.args.ends c.node_under.result c.requires.frame
    c.node_under.ensures
