use Rattle.std.proofs.Common.{arith, subst}
use Rattle.serde_json.specs.View.{view}
use Rattle.awk_types.specs.DataType.{leaf}
use Rattle.awk_plain_columns.proofs.SuitedLaws.{suit_of}
use Rattle.awk_plain_columns.specs.Suited.{Suits}
use Rattle.awk_plain_columns.proofs.leaves.LeavesNumbers.number.Goals as goal

pub leaf_number-requires : goal.leaf_number-requires
leaf_number-requires g c =
    let prim = c.args.self.now.prim in
    subst (λ x. Suits (leaf prim) (view x.now)) c.index-self-i.is
    (suit_of (λ v. view v.now) (leaf prim) c.args.self.now.values.now c.args.i
    c.index-self-i.result c.requires.ready (omega (arith, c.requires.within)) c.index-self-i.is)
