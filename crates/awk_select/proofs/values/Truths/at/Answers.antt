use Rattle.awk_select.proofs.ValueLaws.{byte_in, truth_shown}
use Rattle.awk_select.proofs.values.Truths.at.Goals as goal

pub is_true-requires : goal.is_true-requires
is_true-requires c = byte_in c.args.self.now.bytes.now c.args.i c.requires

pub returns : goal.returns
returns c =
    truth_shown c.args.self.now.bytes.now c.args.i c.is_true.result c.requires c.is_true.ensures
