use Rattle.awk_cast.proofs.level.level_of.Goals as goal

pub returns-in_default : goal.returns-in_default
returns-in_default g c = c.open_level.ensures c.args.to
