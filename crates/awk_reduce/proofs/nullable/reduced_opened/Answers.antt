use Rattle.std.proofs.Common.{subst}
use Rattle.awk_nullable_lists.specs.Nullable.{IsNullable}
use Rattle.awk_reduce.proofs.nullable.reduced_opened.Goals as goal

pub reduced_each-requires-clause-leaves : goal.reduced_each-requires-clause-leaves
reduced_each-requires-clause-leaves g c =
    subst (IsNullable c.args.bounds.now.content) c.in-Indexed.is c.requires.leaves

pub reduced_each-requires-in-Narrow-clause-leaves :
    goal.reduced_each-requires-in-Narrow-clause-leaves
reduced_each-requires-in-Narrow-clause-leaves g c =
    subst (IsNullable c.args.bounds.now.content) c.in-Narrow.is c.requires.leaves

pub reduced_each-requires-in-Bytes-clause-leaves : goal.reduced_each-requires-in-Bytes-clause-leaves
reduced_each-requires-in-Bytes-clause-leaves g c =
    subst (IsNullable c.args.bounds.now.content) c.in-Bytes.is c.requires.leaves

pub reduced_in-requires-clause-leaves : goal.reduced_in-requires-clause-leaves
reduced_in-requires-clause-leaves g c =
    subst (IsNullable c.args.bounds.now.content) c.in-Bits.is c.requires.leaves

pub reduced_in-requires-in-Unmasked-clause-leaves :
    goal.reduced_in-requires-in-Unmasked-clause-leaves
reduced_in-requires-in-Unmasked-clause-leaves g c =
    subst (IsNullable c.args.bounds.now.content) c.in-Unmasked.is c.requires.leaves
