use Rattle.std.proofs.Common.{sym}
use Rattle.awk_types.specs.View.{typ_of}
use Rattle.awk_mask_pairs.proofs.MaskTypes.{masked_by_var, masked_by_reg}
use Rattle.awk_mask_pairs.proofs.mask_types.+masked.Goals as goal

pub masked_type-returns-in-Var : goal.masked_type-returns-in-Var
masked_type-returns-in-Var t c =
    rw (sym (masked_by_var c.args.u.now c.in-Var.inner c.deref.result.now (typ_of c.args.t.now)
    c.in-Var.is c.deref.ensures)) c.with_items.ensures

pub masked_type-returns-in-Reg : goal.masked_type-returns-in-Reg
masked_type-returns-in-Reg t c =
    rw (sym (masked_by_reg c.args.u.now c.in-Reg.field-0 c.in-Reg.inner c.deref-in-Reg.result.now
    (typ_of c.args.t.now) c.in-Reg.is c.deref-in-Reg.ensures)) c.with_items-in-Reg.ensures
