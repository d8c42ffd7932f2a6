-- The types of lists that a mask goes through.
use Rattle.std.specs.Prelude.{◌≡◌, ℕ, List}
use Rattle.std.proofs.Common.{Box, Global, ap, sym, ◌∙◌}
use Rattle.awk_types.specs.DataType.{DataType, var, reg}
use Rattle.awk_types.specs.View.{NamedType, typ_step, field_step, fields_step, typs_step, typ_of}
use Rattle.awk_types.specs.declared.typ.Typ.{Typ, Var, Reg}
use Rattle.awk_types.specs.declared.typ.Typ.TheVariants.{rolls-Var, rolls-Reg}
use Rattle.awk_types.specs.declared.typ.Typ.TheOpen.{Typ-F}
use Rattle.awk_types.specs.declared.typ.Typ.TheFolds.{fold-roll-Typ}
use Rattle.awk_mask_pairs.specs.MaskValues.{masked_type, with_items}

typ_of-Var : (b : Box Typ Global) → typ_of (Var b) ≡ var (typ_of b.value)
typ_of-Var b = ap typ_of (sym (rolls-Var b))
    ∙ fold-roll-Typ DataType NamedType (List NamedType) (List DataType) typ_step field_step
    fields_step typs_step (Typ-F.Var b)

typ_of-Reg : (n : ℕ) (b : Box Typ Global) → typ_of (Reg n b) ≡ reg n (typ_of b.value)
typ_of-Reg n b = ap typ_of (sym (rolls-Reg n b))
    ∙ fold-roll-Typ DataType NamedType (List NamedType) (List DataType) typ_step field_step
    fields_step typs_step (Typ-F.Reg n b)

pub masked_by_var : (u : Typ) (b : Box Typ Global) (v : Typ) (t : DataType) → u ≡ Var b
    → v ≡ b.value → with_items (masked_type (typ_of v)) t ≡ masked_type (typ_of u) t
masked_by_var u b v t is e =
    ap (λ w. with_items (masked_type (typ_of w)) t) e
    ∙ sym (ap (λ w. masked_type (typ_of w) t) is ∙ ap (λ w. masked_type w t) (typ_of-Var b))

pub masked_by_reg : (u : Typ) (n : ℕ) (b : Box Typ Global) (v : Typ) (t : DataType) → u ≡ Reg n b
    → v ≡ b.value → with_items (masked_type (typ_of v)) t ≡ masked_type (typ_of u) t
masked_by_reg u n b v t is e =
    ap (λ w. with_items (masked_type (typ_of w)) t) e
    ∙ sym (ap (λ w. masked_type (typ_of w) t) is ∙ ap (λ w. masked_type w t) (typ_of-Reg n b))
