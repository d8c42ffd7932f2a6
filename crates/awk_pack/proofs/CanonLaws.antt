-- The whole of what is packed.
use Rattle.std.proofs.Common.{◌≡◌, ℕ, List, [], length, Ok, Err, sym, ap, ap₂, ◌∙◌}
use Rattle.std.specs.Prelude.{if◌then◌else◌}
use Rattle.awk_lanes.specs.Column.{Column}
use Rattle.awk_layout.specs.Layout.{Layout}
use Rattle.awk_layout.specs.Typing.{array_type, array_items}
use Rattle.awk_layout.specs.Valid.{len}
use Rattle.awk_form.specs.FormTree.{FormTree}
use Rattle.awk_layout.proofs.ArrayItems.{length-array_items}
use Rattle.awk_pack.specs.Canon.{canon, packed}
use Rattle.awk_pack.specs.Packing.{IsPut}
use Rattle.awk_pack.specs.PackedForm.{packed_form}
use Rattle.awk_pack.specs.declared.packed.PackFault.TheVariants.{Size}

pub canon-packed : (x : Layout) (f : FormTree) (lanes : List Column) (n : ℕ)
    → f ≡ packed_form 0 (array_type x) → IsPut (array_type x) (array_items x) [] lanes → n ≡ len x
    → canon (array_type x) (array_items x) ≡ Ok (record { form = f; length = n; lanes = lanes })
canon-packed x f lanes n form h e =
    let t = array_type x in
    let vs = array_items x in
    ap (λ b. if b then Err Size else Ok (packed t vs)) h.fits
    ∙ ap₂
    (λ (f : FormTree) (cs : List Column). Ok
    (record { form = f; length = length vs; lanes = cs })) (sym form) (sym h.lanes)
    ∙ ap (λ k. Ok (record { form = f; length = k; lanes = lanes })) (length-array_items x ∙ sym e)
