-- What a `Packed` is seen as.
use Rattle.awk_form.specs.View.{form_of}
use Rattle.awk_pack.specs.Canon.{Pack}
use Rattle.awk_pack.specs.declared.packed.Packed.{Packed}

abbrev pub packed_of : Packed → Pack
packed_of p = record { form = form_of p.form; length = p.length; lanes = p.lanes }
