-- The form that a `Form` is.
use Rattle.std.specs.Prelude.{◌<◌, List, Option}
use Rattle.awk_types.specs.DataType.{Name}
use Rattle.awk_form.specs.FormTree.{FormTree, empty, numpy, regular, list, list_offset, row}
use Rattle.awk_form.specs.FormTree.{indexed, indexed_option, byte_masked, bit_masked, unmasked}
use Rattle.awk_form.specs.FormTree.{union, forms_from}
use Rattle.awk_form.specs.declared.form.Form.{Form, size-Form}
use Rattle.awk_form.specs.declared.form.Forms.{Forms, size-Forms}
use Rattle.awk_form.specs.declared.form.Shape.{Shape}
use Rattle.awk_form.specs.declared.form.Shape.TheOpen.{Form-F, Shape-F, Forms-F}
use Rattle.awk_form.specs.declared.form.Shape.TheFolds.{fold-Form, fold-Shape, fold-Forms}

-- a shape is a form once its key is known
abbrev pub Keyed : Type 0
Keyed = Option Name → FormTree

abbrev pub form_step : Form-F Keyed FormTree (List FormTree) → FormTree
form_step f = f.shape f.key

abbrev pub shape_step : Shape-F Keyed FormTree (List FormTree) → Keyed
shape_step Shape-F.Empty key = empty key
shape_step (Shape-F.Numpy prim inner) key = numpy key prim inner
shape_step (Shape-F.Regular size content) key = regular key size content.value
shape_step (Shape-F.List starts stops content) key = list key starts stops content.value
shape_step (Shape-F.ListOffset offsets content) key = list_offset key offsets content.value
shape_step (Shape-F.Row names contents) key = row key names (forms_from contents)
shape_step (Shape-F.Indexed index content) key = indexed key index content.value
shape_step (Shape-F.IndexedOption index content) key = indexed_option key index content.value
shape_step (Shape-F.ByteMasked valid_when content) key = byte_masked key valid_when content.value
shape_step (Shape-F.BitMasked valid_when lsb_order content) key =
    bit_masked key valid_when lsb_order content.value
shape_step (Shape-F.Unmasked content) key = unmasked key content.value
shape_step (Shape-F.Union index contents) key = union key index (forms_from contents)

abbrev pub forms_step : Forms-F Keyed FormTree (List FormTree) → List FormTree
forms_step f = f.items.items

abbrev pub form_of : Form → FormTree
form_of = fold-Form Keyed FormTree (List FormTree) shape_step form_step forms_step

abbrev pub forms_of : Forms → List FormTree
forms_of = fold-Forms Keyed FormTree (List FormTree) shape_step form_step forms_step

-- a form that `get` hands out is smaller than the list: a recursion may go into it
abbrev pub Below : Form → Forms → Type 0
Below f fs = size-Form f < size-Forms fs

abbrev pub keyed : Shape → Keyed
keyed = fold-Shape Keyed FormTree (List FormTree) shape_step form_step forms_step
