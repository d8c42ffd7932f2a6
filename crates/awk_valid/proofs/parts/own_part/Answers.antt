-- A node's part is that of its class.
use Rattle.std.proofs.Common.{length, arith, sym, ap, ◌∙◌, subst}
use Rattle.awk_form.specs.FormTree.{forms_from}
use Rattle.awk_form.specs.Lawful.{IsLawful}
use Rattle.awk_form.specs.View.{form_of, forms_of}
use Rattle.awk_form.specs.declared.form.Shape.TheViews.{out-Form}
use Rattle.awk_form.proofs.Types.{count-from}
use Rattle.awk_form.specs.Measures.{inner_shape}
use Rattle.awk_valid.proofs.FormLaws.{form-Empty, form-Numpy, form-Regular, form-List}
use Rattle.awk_valid.proofs.FormLaws.{form-ListOffset, form-Row, form-Indexed, form-IndexedOption}
use Rattle.awk_valid.proofs.FormLaws.{form-ByteMasked, form-BitMasked, form-Unmasked, form-Union}
use Rattle.awk_valid.proofs.WalkLaws.{own-said}
use Rattle.awk_valid.specs.Walked.{given}
use Rattle.awk_valid.proofs.parts.own_part.Goals as goal

pub returns-in-Empty-clause-answer : goal.returns-in-Empty-clause-answer
returns-in-Empty-clause-answer g c =
    own-said
    (form_of c.args.form.now) _ c.args.spot.node c.args.spot.n
    (given c.args.walk.now.reader.now.big c.args.store.now.held)
    c.empty.result (form-Empty c.args.form.now c.in-Empty.is)
    (c.empty.ensures.answer (out-Form c.args.form.now).key (given c.args.walk.now.reader.now.big
    c.args.store.now.held))

pub returns-in-Numpy-clause-answer : goal.returns-in-Numpy-clause-answer
returns-in-Numpy-clause-answer g c =
    own-said
    (form_of c.args.form.now) _ c.args.spot.node c.args.spot.n
    (given c.args.walk.now.reader.now.big c.args.store.now.held)
    c.numbers.result (form-Numpy c.args.form.now c.in-Numpy.prim c.in-Numpy.inner c.in-Numpy.is)
    (c.numbers.ensures.answer c.args.spot.node)

pub returns-in-Numpy-clause-cost : goal.returns-in-Numpy-clause-cost
returns-in-Numpy-clause-cost g c =
    let inner =
    ap (λ f. length (inner_shape f))
    (form-Numpy c.args.form.now c.in-Numpy.prim c.in-Numpy.inner c.in-Numpy.is) in
    omega (arith, inner, c.numbers.ensures.cost)

pub returns-in-Regular-clause-answer : goal.returns-in-Regular-clause-answer
returns-in-Regular-clause-answer g c =
    own-said
    (form_of c.args.form.now) _ c.args.spot.node c.args.spot.n
    (given c.args.walk.now.reader.now.big c.args.store.now.held)
    c.regular.result
    (form-Regular c.args.form.now c.in-Regular.size c.in-Regular.content c.in-Regular.is)
    (c.regular.ensures (out-Form c.args.form.now).key
    (form_of c.in-Regular.content.value) (given c.args.walk.now.reader.now.big
    c.args.store.now.held))

pub returns-in-List-clause-answer : goal.returns-in-List-clause-answer
returns-in-List-clause-answer g c =
    own-said
    (form_of c.args.form.now) _ c.args.spot.node c.args.spot.n
    (given c.args.walk.now.reader.now.big c.args.store.now.held)
    c.list.result
    (form-List c.args.form.now c.in-List.starts c.in-List.stops c.in-List.content c.in-List.is)
    (c.list.ensures.answer (form_of c.in-List.content.value))

pub returns-in-ListOffset-clause-answer : goal.returns-in-ListOffset-clause-answer
returns-in-ListOffset-clause-answer g c =
    own-said
    (form_of c.args.form.now) _ c.args.spot.node c.args.spot.n
    (given c.args.walk.now.reader.now.big c.args.store.now.held)
    c.list_offset.result
    (form-ListOffset c.args.form.now c.in-ListOffset.offsets c.in-ListOffset.content
    c.in-ListOffset.is) (c.list_offset.ensures.answer (form_of c.in-ListOffset.content.value))

pub returns-in-Indexed-clause-answer : goal.returns-in-Indexed-clause-answer
returns-in-Indexed-clause-answer g c =
    own-said
    (form_of c.args.form.now) _ c.args.spot.node c.args.spot.n
    (given c.args.walk.now.reader.now.big c.args.store.now.held)
    c.indexed.result
    (form-Indexed c.args.form.now c.in-Indexed.index c.in-Indexed.content c.in-Indexed.is)
    (c.indexed.ensures.answer (form_of c.in-Indexed.content.value))

pub returns-in-IndexedOption-clause-answer : goal.returns-in-IndexedOption-clause-answer
returns-in-IndexedOption-clause-answer g c =
    own-said
    (form_of c.args.form.now) _ c.args.spot.node c.args.spot.n
    (given c.args.walk.now.reader.now.big c.args.store.now.held)
    c.indexed_option.result
    (form-IndexedOption c.args.form.now c.in-IndexedOption.index c.in-IndexedOption.content
    c.in-IndexedOption.is)
    (c.indexed_option.ensures.answer (form_of c.in-IndexedOption.content.value))

pub returns-in-ByteMasked-clause-answer : goal.returns-in-ByteMasked-clause-answer
returns-in-ByteMasked-clause-answer g c =
    own-said
    (form_of c.args.form.now) _ c.args.spot.node c.args.spot.n
    (given c.args.walk.now.reader.now.big c.args.store.now.held)
    c.byte_masked.result
    (form-ByteMasked c.args.form.now c.in-ByteMasked.valid_when c.in-ByteMasked.content
    c.in-ByteMasked.is) (c.byte_masked.ensures.answer (form_of c.in-ByteMasked.content.value))

pub returns-in-BitMasked-clause-answer : goal.returns-in-BitMasked-clause-answer
returns-in-BitMasked-clause-answer g c =
    own-said
    (form_of c.args.form.now) _ c.args.spot.node c.args.spot.n
    (given c.args.walk.now.reader.now.big c.args.store.now.held)
    c.bit_masked.result
    (form-BitMasked c.args.form.now c.in-BitMasked.valid_when c.in-BitMasked.lsb_order
    c.in-BitMasked.content c.in-BitMasked.is)
    (c.bit_masked.ensures.answer (form_of c.in-BitMasked.content.value))

pub returns-in-Row-clause-answer : goal.returns-in-Row-clause-answer
returns-in-Row-clause-answer g c =
    let fs = forms_of c.in-Row.contents in
    own-said
    (form_of c.args.form.now) _ c.args.spot.node c.args.spot.n
    (given c.args.walk.now.reader.now.big c.args.store.now.held)
    c.row.result (form-Row c.args.form.now c.in-Row.names c.in-Row.contents c.in-Row.is)
    (c.row.ensures (out-Form c.args.form.now).key (forms_from fs)
    (given c.args.walk.now.reader.now.big c.args.store.now.held)
    (count-from fs ∙ sym c.len.ensures))

pub returns-in-Unmasked-clause-answer : goal.returns-in-Unmasked-clause-answer
returns-in-Unmasked-clause-answer g c =
    own-said
    (form_of c.args.form.now) _ c.args.spot.node c.args.spot.n
    (given c.args.walk.now.reader.now.big c.args.store.now.held)
    c.unmasked.result (form-Unmasked c.args.form.now c.in-Unmasked.content c.in-Unmasked.is)
    (c.unmasked.ensures (out-Form c.args.form.now).key
    (form_of c.in-Unmasked.content.value) (given c.args.walk.now.reader.now.big
    c.args.store.now.held))

pub union-requires : goal.union-requires
union-requires g c =
    let fs = forms_of c.in-Union.contents in
    let lawful =
    subst IsLawful
    (form-Union c.args.form.now c.in-Union.index c.in-Union.contents c.in-Union.is)
    c.requires.lawful in
    record { few = omega (arith, lawful.2, count-from fs, c.len-in-Union.ensures) }

pub returns-in-Union-clause-answer : goal.returns-in-Union-clause-answer
returns-in-Union-clause-answer g c =
    let fs = forms_of c.in-Union.contents in
    own-said
    (form_of c.args.form.now) _ c.args.spot.node c.args.spot.n
    (given c.args.walk.now.reader.now.big c.args.store.now.held)
    c.union.result
    (form-Union c.args.form.now c.in-Union.index c.in-Union.contents c.in-Union.is)
    (c.union.ensures.answer (forms_from fs) (count-from fs ∙ sym c.len-in-Union.ensures))
