use Rattle.std.proofs.Common.{codes, refl, arith, ap, ◌∙◌}
use Rattle.std.proofs.lemmas.Option.{get_or_from_slice_get}
use Rattle.awk_types.specs.View.{typ_of, typs_of, field_of, fields_of}
use Rattle.awk_types.specs.declared.typ.Typ.TheViews.{out-Field}
use Rattle.awk_json.proofs.Joins.{stops_at, goes_to, puts_same}
use Rattle.awk_text.specs.TypeText.{type_text, size_text, option_opening, name_text}
use Rattle.awk_text.specs.TypeText.{named_type_text}
use Rattle.awk_text.proofs.Places.{places_first, places_next, places_stop, places_stop_in}
use Rattle.awk_text.proofs.Places.{places_last}
use Rattle.awk_text.proofs.TypeTexts.{type_at, field_at, enclosed_types, enclosed_fields, said_var}
use Rattle.awk_text.proofs.TypeTexts.{said_reg, said_opt, said_field}
use Rattle.awk_text.proofs.typ.+typ.Goals as goal

-- ---- a type

pub write_typ-returns-in_err-put-in-Var-clause-bytes :
    goal.write_typ-returns-in_err-put-in-Var-clause-bytes
write_typ-returns-in_err-put-in-Var-clause-bytes g t c =
    puts_same _ (said_var c.args.typ.now c.in-Var.item _ c.in-Var.is refl)
    (stops_at _ (codes "var * ") _ c.in_err-put-in-Var.ensures.bytes (grind arith))

pub write_typ-returns-in_ok-put-in-Var-clause-bytes :
    goal.write_typ-returns-in_ok-put-in-Var-clause-bytes
write_typ-returns-in_ok-put-in-Var-clause-bytes g t c =
    puts_same _ (said_var c.args.typ.now c.in-Var.item _ c.in-Var.is c.deref.ensures)
    (goes_to _ (codes "var * ") _ c.in_ok-put-in-Var.ensures.bytes c.write_typ.ensures.bytes)

pub write_typ-returns-in_err-write_size-in-Reg-clause-bytes :
    goal.write_typ-returns-in_err-write_size-in-Reg-clause-bytes
write_typ-returns-in_err-write_size-in-Reg-clause-bytes g t c =
    puts_same _ (said_reg c.args.typ.now c.in-Reg.size c.in-Reg.item _ c.in-Reg.is refl)
    (stops_at _ (size_text c.in-Reg.size) _ c.in_err-write_size-in-Reg.ensures.bytes
    (grind arith))

pub write_typ-returns-in_ok-write_size-in-Reg-clause-bytes :
    goal.write_typ-returns-in_ok-write_size-in-Reg-clause-bytes
write_typ-returns-in_ok-write_size-in-Reg-clause-bytes g t c =
    puts_same _
    (said_reg c.args.typ.now c.in-Reg.size c.in-Reg.item _ c.in-Reg.is c.deref-in-Reg.ensures)
    (goes_to _ (size_text c.in-Reg.size) _ c.in_ok-write_size-in-Reg.ensures.bytes
    c.write_typ-in-Reg.ensures.bytes)

pub write_typ-returns-in_err-put-in-Opt-clause-bytes :
    goal.write_typ-returns-in_err-put-in-Opt-clause-bytes
write_typ-returns-in_err-put-in-Opt-clause-bytes g t c =
    puts_same _
    (said_opt c.args.typ.now c.in-Opt.item _ _ _ c.in-Opt.is c.deref-in-Opt.ensures refl refl)
    (stops_at _ (option_opening (typ_of c.deref-in-Opt.result.now)) _
    (rw c.option_opening.ensures at c.in_err-put-in-Opt.ensures.bytes) (grind arith))

pub write_typ-returns-in_err-write_typ-in-Opt-clause-bytes :
    goal.write_typ-returns-in_err-write_typ-in-Opt-clause-bytes
write_typ-returns-in_err-write_typ-in-Opt-clause-bytes g t c =
    puts_same _
    (said_opt c.args.typ.now c.in-Opt.item _ _ _ c.in-Opt.is c.deref-in-Opt.ensures
    c.deref-in-Opt-2.ensures refl)
    (goes_to _ (option_opening (typ_of c.deref-in-Opt.result.now)) _
    (rw c.option_opening.ensures at c.in_ok-put-in-Opt.ensures.bytes)
    (stops_at _ (type_text (typ_of c.deref-in-Opt-2.result.now)) _
    c.in_err-write_typ-in-Opt.ensures.bytes (grind arith)))

pub write_typ-returns-in_ok-write_typ-in-Opt-clause-bytes :
    goal.write_typ-returns-in_ok-write_typ-in-Opt-clause-bytes
write_typ-returns-in_ok-write_typ-in-Opt-clause-bytes g t c =
    puts_same _
    (said_opt c.args.typ.now c.in-Opt.item _ _ _ c.in-Opt.is c.deref-in-Opt.ensures
    c.deref-in-Opt-2.ensures c.deref-in-Opt-3.ensures)
    (goes_to _ (option_opening (typ_of c.deref-in-Opt.result.now)) _
    (rw c.option_opening.ensures at c.in_ok-put-in-Opt.ensures.bytes)
    (goes_to _ (type_text (typ_of c.deref-in-Opt-2.result.now)) _
    c.in_ok-write_typ-in-Opt.ensures.bytes
    (rw c.option_close.ensures at c.put-in-Opt-2.ensures.bytes)))

-- ---- types

pub write_types-loop-k-init : goal.write_types-loop-k-init
write_types-loop-k-init g t c =
    let ts = typs_of c.args.types.now in
    record {
      places = places_first _ _ c.args.opening.now (type_at ts) 0 _ c.args.close.now
          (enclosed_types c.args.opening.now ts c.args.close.now) c.in_ok-put.ensures.bytes;
      flushes = grind arith;
      later = omega (arith, c.in_ok-put.ensures.cause.later);
    }

pub write_types-returns-in_err-write_separator-clause-bytes :
    goal.write_types-returns-in_err-write_separator-clause-bytes
write_types-returns-in_err-write_separator-clause-bytes g t c =
    places_stop (type_at (typs_of c.args.types.now)) 0 c.loop-k.k _ c.loop-k.invariant.places
    (omega arith) c.in_err-write_separator.ensures.bytes (grind arith)

pub write_types-returns-in_err-write_typ-clause-bytes :
    goal.write_types-returns-in_err-write_typ-clause-bytes
write_types-returns-in_err-write_typ-clause-bytes g t c =
    let ts = typs_of c.args.types.now in
    let read =
    ap type_text
    (get_or_from_slice_get ts c.loop-k.k (typ_of c.get.result.now) _ c.get.ensures.item) in
    places_stop_in (type_at ts) 0 c.loop-k.k _ _ c.loop-k.invariant.places (omega arith) read
    c.in_ok-write_separator.ensures.bytes c.in_err-write_typ.ensures.bytes (grind arith)

pub write_types-loop-k-preserved : goal.write_types-loop-k-preserved
write_types-loop-k-preserved g t c =
    let v = c.loop-k.invariant in
    let ts = typs_of c.args.types.now in
    let read =
    ap type_text
    (get_or_from_slice_get ts c.loop-k.k (typ_of c.get.result.now) _ c.get.ensures.item) in
    record {
      places = places_next (type_at ts) 0 c.loop-k.k _ _ v.places (omega arith) (omega arith) read
          c.in_ok-write_separator.ensures.bytes c.in_ok-write_typ.ensures.bytes;
      flushes = c.write_typ.ensures.flushes ∙ c.write_separator.ensures.flushes ∙ v.flushes;
      later =
          omega (
            arith,
            v.later,
            c.write_separator.ensures.cause.later,
            c.write_typ.ensures.cause.later,
          );
    }

pub write_types-returns-clause-bytes : goal.write_types-returns-clause-bytes
write_types-returns-clause-bytes g t c =
    places_last (type_at (typs_of c.args.types.now)) 0 c.loop-k.k _ c.loop-k.invariant.places
    (omega arith) c.put-2.ensures.bytes

-- ---- fields

pub write_fields-returns-in_err-put-clause-bytes : goal.write_fields-returns-in_err-put-clause-bytes
write_fields-returns-in_err-put-clause-bytes g t c =
    stops_at _ (codes "{") _ c.in_err-put.ensures.bytes (grind arith)

pub write_fields-loop-k-init : goal.write_fields-loop-k-init
write_fields-loop-k-init g t c =
    let fields = fields_of c.args.fields.now in
    record {
      places = places_first _ _ (codes "{") (field_at fields) 0 _ (codes "}")
          (enclosed_fields (codes "{") fields (codes "}")) c.in_ok-put.ensures.bytes;
      flushes = grind arith;
      later = omega (arith, c.in_ok-put.ensures.cause.later);
    }

pub write_fields-returns-in_err-write_separator-clause-bytes :
    goal.write_fields-returns-in_err-write_separator-clause-bytes
write_fields-returns-in_err-write_separator-clause-bytes g t c =
    places_stop (field_at (fields_of c.args.fields.now)) 0 c.loop-k.k _ c.loop-k.invariant.places
    (omega arith) c.in_err-write_separator.ensures.bytes (grind arith)

pub write_fields-returns-in_err-write_field_type-clause-bytes :
    goal.write_fields-returns-in_err-write_field_type-clause-bytes
write_fields-returns-in_err-write_field_type-clause-bytes g t c =
    let fields = fields_of c.args.fields.now in
    let read =
    ap named_type_text
    (get_or_from_slice_get fields c.loop-k.k (field_of c.get.result.now) _
    c.get.ensures.item) in
    places_stop_in (field_at fields) 0 c.loop-k.k _ _ c.loop-k.invariant.places (omega arith) read
    c.in_ok-write_separator.ensures.bytes c.in_err-write_field_type.ensures.bytes (grind arith)

pub write_fields-loop-k-preserved : goal.write_fields-loop-k-preserved
write_fields-loop-k-preserved g t c =
    let v = c.loop-k.invariant in
    let fields = fields_of c.args.fields.now in
    let read =
    ap named_type_text
    (get_or_from_slice_get fields c.loop-k.k (field_of c.get.result.now) _
    c.get.ensures.item) in
    record {
      places = places_next (field_at fields) 0 c.loop-k.k _ _ v.places (omega arith) (omega arith)
          read c.in_ok-write_separator.ensures.bytes c.in_ok-write_field_type.ensures.bytes;
      flushes = c.write_field_type.ensures.flushes ∙ c.write_separator.ensures.flushes ∙ v.flushes;
      later =
          omega (
            arith,
            v.later,
            c.write_separator.ensures.cause.later,
            c.write_field_type.ensures.cause.later,
          );
    }

pub write_fields-returns-clause-bytes : goal.write_fields-returns-clause-bytes
write_fields-returns-clause-bytes g t c =
    places_last (field_at (fields_of c.args.fields.now)) 0 c.loop-k.k _ c.loop-k.invariant.places
    (omega arith) c.put-2.ensures.bytes

-- ---- a field

pub write_field_type-returns-in_err-write_field_name-clause-bytes :
    goal.write_field_type-returns-in_err-write_field_name-clause-bytes
write_field_type-returns-in_err-write_field_name-clause-bytes g t c =
    puts_same _ (said_field c.args.field.now)
    (stops_at _ (name_text (out-Field c.args.field.now).name) _
    c.in_err-write_field_name.ensures.bytes (grind arith))

pub write_field_type-returns-in_err-put-clause-bytes :
    goal.write_field_type-returns-in_err-put-clause-bytes
write_field_type-returns-in_err-put-clause-bytes g t c =
    puts_same _ (said_field c.args.field.now)
    (goes_to _ (name_text (out-Field c.args.field.now).name) _
    c.in_ok-write_field_name.ensures.bytes
    (stops_at _ (codes ": ") _ c.in_err-put.ensures.bytes (grind arith)))

pub write_field_type-returns-clause-bytes : goal.write_field_type-returns-clause-bytes
write_field_type-returns-clause-bytes g t c =
    puts_same _ (said_field c.args.field.now)
    (goes_to _ (name_text (out-Field c.args.field.now).name) _
    c.in_ok-write_field_name.ensures.bytes
    (goes_to _ (codes ": ") _ c.in_ok-put.ensures.bytes c.write_typ.ensures.bytes))
