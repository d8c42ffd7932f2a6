use Rattle.std.proofs.Common.{◌++◌, ◌+◌, ◌*◌, ◌≤◌, codes, refl, ap, sym, ◌∙◌, arith, length}
use Rattle.std.proofs.Common.{length-append, get_or, rules}
use Rattle.std.proofs.lemmas.Option.{get_or_from_slice_get}
use Rattle.awk_json.proofs.Joins.{stops_at, goes_to, puts_same}
use Rattle.awk_json.specs.Text.{comma_joined}
use Rattle.awk_layout.specs.Layout.{height, heights, layouts_from, empty}
use Rattle.awk_layout.specs.Contents.{height-get, AllReach-get}
use Rattle.awk_layout.specs.Induction.{height-some}
use Rattle.awk_layout.specs.Place.{span, through, alternative}
use Rattle.awk_text.specs.LayoutText.{layout_text, span_text, row_text, member_text, field_text}
use Rattle.awk_text.specs.LayoutText.{names_shown}
use Rattle.awk_text.proofs.ArrayTexts.{item_some}
use Rattle.awk_text.proofs.Cases.{item_text-case, item_text-row, row_text-places, row_named}
use Rattle.awk_text.proofs.Costs.{leaf_cost, flat_cost, deeper_text}
use Rattle.awk_text.proofs.Places.{texts_from, places_first, places_next, places_stop}
use Rattle.awk_text.proofs.Places.{places_stop_in, places_last, paid_start, paid_place}
use Rattle.awk_text.proofs.value.+value.Goals as goal

-- ---- lists

pub write_list-returns-in_err-put-clause-bytes : goal.write_list-returns-in_err-put-clause-bytes
write_list-returns-in_err-put-clause-bytes g t c =
    let texts = texts_from (layout_text c.args.content.now) c.args.lo c.args.hi in
    stops_at _ (codes "[") (comma_joined texts ++ codes "]") c.in_err-put.ensures.bytes
    (grind arith)

pub write_list-loop-j-init : goal.write_list-loop-j-init
write_list-loop-j-init g t c =
    let f = layout_text c.args.content.now in
    record {
      places = places_first _ _ (codes "[") f c.args.lo c.args.hi (codes "]") refl
          c.in_ok-put.ensures.bytes;
      flushes = grind arith;
      later = omega (arith, c.in_ok-put.ensures.cause.later);
      cost = paid_start (2 * height c.args.content.now) c.args.steps.now _ (codes "[") f c.args.lo
          c.args.hi (codes "]") refl;
    }

pub write_list-returns-in_err-write_comma-clause-bytes :
    goal.write_list-returns-in_err-write_comma-clause-bytes
write_list-returns-in_err-write_comma-clause-bytes g t c =
    places_stop (layout_text c.args.content.now) c.args.lo c.loop-j.j c.args.hi
    c.loop-j.invariant.places (omega arith)
    c.in_err-write_comma.ensures.bytes (grind arith)

pub write_list-returns-in_err-write_comma-clause-cost :
    goal.write_list-returns-in_err-write_comma-clause-cost
write_list-returns-in_err-write_comma-clause-cost g t c =
    omega (arith, c.loop-j.invariant.cost.within)

pub write_list-returns-in_err-write_node-clause-bytes :
    goal.write_list-returns-in_err-write_node-clause-bytes
write_list-returns-in_err-write_node-clause-bytes g t c =
    places_stop_in (layout_text c.args.content.now) c.args.lo c.loop-j.j c.args.hi _
    c.loop-j.invariant.places (omega arith) refl
    c.in_ok-write_comma.ensures.bytes c.in_err-write_node.ensures.bytes (grind arith)

pub write_list-returns-in_err-write_node-clause-cost :
    goal.write_list-returns-in_err-write_node-clause-cost
write_list-returns-in_err-write_node-clause-cost g t c =
    let h = height c.args.content.now in
    let f = layout_text c.args.content.now in
    let at = c.loop-j.j in
    let paid = paid_place (2 * h) (2 * h) (length (f at)) _ _ c.write_node.new.steps f c.args.lo at
    c.args.hi (codes "]") _ c.loop-j.invariant.cost
    (omega arith) (omega arith) (omega (arith, c.in_err-write_node.ensures.cost)) (omega arith)
    (omega arith) in
    omega (arith, paid.within)

pub write_list-loop-j-preserved : goal.write_list-loop-j-preserved
write_list-loop-j-preserved g t c =
    let v = c.loop-j.invariant in
    let at = c.loop-j.j in
    let f = layout_text c.args.content.now in
    let h = height c.args.content.now in
    record {
      places = places_next f c.args.lo at c.args.hi (f at) v.places (omega arith) (omega arith) refl
          c.in_ok-write_comma.ensures.bytes c.in_ok-write_node.ensures.bytes;
      flushes = c.write_node.ensures.flushes ∙ c.write_comma.ensures.flushes ∙ v.flushes;
      later =
          omega (
            arith,
            v.later,
            c.write_comma.ensures.cause.later,
            c.write_node.ensures.cause.later,
          );
      cost = paid_place (2 * h) (2 * h) (length (f at)) _ _ _ f c.args.lo at c.args.hi (codes "]") _
          v.cost (omega arith) (omega arith) (omega (arith, c.in_ok-write_node.ensures.cost))
          (omega arith) (omega arith);
    }

pub write_list-returns-clause-bytes : goal.write_list-returns-clause-bytes
write_list-returns-clause-bytes g t c =
    places_last (layout_text c.args.content.now) c.args.lo c.loop-j.j c.args.hi
    c.loop-j.invariant.places (omega arith) c.put-2.ensures.bytes

pub write_list-returns-clause-cost : goal.write_list-returns-clause-cost
write_list-returns-clause-cost g t c = omega (arith, c.loop-j.invariant.cost.within)

pub write_list-returns-in-Numpy-clause-bytes : goal.write_list-returns-in-Numpy-clause-bytes
write_list-returns-in-Numpy-clause-bytes g t c =
    puts_same _ (ap (λ y. span_text y c.args.lo c.args.hi) (sym c.in-Numpy.ensures.class))
    c.write_numbers.ensures.bytes

pub write_list-returns-in-Numpy-clause-cost : goal.write_list-returns-in-Numpy-clause-cost
write_list-returns-in-Numpy-clause-cost g t c =
    let x = c.args.content.now in
    let same = ap (λ y. length (span_text y c.args.lo c.args.hi)) (sym c.in-Numpy.ensures.class) in
    flat_cost _ _ (height x) (length (span_text x c.args.lo c.args.hi)) (height-some x)
    (omega (arith, same, c.write_numbers.ensures.cost))

-- ---- nodes

pub write_node-write_row-requires : goal.write_node-write_row-requires
write_node-write_row-requires g t c κs within =
    let inside = c.in-Row.ensures.within in
    let named = row_named c.args.x.now c.args.i (names_shown c.in-Row.names) c.in-Row.contents.now
    c.in-Row.place c.in-Row.ensures.valid c.in-Row.ensures.case in (
      omega (arith, inside.1, c.decreases),
      (within.0, (within.1, (search rules, (named, inside.0)))),
    )

pub write_node-returns-in-Number-clause-cost : goal.write_node-returns-in-Number-clause-cost
write_node-returns-in-Number-clause-cost g t c =
    let x = c.args.x.now in
    leaf_cost _ _ (height x) (length (layout_text x c.args.i)) c.in-Number.ensures.cost
    (height-some x)
    (item_some x c.args.i c.in-Number.ensures.valid c.in-Number.ensures.numbered
    c.requires.within)

pub write_node-returns-in-Items-clause-bytes : goal.write_node-returns-in-Items-clause-bytes
write_node-returns-in-Items-clause-bytes g t c =
    let x = c.args.x.now in
    let y = c.in-Items.content.now in
    let same = item_text-case x c.args.i (span y c.in-Items.lo c.in-Items.hi)
    c.in-Items.ensures.valid c.in-Items.ensures.numbered c.requires.within
    c.in-Items.ensures.case in
    puts_same _ same c.write_list.ensures.bytes

pub write_node-returns-in-Items-clause-cost : goal.write_node-returns-in-Items-clause-cost
write_node-returns-in-Items-clause-cost g t c =
    let x = c.args.x.now in
    let y = c.in-Items.content.now in
    let same = item_text-case x c.args.i (span y c.in-Items.lo c.in-Items.hi)
    c.in-Items.ensures.valid c.in-Items.ensures.numbered c.requires.within
    c.in-Items.ensures.case in
    deeper_text _ _ _ (height y) (height x) (layout_text x c.args.i)
    (span_text y c.in-Items.lo c.in-Items.hi) same c.in-Items.ensures.cost
    c.write_list.ensures.cost (c.in-Items.ensures.within.2)
    (item_some x c.args.i c.in-Items.ensures.valid c.in-Items.ensures.numbered
    c.requires.within)

pub write_node-returns-in-Row-clause-bytes : goal.write_node-returns-in-Row-clause-bytes
write_node-returns-in-Row-clause-bytes g t c =
    let x = c.args.x.now in
    let names = names_shown c.in-Row.names in
    let ys = c.in-Row.contents.now in
    let same = item_text-row x c.args.i names ys c.in-Row.place c.in-Row.ensures.valid
    c.in-Row.ensures.numbered c.requires.within c.in-Row.ensures.case in
    puts_same _ same c.write_row.ensures.bytes

pub write_node-returns-in-Row-clause-cost : goal.write_node-returns-in-Row-clause-cost
write_node-returns-in-Row-clause-cost g t c =
    let x = c.args.x.now in
    let names = names_shown c.in-Row.names in
    let ys = c.in-Row.contents.now in
    let same = item_text-row x c.args.i names ys c.in-Row.place c.in-Row.ensures.valid
    c.in-Row.ensures.numbered c.requires.within c.in-Row.ensures.case in
    deeper_text _ _ _ (heights (layouts_from ys)) (height x) (layout_text x c.args.i)
    (row_text names ys c.in-Row.place) same c.in-Row.ensures.cost c.write_row.ensures.cost
    (c.in-Row.ensures.within.1)
    (item_some x c.args.i c.in-Row.ensures.valid c.in-Row.ensures.numbered c.requires.within)

pub write_node-returns-in-Through-clause-bytes : goal.write_node-returns-in-Through-clause-bytes
write_node-returns-in-Through-clause-bytes g t c =
    let x = c.args.x.now in
    let y = c.in-Through.content.now in
    let same = item_text-case x c.args.i (through y c.in-Through.place) c.in-Through.ensures.valid
    c.in-Through.ensures.numbered c.requires.within c.in-Through.ensures.case in
    puts_same _ same c.write_node.ensures.bytes

pub write_node-returns-in-Through-clause-cost : goal.write_node-returns-in-Through-clause-cost
write_node-returns-in-Through-clause-cost g t c =
    let x = c.args.x.now in
    let y = c.in-Through.content.now in
    let same = item_text-case x c.args.i (through y c.in-Through.place) c.in-Through.ensures.valid
    c.in-Through.ensures.numbered c.requires.within c.in-Through.ensures.case in
    deeper_text _ _ _ (height y) (height x) (layout_text x c.args.i)
    (layout_text y c.in-Through.place) same c.in-Through.ensures.cost c.write_node.ensures.cost
    (c.in-Through.ensures.within.1)
    (item_some x c.args.i c.in-Through.ensures.valid c.in-Through.ensures.numbered
    c.requires.within)

pub write_node-returns-in-Alternative-clause-bytes :
    goal.write_node-returns-in-Alternative-clause-bytes
write_node-returns-in-Alternative-clause-bytes g t c =
    let x = c.args.x.now in
    let y = c.in-Alternative.content.now in
    let same = item_text-case x c.args.i (alternative _ y c.in-Alternative.place)
    c.in-Alternative.ensures.valid c.in-Alternative.ensures.numbered c.requires.within
    c.in-Alternative.ensures.case in
    puts_same _ same c.write_node-in-Alternative.ensures.bytes

pub write_node-returns-in-Alternative-clause-cost :
    goal.write_node-returns-in-Alternative-clause-cost
write_node-returns-in-Alternative-clause-cost g t c =
    let x = c.args.x.now in
    let y = c.in-Alternative.content.now in
    let same = item_text-case x c.args.i (alternative _ y c.in-Alternative.place)
    c.in-Alternative.ensures.valid c.in-Alternative.ensures.numbered c.requires.within
    c.in-Alternative.ensures.case in
    deeper_text _ _ _ (height y) (height x) (layout_text x c.args.i)
    (layout_text y c.in-Alternative.place) same c.in-Alternative.ensures.cost
    c.write_node-in-Alternative.ensures.cost (c.in-Alternative.ensures.within.1)
    (item_some x c.args.i c.in-Alternative.ensures.valid c.in-Alternative.ensures.numbered
    c.requires.within)

-- ---- rows

pub write_row-returns-in_err-put-clause-bytes : goal.write_row-returns-in_err-put-clause-bytes
write_row-returns-in_err-put-clause-bytes g t c =
    let names = names_shown c.args.names in
    let ys = c.args.contents.now in
    let texts = texts_from (member_text names ys c.args.place) 0 (length ys) in
    puts_same _ (row_text-places names ys c.args.place)
    (stops_at _ (codes "{") (comma_joined texts ++ codes "}") c.in_err-put.ensures.bytes
    (grind arith))

pub write_row-loop-k-init : goal.write_row-loop-k-init
write_row-loop-k-init g t c =
    let ys = c.args.contents.now in
    let names = names_shown c.args.names in
    let f = member_text names ys c.args.place in
    let whole = row_text-places names ys c.args.place in
    record {
      places =
          places_first _ _ (codes "{") f 0 (length ys) (codes "}") whole c.in_ok-put.ensures.bytes;
      flushes = grind arith;
      later = omega (arith, c.in_ok-put.ensures.cause.later);
      cost = paid_start (2 * heights (layouts_from ys)) c.args.steps.now _ (codes "{") f 0
          (length ys) (codes "}") whole;
    }

pub write_row-returns-in_err-write_comma-clause-bytes :
    goal.write_row-returns-in_err-write_comma-clause-bytes
write_row-returns-in_err-write_comma-clause-bytes g t c =
    let f = member_text (names_shown c.args.names) c.args.contents.now c.args.place in
    places_stop f 0 c.loop-k.k (length c.args.contents.now) c.loop-k.invariant.places (omega arith)
    c.in_err-write_comma.ensures.bytes (grind arith)

pub write_row-returns-in_err-write_comma-clause-cost :
    goal.write_row-returns-in_err-write_comma-clause-cost
write_row-returns-in_err-write_comma-clause-cost g t c =
    omega (arith, c.loop-k.invariant.cost.within)

pub write_row-returns-in_err-write_field-clause-bytes :
    goal.write_row-returns-in_err-write_field-clause-bytes
write_row-returns-in_err-write_field-clause-bytes g t c =
    let ys = c.args.contents.now in
    let f = member_text (names_shown c.args.names) ys c.args.place in
    let text = layout_text (get_or ys c.loop-k.k empty) c.args.place in
    places_stop_in f 0 c.loop-k.k (length ys) (f c.loop-k.k) c.loop-k.invariant.places (omega arith)
    refl c.in_ok-write_comma.ensures.bytes
    (stops_at _ (field_text (names_shown c.args.names) c.loop-k.k) text
    c.in_err-write_field.ensures.bytes refl) (grind arith)

pub write_row-returns-in_err-write_field-clause-cost :
    goal.write_row-returns-in_err-write_field-clause-cost
write_row-returns-in_err-write_field-clause-cost g t c =
    omega (arith, c.loop-k.invariant.cost.within)

pub write_row-write_node-requires : goal.write_row-write_node-requires
write_row-write_node-requires g t c κs within =
    let ys = c.args.contents.now in
    let lower = height-get ys c.loop-k.k c.get.result.now c.get.ensures in
    let reach = AllReach-get (c.args.place + 1) ys c.loop-k.k c.get.result.now c.get.ensures
    c.requires.within in (
      omega (arith, lower, c.decreases),
      (within.0, (within.1, (search rules, omega (arith, reach)))),
    )

pub write_row-returns-in_err-write_node-clause-bytes :
    goal.write_row-returns-in_err-write_node-clause-bytes
write_row-returns-in_err-write_node-clause-bytes g t c =
    let ys = c.args.contents.now in
    let field = field_text (names_shown c.args.names) c.loop-k.k in
    let f = member_text (names_shown c.args.names) ys c.args.place in
    let text = layout_text c.get.result.now c.args.place in
    let read = ap (λ y. field ++ layout_text y c.args.place)
    (get_or_from_slice_get ys c.loop-k.k c.get.result.now empty c.get.ensures) in
    places_stop_in f 0 c.loop-k.k (length ys) (field ++ text) c.loop-k.invariant.places
    (omega arith) read c.in_ok-write_comma.ensures.bytes
    (goes_to _ field text c.in_ok-write_field.ensures.bytes c.in_err-write_node.ensures.bytes)
    (grind arith)

pub write_row-returns-in_err-write_node-clause-cost :
    goal.write_row-returns-in_err-write_node-clause-cost
write_row-returns-in_err-write_node-clause-cost g t c =
    let ys = c.args.contents.now in
    let at = c.loop-k.k in
    let y = c.get.result.now in
    let field = field_text (names_shown c.args.names) at in
    let f = member_text (names_shown c.args.names) ys c.args.place in
    let text = layout_text y c.args.place in
    let read = ap (λ y. field ++ layout_text y c.args.place)
    (get_or_from_slice_get ys at y empty c.get.ensures) in
    let fits : length text ≤ length (f at) =
    omega (arith, ap length read, length-append field text) in
    let lower : height y ≤ heights (layouts_from ys) = height-get ys at y c.get.ensures in
    let paid = paid_place (2 * heights (layouts_from ys)) (2 * height y) (length text) _ _
    c.write_node.new.steps f 0 at (length ys) (codes "}") _ c.loop-k.invariant.cost
    (omega arith) (omega arith) (omega (arith, c.in_err-write_node.ensures.cost))
    (omega (arith, lower)) fits in
    omega (arith, paid.within)

pub write_row-loop-k-preserved : goal.write_row-loop-k-preserved
write_row-loop-k-preserved g t c =
    let v = c.loop-k.invariant in
    let ys = c.args.contents.now in
    let at = c.loop-k.k in
    let field = field_text (names_shown c.args.names) at in
    let f = member_text (names_shown c.args.names) ys c.args.place in
    let text = layout_text c.get.result.now c.args.place in
    let read = ap (λ y. field ++ layout_text y c.args.place)
    (get_or_from_slice_get ys at c.get.result.now empty c.get.ensures) in
    let put =
    goes_to _ field text c.in_ok-write_field.ensures.bytes c.in_ok-write_node.ensures.bytes in
    let fits : length text ≤ length (f at) =
    omega (arith, ap length read, length-append field text) in
    let lower : height c.get.result.now ≤ heights (layouts_from ys) =
    height-get ys at c.get.result.now c.get.ensures in
    record {
      places = places_next f 0 at (length ys) (field ++ text) v.places (omega arith) (omega arith)
          read c.in_ok-write_comma.ensures.bytes put;
      flushes = c.write_node.ensures.flushes ∙ c.write_field.ensures.flushes
          ∙ c.write_comma.ensures.flushes ∙ v.flushes;
      later =
          omega (
            arith,
            v.later,
            c.write_comma.ensures.cause.later,
            c.write_field.ensures.cause.later,
            c.write_node.ensures.cause.later,
          );
      cost = paid_place (2 * heights (layouts_from ys)) (2 * height c.get.result.now) (length text)
          _ _ _ f 0 at (length ys) (codes "}") _ v.cost
          (omega arith) (omega arith) (omega (arith, c.in_ok-write_node.ensures.cost))
          (omega (arith, lower)) fits;
    }

pub write_row-returns-clause-bytes : goal.write_row-returns-clause-bytes
write_row-returns-clause-bytes g t c =
    let f = member_text (names_shown c.args.names) c.args.contents.now c.args.place in
    places_last f 0 c.loop-k.k (length c.args.contents.now) c.loop-k.invariant.places (omega arith)
    c.put-2.ensures.bytes

pub write_row-returns-clause-cost : goal.write_row-returns-clause-cost
write_row-returns-clause-cost g t c = omega (arith, c.loop-k.invariant.cost.within)
