use Rattle.std.proofs.Common.{◌≡◌, length, Option, Some, None, Ok, ap, sym, ◌∙◌}
use Rattle.std.specs.Prelude.{ℕ, ℤ}
use Rattle.std.specs.Int.{w64}
use Rattle.std.proofs.lemmas.Int.{to_z-of_z}
use Rattle.awk_layout.specs.Layout.{Layout}
use Rattle.awk_layout.specs.Typing.{array_type, array_items}
use Rattle.awk_layout.specs.Valid.{len}
use Rattle.awk_layout.proofs.ArrayItems.{length-array_items}
use Rattle.awk_select.specs.Picks.{settled_at}
use Rattle.awk_select.specs.Places.{place_in}
use Rattle.awk_select.proofs.place.item_of.Goals as goal

place-is : (x : Layout) (i : ℤ) (n : ℕ) (o p : Option ℕ) → n ≡ len x → o ≡ place_in n i → o ≡ p
    → settled_at (array_type x) (array_items x) (place_in (length (array_items x)) i)
    ≡ settled_at (array_type x) (array_items x) p
place-is x i n o p e h s =
    ap (settled_at (array_type x) (array_items x))
    (ap (λ m. place_in m i) (length-array_items x ∙ sym e) ∙ sym h ∙ s)

pub returns-in_ok-item_at-in-Some-clause-answer : goal.returns-in_ok-item_at-in-Some-clause-answer
returns-in_ok-item_at-in-Some-clause-answer g c =
    place-is c.args.x.now c.args.i c.len.result c.place_in.result (Some c.in-Some.k)
    c.len.ensures.len (c.place_in.ensures ∙ ap (place_in c.len.result)
    (to_z-of_z w64 c.args.i c.ranges.i)) c.in-Some.is
    ∙ ap Ok (sym c.in_ok-item_at-in-Some.ensures.settled)

pub returns-in-None-clause-answer : goal.returns-in-None-clause-answer
returns-in-None-clause-answer g c =
    place-is c.args.x.now c.args.i c.len.result c.place_in.result None c.len.ensures.len
    (c.place_in.ensures ∙ ap (place_in c.len.result) (to_z-of_z w64 c.args.i c.ranges.i))
    c.in-None.is
