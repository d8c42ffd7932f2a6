-- Each case of an item, one level down.
use Rattle.std.proofs.Common.{arith, ap, sym, ◌∙◌, inl, inr}
use Rattle.awk_layout.specs.Shown.{shown}
use Rattle.awk_view.proofs.SettledItems.{item-settles}
use Rattle.awk_view.proofs.Ends.{single_end, list_end, end_through}
use Rattle.awk_view.proofs.settling.+end_of.Goals as goal

pub returns-in-Number-clause-end : goal.returns-in-Number-clause-end
returns-in-Number-clause-end g t c =
    elim c.in-Number.is [
      | inl w ↦ single_end c.args.x.now c.args.i c.requires
          (item-settles c.args.x.now c.args.i _ (ap shown (sym w.1) ∙ c.place.ensures.case)
          c.place.ensures.valid c.place.ensures.numbered c.requires)
      | inr w ↦ single_end c.args.x.now c.args.i c.requires
          (item-settles c.args.x.now c.args.i _ (ap shown (sym w.3) ∙ c.place.ensures.case)
          c.place.ensures.valid c.place.ensures.numbered c.requires)
    ]

pub returns-in-Items-clause-end : goal.returns-in-Items-clause-end
returns-in-Items-clause-end g t c =
    list_end c.args.x.now c.in-Items.content.now c.args.i c.in-Items.lo c.in-Items.hi
    c.in-Items.ensures.within
    (item-settles c.args.x.now c.args.i _ c.in-Items.ensures.case c.place.ensures.valid
    c.place.ensures.numbered c.requires)

pub returns-in-Items-clause-cost : goal.returns-in-Items-clause-cost
returns-in-Items-clause-cost g t c =
    let s = item-settles c.args.x.now c.args.i _ c.in-Items.ensures.case c.place.ensures.valid
    c.place.ensures.numbered c.requires in
    omega (arith, s.0, c.in-Items.ensures.cost)

pub returns-in-Through-clause-end : goal.returns-in-Through-clause-end
returns-in-Through-clause-end g t c =
    end_through c.args.x.now c.in-Through.content.now c.args.i c.in-Through.place c.end_of.result
    c.in-Through.ensures.within
    (item-settles c.args.x.now c.args.i _ c.in-Through.ensures.case c.place.ensures.valid
    c.place.ensures.numbered c.requires) c.end_of.ensures.end

pub returns-in-Through-clause-cost : goal.returns-in-Through-clause-cost
returns-in-Through-clause-cost g t c =
    let s = item-settles c.args.x.now c.args.i _ c.in-Through.ensures.case c.place.ensures.valid
    c.place.ensures.numbered c.requires in
    omega (arith, s.0, c.in-Through.ensures.cost, c.end_of.ensures.cost)

pub returns-in-Alternative-clause-end : goal.returns-in-Alternative-clause-end
returns-in-Alternative-clause-end g t c =
    end_through c.args.x.now c.in-Alternative.content.now c.args.i c.in-Alternative.place
    c.end_of-in-Alternative.result c.in-Alternative.ensures.within
    (item-settles c.args.x.now c.args.i _ c.in-Alternative.ensures.case c.place.ensures.valid
    c.place.ensures.numbered c.requires) c.end_of-in-Alternative.ensures.end

pub returns-in-Alternative-clause-cost : goal.returns-in-Alternative-clause-cost
returns-in-Alternative-clause-cost g t c =
    let s = item-settles c.args.x.now c.args.i _ c.in-Alternative.ensures.case c.place.ensures.valid
    c.place.ensures.numbered c.requires in
    omega (arith, s.0, c.in-Alternative.ensures.cost, c.end_of-in-Alternative.ensures.cost)

pub returns-in-Missing-clause-end : goal.returns-in-Missing-clause-end
returns-in-Missing-clause-end g t c =
    item-settles c.args.x.now c.args.i _ c.in-Missing.ensures.case c.place.ensures.valid
    c.place.ensures.numbered c.requires
