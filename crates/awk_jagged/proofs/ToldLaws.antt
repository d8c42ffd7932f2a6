-- What is told of pairs of lists one by one.
use Rattle.std.specs.Prelude.{◌≡◌, ℕ, ◌+◌, ◌<◌, refl, Bool, true, false, List}
use Rattle.std.proofs.Common.{arith, ap, ap₂, sym, ◌∙◌, subst}
use Rattle.awk_base.proofs.Ranges.{one_more}
use Rattle.awk_types.specs.DataType.{DataType}
use Rattle.awk_types.specs.ItemLimit.{item_limit}
use Rattle.awk_types.specs.Value.{Value}
use Rattle.awk_lanes.specs.Column.{Column}
use Rattle.awk_lanes.specs.Places.{size_of}
use Rattle.awk_layout.specs.Layout.{Layout}
use Rattle.awk_layout.specs.Typing.{array_type}
use Rattle.awk_columns.specs.Lists.{Listed}
use Rattle.awk_jagged_rows.specs.Alone.{IsOnly, AreRowsOfOne}
use Rattle.awk_jagged.specs.Jagged.{is_jagged, are_uneven, lacks_places}
use Rattle.awk_jagged_rows.specs.Levels.{row_count}
use Rattle.awk_jagged.specs.Outcomes.{IsOutcomeOf, IsTold, IsToldBy}
use Rattle.awk_jagged.specs.Over.{IsOver}
use Rattle.awk_jagged.specs.Pairs.{AreEven, HaveAll, LackSome}
use Rattle.awk_jagged_rows.specs.Rows.{lists_by, AreAlike}
use Rattle.awk_jagged.specs.declared.leaves.Outcome.{Outcome}
use Rattle.awk_jagged.specs.declared.leaves.Outcome.TheVariants as outcome
use Rattle.awk_jagged_rows.specs.declared.levels.Rows.{Rows}
use Rattle.awk_jagged.specs.declared.picking.Told.{Told}
use Rattle.awk_jagged.specs.declared.picking.Told.TheVariants as told
use Rattle.awk_jagged.proofs.OverLaws.{outcome-over}
use Rattle.awk_jagged.proofs.PickLaws.{many-rows}

-- ---- one pair alone

-- the same test of a pair and of it alone
alone : (f : DataType → List Value → List Value → Bool) (xs ws a b : Listed) (i : ℕ)
    → IsOnly xs i a → IsOnly ws i b
    → f (array_type b.content) (lists_by a 0) (lists_by b 0)
    ≡ f (array_type ws.content) (lists_by xs i) (lists_by ws i)
alone f xs ws a b i p q =
    ap (λ y. f (array_type y) (lists_by a 0) (lists_by b 0)) q.content
    ∙ ap₂ (λ vs us. f (array_type ws.content) vs us) p.list q.list

jagged_alone : (ws b : Listed) (i : ℕ) → IsOnly ws i b → is_jagged (array_type ws.content) ≡ true
    → is_jagged (array_type b.content) ≡ true
jagged_alone ws b i q j = ap (λ y. is_jagged (array_type y)) q.content ∙ j

-- a place of one is the first
first_of : (i n : ℕ) → n ≡ 1 → i < n → i ≡ 0
first_of i n e p = omega (arith, e, p)

module _ (xs ws : Listed) (i : ℕ) (r : Rows) (h : AreRowsOfOne xs ws i r)
    (j : is_jagged (array_type ws.content) ≡ true) where
  one-even : AreEven (array_type h.w.content) (lists_by h.x) (lists_by h.w) (size_of h.w.starts)
      → are_uneven (array_type ws.content) (lists_by xs i) (lists_by ws i) ≡ false
  one-even e =
      sym (alone are_uneven xs ws h.x h.w i h.first h.second)
      ∙ e 0 (omega (arith, h.second.size))

  one-have : HaveAll (array_type h.w.content) (lists_by h.x) (lists_by h.w) (size_of h.w.starts)
      → lacks_places (array_type ws.content) (lists_by xs i) (lists_by ws i) ≡ false
  one-have e =
      sym (alone lacks_places xs ws h.x h.w i h.first h.second)
      ∙ e 0 (omega (arith, h.second.size))

  over : (below made : Outcome) → IsOutcomeOf r.xs r.ws below
      → IsOver r below made → IsOutcomeOf h.x h.w made
  over below made o e =
      outcome-over h.x h.w r h.rows (jagged_alone ws h.w i h.second j) below made o e

  one-uneven : IsOutcomeOf r.xs r.ws outcome.Uneven → IsTold xs ws i told.Uneven
  one-uneven o =
      let s = over outcome.Uneven outcome.Uneven o refl in
      sym (alone are_uneven xs ws h.x h.w i h.first h.second)
      ∙ subst (λ k. are_uneven (array_type h.w.content) (lists_by h.x k) (lists_by h.w k) ≡ true)
      (first_of s.0 (size_of h.w.starts) h.second.size s.1) s.2

  one-outside : IsOutcomeOf r.xs r.ws outcome.Outside → IsTold xs ws i told.Outside
  one-outside o =
      let s = over outcome.Outside outcome.Outside o refl in (
        one-even s.0,
        sym (alone lacks_places xs ws h.x h.w i h.first h.second)
            ∙ subst
            (λ k. lacks_places (array_type h.w.content) (lists_by h.x k) (lists_by h.w k) ≡ true)
            (first_of s.1.0 (size_of h.w.starts) h.second.size s.1.1) s.1.2,
      )

  one-many : IsOutcomeOf r.xs r.ws outcome.TooMany → IsTold xs ws i told.Nothing
  one-many o =
      let s = over outcome.TooMany outcome.TooMany o refl in
      (one-even s.even, one-have s.have)

  one-lists : (c : Column) (y : Layout) → IsOutcomeOf r.xs r.ws (outcome.Lists c y)
      → IsTold xs ws i told.Nothing
  one-lists c y o =
      let s = over (outcome.Lists c y) _ o refl in
      (one-even s.even, one-have s.have)

  pub one-told : (o : Outcome) (t : Told) → IsOutcomeOf r.xs r.ws o → IsToldBy o t
      → IsTold xs ws i t
  one-told outcome.Uneven t o e = subst (IsTold xs ws i) (sym e) (one-uneven o)
  one-told outcome.Outside t o e = subst (IsTold xs ws i) (sym e) (one-outside o)
  one-told outcome.TooMany t o e = subst (IsTold xs ws i) (sym e) (one-many o)
  one-told (outcome.Lists c y) t o e = subst (IsTold xs ws i) (sym e) (one-lists c y o)

-- ---- one after another

-- some of the first pairs lack a place, or none does
abbrev pub AreFound : Listed → Listed → ℕ → Bool → Type 0
AreFound xs ws n true = LackSome (array_type ws.content) (lists_by xs) (lists_by ws) n
AreFound xs ws n false = HaveAll (array_type ws.content) (lists_by xs) (lists_by ws) n

pub record AreToldTo (xs ws : Listed) (n : ℕ) (outside : Bool) : Type 0 where
  pub even : AreEven (array_type ws.content) (lists_by xs) (lists_by ws) n
  pub found : AreFound xs ws n outside

pub told-nothing : (xs ws : Listed) (n : ℕ) (b : Bool) → AreToldTo xs ws n b
    → IsTold xs ws n told.Nothing → AreToldTo xs ws (n + 1) b
told-nothing xs ws n true h t = record {
  even = one_more (λ i. are_uneven (array_type ws.content) (lists_by xs i) (lists_by ws i)) n
      h.even t.0;
  found = (h.found.0, omega (arith, h.found.1), h.found.2);
}
told-nothing xs ws n false h t = record {
  even = one_more (λ i. are_uneven (array_type ws.content) (lists_by xs i) (lists_by ws i)) n
      h.even t.0;
  found = one_more (λ i. lacks_places (array_type ws.content) (lists_by xs i) (lists_by ws i)) n
      h.found t.1;
}

pub told-outside : (xs ws : Listed) (n : ℕ) (b : Bool) → AreToldTo xs ws n b
    → IsTold xs ws n told.Outside → AreToldTo xs ws (n + 1) true
told-outside xs ws n b h t = record {
  even = one_more (λ i. are_uneven (array_type ws.content) (lists_by xs i) (lists_by ws i)) n
      h.even t.0;
  found = (n, omega arith, t.1);
}

pub told-many : (xs ws : Listed) (n : ℕ) → n ≡ size_of ws.starts
    → is_jagged (array_type ws.content) ≡ true → AreAlike xs ws → item_limit < row_count ws
    → AreToldTo xs ws n false → IsOutcomeOf xs ws outcome.TooMany
told-many xs ws n e j a m h = record {
  even = subst (AreEven (array_type ws.content) (lists_by xs) (lists_by ws)) e h.even;
  have = subst (HaveAll (array_type ws.content) (lists_by xs) (lists_by ws)) e h.found;
  many = many-rows xs ws j a m;
}
