-- Numbers that fit a primitive, one more, and those that are too far from 0.
use Rattle.std.proofs.Common.{◌≡◌, ℕ, ◌+◌, arith, refl, ap, ◌∙◌, ltb-true}
use Rattle.std.specs.Prelude.{ℤ, [], Bool, true, false, nat_lt}
use Rattle.std.proofs.lemmas.Bool.{ltb-false}
use Rattle.awk_types.specs.declared.primitive.Primitive.{Primitive}
use Rattle.awk_lanes.specs.Making.{Making, with_item}
use Rattle.awk_lanes.proofs.MadeLanes.{IsSoFar, so_far_pushed}
use Rattle.awk_layout.specs.Kinds.{kind_of}
use Rattle.awk_primitives.specs.Fits.{fits}
use Rattle.awk_parts.specs.Fits.{AllFit, AreFirst}

pub AllFit-more : (p : Primitive) (f : ℕ → ℤ) (n : ℕ) → AllFit p f n → fits p (f n) ≡ true
    → AllFit p f (n + 1)
AllFit-more p f n h e i l = by (nat_lt i n) refl
  where
    by : (b : Bool) → nat_lt i n ≡ b → fits p (f i) ≡ true
    by true before = h i (ltb-true i n before)
    by false before =
        let same : i ≡ n = omega (arith, l, ltb-false i n before) in
        ap (λ i. fits p (f i)) same ∙ e

-- none yet
pub AreFirst-none : (p : Primitive) (f : ℕ → ℤ) (n : ℕ) (m : Making)
    → m ≡ record { kind = kind_of p; room = n; items = [] } → AreFirst p f n 0 m
AreFirst-none p f n m e = record {
  fits = λ i l. absurd (omega (arith, l));
  kind = ap (λ (m : Making). m.kind) e;
  room = ap (λ (m : Making). m.room) e;
  items = ap (λ (m : Making). m.items) e;
}

-- one more number
pub AreFirst-more : (p : Primitive) (f : ℕ → ℤ) (n i : ℕ) (z : ℤ) (old new : Making)
    → new ≡ with_item old z → fits p (f i) ≡ true → z ≡ f i → AreFirst p f n i old
    → AreFirst p f n (i + 1) new
AreFirst-more p f n i z old new e t g h =
    let far : IsSoFar (kind_of p) n f i old =
    record { kind = h.kind; room = h.room; items = h.items } in
    let next = so_far_pushed (kind_of p) n f i z old new e g far in
    record {
      fits = AllFit-more p f i h.fits t;
      kind = next.kind;
      room = next.room;
      items = next.items;
    }
