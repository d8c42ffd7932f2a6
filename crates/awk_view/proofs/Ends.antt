-- Where an item settles, from where the item below it does.
use Rattle.std.proofs.Common.{◌≡◌, ℕ, ◌+◌, ◌<◌, ◌≤◌, arith, refl, sym, ◌∙◌, inl, inr, ◌⊎◌, subst}
use Rattle.std.proofs.Common.{ap, ap₂, [], ◌∷◌, length, get_or, slice_range}
use Rattle.std.specs.Prelude.{None, Result, Ok, Err, IfOk}
use Rattle.awk_types.specs.Datum.{arr, one}
use Rattle.awk_types.specs.Limit.{limit}
use Rattle.awk_types.specs.Settle.{settle}
use Rattle.awk_types.specs.Value.{null}
use Rattle.awk_layout.specs.Datum.{datum_of}
use Rattle.awk_layout.specs.declared.datum.Datum.{Datum}
use Rattle.awk_layout.specs.declared.datum.Datum.TheVariants.{One}
use Rattle.awk_layout.specs.Item.{item}
use Rattle.awk_layout.specs.Layout.{Layout, weight, height}
use Rattle.awk_layout.specs.Place.{IsWithin, span, through}
use Rattle.awk_layout.specs.Typing.{layout_type, array_type, array_items}
use Rattle.awk_layout.specs.Valid.{len}
use Rattle.awk_view.specs.declared.settling.End.{End}
use Rattle.awk_view.specs.declared.settling.End.TheVariants.{Null, Single, Items}
use Rattle.awk_view.specs.End.{IsEnd, IsSingleOf, IsListOf, IsItemOf, IsOneOf, IsArrOf, simple_item}
use Rattle.awk_view.specs.End.{settled_item}
use Rattle.awk_view.proofs.SettleLimits.{limit-settle}
use Rattle.awk_view.proofs.SettleLaws.{settle-null}
use Rattle.awk_layout.proofs.ArrayItems.{length-array_items, get_or-array_items}
use Rattle.awk_view.proofs.SettledItems.{StaysOne, IsListed, Follows, item_part}

pub single_end : (x : Layout) (i : ℕ) → i < len x → StaysOne (layout_type x) (item x i)
    → IsSingleOf x i x i
single_end x i p s = record {
  is = s.is;
  present = s.present;
  within = p;
  below = inr refl;
  height_within = omega arith;
}

pub list_end : (x y : Layout) (i lo hi : ℕ) → IsWithin (height x) (span y lo hi)
    → (weight y < weight x) × IsListed (layout_type x) (item x i) y lo hi → IsListOf x i y lo hi
list_end x y i lo hi w s = record {
  is = s.1.is;
  present = s.1.present;
  order = w.0;
  within = w.1;
  below = s.0;
  height_within = omega (arith, w.2);
}

-- the item of another place, of fewer nodes
pub end_through : (x y : Layout) (i k : ℕ) (e : End) → IsWithin (height x) (through y k)
    → (weight y < weight x) × Follows (layout_type x) (item x i) (layout_type y) (item y k)
    → IsEnd y k e → IsEnd x i e
end_through x y i k Null w f h = f.1.nulls h
end_through x y i k (Single z j) w f h = record {
  is = f.1.is h.present ∙ h.is;
  present = f.1.present h.present;
  within = h.within;
  below = inl (lighter (f.0) h.below);
  height_within = omega (arith, w.1, h.height_within);
}
  where
    lighter : weight y < weight x → (weight z.now < weight y) ⊎ (z.now ≡ y)
        → weight z.now < weight x
    lighter l (inl m) = omega arith
    lighter l (inr e) = subst (λ z. weight z < weight x) (sym e) l
end_through x y i k (Items z lo hi) w f h = record {
  is = f.1.is h.present ∙ h.is;
  present = f.1.present h.present;
  order = h.order;
  within = h.within;
  below = omega (arith, f.0, h.below);
  height_within = omega (arith, w.1, h.height_within);
}

-- ---- arrays at an end

-- a part of one item is the item alone
pub cut_item : {E : Type 0} (x : Layout) (i : ℕ) (r : Result Layout E) → i < len x
    → IfOk r (λ y. array_items y ≡ slice_range (array_items x) i (i + 1))
    → IfOk r (λ y. array_type y ≡ array_type x)
    → IfOk r (λ y. weight y ≤ weight x) → IfOk r (λ y. height y ≤ height x) → IfOk r (IsItemOf x i)
cut_item x i (Err e) p a t w h = tt
cut_item x i (Ok y) p a t w h =
    let e : array_items y ≡ simple_item x i ∷ [] = a ∙ item_part x i p in
    let n : len y ≡ 1 = sym (length-array_items y) ∙ ap length e in
    record {
      size = n;
      typ = t;
      item = sym (get_or-array_items y 0 (omega arith)) ∙ ap (λ vs. get_or vs 0 null) e;
      weight_within = w;
      height_within = h;
    }

one_of_item : (x r : Layout) (i : ℕ) → IsItemOf x i r
    → datum_of (One r) ≡ one (array_type x) (simple_item x i)
one_of_item x r i h = ap₂ one h.typ h.item

-- ---- what the item of an array at a place is, where z is the array's node

settled_at : (x z : Layout) (i : ℕ) → z ≡ x → i < len x
    → settled_item z i ≡ settle (array_type x) (get_or (array_items x) i null)
settled_at x z i e p =
    ap (λ z. settled_item z i) e ∙ ap (settle (array_type x)) (sym (get_or-array_items x i p))

pub null_settles : (x z r : Layout) (i : ℕ) → z ≡ x → i < len x → simple_item z i ≡ null
    → IsItemOf x i r → datum_of (One r) ≡ settle (array_type x) (get_or (array_items x) i null)
null_settles x z r i e p n h =
    one_of_item x r i h
    ∙ ap (λ z. one (array_type z) (simple_item z i)) (sym e)
    ∙ ap (one (array_type z)) n ∙ sym (settle-null (array_type z)) ∙ ap (settle (array_type z))
    (sym n)
    ∙ settled_at x z i e p

pub single_settles : {E : Type 0} (x z y : Layout) (i k : ℕ) (r : Result Datum E) → z ≡ x
    → i < len x → IsSingleOf z i y k → IfOk r (IsOneOf y k)
    → IfOk r (λ d. datum_of d ≡ settle (array_type x) (get_or (array_items x) i null))
single_settles x z y i k (Err a) e p s h = tt
single_settles x z y i k (Ok d) e p s h = h.is ∙ sym s.is ∙ settled_at x z i e p

pub list_settles : {E : Type 0} (x z y : Layout) (i lo hi : ℕ) (r : Result Datum E) → z ≡ x
    → i < len x → IsListOf z i y lo hi → IfOk r (IsArrOf y lo hi)
    → IfOk r (λ d. datum_of d ≡ settle (array_type x) (get_or (array_items x) i null))
list_settles x z y i lo hi (Err a) e p s h = tt
list_settles x z y i lo hi (Ok d) e p s h = h.is ∙ sym s.is ∙ settled_at x z i e p

-- its type passes no limit

pub single_limit : (x z y : Layout) (i k : ℕ) → z ≡ x → limit (array_type x) ≡ None
    → IsSingleOf z i y k → limit (array_type y) ≡ None
single_limit x z y i k e l s =
    limit-settle (array_type z) (simple_item z i) (one (array_type y) (simple_item y k)) s.is
    (ap (λ z. limit (array_type z)) e ∙ l)

pub list_limit : (x z y : Layout) (i lo hi : ℕ) → z ≡ x → limit (array_type x) ≡ None
    → IsListOf z i y lo hi → limit (array_type y) ≡ None
list_limit x z y i lo hi e l s =
    limit-settle (array_type z) (simple_item z i)
    (arr (array_type y) (slice_range (array_items y) lo hi)) s.is
    (ap (λ z. limit (array_type z)) e ∙ l)
