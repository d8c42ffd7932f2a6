-- Numbers put behind others, while a lane is made.
use Rattle.std.specs.Prelude.{◌≡◌, ◌+◌, ◌<◌, ◌++◌, ◌∷◌, [], ℕ, ℤ, length, map}
use Rattle.std.specs.List.{range_with_len}
use Rattle.std.proofs.Common.{arith, ap, sym, ◌∙◌, append_assoc}
use Rattle.std.proofs.lemmas.List.{length-append}
use Rattle.std.proofs.lemmas.List.FromFn.{length-map-range_with_len, map-range_with_len_more}
use Rattle.awk_lanes.specs.Making.{Making, with_item, with_items}
use Rattle.awk_merge_lists.specs.Lists.{HasRoom}

-- what f gives at the first i places, behind the numbers before
pub record ArePut (f : ℕ → ℤ) (i : ℕ) (before now : Making) : Type 0 where
  pub put : now ≡ with_items before (map f (range_with_len 0 i))

pub put_next : (f : ℕ → ℤ) (i : ℕ) (z : ℤ) (before old now : Making) → now ≡ with_item old z
    → z ≡ f i → ArePut f i before old → ArePut f (i + 1) before now
put_next f i z before old now e g h = record {
  put = e ∙ ap (λ m. with_item m z) h.put
      ∙ ap (λ y. with_item (with_items before (map f (range_with_len 0 i))) y) g
      ∙ ap (λ zs. record { kind = before.kind; room = before.room; items = zs })
      (append_assoc before.items (map f (range_with_len 0 i)) (f i ∷ [])
      ∙ ap (λ zs. before.items ++ zs) (sym (map-range_with_len_more f 0 i i (omega arith))));
}

pub put_room : (f : ℕ → ℤ) (i n : ℕ) (before now : Making) → i < n → HasRoom n before
    → ArePut f i before now → length now.items < now.room
put_room f i n before now p r h =
    let l : length now.items ≡ length before.items + i =
    ap (λ (m : Making). length m.items) h.put
    ∙ length-append before.items (map f (range_with_len 0 i))
    ∙ ap (λ k. length before.items + k) (length-map-range_with_len f 0 i) in
    let e : now.room ≡ before.room = ap (λ (m : Making). m.room) h.put in
    omega (arith, l, e, p, r.room)
