-- Operands, and how long the lists are that they give.
use Rattle.std.proofs.Common.{◌≡◌, ℕ, zero, suc, ◌<◌, Bool, false, refl, ap, sym, subst, ◌∙◌}
use Rattle.std.specs.Prelude.{List, [], ◌∷◌, length, slice_get, Option, Some, None, IfSome}
use Rattle.awk_lanes.specs.Column.{Column}
use Rattle.awk_lanes.specs.Counted.{offsets_by}
use Rattle.awk_lanes.specs.Places.{size_of}
use Rattle.awk_layout.specs.Layout.{Layout}
use Rattle.awk_layout.specs.Valid.{len}
use Rattle.awk_open.specs.Opened.{AreLong}
use Rattle.awk_columns.specs.Lists.{Listed, length_of}
use Rattle.awk_list_rows.specs.InRow.{AreEnds, HoldsItems}
use Rattle.awk_list_rows.proofs.EndLaws.{same_ends}
use Rattle.awk_types.specs.Parts.{item_of}
use Rattle.awk_pair_levels.specs.InRow.{IsOf, AreOf}
use Rattle.awk_pair_levels.specs.Shares.{AreListsOf, IsNext, AreShares}
use Rattle.awk_pair_levels.specs.declared.shares.Share.{Share}
use Rattle.awk_pair_levels.specs.declared.shares.Share.TheVariants.{Lists, Items}

-- ---- ends, and how long lists are

pub ends_of : (x : Layout) (l : Listed) (o : Column) → AreEnds x o → AreListsOf (len x) x l
    → o ≡ offsets_by (length_of l) (size_of l.starts)
ends_of x l o e h = e l h.items ∙ ap (offsets_by (length_of l)) (sym h.size)

pub some_ends : (x : Layout) (l : Listed) (e : Option Column) → IfSome e (AreEnds x)
    → AreListsOf (len x) x l → IfSome e (λ o. o ≡ offsets_by (length_of l) (size_of l.starts))
some_ends x l None h g = tt
some_ends x l (Some o) h g = ends_of x l o h g

-- ---- operands and what they give

pub of_length : (xs : List Layout) (ps : List Share) → AreOf xs ps → length xs ≡ length ps
of_length [] [] h = refl
of_length (x ∷ xs) (p ∷ ps) h = ap (λ n. suc n) (of_length xs ps h.1)
of_length [] (p ∷ ps) h = absurd h
of_length (x ∷ xs) [] h = absurd h

pub of_get : (xs : List Layout) (ps : List Share) (i : ℕ) (x : Layout) (p : Share)
    → slice_get xs i ≡ Some x → slice_get ps i ≡ Some p → AreOf xs ps → IsOf x p
of_get [] ps i x p e f h = cc
of_get (y ∷ xs) [] i x p e f h = absurd h
of_get (y ∷ xs) (q ∷ ps) zero x p e f h =
    let a : y ≡ x = cc in
    let b : q ≡ p = cc in
    subst (λ z. IsOf z p) a (subst (IsOf y) b h.0)
of_get (y ∷ xs) (q ∷ ps) (suc i) x p e f h = of_get xs ps i x p e f h.1

pub of_shares : (n : ℕ) (keep s : Bool) (xs : List Layout) (ps : List Share) → AreLong n xs
    → AreShares n keep s xs ps → AreOf xs ps
of_shares n keep s [] [] l h = tt
of_shares n keep s (x ∷ xs) (Lists q ∷ ps) l h =
    (subst (λ m. AreListsOf m x q) (sym l.0) h.0.1, of_shares n false s xs ps l.1 h.1)
of_shares n keep s (x ∷ xs) (Items y ∷ ps) l h = (tt, of_shares n false s xs ps l.1 h.1)
of_shares n keep s [] (p ∷ ps) l h = absurd h
of_shares n keep s (x ∷ xs) [] l h = absurd h

-- as many lists as another lead has
pub lists_same : (l k : Listed) (x : Layout) (o : Column) → size_of k.starts ≡ size_of l.starts
    → o ≡ offsets_by (length_of l) (size_of l.starts) → AreEnds x o → AreListsOf (len x) x k
    → (i : ℕ) → i < size_of l.starts → length_of k i ≡ length_of l i
lists_same l k x o s e a h =
    same_ends (length_of k) (length_of l) (size_of l.starts)
    (ap (offsets_by (length_of k)) (sym s) ∙ sym (ends_of x k o a h) ∙ e)

pub items_below_are : (x : Layout) (l : Listed) (z : Layout) → HoldsItems x z
    → AreListsOf (len x) x l → IsNext (length_of l) (size_of l.starts) (Lists l) z
items_below_are x l z a h =
    subst (λ n. IsNext (length_of l) n (Lists l) z) (sym h.size) (record {
      size = a.size l h.items;
      typ = sym (h.typ ∙ ap item_of a.typ);
      items = a.items l h.items;
    })

-- the operand at the place of the lead gives its lists
pub lead_own : (ps : List Share) (place i : ℕ) (l : Listed) (p : Share)
    → slice_get ps place ≡ Some (Lists l) → slice_get ps i ≡ Some p → i ≡ place → p ≡ Lists l
lead_own ps place i l p e f g =
    let h : Some p ≡ Some (Lists l) = sym f ∙ ap (slice_get ps) g ∙ e in cc
