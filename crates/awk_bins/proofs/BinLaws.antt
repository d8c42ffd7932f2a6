-- What tallies are of intervals.
use Rattle.std.proofs.Common.{◌≡◌, ℕ, ◌+◌, ◌-◌, ◌<◌, ◌≤◌, List, [], ◌∷◌, length}
use Rattle.std.proofs.Common.{refl, ap, ap₂, sym, ◌∙◌, arith}
use Rattle.std.specs.Prelude.{ℤ, pos, Bool, true, cond}
use Rattle.std.specs.Prelude.{not, nat_lt, nat_le, ◌==◌, ◌&&◌, int_le, int_lt}
use Rattle.std.specs.List.{count_by}
use Rattle.std.proofs.lemmas.Bool.{and_parts, leb-true}
use Rattle.std.proofs.lemmas.Int.{ints}
use Rattle.std.proofs.lemmas.List.Sums.{sum_by-cons, count_by-le-length}
use Rattle.awk_bins.specs.Bins.{intervals, count_in, count_under, count_over}
use Rattle.awk_bins.specs.Edges.{are_edges, are_rising, edge_at, lies_in}
use Rattle.awk_bins.specs.Tallies.{edges_up_to, tally}
use Rattle.awk_bins.proofs.EdgeLaws.{edge_reached}

-- tests that agree count alike
pub count_by-same : {X : Type 0} (p q : X → Bool) → ((x : X) → p x ≡ q x) → (xs : List X)
    → count_by p xs ≡ count_by q xs
count_by-same p q h [] = refl
count_by-same p q h (x ∷ xs) =
    sum_by-cons (λ x. cond (p x) 1 0) x xs
    ∙ ap₂ (λ b n. cond b 1 0 + n) (h x) (count_by-same p q h xs)
    ∙ sym (sum_by-cons (λ x. cond (q x) 1 0) x xs)

turned : (e z : ℤ) → int_lt z e ≡ not (int_le e z)
turned e z = grind (arith, ints)

between : (c i : ℕ) → (c == i + 1) ≡ (nat_lt i c && not (nat_lt (i + 1) c))
between c i = grind arith

not_any : (c : ℕ) → (c == 0) ≡ not (nat_lt 0 c)
not_any c = grind arith

all_of : (c n : ℕ) → c ≤ n → 1 ≤ n → (c == n) ≡ nat_lt (n - 1) c
all_of c n l m = grind (arith, l, m)

module _ (es : List ℤ) (h : are_edges es ≡ true) where
  pub many : 2 ≤ length es
  many = leb-true 2 (length es) (and_parts (nat_le 2 (length es)) (are_rising es) h).0

  pub rising : are_rising es ≡ true
  rising = (and_parts (nat_le 2 (length es)) (are_rising es) h).1

  most : (z : ℤ) → edges_up_to es z ≤ length es
  most z = count_by-le-length (λ e. int_le e z) es

  reached : (z : ℤ) (k : ℕ) → k < length es
      → int_le (edge_at es k) z ≡ nat_lt k (edges_up_to es z)
  reached z k l = edge_reached es z rising k (pos 0) l

  in_interval : (i : ℕ) → i < intervals es → (z : ℤ)
      → (edges_up_to es z == i + 1) ≡ lies_in es i z
  in_interval i l z =
      between (edges_up_to es z) i
      ∙ ap₂ (λ a b. a && not b) (sym (reached z i (omega (arith, l))))
      (sym (reached z (i + 1) (omega (arith, l))))
      ∙ ap (λ b. int_le (edge_at es i) z && b) (sym (turned (edge_at es (i + 1)) z))

  below_first : (z : ℤ) → (edges_up_to es z == 0) ≡ int_lt z (edge_at es 0)
  below_first z =
      not_any (edges_up_to es z) ∙ ap not (sym (reached z 0 (omega (arith, many))))
      ∙ sym (turned (edge_at es 0) z)

  from_last : (z : ℤ) → (edges_up_to es z == length es) ≡ int_le (edge_at es (intervals es)) z
  from_last z =
      all_of (edges_up_to es z) (length es) (most z) (omega (arith, many))
      ∙ sym (reached z (intervals es) (omega (arith, many)))

  pub tally_in : (zs : List ℤ) (i : ℕ) → i < intervals es → tally es zs (i + 1) ≡ count_in es zs i
  tally_in zs i l =
      count_by-same (λ z. edges_up_to es z == i + 1) (lies_in es i) (in_interval i l) zs

  pub tally_under : (zs : List ℤ) → tally es zs 0 ≡ count_under es zs
  tally_under zs =
      count_by-same (λ z. edges_up_to es z == 0) (λ z. int_lt z (edge_at es 0)) below_first zs

  pub tally_over : (zs : List ℤ) → tally es zs (length es) ≡ count_over es zs
  tally_over zs =
      count_by-same (λ z. edges_up_to es z == length es)
      (λ z. int_le (edge_at es (intervals es)) z) from_last zs
