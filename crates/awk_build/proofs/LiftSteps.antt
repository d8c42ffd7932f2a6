-- Steps of unifying from the left, and carries from the right.
use Rattle.std.proofs.Common.{◌≡◌, ℕ, ◌+◌, ◌-◌, ◌<◌, List, [], ◌∷◌, ◌++◌, map, drop}
use Rattle.std.proofs.Common.{length, slice_get, Some, ap, ap₂, sym, subst, ◌∙◌, arith}
use Rattle.std.proofs.Common.{append_assoc}
use Rattle.std.specs.List.{AllByRecursion}
use Rattle.std.specs.Prelude.{reverse, get_or, option_map}
use Rattle.std.proofs.lemmas.List.{drop_more, length-map, reverse-append, get_or-map}
use Rattle.std.proofs.lemmas.Option.{slice_get-map}
use Rattle.awk_base.proofs.Lists.{drop-get}
use Rattle.awk_types.specs.DataType.{DataType, unknown}
use Rattle.awk_layout.specs.Array.{IsArrayType}
use Rattle.awk_layout.specs.Layout.{Layout}
use Rattle.awk_layout.specs.Typing.{array_type}
use Rattle.awk_unify.specs.After.{after}
use Rattle.awk_unify.specs.Carry.{Carry}
use Rattle.awk_unify.specs.Unification.{Unification}
use Rattle.awk_unify.specs.Unify.{unification}
use Rattle.awk_build.specs.Joined.{joined_type}
use Rattle.awk_build.specs.Suffix.{carriers, last_type, steps_from}

-- ---- from the left

-- the steps so far, and those of the arrays that are left; their types are as arrays have them
pub record AreSteps (xs : List Layout) (rs : List Unification) (t : DataType) (i : ℕ)
    : Type 0 where
  pub steps : steps_from unknown (map array_type xs)
      ≡ rs ++ steps_from t (drop i (map array_type xs))
  pub last : joined_type xs ≡ last_type t (drop i (map array_type xs))
  pub lawful : AllByRecursion IsArrayType (drop i (map array_type xs))
      → AllByRecursion IsArrayType (map array_type xs)

pub step_more : (xs : List Layout) (rs qs : List Unification) (t u : DataType) (x : Layout) (i : ℕ)
    → AreSteps xs rs t i → slice_get xs i ≡ Some x → IsArrayType (array_type x)
    → u ≡ (unification t (array_type x)).typ → qs ≡ rs ++ unification t (array_type x) ∷ []
    → AreSteps xs qs u (i + 1)
step_more xs rs qs t u x i s at lawful e put =
    let ts = map array_type xs in
    let b = array_type x in
    let d : drop i ts ≡ b ∷ drop (i + 1) ts =
    drop-get ts i b (slice_get-map array_type xs i ∙ ap (option_map array_type) at) in
    let r = unification t b in
    record {
      steps =
          s.steps ∙ ap (λ bs. rs ++ steps_from t bs) d
          ∙ sym (append_assoc rs (r ∷ []) (steps_from r.typ (drop (i + 1) ts)))
          ∙ ap (λ zs. zs ++ steps_from r.typ (drop (i + 1) ts)) (sym put)
          ∙ ap (λ v. qs ++ steps_from v (drop (i + 1) ts)) (sym e);
      last =
          s.last ∙ ap (last_type t) d ∙ ap (λ v. last_type v (drop (i + 1) ts)) (sym e);
      lawful = λ h. s.lawful (subst (AllByRecursion IsArrayType) (sym d) (lawful, h));
    }

pub record AreAllSteps (xs : List Layout) (rs : List Unification) (t : DataType) : Type 0 where
  pub steps : rs ≡ steps_from unknown (map array_type xs)
  pub last : t ≡ joined_type xs
  pub lawful : AllByRecursion IsArrayType (map array_type xs)

-- ---- from the right

-- the carries of the steps from m on, the last one first
pub record AreBack (rs : List Unification) (m : ℕ) (g : Carry) (fs : List Carry) : Type 0 where
  pub so_far : g ≡ (carriers (drop m rs)).so_far
  pub each : fs ≡ reverse (carriers (drop m rs)).each

back_more : (rs : List Unification) (i : ℕ) (r : Unification) (g h : Carry) (fs gs : List Carry)
    → drop i rs ≡ r ∷ drop (i + 1) rs → AreBack rs (i + 1) g fs → h ≡ after g r.left
    → gs ≡ fs ++ after g r.right ∷ [] → AreBack rs i h gs
back_more rs i r g h fs gs d b e put =
    let s = carriers (drop (i + 1) rs) in
    record {
      so_far = e ∙ ap (λ f. after f r.left) b.so_far ∙ ap (λ zs. (carriers zs).so_far) (sym d);
      each =
          put ∙ ap₂ (λ zs f. zs ++ after f r.right ∷ []) b.each b.so_far
          ∙ sym (reverse-append (after s.so_far r.right ∷ []) s.each)
          ∙ ap (λ zs. reverse (carriers zs).each) (sym d);
    }

-- of n steps, where k are taken from the end
pub back_next : {X : Type 0} (view : X → Unification) (xs : List X) (n k : ℕ) (x : X)
    (g h : Carry) (fs gs : List Carry) → n ≡ length xs → k < n → x ≡ get_or xs (n - 1 - k) x
    → AreBack (map view xs) (n - k) g fs → h ≡ after g (view x).left
    → gs ≡ fs ++ after g (view x).right ∷ [] → AreBack (map view xs) (n - (k + 1)) h gs
back_next view xs n k x g h fs gs len below at b e put =
    let i = n - (k + 1) in
    let within : i < length xs = omega (arith, len, below) in
    let here : n - 1 - k ≡ i = omega (arith, below) in
    let next : n - k ≡ i + 1 = omega (arith, below) in
    let d : drop i (map view xs) ≡ view x ∷ drop (i + 1) (map view xs) =
    drop_more (map view xs) i (view x) (omega (arith, within, length-map xs view))
    ∙ ap (λ r. r ∷ drop (i + 1) (map view xs))
    (get_or-map view xs i x (view x) within
    ∙ ap view (sym (at ∙ ap (λ j. get_or xs j x) here))) in
    back_more (map view xs) i (view x) g h fs gs d
    (subst (λ m. AreBack (map view xs) m g fs) next b) e put
