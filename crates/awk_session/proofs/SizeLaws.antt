-- Variables within sizes, and what a line binds.
use Rattle.std.proofs.Common.{◌≡◌, ◌≢◌, Bool, true, false, cond, [], ◌∷◌, Option, Some, None}
use Rattle.std.proofs.Common.{option_and_then, Result, Ok, Err, refl, sym, ap, ◌∙◌, subst, arith}
use Rattle.std.specs.Prelude.{IfSome, is_some}
use Rattle.std.specs.Option.{option_map_or}
use Rattle.std.specs.Str.{bytes_eq}
use Rattle.std.proofs.lemmas.Slice.Eq.{bytes_eq-Decides}
use Rattle.awk_types.specs.DataType.{Name}
use Rattle.awk_layout.specs.declared.datum.Datum.{Datum}
use Rattle.awk_layout.specs.declared.datum.Datum.TheVariants.{Arr, One}
use Rattle.awk_query.specs.Line.{Line, load, session, bind, values, show, type_of, pack, names}
use Rattle.awk_eval.specs.Bindings as bindings
use Rattle.awk_eval.specs.Bindings.{Bindings, look_up}
use Rattle.awk_eval.specs.Variables.{Variables}
use Rattle.awk_eval.specs.Views.{Size, Sizes, View, view_of, size_of, sizes_of, size_at, size_in}
use Rattle.awk_eval.specs.Views.{size_or_none, IsWithin, IsArray}
use Rattle.awk_session.specs.Cost.{form_size, view_size, has_cost, sized_unless, sizes_by}
use Rattle.awk_session.specs.Spending.{IsAtMost, IsOfArray, IsOfArrays, IsBoundUnless, IsViewWithin}
use Rattle.awk_session.specs.Spending.{BindsBy, Binds, Unless, name_by}
use Rattle.awk_answer.specs.declared.answer.Answered.{Answered}
use Rattle.awk_session.specs.declared.engine.LineEnd.{LineEnd}
use Rattle.awk_session.specs.declared.engine.LineEnd.TheVariants.{Write, NoMemory}

-- ---- names that a line does not bind

not_same : (n m : Name) → n ≢ m → (b : Bool) → bytes_eq n m ≡ b → bytes_eq n m ≡ false
not_same n m other true e = absurd (other ((bytes_eq-Decides n m).0 e))
not_same n m other false e = e

module _ {A : Type 0} (n m : Name) (a : A) (apart : bytes_eq n m ≡ false) where
  one_bind : (v : Name × A) (vs : Bindings A) → look_up n (bindings.bind m a vs) ≡ look_up n vs
      → (b : Bool) → bytes_eq m v.0 ≡ b
      → look_up n (cond b ((v.0, a) ∷ vs) (v ∷ bindings.bind m a vs)) ≡ look_up n (v ∷ vs)
  one_bind v vs h true e =
      let same : m ≡ v.0 = (bytes_eq-Decides m v.0).0 e in
      let later : bytes_eq n v.0 ≡ false = subst (λ k. bytes_eq n k ≡ false) same apart in
      rw later refl
  one_bind v vs h false e = ap (cond (bytes_eq n v.0) (Some v.1)) h

  look_up-apart : (vs : Bindings A) → look_up n (bindings.bind m a vs) ≡ look_up n vs
  look_up-apart [] = rw apart refl
  look_up-apart (v ∷ vs) = one_bind v vs (look_up-apart vs) (bytes_eq m v.0) refl

-- a name that is not bound anew keeps what it is bound to
pub look_up-bind : {A : Type 0} (n m : Name) (a : A) (vs : Bindings A) → n ≢ m
    → look_up n (bindings.bind m a vs) ≡ look_up n vs
look_up-bind n m a vs other =
    look_up-apart n m a (not_same n m other (bytes_eq n m) refl) vs

bound_elsewhere : (n m : Name) (Fact : Datum → Type 0) (is_fault : Bool) (old new : Variables)
    → n ≢ m → IsBoundUnless is_fault m Fact old new → look_up n new ≡ look_up n old
bound_elsewhere n m Fact true old new other e = ap (look_up n) e
bound_elsewhere n m Fact false old new other b =
    ap (look_up n) b.bound ∙ look_up-bind n m b.datum old other

keeps_by : (n : Name) (line : Line) (is_fault : Bool) (old new : Variables)
    → name_by line ≢ Some n → BindsBy line is_fault old new → look_up n new ≡ look_up n old
keeps_by n session is_fault old new other b = ap (look_up n) b
keeps_by n (load m form count big buffers) is_fault old new other b =
    bound_elsewhere n m _ is_fault old new (λ e. other (ap Some (sym e))) b
keeps_by n (bind m e) is_fault old new other b =
    bound_elsewhere n m _ is_fault old new (λ e. other (ap Some (sym e))) b
keeps_by n (values m list) is_fault old new other b =
    bound_elsewhere n m _ is_fault old new (λ e. other (ap Some (sym e))) b
keeps_by n (show e) is_fault old new other b = ap (look_up n) b
keeps_by n (type_of e) is_fault old new other b = ap (look_up n) b
keeps_by n (pack e) is_fault old new other b = ap (look_up n) b
keeps_by n names is_fault old new other b = ap (look_up n) b

keeps_in : (n : Name) (line : Option Line) (is_fault : Bool) (old new : Variables)
    → option_and_then name_by line ≢ Some n → Binds line is_fault old new
    → look_up n new ≡ look_up n old
keeps_in n None is_fault old new other e = ap (look_up n) e
keeps_in n (Some l) is_fault old new other b = keeps_by n l is_fault old new other b

-- a variable that a line does not bind stays as it is
pub keeps : (n : Name) (line : Option Line) (is_fault : Bool) (old new : Variables)
    (result : Result Answered LineEnd) → option_and_then name_by line ≢ Some n
    → Unless result (Binds line is_fault old new) → (result ≡ Err NoMemory → new ≡ old)
    → look_up n new ≡ look_up n old
keeps n line is_fault old new (Ok answered) other b same =
    keeps_in n line is_fault old new other b
keeps n line is_fault old new (Err Write) other b same =
    keeps_in n line is_fault old new other b
keeps n line is_fault old new (Err NoMemory) other b same = ap (look_up n) (same refl)

-- ---- variables within sizes

-- each variable is an array within the size that stands in its place
abbrev pub AreWithin : Sizes → Variables → Type 0
AreWithin [] [] = Unit {0}
AreWithin (s ∷ ss) (v ∷ vs) = (v.0 ≡ s.0) × IsWithin s.1 v.1 × AreWithin ss vs
AreWithin (s ∷ ss) [] = ⊥
AreWithin [] (v ∷ vs) = ⊥

pub size_of-within : (d : Datum) (s : Size) → IsWithin s d → IsAtMost (size_of d) s
size_of-within (Arr x) s h = h
size_of-within (One x) s h = absurd h

size_cond : (b : Bool) (x y : Size) (o p : Option Size) → IsAtMost x y
    → IsAtMost (size_or_none o) (size_or_none p)
    → IsAtMost (size_or_none (cond b (Some x) o)) (size_or_none (cond b (Some y) p))
size_cond true x y o p h k = h
size_cond false x y o p h k = k

-- the sizes that variables have are no greater
pub size_at-within : (n : Name) (ss : Sizes) (vs : Variables) → AreWithin ss vs
    → IsAtMost (size_at (sizes_of vs) n) (size_at ss n)
size_at-within n [] [] h = (omega arith, omega arith)
size_at-within n (s ∷ ss) [] h = absurd h
size_at-within n [] (v ∷ vs) h = absurd h
size_at-within n (s ∷ ss) (v ∷ vs) h =
    subst (λ m. IsAtMost (size_at (sizes_of (v ∷ vs)) n)
    (size_or_none (cond (bytes_eq n m) (Some s.1) (look_up n ss)))) h.0
    (size_cond (bytes_eq n v.0) (size_of v.1) s.1 (look_up n (sizes_of vs)) (look_up n ss)
    (size_of-within v.1 s.1 h.1) (size_at-within n ss vs h.2))

pub view_size-within : (view : Option View) (ss : Sizes) (vs : Variables) → AreWithin ss vs
    → IsAtMost (view_size (sizes_of vs) view) (view_size ss view)
view_size-within None ss vs h = (omega arith, omega arith)
view_size-within (Some v) ss vs h = size_at-within v.name ss vs h

-- and they are arrays
is_array : (d : Datum) (s : Size) → IsWithin s d → IsArray (Some d)
is_array (Arr x) s h = tt
is_array (One x) s h = absurd h

array_cond : (b : Bool) (d : Datum) (o : Option Datum) → IsArray (Some d) → IsArray o
    → IsArray (cond b (Some d) o)
array_cond true d o h k = h
array_cond false d o h k = k

array-within : (n : Name) (ss : Sizes) (vs : Variables) → AreWithin ss vs → IsArray (look_up n vs)
array-within n ss [] h = tt
array-within n [] (v ∷ vs) h = absurd h
array-within n (s ∷ ss) (v ∷ vs) h =
    array_cond (bytes_eq n v.0) v.1 (look_up n vs) (is_array v.1 s.1 h.1)
    (array-within n ss vs h.2)

view-within : (view : Option View) (ss : Sizes) (vs : Variables) → AreWithin ss vs
    → IsOfArray vs view
view-within None ss vs h = tt
view-within (Some v) ss vs h = array-within v.name ss vs h

of_arrays : (l : Line) (ss : Sizes) (vs : Variables) → AreWithin ss vs → IsOfArrays vs l
of_arrays (load n form count big buffers) ss vs h = tt
of_arrays session ss vs h = tt
of_arrays (bind n e) ss vs h = view-within (view_of e) ss vs h
of_arrays (values n list) ss vs h = tt
of_arrays (show e) ss vs h = view-within (view_of e) ss vs h
of_arrays (type_of e) ss vs h = view-within (view_of e) ss vs h
of_arrays (pack e) ss vs h = tt
of_arrays names ss vs h = tt

pub IsOfArrays-within : (line : Option Line) (ss : Sizes) (vs : Variables) → AreWithin ss vs
    → IfSome line (IsOfArrays vs)
IsOfArrays-within None ss vs h = tt
IsOfArrays-within (Some l) ss vs h = of_arrays l ss vs h

-- ---- sizes after a line

wider : (d : Datum) (s t : Size) → IsWithin s d → IsAtMost s t → IsWithin t d
wider (Arr x) s t h k = (omega (arith, h.0, k.0), omega (arith, h.1, k.1))
wider (One x) s t h k = absurd h

within_cond : (b : Bool) (ss ts : Sizes) (vs ws : Variables) → AreWithin ss vs → AreWithin ts ws
    → AreWithin (cond b ss ts) (cond b vs ws)
within_cond true ss ts vs ws h k = h
within_cond false ss ts vs ws h k = k

within-bind : (n : Name) (d : Datum) (s : Size) (ss : Sizes) (vs : Variables) → IsWithin s d
    → AreWithin ss vs → AreWithin (bindings.bind n s ss) (bindings.bind n d vs)
within-bind n d s [] [] w h = (refl, w, tt)
within-bind n d s (t ∷ ss) [] w h = absurd h
within-bind n d s [] (v ∷ vs) w h = absurd h
within-bind n d s (t ∷ ss) (v ∷ vs) w h =
    subst (λ m. AreWithin (cond (bytes_eq n m) ((t.0, s) ∷ ss) (t ∷ bindings.bind n s ss))
    (bindings.bind n d (v ∷ vs))) h.0
    (within_cond (bytes_eq n v.0) ((t.0, s) ∷ ss) (t ∷ bindings.bind n s ss) ((v.0, d) ∷ vs)
    (v ∷ bindings.bind n d vs) (h.0, w, h.2) (h.0, h.1, within-bind n d s ss vs w h.2))

bound-within : (n : Name) (Fact : Datum → Type 0) (s : Size) (is_fault : Bool) (ss : Sizes)
    (old new : Variables) → ((d : Datum) → Fact d → IsWithin s d) → AreWithin ss old
    → IsBoundUnless is_fault n Fact old new → AreWithin (sized_unless is_fault n s ss) new
bound-within n Fact s true ss old new fits h e = subst (AreWithin ss) (sym e) h
bound-within n Fact s false ss old new fits h b =
    subst (AreWithin (bindings.bind n s ss)) (sym b.bound)
    (within-bind n b.datum s ss old (fits b.datum b.fact) h)

view_fits : (view : Option View) (ss : Sizes) (vs : Variables) (d : Datum) → is_some view ≡ true
    → AreWithin ss vs → IsViewWithin vs view d → IsWithin (view_size ss view) d
view_fits None ss vs d plain h fits = absurd (cc)
view_fits (Some v) ss vs d plain h fits =
    wider d (size_in vs v) (size_at ss v.name) (fits (array-within v.name ss vs h))
    (size_at-within v.name ss vs h)

sizes_by-within : (l : Line) (is_fault : Bool) (ss : Sizes) (old new : Variables)
    → has_cost l ≡ true → AreWithin ss old → BindsBy l is_fault old new
    → AreWithin (sizes_by l is_fault ss) new
sizes_by-within session is_fault ss old new plain h b = subst (AreWithin ss) (sym b) h
sizes_by-within (load n form count big buffers) is_fault ss old new plain h b =
    bound-within n _ (form_size form) is_fault ss old new (λ d fact. fact) h b
sizes_by-within (bind n e) is_fault ss old new plain h b =
    bound-within n _ (view_size ss (view_of e)) is_fault ss old new
    (λ d fact. view_fits (view_of e) ss old d plain h fact) h b
sizes_by-within (values n list) is_fault ss old new plain h b = absurd (cc)
sizes_by-within (show e) is_fault ss old new plain h b = subst (AreWithin ss) (sym b) h
sizes_by-within (type_of e) is_fault ss old new plain h b = subst (AreWithin ss) (sym b) h
sizes_by-within (pack e) is_fault ss old new plain h b = subst (AreWithin ss) (sym b) h
sizes_by-within names is_fault ss old new plain h b = subst (AreWithin ss) (sym b) h

-- what a line that has a cost leaves is within the sizes after it
pub sizes-within : (line : Option Line) (is_fault : Bool) (ss : Sizes) (old new : Variables)
    → option_map_or has_cost line true ≡ true → AreWithin ss old → Binds line is_fault old new
    → AreWithin (option_map_or (λ l. sizes_by l is_fault ss) line ss) new
sizes-within None is_fault ss old new plain h b = subst (AreWithin ss) (sym b) h
sizes-within (Some l) is_fault ss old new plain h b =
    sizes_by-within l is_fault ss old new plain h b
