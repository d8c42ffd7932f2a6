-- The variables that the entries of a map are.
use Rattle.std.proofs.Common.{◌≡◌, ℕ, Bool, true, false, cond, List, [], ◌∷◌, Option, Some, None}
use Rattle.std.proofs.Common.{option_map, slice_get, String, Global, string_bytes, IfSome, Bor}
use Rattle.std.proofs.Common.{refl, ap, ◌∙◌}
use Rattle.std.specs.List.{AllByRecursion}
use Rattle.std.specs.Map.{lookup}
use Rattle.std.specs.Str.{bytes_eq}
use Rattle.std.specs.String.{string_eq}
use Rattle.std.proofs.lemmas.Option.{slice_get-map}
use Rattle.indexmap.specs.IndexMap.{insert_entry}
use Rattle.awk_types.specs.DataType.{Name}
use Rattle.awk_layout.specs.Datum.{IsDatum}
use Rattle.awk_layout.specs.declared.datum.Datum.{Datum}
use Rattle.awk_eval.specs.Bindings.{look_up, bind, names}
use Rattle.awk_eval.specs.Variables.{Variables}
use Rattle.awk_eval.specs.Entries.{variables_of, HoldsDatum}

abbrev Entry : Type 0
Entry = String Global × Datum

abbrev Variable : Type 0
Variable = Name × Datum

variables_of-cond : (b : Bool) (es fs : List Entry)
    → variables_of (cond b es fs) ≡ cond b (variables_of es) (variables_of fs)
variables_of-cond true es fs = refl
variables_of-cond false es fs = refl

-- an entry more is a name bound
pub variables_of-insert_entry : (es : List Entry) (k : String Global) (x : Datum)
    → variables_of (insert_entry string_eq es k x) ≡ bind (string_bytes k) x (variables_of es)
variables_of-insert_entry [] k x = refl
variables_of-insert_entry (e ∷ es) k x =
    variables_of-cond (string_eq k e.0) _ _ ∙ rw (variables_of-insert_entry es k x) refl

-- what a name is bound to is what a look-up finds
pub look_up-variables_of : (n : Name) (es : List Entry)
    → look_up n (variables_of es) ≡ lookup (λ k. bytes_eq n (string_bytes k)) es
look_up-variables_of n [] = refl
look_up-variables_of n (e ∷ es) =
    ap (cond (bytes_eq n (string_bytes e.0)) (Some e.1)) (look_up-variables_of n es)

abbrev variable : Entry → Variable
variable e = (string_bytes e.0, e.1)

abbrev name_of : Variable → Name
name_of v = v.0

-- the name at a place
pub name-at : (es : List Entry) (i : ℕ) (e : Entry) → slice_get es i ≡ Some e
    → slice_get (names (variables_of es)) i ≡ Some (string_bytes e.0)
name-at es i e at =
    slice_get-map name_of (variables_of es) i
    ∙ ap (option_map name_of) (slice_get-map variable es i ∙ ap (option_map variable) at)

-- ---- each is a datum

holds-cond : (b : Bool) (vs ws : Variables) → AllByRecursion HoldsDatum vs
    → AllByRecursion HoldsDatum ws → AllByRecursion HoldsDatum (cond b vs ws)
holds-cond true vs ws h k = h
holds-cond false vs ws h k = k

pub holds-bind : (n : Name) (x : Datum) (vs : Variables) → IsDatum x
    → AllByRecursion HoldsDatum vs → AllByRecursion HoldsDatum (bind n x vs)
holds-bind n x [] d h = (d, tt)
holds-bind n x (v ∷ vs) d h =
    holds-cond (bytes_eq n v.0) ((v.0, x) ∷ vs) (v ∷ bind n x vs) (d, h.1)
    (h.0, holds-bind n x vs d h.1)

abbrev pub MayHold : Option Datum → Type 0
MayHold None = Unit {0}
MayHold (Some x) = IsDatum x

may-cond : (b : Bool) (x : Datum) (o : Option Datum) → IsDatum x → MayHold o
    → MayHold (cond b (Some x) o)
may-cond true x o d h = d
may-cond false x o d h = h

pub holds-look_up : (n : Name) (vs : Variables) → AllByRecursion HoldsDatum vs
    → MayHold (look_up n vs)
holds-look_up n [] h = tt
holds-look_up n (v ∷ vs) h =
    may-cond (bytes_eq n v.0) v.1 (look_up n vs) h.0 (holds-look_up n vs h.1)

pub datum-if : (o : Option (Bor Datum)) → MayHold (option_map (λ (x : Bor Datum). x.now) o)
    → IfSome o (λ x. IsDatum x.now)
datum-if None h = tt
datum-if (Some x) h = h
