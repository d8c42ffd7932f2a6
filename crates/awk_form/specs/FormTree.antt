-- Forms: one tree for each, whose nodes are of the twelve classes. Each node has its form key
-- first.
use Rattle.std.specs.Prelude.{ℕ, Bool, List, [], ◌∷◌, Option}
use Rattle.awk_types.specs.DataType.{Name}
use Rattle.awk_types.specs.declared.primitive.Primitive.{Primitive}
use Rattle.awk_form.specs.declared.kind.IndexKind.{IndexKind}

mutual
  pub data FormTree : Type 0 where
    empty : Option Name → FormTree
    numpy : Option Name → Primitive → List ℕ → FormTree
    regular : Option Name → ℕ → FormTree → FormTree
    list : Option Name → IndexKind → IndexKind → FormTree → FormTree
    list_offset : Option Name → IndexKind → FormTree → FormTree
    row : Option Name → Option (List Name) → FormTrees → FormTree
    indexed : Option Name → IndexKind → FormTree → FormTree
    indexed_option : Option Name → IndexKind → FormTree → FormTree
    byte_masked : Option Name → Bool → FormTree → FormTree
    bit_masked : Option Name → Bool → Bool → FormTree → FormTree
    unmasked : Option Name → FormTree → FormTree
    union : Option Name → IndexKind → FormTrees → FormTree

  pub data FormTrees : Type 0 where
    no_forms : FormTrees
    form : FormTree → FormTrees → FormTrees

-- forms as a list, and back
abbrev pub form_list : FormTrees → List FormTree
form_list no_forms = []
form_list (form f fs) = f ∷ form_list fs

abbrev pub forms_from : List FormTree → FormTrees
forms_from [] = no_forms
forms_from (f ∷ fs) = form f (forms_from fs)

-- the forms directly below
abbrev pub contents_of : FormTree → FormTrees
contents_of (empty key) = no_forms
contents_of (numpy key prim inner) = no_forms
contents_of (regular key size f) = form f no_forms
contents_of (list key starts stops f) = form f no_forms
contents_of (list_offset key offsets f) = form f no_forms
contents_of (row key names fs) = fs
contents_of (indexed key index f) = form f no_forms
contents_of (indexed_option key index f) = form f no_forms
contents_of (byte_masked key valid_when f) = form f no_forms
contents_of (bit_masked key valid_when lsb_order f) = form f no_forms
contents_of (unmasked key f) = form f no_forms
contents_of (union key index fs) = fs

-- What a form gives: `own` makes it of the node and of what its contents give. One content gives
-- its own, several give theirs joined in order, with `none` at the end.
module _ {ℓ} {A : Type ℓ} (none : A) (join : A → A → A) (own : FormTree → A → A) where
  abbrev mutual
    pub fold : FormTree → A
    fold (empty key) = own (empty key) none
    fold (numpy key prim inner) = own (numpy key prim inner) none
    fold (regular key size f) = own (regular key size f) (fold f)
    fold (list key starts stops f) = own (list key starts stops f) (fold f)
    fold (list_offset key offsets f) = own (list_offset key offsets f) (fold f)
    fold (row key names fs) = own (row key names fs) (folds fs)
    fold (indexed key index f) = own (indexed key index f) (fold f)
    fold (indexed_option key index f) = own (indexed_option key index f) (fold f)
    fold (byte_masked key valid_when f) = own (byte_masked key valid_when f) (fold f)
    fold (bit_masked key valid_when lsb_order f) =
        own (bit_masked key valid_when lsb_order f) (fold f)
    fold (unmasked key f) = own (unmasked key f) (fold f)
    fold (union key index fs) = own (union key index fs) (folds fs)

    pub folds : FormTrees → A
    folds no_forms = none
    folds (form f fs) = join (fold f) (folds fs)
