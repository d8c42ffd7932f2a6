-- What the walk tells of a node, of its own part and of what is left of its contents, and the steps
-- that it may take.
use Rattle.std.specs.Prelude.{ℕ, ◌+◌, ◌*◌, Bool, List, ◌++◌, drop, Option, None, Result}
use Rattle.std.specs.Global.{Vec}
use Rattle.awk_types.specs.Gives.{Gives, refused_or, ◌or◌}
use Rattle.awk_store.specs.Buffers.{Held, held_len}
use Rattle.awk_layout.specs.Layout.{Layout, layout_list}
use Rattle.awk_form.specs.FormTree.{FormTree, contents_of, FormTrees, form_list, forms_from}
use Rattle.awk_form.specs.FormTree.{regular}
use Rattle.awk_valid.specs.Broken.{Refusal, size_break, node_break, broken_from, all_broken_from}
use Rattle.awk_valid.specs.Container.{Container, container_of}
use Rattle.awk_valid.specs.Loaded.{layout_of, layouts_of}
use Rattle.awk_valid.specs.Loading.{told}
use Rattle.awk_valid.specs.Needs.{content_length}
use Rattle.awk_valid.specs.Parts.{lengths_of, own_of, over}
use Rattle.awk_valid.specs.declared.fault.LoadFault.{LoadFault}
use Rattle.awk_valid.specs.declared.own.Own.{Own}

-- what a walk goes over: the buffers of a store, and the order of their numbers
pub record Given : Type 0 where
  pub big : Bool
  pub held : Held

abbrev pub given : Bool → Held → Given
given big held = record { big = big; held = held }

abbrev pub container_in : Given → Container
container_in g = container_of g.big g.held

-- the layout of node m, of n items, or the first break
unfoldable pub node_said : FormTree → ℕ → ℕ → Given → Result Layout Refusal
node_said f m n g =
    refused_or (broken_from f m n (container_in g)) (layout_of f n (container_in g))

-- a regular node has no more items in all its lists than a node may have
abbrev pub product_break : FormTree → ℕ → Option Refusal
product_break (regular key size f) n = size_break (n * size)
product_break f n = None

-- the break that node m is judged for by itself
abbrev pub own_break : FormTree → ℕ → ℕ → Container → Option Refusal
own_break f m n c = node_break f m n c or product_break f n

-- what node m holds beside its contents, and their lengths, or its own break
unfoldable pub own_said : FormTree → ℕ → ℕ → Given → Result (Own × List ℕ) Refusal
own_said f m n g =
    refused_or (own_break f m n (container_in g))
    (own_of f n (container_in g), lengths_of f n (container_in g))

abbrev pub GivesOwn : FormTree → ℕ → ℕ → Given → Result (Own × Vec ℕ) LoadFault → Type 0
GivesOwn f m n g result =
    Gives {Y = Own × List ℕ} (λ x. (x.0, x.1.items)) told result
    (refused_or (own_break f m n (container_in g))
    (own_of f n (container_in g), lengths_of f n (container_in g)))

-- the contents from a place on
abbrev pub rest : FormTree → ℕ → FormTrees
rest f i = forms_from (drop i (form_list (contents_of f)))

-- the node over the layouts so far and those of the contents from place i on, which begin with node
-- j, or their first break
unfoldable pub left_said : FormTree → ℕ → ℕ → ℕ → List Layout → Given → Result Layout Refusal
left_said f n i j so_far g =
    refused_or
    (all_broken_from (rest f i) j (λ k. content_length f n (container_in g) (i + k))
    (container_in g))
    (over n (own_of f n (container_in g))
    (so_far
    ++ layout_list
    (layouts_of (rest f i) (λ k. content_length f n (container_in g) (i + k))
    (container_in g))))

-- the steps that so many nodes and inner numbers may take
unfoldable pub budget : ℕ → Given → ℕ
budget width g = 4 * width * (held_len g.held + 1)
