-- The first break of nodes, part by part.
use Rattle.std.proofs.Common.{◌≡◌, ℕ, suc, ◌+◌, List, [], ◌∷◌, ◌++◌, length, Option, Some, Ok, Err}
use Rattle.std.proofs.Common.{refl, sym, ap, ap₂, ◌∙◌, subst, arith}
use Rattle.serde_json.specs.Data.{Data}
use Rattle.awk_form.specs.Node.{Node, node_at}
use Rattle.std.proofs.lemmas.List.{length-append}
use Rattle.awk_types.specs.Gives.{Told, refused_or, ◌or◌}
use Rattle.awk_types.proofs.RefusalLaws.{Told-other, Told-first, or-assoc}
use Rattle.awk_form.specs.FormTree.{FormTree}
use Rattle.awk_form.specs.Reading.{Refusal, broken, break_at, first_break_from, nodes_of}
use Rattle.awk_form.specs.Reading.{nodes_of_all, nodes_below, contents_said, form_with, form_said}
use Rattle.awk_form.specs.Reading.{form_of}
use Rattle.awk_form.proofs.Nodes.{nodes_of-is, form_of-is}
use Rattle.awk_form.specs.declared.fault.FormWhy.{FormWhy}

-- the first break of two parts
pub first_break-append : (n : ℕ) (ds es : List Data)
    → first_break_from n (ds ++ es) ≡ (first_break_from n ds or first_break_from (n + length ds) es)
first_break-append n [] es = let zero_more : n + 0 ≡ n = omega arith in rw zero_more refl
first_break-append n (d ∷ ds) es =
    let one_more : n + 1 + length ds ≡ n + suc (length ds) = omega arith in
    ap (λ o. break_at n (node_at d) or o)
    (first_break-append (n + 1) ds es
    ∙ ap (λ m. first_break_from (n + 1) ds or first_break_from m es) one_more)
    ∙ sym
    (or-assoc (break_at n (node_at d)) (first_break_from (n + 1) ds)
    (first_break_from (n + suc (length ds)) es))

-- ---- a node and its contents

pub first_break-node : (n : ℕ) (d : Data) (said : Node) → node_at d ≡ Ok said
    → first_break_from n (nodes_of d) ≡ first_break_from (n + 1) (nodes_below said.head)
first_break-node n d said e = ap (first_break_from n) (nodes_of-is d)
    ∙ ap (λ r. break_at n r or first_break_from (n + 1) (nodes_of_all (contents_said r))) e

pub first_break-broken : (n : ℕ) (d : Data) (why : FormWhy) → node_at d ≡ Err why
    → first_break_from n (nodes_of d) ≡ Some (broken (record { node = n; why = why }))
first_break-broken n d why e = ap (first_break_from n) (nodes_of-is d)
    ∙ ap (λ r. break_at n r or first_break_from (n + 1) (nodes_of_all (contents_said r))) e

pub length-node : (d : Data) (said : Node) → node_at d ≡ Ok said
    → length (nodes_of d) ≡ suc (length (nodes_below said.head))
length-node d said e =
    ap length (nodes_of-is d) ∙ ap (λ r. suc (length (nodes_of_all (contents_said r)))) e

pub form_of-node : (d : Data) (said : Node) → node_at d ≡ Ok said
    → form_of d ≡ form_with form_of said.key said.head
form_of-node d said e = form_of-is d ∙ ap (form_said form_of) e

-- ---- the steps of a reading

-- the first break from node m on, where none stands before node n: that of the first value that is
-- left, else that of the others
pub breaks_left : (m n : ℕ) (all rest more : List Data) (d : Data)
    → first_break_from m (nodes_of_all all) ≡ first_break_from n (nodes_of_all rest)
    → rest ≡ d ∷ more
    → first_break_from m (nodes_of_all all)
    ≡ (first_break_from n (nodes_of d) or first_break_from (n + length (nodes_of d))
    (nodes_of_all more))
breaks_left m n all rest more d same left = same ∙ ap (λ ds. first_break_from n (nodes_of_all ds))
    left ∙ first_break-append n (nodes_of d) (nodes_of_all more)

pub told_of_whole : {A B : Type 0} (o : Option Refusal) (whole part later : Option Refusal) (a : A)
    (b : B) → whole ≡ (part or later) → Told o (refused_or part a) → Told o (refused_or whole b)
told_of_whole o whole part later a b is h =
    subst (λ x. Told o (refused_or x b)) (sym is) (Told-first o part later a b h)

pub length_left : (rest more : List Data) (d : Data) → rest ≡ d ∷ more
    → length (nodes_of_all rest) ≡ length (nodes_of d) + length (nodes_of_all more)
length_left rest more d left =
    ap (λ ds. length (nodes_of_all ds)) left ∙ length-append (nodes_of d) (nodes_of_all more)

-- a fault below a node is one of the node
pub told_of_node : {A B : Type 0} (o : Option Refusal) (n m : ℕ) (d : Data) (said : Node) (a : A)
    (b : B) → node_at d ≡ Ok said → m ≡ n + 1
    → Told o (refused_or (first_break_from m (nodes_below said.head)) a)
    → Told o (refused_or (first_break_from n (nodes_of d)) b)
told_of_node o n m d said a b is next h =
    Told-other o (first_break_from n (nodes_of d)) a b
    (subst (λ x. Told o (refused_or x a))
    (ap (λ k. first_break_from k (nodes_below said.head)) next
    ∙ sym (first_break-node n d said is)) h)

-- a node with what is below it
pub read_of_node : (n m : ℕ) (d : Data) (said : Node) (f : FormTree) → node_at d ≡ Ok said
    → m ≡ n + 1
    → refused_or (first_break_from m (nodes_below said.head))
    (form_with form_of said.key said.head) ≡ Ok f → refused_or (first_break_from n (nodes_of d))
    (form_of d) ≡ Ok f
read_of_node n m d said f is next h =
    ap₂ refused_or
    (first_break-node n d said is ∙ ap (λ k. first_break_from k (nodes_below said.head))
    (sym next)) (form_of-node d said is) ∙ h

pub broken_node : {A : Type 0} (n : ℕ) (d : Data) (why : FormWhy) (a : A) → node_at d ≡ Err why
    → refused_or (first_break_from n (nodes_of d)) a ≡ Err (broken (record { node = n; why = why }))
broken_node n d why a is = ap (λ x. refused_or x a) (first_break-broken n d why is)
