-- The first part of a node, and what is below it.
use Rattle.std.proofs.Common.{◌≡◌, ℕ, ℤ, Bool, List, [], ◌∷◌, ◌++◌, length, map, ap, ◌∙◌, decimal}
use Rattle.lp_form.specs.declared.part.Part.{Part}
use Rattle.lp_form.specs.declared.part.Part.TheVariants as part
use Rattle.lp_tree.specs.ProgramTree.{Item, head, items, parts_below}
use Rattle.lp_tree.specs.declared.tree.Node.{Node}
use Rattle.lp_build.specs.Built.{leaf_if, over, text_rows}

abbrev after_first : List Item → List Item
after_first [] = []
after_first (i ∷ rest) = rest

pub below_of : (n : Node) (p : Part) (holes : List (List ℕ)) (below : List Item) → items n ≡ over p holes below → parts_below n ≡ below
below_of n p holes below e = ap after_first e

-- the parts of a node with this first part and these below it
abbrev headed : Part × List (List ℕ) × List ℤ → List Item → List Item
headed h below = (h.0, h.1, h.2, length below) ∷ below

pub items_of : (n : Node) (p : Part) (holes : List (List ℕ)) (below : List Item) → head n ≡ (p, holes, []) → parts_below n ≡ below → items n ≡ over p holes below
items_of n p holes below first rest =
    ap (λ (h : Part × List (List ℕ) × List ℤ). headed h (parts_below n)) first ∙ ap (headed (p, holes, [])) rest

-- the same of a call of another state's function, by texts that are the same
abbrev transition_lines : ℕ → List ℕ → List ℕ → List ℕ → List ℕ → Bool → List Item
transition_lines target arguments symbols phantom takes returns =
    over part.Transition (decimal target ∷ arguments ∷ symbols ∷ phantom ∷ [])
    (text_rows part.TakeLine (map decimal takes) ++ leaf_if returns part.ReturnLine)

pub transition_of :
    (n : Node) (target : ℕ) (a b s t f g xs ys : List ℕ) (returns : Bool) →
    head n ≡ (part.Transition, decimal target ∷ a ∷ s ∷ f ∷ [], []) →
    parts_below n ≡ text_rows part.TakeLine (map decimal xs) ++ leaf_if returns part.ReturnLine →
    a ≡ b → s ≡ t → f ≡ g → xs ≡ ys →
    items n ≡ over part.Transition (decimal target ∷ b ∷ t ∷ g ∷ []) (text_rows part.TakeLine (map decimal ys) ++ leaf_if returns part.ReturnLine)
transition_of n target a b s t f g xs ys returns first rest arguments symbols phantom takes =
    items_of n part.Transition (decimal target ∷ a ∷ s ∷ f ∷ []) (text_rows part.TakeLine (map decimal xs) ++ leaf_if returns part.ReturnLine) first rest
    ∙ (ap (λ (x : List ℕ). transition_lines target x s f xs returns) arguments
    ∙ (ap (λ (x : List ℕ). transition_lines target b x f xs returns) symbols
    ∙ (ap (λ (x : List ℕ). transition_lines target b t x xs returns) phantom
    ∙ ap (λ (x : List ℕ). transition_lines target b t g x returns) takes)))
