-- How large a program is: its forms, and the elements of their lists.
use Rattle.std.specs.Prelude.{ℕ, ◌+◌, ◌||◌, List, length, codes, is_some, if◌then◌else◌}
use Rattle.std.specs.List.{sum_by, zip}
use Rattle.lp_form.specs.declared.part.Part.{Part}
use Rattle.lp_form.specs.declared.template.Kind.{Kind}
use Rattle.lp_form.specs.declared.template.Kind.TheVariants as kind
use Rattle.lp_form.specs.Forms.{form_of, is_element_of}
use Rattle.lp_form.specs.Templates.{holes_of}
use Rattle.lp_tree.specs.ProgramTree.{Item, program_items}
use Rattle.lp_tree.specs.declared.tree.Program.{Program}
use Rattle.lp_view.specs.Elements.{elements, patterns}

-- the number of elements of the list that a hole of this kind holds; other kinds hold no list
unfoldable pub elements_in : Kind → List ℕ → ℕ
elements_in kind.Numbers s = length (elements (codes " | ") s)
elements_in kind.Ranges s = length (elements (codes " | ") s)
elements_in kind.Patterns s = length (patterns s)
elements_in kind.Arguments s = length (elements (codes ", ") s)
elements_in kind.Symbols s = length (elements (codes ", ") s)
elements_in kind.Names s = length (elements (codes ", ") s)
elements_in kind.Parameters s = length (elements (codes ", ") s)
elements_in _ s = 0

-- the elements of the lists in holes of these kinds
abbrev pub elements_of : List Kind → List (List ℕ) → ℕ
elements_of kinds holes = sum_by (λ p. elements_in p.0 p.1) (zip kinds holes)

-- a part counts itself where it is a form or an element of a list of one
abbrev pub own_weight : Part → ℕ
own_weight part = if is_some (form_of part) || is_element_of part then 1 else 0

-- and so do the entries of its table and the elements of the lists in its holes
abbrev pub weight_of : Item → ℕ
weight_of e = own_weight e.0 + length e.2 + elements_of (holes_of e.0) e.1

-- the forms of a program and all elements of their lists
abbrev pub weight : Program → ℕ
weight p = sum_by weight_of (program_items p)
