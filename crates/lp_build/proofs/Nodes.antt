-- Nodes with equal parts have equal first parts, and equal parts below these.
use Rattle.std.proofs.Common.{◌≡◌, ℕ, ℤ, List, [], ◌∷◌, length, drop, ap, refl, arith}
use Rattle.lp_form.specs.declared.part.Part.{Part}
use Rattle.lp_form.specs.declared.part.Part.TheVariants as part
use Rattle.lp_tree.specs.ProgramTree.{Item, head, items, parts_below}
use Rattle.lp_tree.specs.declared.tree.Node.{Node}
use Rattle.lp_build.specs.Built.{first_notes, first_parts}

-- what the first of some parts holds
abbrev first_holds : List Item → Part × List (List ℕ) × List ℤ
first_holds [] = (part.Program, [], [])
first_holds (i ∷ rest) = (i.0, i.1, i.2)

pub same_head : (m n : Node) → items m ≡ items n → head m ≡ head n
same_head m n e = ap first_holds e

pub same_below : (m n : Node) → items m ≡ items n → parts_below m ≡ parts_below n
same_below m n e = ap (λ (xs : List Item). drop 1 xs) e

-- the first of no nodes has no parts, and no notes
pub first_parts_none : (ns : List Node) → length ns ≡ 0 → first_parts ns ≡ []
first_parts_none [] h = refl
first_parts_none (n ∷ ns) h = absurd (omega arith)

pub first_notes_none : (ns : List Node) → length ns ≡ 0 → first_notes ns ≡ []
first_notes_none [] h = refl
first_notes_none (n ∷ ns) h = absurd (omega arith)
