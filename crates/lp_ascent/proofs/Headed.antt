-- Which nodes are headers of state functions.
use Rattle.std.proofs.Common.{◌≡◌, ℕ, ℤ, Bool, true, false, List, [], ◌∷◌, ◌++◌, Option, Some, None, refl, ap, ◌∙◌, append-nil, if◌then◌else◌}
use Rattle.std.specs.List.{flat_map}
use Rattle.lp_form.specs.contracts.part.PartPartialEq.TheImpl as equality
use Rattle.lp_form.specs.declared.part.Part.{Part}
use Rattle.lp_form.specs.declared.part.Part.TheVariants as part
use Rattle.lp_tree.specs.ProgramTree.{Item, head, is_part, items}
use Rattle.lp_tree.specs.declared.tree.Node.{Node}
use Rattle.lp_build.specs.Ascent.{but_header, first_part, header_parts, loop_part, shift_part}
use Rattle.lp_build.specs.declared.ascent.GotoLoopArm.{GotoLoopArm}

-- a part is that of a header
abbrev is_header : Part → Bool
is_header p = (equality.ghosts).eq p part.HeaderState

pub no_header :
    (n : Node) (p : Part) (holes : List (List ℕ)) (numbers : List ℤ) → head n ≡ (p, holes, numbers) →
    (equality.ghosts).eq p part.HeaderState ≡ false → is_part part.HeaderState n ≡ false
no_header n p holes numbers e apart = ap (λ (h : Part × List (List ℕ) × List ℤ). is_header h.0) e ∙ apart

pub shift_apart : (names : Option (List ℕ)) → (equality.ghosts).eq (shift_part names) part.HeaderState ≡ false
shift_apart None = refl
shift_apart (Some names) = refl

pub first_apart : (patterns : List (List ℕ)) (last : Option (List ℕ)) → (equality.ghosts).eq (first_part patterns last) part.HeaderState ≡ false
first_apart [] None = refl
first_apart [] (Some pattern) = refl
first_apart (t ∷ ts) last = refl

pub loop_apart : (arms : List GotoLoopArm) → (equality.ghosts).eq (loop_part arms) part.HeaderState ≡ false
loop_apart [] = refl
loop_apart (a ∷ arms) = refl

-- the first of some parts
abbrev first_of : List Item → Part
first_of [] = part.Program
first_of (i ∷ rest) = i.0

is_headed : (n : Node) (i : Item) (rest : List Item) → items n ≡ i ∷ rest → i.0 ≡ part.HeaderState → is_part part.HeaderState n ≡ true
is_headed n i rest e h = ap is_header (ap first_of e ∙ h)

-- a header alone
pub header_kept :
    (n : Node) (i : Item) (rest : List Item) → items n ≡ i ∷ rest → i.0 ≡ part.HeaderState → flat_map header_parts (n ∷ []) ≡ i ∷ rest
header_kept n i rest e h =
    ap (λ (b : Bool). (if b then items n else []) ++ []) (is_headed n i rest e h) ∙ (append-nil (items n) ∙ e)

pub nothing_else :
    (n : Node) (i : Item) (rest : List Item) → items n ≡ i ∷ rest → i.0 ≡ part.HeaderState → flat_map but_header (n ∷ []) ≡ []
nothing_else n i rest e h = ap (λ (b : Bool). (if b then [] else items n) ++ []) (is_headed n i rest e h)
