-- Behind the first line of the standard uses a text is completed to a program that is told, under each prefix.
use Rattle.std.proofs.Common.{◌≡◌, ℕ, ◌+◌, ◌^◌, ◌<◌, true, List, [], ◌∷◌, ◌++◌, refl, sym, ◌∙◌, subst, arith}
use Rattle.std.specs.Str.{IsUtf8}
use Rattle.lp_form.specs.Templates.{steps_of, holes_of}
use Rattle.lp_form.specs.declared.part.Part.{Part}
use Rattle.lp_form.specs.declared.part.Part.TheVariants as part
use Rattle.lp_reading_laws.specs.Holes.Parted.{IsParted}
use Rattle.lp_spelling.specs.Counting.{settled}
use Rattle.lp_spelling.proofs.Counting.{settled_none}
use Rattle.lp_tree.specs.declared.tree.Program.{Program}
use Rattle.lp_program.specs.declared.read.reader.Parameters.{Parameters}
use Rattle.lp_program.specs.Parameters.{last_parameter, parameters_of}
use Rattle.lp_program.specs.Reads.{graft, hole_count, is_prefix, IsProgram, Reads}
use Rattle.lp_program.specs.Reads.Task.{trees}
use Rattle.lp_program.specs.Trees.{Content, Forest, tree_count, whole}
use Rattle.lp_program.specs.Trees.Forest.{bare, tree}
use Rattle.lp_reading_laws.specs.Texts.Laws.{AreParted}
use Rattle.lp_reading_laws.specs.Choosing.Laws.{told_content, told_trees, IsBodyTold, BodiesTold, ReadsTold}
use Rattle.lp_viable.specs.Held.{PartsHeld, part_count, IsHeld}
use Rattle.lp_viable.specs.Least.{least_holes, least_content}
use Rattle.lp_viable.proofs.Entries.{Held, held}
use Rattle.lp_viable.proofs.Leaves.{leaf, leaves, leaf_held}
use Rattle.lp_viable.proofs.Least.{Taken, least_count}
use Rattle.lp_viable.proofs.Opening.{FrontRead}
use Rattle.lp_viable.proofs.Rest.{standard_uses, last_part, below_all, least_rest, program_read, last_parted}
use Rattle.lp_viable.proofs.Sizes.{count_graft}

-- its holes are parted
leaves_parted : (prefix : List ℕ) (p : Part) → ((holes : List (List ℕ)) → IsParted prefix p holes) → (f g : Forest) → AreParted prefix g → AreParted prefix (graft (leaves p f) g)
leaves_parted prefix p each bare g h = h
leaves_parted prefix p each (tree c below after) g h = (each c.holes, tt, leaves_parted prefix p each after g h)

all_parted : (prefix : List ℕ) (first second : Forest) → AreParted prefix (tree (least_content prefix part.Program) (below_all prefix first second) bare)
all_parted prefix first second =
    let last : Forest = graft (standard_uses prefix) (last_part prefix) in
    let uses : AreParted prefix (graft (leaves part.UseLine second) last) = leaves_parted prefix part.UseLine (λ holes. tt) second last (tt, tt, (last_parted prefix, tt, tt)) in
    (tt, leaves_parted prefix part.Attribute (λ holes. tt) first (graft (leaves part.UseLine second) last) uses, tt)

-- it has no bodies of actions
leaves_told : (prefix text : List ℕ) (p : Part) → ((whose : Parameters) (holes : List (List ℕ)) → IsBodyTold prefix text whose p holes) → (f g : Forest) → ((before : List Content) → BodiesTold prefix text before (told_trees g)) →
    (before : List Content) → BodiesTold prefix text before (told_trees (graft (leaves p f) g))
leaves_told prefix text p each bare g k before = k before
leaves_told prefix text p each (tree c below after) g k before = (
  each (parameters_of prefix (last_parameter [] before)) c.holes,
  tt,
  leaves_told prefix text p each after g k (before ++ (told_content (leaf p c.holes) ∷ [])),
)

all_told : (prefix text : List ℕ) (first second : Forest) → BodiesTold prefix text [] (told_trees (tree (least_content prefix part.Program) (below_all prefix first second) bare))
all_told prefix text first second =
    let last : Forest = graft (standard_uses prefix) (last_part prefix) in
    let uses : (before : List Content) → BodiesTold prefix text before (told_trees (graft (leaves part.UseLine second) last)) =
    leaves_told prefix text part.UseLine (λ whose holes. tt) second last (λ before. (tt, tt, (tt, tt, tt))) in
    (tt, leaves_told prefix text part.Attribute (λ whose holes. tt) first (graft (leaves part.UseLine second) last) uses [], tt)

-- it can be held
held_graft : (f g : Forest) → PartsHeld f → PartsHeld g → PartsHeld (graft f g)
unfolding PartsHeld
held_graft bare g h k = k
held_graft (tree c below after) g h k = (h.0, h.1, held_graft after g h.2 k)

leaves_parts : (p : Part) (f : Forest) → part_count (leaves p f) ≡ tree_count f
unfolding part_count
leaves_parts p bare = refl
leaves_parts p (tree c below after) = let h = leaves_parts p after in omega (arith, h)

program_holes : hole_count part.Program ≡ 0
unfolding steps_of holes_of
program_holes = refl

standard_holes : hole_count part.StandardUses ≡ 0
unfolding steps_of holes_of
standard_holes = refl

last_holes : hole_count part.ToTripleLocatedWhere ≡ 7
unfolding steps_of holes_of
last_holes = refl

last_held : (prefix : List ℕ) → PartsHeld (graft (standard_uses prefix) (last_part prefix))
unfolding PartsHeld
last_held prefix = (
  leaf_held part.StandardUses (least_holes prefix part.StandardUses) 0 (least_count prefix part.StandardUses) standard_holes (omega arith),
  tt,
  (leaf_held part.ToTripleLocatedWhere (least_holes prefix part.ToTripleLocatedWhere) 7 (least_count prefix part.ToTripleLocatedWhere) last_holes (omega arith), tt, tt),
)

last_count : (prefix : List ℕ) → part_count (graft (standard_uses prefix) (last_part prefix)) ≡ 2
unfolding part_count
last_count prefix = refl

all_held : (prefix : List ℕ) (first second : Forest) → PartsHeld (leaves part.Attribute first) → PartsHeld (leaves part.UseLine second) → tree_count first + tree_count second + 3 < 2 ^ 63 →
    IsHeld (tree (least_content prefix part.Program) (below_all prefix first second) bare)
unfolding PartsHeld part_count
all_held prefix first second h k short =
    let x : Forest = leaves part.Attribute first in
    let y : Forest = leaves part.UseLine second in
    let z : Forest = graft (standard_uses prefix) (last_part prefix) in
    let a = count_graft x (graft y z) in
    let b = count_graft y z in
    let one = leaves_parts part.Attribute first in
    let two = leaves_parts part.UseLine second in
    let last = last_count prefix in (
      (leaf_held part.Program (least_holes prefix part.Program) 0 (least_count prefix part.Program) program_holes (omega arith), held_graft x (graft y z) h (held_graft y z k (last_held prefix)), tt),
      omega (arith, a, b, one, two, last, short),
    )

-- trees of a program that a text reads as
told_of : (text rest prefix : List ℕ) (f : Forest) (program : Program) → program.prefix ≡ prefix → whole program.entries.items ≡ f → is_prefix prefix ≡ true → IsProgram f → Reads prefix (trees f) text rest → settled rest ≡ [] →
    AreParted prefix f → BodiesTold prefix text [] (told_trees f) → ReadsTold text program
told_of text rest prefix f program e k fits is reads none parted bodies =
    let at_prefix : prefix ≡ program.prefix = sym e in
    let to_whole : f ≡ whole program.entries.items = sym k in
    record {
      reads = record {
        rest = rest;
        prefix_fits = subst (λ (x : List ℕ). is_prefix x ≡ true) at_prefix fits;
        first = subst IsProgram to_whole is;
        reads = subst (λ (x : List ℕ). Reads x (trees (whole program.entries.items)) text rest) at_prefix (subst (λ (x : Forest). Reads prefix (trees x) text rest) to_whole reads);
        nothing_left = none;
      };
      parted = subst (λ (x : List ℕ). AreParted x (whole program.entries.items)) at_prefix (subst (λ (x : Forest). AreParted prefix x) to_whole parted);
      bodies = subst (λ (x : List ℕ). BodiesTold x text [] (told_trees (whole program.entries.items))) at_prefix (subst (λ (x : Forest). BodiesTold prefix text [] (told_trees x)) to_whole bodies);
    }

-- so a program is told
pub restarted : (prefix : List ℕ) → IsUtf8 prefix → is_prefix prefix ≡ true → (first second : Forest) (text q : List ℕ) → FrontRead prefix first second text q → settled q ≡ settled (least_rest prefix first second) →
    PartsHeld (leaves part.Attribute first) → PartsHeld (leaves part.UseLine second) → tree_count first + tree_count second + 3 < 2 ^ 63 → (program : Program) × (program.prefix ≡ prefix) × ReadsTold text program
restarted prefix u fits first second text q f e h k short =
    let c : Content = least_content prefix part.Program in
    let below : Forest = below_all prefix first second in
    let t : Taken prefix (tree c below bare) text [] = program_read prefix u fits first second text q f e in
    let p : Held prefix c below = held prefix c below (all_held prefix first second h k short) in
    (p.program, p.prefix_is, told_of text t.rest prefix (tree c below bare) p.program p.prefix_is p.same fits refl t.reads (t.same ∙ settled_none) (all_parted prefix first second) (all_told prefix text first second))
