-- The trees of a list of parts, from its parts in preorder.
use Rattle.std.proofs.Common.{◌≡◌, ℕ, suc, ℤ, true, List, [], ◌∷◌, ◌++◌, length, map, All, refl, sym, ap, ◌∙◌, subst, arith}
use Rattle.std.proofs.lemmas.List.Elements.{All-append, All-cons, All-nil}
use Rattle.lp_form.specs.Templates.{steps_of, holes_of}
use Rattle.lp_form.specs.declared.part.Part.{Part}
use Rattle.lp_form.specs.declared.part.Part.TheVariants as part
use Rattle.lp_repr.specs.declared.lr1.StartStates.{StartStates}
use Rattle.lp_repr.specs.declared.repr.ActionFnDefnKind.{ActionFnDefnKind}
use Rattle.lp_repr.specs.declared.repr.ActionFnDefnKind.TheVariants.{User, Lookaround, Inline}
use Rattle.lp_repr.specs.declared.repr.Grammar.{Grammar}
use Rattle.lp_tree.specs.ProgramTree.{Item, item}
use Rattle.lp_tree.specs.declared.tree.Entry.{Entry}
use Rattle.lp_tree.specs.declared.tree.Program.{Program}
use Rattle.lp_program.specs.Adding.{Holds}
use Rattle.lp_program.specs.Reads.{hole_count, parts_in, IsProgram}
use Rattle.lp_program.specs.Trees.{content, Forest, forest, whole}
use Rattle.lp_program.specs.Trees.Forest.{bare, tree}
use Rattle.lp_program.proofs.Grafts.{holds_alone, holds_none, holds_then, holds_tree}
use Rattle.lp_reading_laws.specs.Printing.WellFormed.{is_shared}
use Rattle.lp_assembly.specs.Built.{IsBuilt}
use Rattle.lp_emitted.specs.Shapes.{AreShaped, IsShaped, IsShapedPart}
use Rattle.lp_emitted.proofs.Actions.{KindTold}
use Rattle.lp_emitted.proofs.Apart.{templates_apart}
use Rattle.lp_emitted.proofs.Programs.{Given, program_lines, program_takes}
use Rattle.lp_emitted.proofs.Rows.{Told, StepsTold, AreTrees, no_tree, one_tree, steps_told, Takes}
use Rattle.lp_emitted.proofs.Sharing.{class_steps, joined, shared_by}

-- the front of a list whose image begins so, and what is behind it
pub record Cut (es : List Entry) (xs ys : List Item) : Type 0 where
  pub front : List Entry
  pub behind : List Entry
  pub es_are : es ≡ front ++ behind
  pub xs_are : map item front ≡ xs
  pub ys_are : map item behind ≡ ys

not_empty : (x : Item) (xs : List Item) → [] ≡ x ∷ xs → ⊥
not_empty x xs h = let e : length {A = Item} [] ≡ length (x ∷ xs) = ap length h in omega (arith, e)

abbrev head_of : Item → List Item → Item
head_of i [] = i
head_of i (x ∷ xs) = x

abbrev tail_of : List Item → List Item
tail_of [] = []
tail_of (x ∷ xs) = xs

cut : (es : List Entry) (xs ys : List Item) → map item es ≡ xs ++ ys → Cut es xs ys
cut es [] ys h = record { front = []; behind = es; es_are = refl; xs_are = refl; ys_are = h }
cut [] (x ∷ xs) ys h = absurd (not_empty x (xs ++ ys) h)
cut (e ∷ es) (x ∷ xs) ys h =
    let c = cut es xs ys (ap tail_of h) in
    record {
      front = e ∷ c.front;
      behind = c.behind;
      es_are = ap (λ (t : List Entry). e ∷ t) c.es_are;
      xs_are = ap (λ (t : List Item). item e ∷ t) c.xs_are ∙ ap (λ (i : Item). i ∷ xs) (ap (head_of x) h);
      ys_are = c.ys_are;
    }

-- what is asked of the steps of an entry's part
abbrev pub EntryTold : Told → Entry → Type 0
EntryTold T e = StepsTold T (steps_of e.part) e.holes.items e.numbers.items

-- entries that are trees side by side with these first parts
pub record Grown (T : Told) (es : List Entry) (ps : List Part) : Type 0 where
  pub trees : Forest
  pub holds : Holds es trees
  pub parts : parts_in trees ≡ ps
  pub shaped : AreShaped trees
  pub told : All (EntryTold T) es

length-items : (es : List Entry) → length (map item es) ≡ length es
length-items [] = refl
length-items (e ∷ es) = ap suc (length-items es)

-- a part over the parts that it counts
over_them : (e : Entry) (es : List Entry) (below : List Item) (i : Item) → item e ≡ i → i.3 ≡ length below → map item es ≡ below → e.below ≡ length es
over_them e es below i h n m = ap (λ (x : Item). x.3) h ∙ n ∙ sym (ap length m) ∙ length-items es

-- what is known of a part's item is known of the part
pub shaped_part : (e : Entry) (i : Item) (below : List Part) → item e ≡ i → length i.1 ≡ hole_count i.0 → is_shared (steps_of i.0) below ≡ true → IsShapedPart (content e) below
shaped_part e i below h count shared = record {
  count = subst (λ (x : Item). length x.1 ≡ hole_count x.0) (sym h) count;
  shared = subst (λ (x : Item). is_shared (steps_of x.0) below ≡ true) (sym h) shared;
}

entry_told : (T : Told) (e : Entry) (i : Item) → item e ≡ i → StepsTold T (steps_of i.0) i.1 i.2 → EntryTold T e
entry_told T e i h told = subst (λ (x : Item). StepsTold T (steps_of x.0) x.1 x.2) (sym h) told

pub grow : {T : Told} (items : List Item) (ps : List Part) → AreTrees T items ps → (es : List Entry) → map item es ≡ items → Grown T es ps
grow {T} _ _ no_tree [] h = record { trees = bare; holds = holds_none; parts = refl; shaped = tt; told = All-nil (EntryTold T) }
grow _ _ no_tree (e ∷ es) h = absurd (not_empty (item e) (map item es) (sym h))
grow _ _ (one_tree part holes numbers below after inner outer count told shared b a) [] h = absurd (not_empty (part, holes, numbers, length below) (below ++ after) h)
grow {T} _ _ (one_tree part holes numbers below after inner outer count told shared b a) (e ∷ es) h =
    let c = cut es below after (ap tail_of h) in
    let i : item e ≡ (part, holes, numbers, length below) = ap (head_of (item e)) h in
    let f = grow below inner b c.front c.xs_are in
    let k = grow after outer a c.behind c.ys_are in
    record {
      trees = tree (content e) f.trees k.trees;
      holds = subst (λ (x : List Entry). Holds (e ∷ x) (tree (content e) f.trees k.trees)) (sym c.es_are)
          (holds_then (e ∷ c.front) c.behind (tree (content e) f.trees bare) k.trees
          (holds_tree e c.front f.trees (over_them e c.front below (part, holes, numbers, length below) i refl c.xs_are) f.holds) k.holds);
      parts = ap (λ (x : Item). x.0 ∷ parts_in k.trees) i ∙ ap (λ (ps : List Part). part ∷ ps) k.parts;
      shaped = (
        shaped_part e (part, holes, numbers, length below) (parts_in f.trees) i count (ap (is_shared (steps_of part)) f.parts ∙ shared),
        f.shaped,
        k.shaped,
      );
      told = All-cons (EntryTold T) e es (entry_told T e (part, holes, numbers, length below) i told)
          (subst (All (EntryTold T)) (sym c.es_are) (All-append (EntryTold T) c.front c.behind f.told k.told));
    }

-- a whole program, over what its steps take
record WholeGrown (T : Told) (es : List Entry) : Type 0 where
  first : IsProgram (whole es)
  shaped : AreShaped (whole es)
  told : All (EntryTold T) es

whole_grown : {T : Told} (p : Part) (holes : List (List ℕ)) (numbers : List ℤ) (below : List Item) (es : List Entry) → p ≡ part.Program → length holes ≡ hole_count p → StepsTold T (steps_of p) holes numbers → Takes T (class_steps (steps_of p)) below →
    map item es ≡ (p, holes, numbers, length below) ∷ below → WholeGrown T es
whole_grown p holes numbers below [] q count told t h = absurd (not_empty (p, holes, numbers, length below) below h)
whole_grown {T} p holes numbers below (e ∷ es) q count told t h =
    let i : item e ≡ (p, holes, numbers, length below) = ap (head_of (item e)) h in
    let f = grow below (joined t.chunks) t.trees es (ap tail_of h) in
    let same : forest es ≡ f.trees = holds_alone es f.trees f.holds in
    record {
      first = ap (λ (x : Item). x.0) i ∙ q;
      shaped = (
        subst (λ (x : Forest). IsShapedPart (content e) (parts_in x)) (sym same)
            (shaped_part e (p, holes, numbers, length below) (parts_in f.trees) i count (ap (is_shared (steps_of p)) f.parts ∙ shared_by (steps_of p) t.chunks (templates_apart p) t.fits)),
        subst AreShaped (sym same) f.shaped,
        tt,
      );
      told = All-cons (EntryTold T) e es (entry_told T e (p, holes, numbers, length below) i told) f.told;
    }

no_holes : length {A = List ℕ} [] ≡ hole_count part.Program
unfolding steps_of holes_of
no_holes = refl

program_told : (T : Told) → StepsTold T (steps_of part.Program) [] []
unfolding steps_of
program_told T = steps_told T (steps_of part.Program) [] [] refl

built_grown : {T : Told} (g : Grammar) (states : List StartStates) (program : Program) → Given T g states → IsBuilt g states program → WholeGrown T program.entries.items
built_grown {T} g states program given built =
    whole_grown part.Program [] [] (program_lines g built.modules) program.entries.items refl no_holes (program_told T) (program_takes g states given built.modules built.each) built.parts

-- where nothing is asked
nothing : Told
nothing = record { use_text = λ _. Unit {0}; code = λ _. Unit {0}; table = λ _. Unit {0} }

kind_nothing : (kind : ActionFnDefnKind) → KindTold nothing kind
unfolding nothing
kind_nothing (User patterns types code) = tt
kind_nothing (Lookaround place) = tt
kind_nothing (Inline outer symbols) = tt

nothing_given : (g : Grammar) (states : List StartStates) → Given nothing g states
unfolding nothing
nothing_given g states = record {
  uses = λ k d h. tt;
  inner = λ k d h. tt;
  codes = λ k d h. kind_nothing _;
  tables = λ start list e. record { actions = tt; ends = tt };
}

pub built_is_shaped : (g : Grammar) (states : List StartStates) (program : Program) → IsBuilt g states program → IsShaped program
built_is_shaped g states program built =
    let s = built_grown g states program (nothing_given g states) built in
    record { first = s.first; trees = s.shaped }

-- what is asked of uses, codes and tables holds in the program
pub built_told : {T : Told} (g : Grammar) (states : List StartStates) (program : Program) → Given T g states → IsBuilt g states program → All (EntryTold T) program.entries.items
built_told g states program given built = (built_grown g states program given built).told
