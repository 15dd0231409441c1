-- The steps of a part, printed one after another.
use Rattle.std.proofs.Common.{◌≡◌, ℕ, ◌+◌, ◌<◌, ◌≤◌, List, [], ◌++◌, length, map, take, drop, get_or, Bor, sym, ap, ◌∙◌, subst}
use Rattle.std.proofs.lemmas.List.{at_drop_more, at_drop_all}
use Rattle.lp_form.specs.declared.template.Slot.{Slot}
use Rattle.lp_form.specs.declared.template.Step.{Step}
use Rattle.lp_form.specs.Templates.{line, piece, steps_of}
use Rattle.lp_write.specs.Lines.{Line}
use Rattle.lp_write.specs.Writes.{Writing, AppendsAll, Writes, error_ending}
use Rattle.lp_write.specs.declared.rust.Options.{Options}
use Rattle.lp_write.specs.declared.rust.WriteError.{WriteError}
use Rattle.lp_tree.specs.declared.tree.Entry.{Entry}
use Rattle.lp_program.specs.Trees.{content, forest, tree_count}
use Rattle.lp_program.specs.Places.{IsAfter, printed_from}
use Rattle.lp_program.specs.OwnLines.{own_lines}
use Rattle.lp_program.specs.Printed.{all_lines, part_lines, printed, step_lines, taken}
use Rattle.lp_program.proofs.Printing.{part-is, rest_lines}
use Rattle.lp_program.proofs.Progress.{Left, left-all, left-more, left-none, left-stopped}

-- a step as the code holds it
abbrev pub HeldStep : Type 0
HeldStep = Step × Bor (List (Bor (List ℕ) × Slot))

-- the lines of one step, over what is below from a place on
abbrev pub held_lines : List ℕ → Entry → List Entry → ℕ → HeldStep → Options → List Line
held_lines p e below at s o =
    own_lines o p (content e) (tree_count (forest below)) (map piece s.1.now) s.0
    ++ all_lines (take (taken s.0 (printed_from o p below at)) (printed_from o p below at))

-- the steps that are printed, and what is below them up to a place
pub record Steps (p : List ℕ) (e : Entry) (below : List Entry) (steps : List HeldStep) (index at : ℕ) (a b : Writing) : Type 0 where
  pub within : at ≤ length below
  pub left : Left a b (rest_lines a.options p e below steps 0) (rest_lines a.options p e below (drop index steps) at)

-- the lines of the next step, and those of the steps after it
steps-next : (o : Options) (p : List ℕ) (e : Entry) (below : List Entry) (steps : List HeldStep) (index at n : ℕ) (d : HeldStep) → index < length steps →
    let s = get_or steps index d in
    printed_from o p below n ≡ drop (taken s.0 (printed_from o p below at)) (printed_from o p below at) →
    rest_lines o p e below (drop index steps) at ≡ held_lines p e below at s o ++ rest_lines o p e below (drop (index + 1) steps) n
unfolding step_lines
steps-next o p e below steps index at n d h q =
    at_drop_more (λ l. rest_lines o p e below l at) steps index d h
    ∙ ap (λ trees. held_lines p e below at (get_or steps index d) o
    ++ step_lines o p (content e) (tree_count (forest below)) (map line (drop (index + 1) steps)) trees) (sym q)

steps-rest : (o : Options) (p : List ℕ) (e : Entry) (below : List Entry) (steps : List HeldStep) (index at : ℕ) (d : HeldStep) → index < length steps →
    let s = get_or steps index d in
    rest_lines o p e below (drop index steps) at
    ≡ held_lines p e below at s o
    ++ step_lines o p (content e) (tree_count (forest below)) (map line (drop (index + 1) steps))
    (drop (taken s.0 (printed_from o p below at)) (printed_from o p below at))
unfolding step_lines
steps-rest o p e below steps index at d h = at_drop_more (λ l. rest_lines o p e below l at) steps index d h

-- the lines of all steps are those of the part
steps-all : (o : Options) (p : List ℕ) (e : Entry) (below : List Entry) (steps : List HeldStep) → map line steps ≡ steps_of e.part →
    rest_lines o p e below steps 0 ≡ part_lines o p e below
steps-all o p e below steps t =
    ap (λ l. step_lines o p (content e) (tree_count (forest below)) l (printed o p (forest below))) t ∙ sym (part-is o p e below)

pub steps-start : (p : List ℕ) (e : Entry) (below : List Entry) (steps : List HeldStep) (a : Writing) → 0 ≤ length below → Steps p e below steps 0 0 a a
steps-start p e below steps a h = record { within = h; left = left-all a _ }

pub steps-stopped : (p : List ℕ) (e : Entry) (below : List Entry) (steps : List HeldStep) (index at : ℕ) (d : HeldStep) (error : WriteError) (a b c : Writing) →
    Steps p e below steps index at a b → index < length steps → map line steps ≡ steps_of e.part →
    Writes (error_ending error) b c (held_lines p e below at (get_or steps index d) b.options) →
    Writes (error_ending error) a c (part_lines a.options p e below)
steps-stopped p e below steps index at d error a b c s h t w =
    subst (λ l. Writes (error_ending error) a c l) (steps-all a.options p e below steps t)
    (left-stopped (held_lines p e below at (get_or steps index d)) error a b c _ _ _ s.left (steps-rest a.options p e below steps index at d h) w)

pub steps-more : (p : List ℕ) (e : Entry) (below : List Entry) (steps : List HeldStep) (index at n : ℕ) (d : HeldStep) (a b c : Writing) →
    Steps p e below steps index at a b → index < length steps →
    IsAfter b.options p below at (taken (get_or steps index d).0 (printed_from b.options p below at)) n →
    AppendsAll b c (held_lines p e below at (get_or steps index d) b.options) → Steps p e below steps (index + 1) n a c
steps-more p e below steps index at n d a b c s h i w =
    let after : IsAfter a.options p below at (taken (get_or steps index d).0 (printed_from a.options p below at)) n
    = subst (λ o. IsAfter o p below at (taken (get_or steps index d).0 (printed_from o p below at)) n) s.left.appended.options i in
    record {
      within = after.within;
      left = left-more (held_lines p e below at (get_or steps index d)) a b c _ _ _ s.left (steps-next a.options p e below steps index at n d h after.left) w;
    }

-- all steps are printed
pub steps-end : (p : List ℕ) (e : Entry) (below : List Entry) (steps : List HeldStep) (index at : ℕ) (a b : Writing) →
    Steps p e below steps index at a b → length steps ≤ index → map line steps ≡ steps_of e.part →
    AppendsAll a b (part_lines a.options p e below)
unfolding step_lines
steps-end p e below steps index at a b s h t =
    let none : rest_lines a.options p e below (drop index steps) at ≡ [] = at_drop_all (λ l. rest_lines a.options p e below l at) steps index h in
    let all = left-none a b _ (subst (λ rest. Left a b (rest_lines a.options p e below steps 0) rest) none s.left) in
    subst (λ l. AppendsAll a b l) (steps-all a.options p e below steps t) all
