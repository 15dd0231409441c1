-- The least rest of a program behind the first line of its standard uses.
use Rattle.std.proofs.Common.{◌≡◌, ℕ, ◌+◌, ◌==◌, Bool, true, false, ◌||◌, cond, List, [], ◌∷◌, ◌++◌, length, get_or, drop, codes, refl, sym, ap, ◌∙◌, subst, arith, append-nil}
use Rattle.std.specs.List.{list_all}
use Rattle.std.specs.Str.{IsUtf8}
use Rattle.std.proofs.lemmas.Bool.{ne_eqb}
use Rattle.std.proofs.lemmas.List.Elements.{All-nil}
use Rattle.std.proofs.lemmas.Str.{IsUtf8-append}
use Rattle.lp_form.specs.Classes.{members_of}
use Rattle.lp_form.specs.Templates.{steps_of, holes_of}
use Rattle.lp_form.specs.Templates as template
use Rattle.lp_form.specs.declared.class.Class.TheVariants as class_of
use Rattle.lp_form.specs.declared.part.Part.{Part}
use Rattle.lp_form.specs.declared.part.Part.TheVariants as part
use Rattle.lp_form.specs.declared.template.Step.TheVariants as step
use Rattle.lp_reading_laws.specs.Holes.Parted.{IsParted}
use Rattle.lp_reading_laws.proofs.Printing.Own.{Texts, ready_same}
use Rattle.lp_spelling.specs.Counting.{settled}
use Rattle.lp_spelling.specs.Fillings.{holds}
use Rattle.lp_spelling.specs.HoleEnds.{first_at}
use Rattle.lp_spelling.specs.Lines.{line_of}
use Rattle.lp_program.specs.Printed.{is_member}
use Rattle.lp_program.specs.Reads.{TakesLine, may_have, parts_in, graft, is_prefix, Reads}
use Rattle.lp_program.specs.Reads.Reads.{no_tree, one_tree, one_step}
use Rattle.lp_program.specs.Reads.Task.{steps}
use Rattle.lp_program.specs.Trees.{Content, Forest, tree_count}
use Rattle.lp_program.specs.Trees.Forest.{bare, tree}
use Rattle.lp_program.proofs.Showing.{first_line, second_line, first_spelled, standard_steps, program_steps}
use Rattle.lp_viable.specs.Fillings.{other_letter, filling}
use Rattle.lp_viable.specs.Least.{needed, least_holes, least_content, trees_over, least_below, steps_text, least_text, are_fit, is_used_alone}
use Rattle.lp_viable.specs.StepTests.{is_plain_part}
use Rattle.lp_viable.proofs.Leaves.{leaves, leaves_are}
use Rattle.lp_viable.proofs.Least.{Taken, left_read, least_fills, least_count, prefix_is, steps_fit}
use Rattle.lp_viable.proofs.LeastTexts.{steps_utf8}
use Rattle.lp_viable.proofs.Opening.{standard_line, FrontRead}
use Rattle.lp_viable.proofs.Steps.{each_least, each_utf8}

-- what is left of the standard uses, and of a program behind them
abbrev standard_left : List template.Line
standard_left = (step.Line 0, second_line) ∷ drop 2 (steps_of part.StandardUses)

abbrev program_left : List template.Line
program_left = drop 3 (steps_of part.Program)

abbrev rest_text : List ℕ → Part → ℕ → List template.Line → List ℕ
rest_text prefix p total ss = steps_text (least_text 16 prefix) prefix (least_content prefix p) total ss

-- both have least texts
standard_fit : are_fit is_plain_part false (holes_of part.StandardUses) standard_left ≡ true
unfolding steps_of holes_of members_of
standard_fit = refl

standard_alone : list_all (λ s. is_used_alone part.StandardUses s.0) standard_left ≡ true
unfolding steps_of holes_of
standard_alone = refl

standard_needed : needed standard_left ≡ []
unfolding steps_of members_of
standard_needed = refl

program_fit : are_fit is_plain_part false (holes_of part.Program) program_left ≡ true
unfolding steps_of holes_of members_of
program_fit = refl

program_alone : list_all (λ s. is_used_alone part.Program s.0) program_left ≡ true
unfolding steps_of holes_of
program_alone = refl

program_needed : needed program_left ≡ part.ToTripleLocatedWhere ∷ []
unfolding steps_of members_of
program_needed = refl

least_texts : (prefix : List ℕ) → IsUtf8 prefix → is_prefix prefix ≡ true → (p : Part) → Texts prefix (least_content prefix p) (holes_of p)
least_texts prefix u h p = record { prefix_is = prefix_is prefix u h; fills = least_fills prefix p u h; notes = All-nil _; few = omega arith }

-- the parts that are left: the standard uses, and the trait behind all
abbrev pub standard_uses : List ℕ → Forest
standard_uses prefix = tree (least_content prefix part.StandardUses) bare bare

abbrev pub last_part : List ℕ → Forest
last_part prefix = tree (least_content prefix part.ToTripleLocatedWhere) bare bare

last_over : (prefix : List ℕ) → trees_over (least_below 16 prefix) prefix (part.ToTripleLocatedWhere ∷ []) ≡ last_part prefix
unfolding least_below steps_of members_of
last_over prefix = refl

-- the standard uses are read
standard_read : (prefix : List ℕ) → IsUtf8 prefix → is_prefix prefix ≡ true → (text q tail : List ℕ) → TakesLine standard_line text q → settled q ≡ settled (rest_text prefix part.StandardUses 0 standard_left ++ tail) →
    Taken prefix (standard_uses prefix) text tail
standard_read prefix u h text q tail t e =
    let p : Part = part.StandardUses in
    let c : Content = least_content prefix p in
    let none = ap length standard_needed in
    let l = left_read (least_below 16 prefix) (least_text 16 prefix) is_plain_part prefix c (holes_of p) 0 standard_left 0 false q tail
    (λ x k. each_least prefix u h x k) (least_texts prefix u h p) standard_fit (steps_fit prefix p standard_left standard_alone) (omega (arith, none)) (ready_same q (rest_text prefix p 0 standard_left ++ tail) e) in
    let inner : Reads prefix (steps c 0 standard_left bare) q l.rest = subst (λ ps. Reads prefix (steps c 0 standard_left (trees_over (least_below 16 prefix) prefix ps)) q l.rest) standard_needed l.reads in
    let line : TakesLine (line_of prefix c.holes first_line) text q = subst (λ (x : List ℕ). TakesLine x text q) (sym (first_spelled prefix c.holes)) t in
    record {
      rest = l.rest;
      reads = one_tree c bare bare text l.rest l.rest (least_count prefix p) (λ i lt. (least_fills prefix p u h i lt).0)
          (subst (λ ss. Reads prefix (steps c 0 ss bare) text l.rest) (sym standard_steps) (one_step c 0 (step.Line 0, first_line) standard_left bare bare text q q l.rest refl line (no_tree q) inner)) (no_tree l.rest);
      same = l.same;
    }

-- all trees below a program
abbrev pub below_all : List ℕ → Forest → Forest → Forest
below_all prefix first second = graft (leaves part.Attribute first) (graft (leaves part.UseLine second) (graft (standard_uses prefix) (last_part prefix)))

-- how many stand in front of the last
abbrev before_last : List ℕ → Forest → Forest → ℕ
before_last prefix first second = ((0 + tree_count (leaves part.Attribute first)) + tree_count (leaves part.UseLine second)) + tree_count (standard_uses prefix)

-- the text of what is left
abbrev pub least_rest : List ℕ → Forest → Forest → List ℕ
least_rest prefix first second = rest_text prefix part.StandardUses 0 standard_left ++ rest_text prefix part.Program (before_last prefix first second + 1) program_left

pub rest_utf8 : (prefix : List ℕ) → IsUtf8 prefix → is_prefix prefix ≡ true → (first second : Forest) → IsUtf8 (least_rest prefix first second)
rest_utf8 prefix u h first second =
    let of : (p : Part) (total : ℕ) (ss : List template.Line) → are_fit is_plain_part false (holes_of p) ss ≡ true → list_all (λ s. is_used_alone p s.0) ss ≡ true → IsUtf8 (rest_text prefix p total ss) =
    λ p total ss fit alone. steps_utf8 (least_text 16 prefix) is_plain_part prefix (least_content prefix p) (holes_of p) total ss false (λ x k. each_utf8 prefix u h x k) (least_texts prefix u h p) refl fit (steps_fit prefix p ss alone) in
    IsUtf8-append (rest_text prefix part.StandardUses 0 standard_left) (rest_text prefix part.Program (before_last prefix first second + 1) program_left) (of part.StandardUses 0 standard_left standard_fit standard_alone)
    (of part.Program (before_last prefix first second + 1) program_left program_fit program_alone)

-- the parts in front are of their classes
attribute_in : is_member class_of.Attribute part.Attribute ≡ true
unfolding members_of
attribute_in = refl

use_in : is_member class_of.Use part.UseLine ≡ true
unfolding members_of
use_in = refl

standard_may : (prefix : List ℕ) → may_have (step.One class_of.StandardUses) (parts_in (standard_uses prefix)) ≡ true
unfolding members_of
standard_may prefix = refl

-- a program is read of it
pub program_read : (prefix : List ℕ) → IsUtf8 prefix → is_prefix prefix ≡ true → (first second : Forest) (text q : List ℕ) → FrontRead prefix first second text q → settled q ≡ settled (least_rest prefix first second) →
    Taken prefix (tree (least_content prefix part.Program) (below_all prefix first second) bare) text []
program_read prefix u h first second text q f e =
    let p : Part = part.Program in
    let c : Content = least_content prefix p in
    let before : ℕ = before_last prefix first second in
    let last : List ℕ = rest_text prefix p (before + 1) program_left in
    let s = standard_read prefix u h f.own q last f.takes e in
    let one = ap length program_needed in
    let l = left_read (least_below 16 prefix) (least_text 16 prefix) is_plain_part prefix c (holes_of p) (before + 1) program_left before false s.rest []
    (λ x k. each_least prefix u h x k) (least_texts prefix u h p) program_fit (steps_fit prefix p program_left program_alone) (omega (arith, one)) (ready_same s.rest (last ++ []) (s.same ∙ ap settled (sym (append-nil last)))) in
    let inner : Reads prefix (steps c before program_left (last_part prefix)) s.rest l.rest =
    subst (λ g. Reads prefix (steps c before program_left g) s.rest l.rest) (ap (trees_over (least_below 16 prefix) prefix) program_needed ∙ last_over prefix) l.reads in
    let x : Forest = leaves part.Attribute first in
    let y : Forest = leaves part.UseLine second in
    let z : Forest = standard_uses prefix in
    let third = one_step c ((0 + tree_count x) + tree_count y) (step.One class_of.StandardUses, []) program_left z (last_part prefix) f.own f.own s.rest l.rest (standard_may prefix) refl s.reads inner in
    let other = one_step c (0 + tree_count x) (step.Many class_of.Use, []) ((step.One class_of.StandardUses, []) ∷ program_left) y (graft z (last_part prefix)) f.mid f.mid f.own l.rest (leaves_are class_of.Use part.UseLine second use_in) refl f.uses third in
    let all = one_step c 0 (step.Many class_of.Attribute, []) ((step.Many class_of.Use, []) ∷ (step.One class_of.StandardUses, []) ∷ program_left) x (graft y (graft z (last_part prefix))) text text f.mid l.rest
    (leaves_are class_of.Attribute part.Attribute first attribute_in) refl f.attributes other in
    record {
      rest = l.rest;
      reads = one_tree c (below_all prefix first second) bare text l.rest l.rest (least_count prefix p) (λ i lt. (least_fills prefix p u h i lt).0)
          (subst (λ ss. Reads prefix (steps c 0 ss (below_all prefix first second)) text l.rest) (sym program_steps) all) (no_tree l.rest);
      same = l.same;
    }

-- the type in the last part is one letter
letter_parted : (sought : List ℕ) (b : Bool) → holds (41 ∷ sought) (cond b (codes "b") (codes "a")) ≡ false
unfolding holds first_at
letter_parted sought true = ap (λ (x : Bool). x || false) (ne_eqb (length (41 ∷ sought)) 0 (λ e. omega (arith, e)))
letter_parted sought false = ap (λ (x : Bool). x || false) (ne_eqb (length (41 ∷ sought)) 0 (λ e. omega (arith, e)))

pub last_parted : (prefix : List ℕ) → IsParted prefix part.ToTripleLocatedWhere (least_holes prefix part.ToTripleLocatedWhere)
unfolding steps_of holes_of filling other_letter
last_parted prefix = letter_parted (codes ", " ++ (prefix ++ codes "lalrpop_util::ParseError<")) (get_or prefix 0 0 == 97)
