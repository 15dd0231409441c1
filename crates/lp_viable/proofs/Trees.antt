-- Where a part is completed that begins behind some trees of a step, the step is completed.
use Rattle.std.proofs.Common.{◌≡◌, ℕ, ◌==◌, true, false, ◌&&◌, List, [], ◌∷◌, ◌++◌, length, refl, sym, ap, ◌∙◌, subst, append_assoc}
use Rattle.std.specs.List.{list_all}
use Rattle.std.specs.Str.{IsUtf8}
use Rattle.std.proofs.lemmas.Bool.{and_parts, or_left, or_right, both_ways}
use Rattle.std.proofs.lemmas.Str.{IsUtf8-append}
use Rattle.lp_form.specs.Templates.{steps_of}
use Rattle.lp_form.specs.declared.class.Class.{Class}
use Rattle.lp_form.specs.declared.part.Part.{Part}
use Rattle.lp_form.specs.declared.part.Part.TheVariants as part
use Rattle.lp_form.specs.declared.template.Step.{Step}
use Rattle.lp_form.specs.declared.template.Step.TheVariants as step
use Rattle.lp_spelling.specs.Counting.{settled}
use Rattle.lp_program.specs.Printed.{is_member, takes}
use Rattle.lp_program.specs.Reads.{may_have, graft, parts_in, is_prefix, Reads, trees}
use Rattle.lp_program.specs.Reads.Reads.{no_tree}
use Rattle.lp_program.specs.Trees.{Content, Forest}
use Rattle.lp_program.specs.Trees.Forest.{bare, tree}
use Rattle.lp_reading_laws.specs.Printing.TemplateTests.{has_code, is_one}
use Rattle.lp_reading_laws.proofs.Printing.Steps.{Closing}
use Rattle.lp_reading_laws.proofs.Printing.Templates.{code_part}
use Rattle.lp_viable.specs.Least.{first_member, least_content, least_below, least_text}
use Rattle.lp_program.specs.Starting.{pairs_go_on, goes_on}
use Rattle.lp_viable.proofs.Going.{ReadsGoOn}
use Rattle.lp_viable.proofs.GoingOn.{Others, no_others, one_other, GoneOn, gone_on, parts_graft}
use Rattle.lp_viable.proofs.Moving.{nothing_utf8}
use Rattle.lp_viable.proofs.LeastTexts.{least_utf8}
use Rattle.lp_viable.proofs.Least.{Taken, tree_read, least_ok, reads_graft}
use Rattle.lp_viable.proofs.Parts.{first_plain}

-- a part that a text begins is completed, whatever stands behind; behind user code a `}`
pub record PartDone (prefix : List ℕ) (p : Part) (text : List ℕ) : Type 0 where
  pub more : List ℕ
  pub c : Content
  pub below : Forest
  pub utf8 : IsUtf8 more
  pub part_is : c.part ≡ p
  pub again : (q : List ℕ) → (has_code (steps_of p) ≡ true → Closing q) → Taken prefix (tree c below bare) (text ++ (more ++ q)) q

-- and what a step has below
pub record BelowDone (prefix : List ℕ) (s : Step) (text : List ℕ) : Type 0 where
  pub more : List ℕ
  pub f : Forest
  pub utf8 : IsUtf8 more
  pub may : may_have s (parts_in f) ≡ true
  pub again : (q : List ℕ) → (takes s part.UserBody ≡ true → Closing q) → Taken prefix f (text ++ (more ++ q)) q

-- a part that may follow belongs to the step
pairs_take : (first second : Class) (parts : List Part) (p : Part) → pairs_go_on first second parts p ≡ true → takes (step.Pairs first second) p ≡ true
pairs_take first second [] p h = or_left (is_member first p) _ h
pairs_take first second (q ∷ []) p h = or_right (is_member first p) _ (and_parts (is_member first q) (is_member second p) h).1
pairs_take first second (q ∷ r ∷ parts) p h =
    let a = and_parts (is_member first q) (is_member second r && pairs_go_on first second parts p) h in
    pairs_take first second parts p (and_parts (is_member second r) (pairs_go_on first second parts p) a.1).1

goes_takes : (s : Step) (parts : List Part) (p : Part) → goes_on s parts p ≡ true → takes s p ≡ true
goes_takes (step.One class) parts p h = (and_parts (length parts == 0) (is_member class p) h).1
goes_takes (step.Optional class) parts p h = (and_parts (length parts == 0) (is_member class p) h).1
goes_takes (step.Many class) parts p h = (and_parts (list_all (is_member class) parts) (is_member class p) h).1
goes_takes (step.Some class) parts p h = (and_parts (list_all (is_member class) parts) (is_member class p) h).1
goes_takes (step.Pairs first second) parts p h = pairs_take first second parts p h
goes_takes _ parts p h = absurd (both_ways false refl h)

-- the others behind it
record After (prefix : List ℕ) (s : Step) (others : List Part) : Type 0 where
  more : List ℕ
  f : Forest
  utf8 : IsUtf8 more
  parts : parts_in f ≡ others
  again : (text q : List ℕ) → settled text ≡ settled (more ++ q) → Taken prefix f text q
  closing : (q : List ℕ) → is_one s ≡ true → Closing q → Closing (more ++ q)

after : (prefix : List ℕ) → IsUtf8 prefix → is_prefix prefix ≡ true → (s : Step) (others : List Part) → Others s others → After prefix s others
after prefix u h _ _ (no_others s) = record { more = []; f = bare; utf8 = nothing_utf8; parts = refl; again = λ text q e. record { rest = text; reads = no_tree text; same = e }; closing = λ q o c. c }
after prefix u h _ _ (one_other first second) =
    let p : Part = first_member second in
    record {
      more = least_text 16 prefix p;
      f = tree (least_content prefix p) (least_below 16 prefix p) bare;
      utf8 = least_utf8 16 prefix u h p (least_ok p (first_plain second));
      parts = refl;
      again = λ text q e. tree_read 16 prefix u h p (least_ok p (first_plain second)) text q e;
      closing = λ q o c. absurd (both_ways false refl o);
    }

pub tree_done : (prefix : List ℕ) → IsUtf8 prefix → is_prefix prefix ≡ true → (s : Step) (f : Forest) (p : Part) (text mid : List ℕ) → (takes s part.UserBody ≡ true → is_one s ≡ true) → goes_on s (parts_in f) p ≡ true →
    ReadsGoOn prefix (trees f) text mid → PartDone prefix p mid → BelowDone prefix s text
tree_done prefix u h s f p text mid single goes on d =
    let g : GoneOn s (parts_in f) p = gone_on s (parts_in f) p goes in
    let a : After prefix s g.others = after prefix u h s g.others g.are in
    let one : Forest = tree d.c d.below bare in
    let parts : parts_in (graft f (graft one a.f)) ≡ parts_in f ++ p ∷ g.others =
    parts_graft f (graft one a.f) ∙ ap (λ (x : List Part). parts_in f ++ d.c.part ∷ x) a.parts ∙ ap (λ x. parts_in f ++ x ∷ g.others) d.part_is in
    record {
      more = d.more ++ a.more;
      f = graft f (graft one a.f);
      utf8 = IsUtf8-append d.more a.more d.utf8 a.utf8;
      may = ap (may_have s) parts ∙ g.may;
      again = λ q closing.
          (let x : List ℕ = d.more ++ (a.more ++ q) in
          let first = d.again (a.more ++ q) (λ code.
          (let takes_it : takes s part.UserBody ≡ true = ap (takes s) (sym (code_part p code)) ∙ goes_takes s (parts_in f) p goes in
          a.closing q (single takes_it) (closing takes_it))) in
          let next = a.again first.rest q first.same in
          let there : text ++ x ≡ text ++ ((d.more ++ a.more) ++ q) = ap (λ (y : List ℕ). text ++ y) (sym (append_assoc d.more a.more q)) in
          record {
            rest = next.rest;
            reads = subst (λ (y : List ℕ). Reads prefix (trees (graft f (graft one a.f))) y next.rest) there
                (reads_graft prefix f (graft one a.f) (text ++ x) (mid ++ x) next.rest (on x) (reads_graft prefix one a.f (mid ++ x) first.rest next.rest first.reads next.reads));
            same = next.same;
          });
    }
