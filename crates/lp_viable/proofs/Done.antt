-- What a text begins that stops before its end can be completed: a part, what a step has below, and the steps that are left of a part.
use Rattle.std.proofs.Common.{◌≡◌, ℕ, ◌+◌, Bool, true, false, List, [], ◌∷◌, ◌++◌, inl, inr, refl, ap, ◌∙◌, subst}
use Rattle.std.specs.Str.{IsUtf8}
use Rattle.std.proofs.lemmas.Bool.{cases_Bool, both_ways}
use Rattle.lp_form.specs.Templates.{Piece, steps_of}
use Rattle.lp_form.specs.Templates as template
use Rattle.lp_form.specs.declared.part.Part.{Part}
use Rattle.lp_form.specs.declared.part.Part.TheVariants as part
use Rattle.lp_form.specs.declared.template.Step.{Step}
use Rattle.lp_form.specs.declared.template.Step.TheVariants as step
use Rattle.lp_spelling.specs.Counting.{settled}
use Rattle.lp_program.specs.Choosing.{grown}
use Rattle.lp_program.specs.Printed.{takes}
use Rattle.lp_program.specs.Reads.{is_prefix, may_have, parts_in}
use Rattle.lp_program.specs.Reads.Reads.{no_tree, one_tree}
use Rattle.lp_program.specs.Starting.{Goal, one_part, below_step, steps_left, goes_on}
use Rattle.lp_program.specs.Telling.{Told, untold, TellsOwn}
use Rattle.lp_program.specs.Trees.{tree_count}
use Rattle.lp_program.specs.Trees.Forest.{bare}
use Rattle.lp_reading_laws.specs.Printing.TemplateTests.{has_code, is_class, is_one, exact_after}
use Rattle.lp_viable.specs.Least.{first_needed, least_content, trees_over, least_below, least_text, texts_over}
use Rattle.lp_viable.specs.StepTests.{is_plain_part, known_past, tabled_past, is_going}
use Rattle.lp_local.proofs.Ended.{IsEnded}
use Rattle.lp_viable.proofs.Moving.{past_ended}
use Rattle.lp_viable.proofs.Going.{OwnGoesOn, StartsOn, ended_on, in_part_on, in_own_on, in_below_on, behind_step_on, in_tree_on}
use Rattle.lp_viable.proofs.LeastTexts.{texts_utf8, least_utf8}
use Rattle.lp_viable.proofs.Parts.{ended_part, may_need}
use Rattle.lp_viable.proofs.Trees.{PartDone, BelowDone, tree_done}
use Rattle.lp_viable.proofs.Least.{least_ok, parts_over, some_read}
use Rattle.lp_viable.proofs.Told.{SoFar, nothing_so_far, own_so_far}
use Rattle.lp_viable.proofs.StepTests.{Passed, passed, steps_go, first_fits, code_closes}
use Rattle.lp_viable.proofs.Steps.{StepsDone, each_least, each_utf8, blank_done, own_done, step_done, plain_done, below_done, class_tells}
use Rattle.lp_viable.proofs.UserCode.{user_blank, user_begun}

-- what is completed
abbrev Done : List ℕ → Goal → List ℕ → Type 0
Done prefix (one_part p) text = PartDone prefix p text
Done prefix (below_step s) text = (takes s part.UserBody ≡ true → is_one s ≡ true) → BelowDone prefix s text
Done prefix (steps_left p t count ss) text = (n : ℕ) (tabled exact : Bool) → SoFar prefix p t n tabled → is_going p n tabled exact ss ≡ true → StepsDone prefix p t count ss text

-- nothing that counts is left: the least trees follow
below_blank : (prefix : List ℕ) → IsUtf8 prefix → is_prefix prefix ≡ true → (s : Step) (text : List ℕ) → IsEnded text → settled text ≡ [] → BelowDone prefix s text
below_blank prefix u h s text e none =
    let more : List ℕ = texts_over (least_text 16 prefix) (first_needed s) in
    record {
      more = more;
      f = trees_over (least_below 16 prefix) prefix (first_needed s);
      utf8 = texts_utf8 (least_text 16 prefix) is_plain_part (first_needed s) (λ p k. each_utf8 prefix u h p k) (first_fits s);
      may = ap (may_have s) (parts_over (least_below 16 prefix) prefix (first_needed s)) ∙ may_need s;
      again = λ q closing.
          some_read (least_below 16 prefix) (least_text 16 prefix) is_plain_part prefix (first_needed s) (text ++ (more ++ q)) q (λ p k. each_least prefix u h p k) (first_fits s) (past_ended text (more ++ q) e none);
    }

part_blank : (prefix : List ℕ) → IsUtf8 prefix → is_prefix prefix ≡ true → (p : Part) (text : List ℕ) → IsUtf8 text → IsEnded text → settled text ≡ [] → PartDone prefix p text
part_blank prefix u h p text v e none = elim (cases_Bool (has_code (steps_of p))) [
  | inl y ↦ user_blank prefix p text y v e none
  | inr x ↦ record {
    more = least_text 16 prefix p;
    c = least_content prefix p;
    below = least_below 16 prefix p;
    utf8 = least_utf8 16 prefix u h p (least_ok p x);
    part_is = refl;
    again = λ q closing. ended_part prefix u h p x text q e none;
  }
]

all_blank : (prefix : List ℕ) → IsUtf8 prefix → is_prefix prefix ≡ true → (g : Goal) (text : List ℕ) → IsUtf8 text → IsEnded text → settled text ≡ [] → Done prefix g text
all_blank prefix u h (one_part p) text v e none = part_blank prefix u h p text v e none
all_blank prefix u h (below_step s) text v e none = λ single. below_blank prefix u h s text e none
all_blank prefix u h (steps_left p t count ss) text v e none = λ n tabled exact so go. blank_done prefix u h p t n tabled exact count ss text so go v e none

-- all steps of a part are completed, and so is the part
part_from : (prefix : List ℕ) (p : Part) (text : List ℕ) → StepsDone prefix p untold 0 (steps_of p) text → PartDone prefix p text
part_from prefix p text d = record {
  more = d.more;
  c = grown p d.final;
  below = d.f;
  utf8 = d.utf8;
  part_is = refl;
  again = λ q closing.
      (let l = d.again q in
      record { rest = l.rest; reads = one_tree (grown p d.final) d.f bare (text ++ (d.more ++ q)) l.rest l.rest d.size d.fills l.reads (no_tree l.rest); same = l.same });
}

-- below a step that takes no parts nothing begins
below_plain : (prefix : List ℕ) (s : Step) (own : List ℕ) → is_class s ≡ false → StartsOn prefix (below_step s) own → IsUtf8 own × IsEnded own × (settled own ≡ [])
below_plain prefix _ _ x (ended_on g own v e none) = (v, e, none)
below_plain prefix _ _ x (in_tree_on s f p own mid v goes reads starts) = absurd (both_ways (goes_on s (parts_in f) p) (no_goes s (parts_in f) p x) goes)
  where
    no_goes : (s : Step) (parts : List Part) (p : Part) → is_class s ≡ false → goes_on s parts p ≡ false
    no_goes (step.One class) parts p x = absurd (both_ways true x refl)
    no_goes (step.Optional class) parts p x = absurd (both_ways true x refl)
    no_goes (step.Many class) parts p x = absurd (both_ways true x refl)
    no_goes (step.Some class) parts p x = absurd (both_ways true x refl)
    no_goes (step.Pairs first second) parts p x = absurd (both_ways true x refl)
    no_goes _ parts p x = refl

below_begun : (prefix : List ℕ) → IsUtf8 prefix → is_prefix prefix ≡ true → (p : Part) (old new : Told) (count : ℕ) (s : template.Line) (others : List template.Line) (text own : List ℕ) → TellsOwn prefix p count s.1 s.0 old new text own →
    OwnGoesOn prefix count s text own → StartsOn prefix (below_step s.0) own → Done prefix (below_step s.0) own → Done prefix (steps_left p old count (s ∷ others)) text
below_begun prefix u h p old new count s others text own t on starts d = λ n tabled exact so go. elim (cases_Bool (is_class s.0)) [
  | inl y ↦
      let g : Passed p n tabled exact s others = passed p n tabled exact s others go in
      let same : own ≡ text = (class_tells prefix p count s.1 s.0 old new text own y t).1 in
      let b : BelowDone prefix s.0 text = subst (λ (x : List ℕ). BelowDone prefix s.0 x) same (d (λ user. (code_closes exact s.0 others g.sound user).0)) in
      below_done prefix u h p old n tabled exact count s others text y so go b
  | inr x ↦
      let b = below_plain prefix s.0 own x starts in
      plain_done prefix u h p old new n tabled exact count s others text own x so go t on b.0 b.1 b.2
]

all_done : (prefix : List ℕ) → IsUtf8 prefix → is_prefix prefix ≡ true → (g : Goal) (text : List ℕ) → StartsOn prefix g text → Done prefix g text
all_done prefix u h _ _ (ended_on g text v e none) = all_blank prefix u h g text v e none
all_done prefix u h _ _ (in_part_on p text starts) = elim (cases_Bool (has_code (steps_of p))) [
  | inl y ↦ user_begun prefix p text y starts
  | inr x ↦ part_from prefix p text (all_done prefix u h (steps_left p untold 0 (steps_of p)) text starts 0 false false (nothing_so_far prefix p) (steps_go p x))
]
all_done prefix u h _ _ (in_own_on p old new count s others text more rest v w t) = λ n tabled exact so go. own_done prefix u h p old new n tabled exact count s others text more rest so go v w t
all_done prefix u h _ _ (in_below_on p old new count s others text own v t on starts) = below_begun prefix u h p old new count s others text own t on starts (all_done prefix u h (below_step s.0) own starts)
all_done prefix u h _ _ (behind_step_on p old new count s others now text own mid v may t on reads starts) = λ n tabled exact so go.
    (let g : Passed p n tabled exact s others = passed p n tabled exact s others go in
    step_done prefix p old new count s others now text own mid may t on reads
    (all_done prefix u h (steps_left p new (count + tree_count now) others) mid starts (known_past n s.0 s.1) (tabled_past tabled s.0) (exact_after s.0)
    (own_so_far prefix p count s.1 s.0 others old new n tabled text own so g.certain t) g.later))
all_done prefix u h _ _ (in_tree_on s f p text mid v goes reads starts) = λ single. tree_done prefix u h s f p text mid single goes reads (all_done prefix u h (one_part p) mid starts)

-- a part that a text begins is completed, whatever stands behind; behind user code a `}`
pub part_done : (prefix : List ℕ) → IsUtf8 prefix → is_prefix prefix ≡ true → (p : Part) (text : List ℕ) → StartsOn prefix (one_part p) text → PartDone prefix p text
part_done prefix u h p text starts = all_done prefix u h (one_part p) text starts
