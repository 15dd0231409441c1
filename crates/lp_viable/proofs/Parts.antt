-- Where nothing that counts stands in a text, a part can follow; and what is left of a part.
use Rattle.std.proofs.Common.{◌≡◌, ℕ, true, false, List, [], ◌++◌, refl}
use Rattle.std.specs.Str.{IsUtf8}
use Rattle.std.proofs.lemmas.Bool.{and_from}
use Rattle.lp_form.specs.Classes.{members_of}
use Rattle.lp_form.specs.Templates.{steps_of}
use Rattle.lp_form.specs.declared.class.Class.{Class}
use Rattle.lp_form.specs.declared.class.Class.TheVariants as class_of
use Rattle.lp_form.specs.declared.part.Part.{Part}
use Rattle.lp_form.specs.declared.template.Step.{Step}
use Rattle.lp_form.specs.declared.template.Step.TheVariants as step
use Rattle.lp_spelling.specs.Counting.{settled}
use Rattle.lp_program.specs.Printed.{is_member}
use Rattle.lp_program.specs.Reads.{may_have, is_prefix}
use Rattle.lp_program.specs.Trees.Forest.{bare, tree}
use Rattle.lp_reading_laws.specs.Printing.TemplateTests.{has_code}
use Rattle.lp_viable.specs.Least.{first_member, first_needed, least_content, least_below, least_text}
use Rattle.lp_local.proofs.Ended.{IsEnded}
use Rattle.lp_viable.proofs.Moving.{past_ended}
use Rattle.lp_viable.proofs.Least.{Taken, tree_read, least_ok}

-- behind nothing that counts, the least tree of each part but user code is read of its text
pub ended_part : (prefix : List ℕ) → IsUtf8 prefix → is_prefix prefix ≡ true → (p : Part) → has_code (steps_of p) ≡ false → (text behind : List ℕ) → IsEnded text → settled text ≡ [] →
    Taken prefix (tree (least_content prefix p) (least_below 16 prefix p) bare) (text ++ (least_text 16 prefix p ++ behind)) behind
ended_part prefix u h p none text behind e s = tree_read 16 prefix u h p (least_ok p none) (text ++ (least_text 16 prefix p ++ behind)) behind (past_ended text (least_text 16 prefix p ++ behind) e s)

-- the first part of each class is one of it, and no user code
pub first_is : (class : Class) → is_member class (first_member class) ≡ true
unfolding members_of
first_is class_of.Use = refl
first_is _ = refl

pub first_plain : (class : Class) → has_code (steps_of (first_member class)) ≡ false
unfolding members_of steps_of
first_plain class_of.Use = refl
first_plain _ = refl

-- what a step needs, it may have
pub may_need : (s : Step) → may_have s (first_needed s) ≡ true
may_need (step.One class) = and_from (is_member class (first_member class)) true (first_is class) refl
may_need (step.Some class) = and_from (is_member class (first_member class)) true (first_is class) refl
may_need (step.Optional class) = refl
may_need (step.Many class) = refl
may_need (step.Pairs first second) = refl
may_need _ = refl
