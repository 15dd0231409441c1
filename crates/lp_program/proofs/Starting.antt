-- What a text begins: steps that are chosen begin, and so do they with others behind them.
use Rattle.std.proofs.Common.{◌≡◌, ℕ, ◌&&◌, zero, suc, true, List, [], ◌∷◌, ◌++◌, sym, ap, ◌∙◌, subst}
use Rattle.std.specs.List.{list_all}
use Rattle.std.proofs.lemmas.Bool.{and_from, and_parts, false≢true}
use Rattle.lp_form.specs.Templates.{steps_of}
use Rattle.lp_form.specs.Templates as template
use Rattle.lp_form.specs.declared.class.Class.{Class}
use Rattle.lp_form.specs.declared.part.Part.{Part}
use Rattle.lp_form.specs.declared.template.Step.{Step}
use Rattle.lp_form.specs.declared.template.Step.TheVariants as step
use Rattle.lp_spelling.specs.Counting.{settled}
use Rattle.lp_program.specs.Adding.{MayHave}
use Rattle.lp_program.specs.Choosing.{Reading, contents, BelowChosen, StepChosen, StepsChosen, PartChosen}
use Rattle.lp_program.specs.Printed.{is_member}
use Rattle.lp_program.specs.Reads.{graft, are_pairs}
use Rattle.lp_program.specs.Starting.{pairs_go_on, goes_on, Starts}
use Rattle.lp_program.specs.Starting.Goal.{one_part, steps_left}
use Rattle.lp_program.specs.Starting.Starts.{ended, in_part, behind_step}
use Rattle.lp_program.specs.Telling.{Told, untold}
use Rattle.lp_program.specs.Trees.{Content, Forest, tree_count}
use Rattle.lp_program.specs.Trees.Forest.{bare}
use Rattle.lp_program.proofs.ChosenReads.{BelowReads, below_reads, part_reads}
use Rattle.lp_program.proofs.Parts.{count_graft}

-- a step is read, and others begin behind it
pub step_before : (Has : Step → List Content → Reading) (prefix : List ℕ) (p : Part) (before : Forest) (s : template.Line) (others : List template.Line) (old new : Told) (f : Forest) (text rest : List ℕ) → BelowReads prefix Has →
    StepChosen Has prefix p (tree_count before) (contents before) s old new f text rest → Starts prefix (steps_left p new (tree_count (graft before f)) others) rest → Starts prefix (steps_left p old (tree_count before) (s ∷ others)) text
step_before Has prefix p before s others old new f text rest has x more =
    let below = has s.0 (contents before) f x.own rest x.reads in
    behind_step p old new (tree_count before) s others f text x.own rest below.fits x.tells below.reads
    (subst (λ (n : ℕ). Starts prefix (steps_left p new n others) rest) (count_graft before f) more)

-- nothing that counts is left behind steps that are chosen
pub steps_start : (Has : Step → List Content → Reading) (prefix : List ℕ) (p : Part) (before : Forest) (ss : List template.Line) (old new : Told) (f : Forest) (text rest : List ℕ) → BelowReads prefix Has →
    StepsChosen Has prefix p before ss old new f text rest → settled rest ≡ [] → Starts prefix (steps_left p old (tree_count before) ss) text
steps_start Has prefix p before [] old new f text rest has x e = ended (steps_left p old (tree_count before) []) text (ap settled (sym x.1.1) ∙ e)
steps_start Has prefix p before (s ∷ ss) old new f text rest has x e =
    let y = x.1 in
    step_before Has prefix p before s ss old x.0 y.first text y.mid has y.reads (steps_start Has prefix p (graft before y.first) ss x.0 new y.later y.mid rest has y.goes_on e)

-- or behind a part
pub part_starts : (depth : ℕ) (prefix : List ℕ) (p : Part) (f : Forest) (text rest : List ℕ) → PartChosen depth prefix p f text rest → settled rest ≡ [] → Starts prefix (one_part p) text
unfolding PartChosen
part_starts zero prefix p f text rest x e = absurd x
part_starts (suc depth) prefix p f text rest x e =
    in_part p text
    (steps_start (BelowChosen depth prefix (PartChosen depth prefix)) prefix p bare (steps_of p) untold x.0 x.1 text rest (below_reads depth prefix (PartChosen depth prefix) (part_reads depth prefix)) x.4 e)

-- where a part may begin: before all others, behind others, and behind pairs or the first one of a pair
pub goes_one : (class : Class) (p : Part) → is_member class p ≡ true → goes_on (step.One class) [] p ≡ true
goes_one class p m = m

pub goes_optional : (class : Class) (p : Part) → is_member class p ≡ true → goes_on (step.Optional class) [] p ≡ true
goes_optional class p m = m

pub goes_many : (class : Class) (ps : List Part) (p : Part) → MayHave (step.Many class) ps → is_member class p ≡ true → goes_on (step.Many class) ps p ≡ true
goes_many class ps p h m = and_from (list_all (is_member class) ps) (is_member class p) h m

pub goes_some : (class : Class) (ps : List Part) (p : Part) → MayHave (step.Many class) ps → is_member class p ≡ true → goes_on (step.Some class) ps p ≡ true
goes_some class ps p h m = and_from (list_all (is_member class) ps) (is_member class p) h m

pub goes_pairs : (first second : Class) (ps : List Part) (p : Part) → MayHave (step.Pairs first second) ps → is_member first p ≡ true → goes_on (step.Pairs first second) ps p ≡ true
goes_pairs first second [] p h m = m
goes_pairs first second (q ∷ []) p h m = absurd (false≢true h)
goes_pairs first second (q ∷ r ∷ ps) p h m =
    let a = and_parts (is_member first q) (is_member second r && are_pairs first second ps) h in
    let b = and_parts (is_member second r) (are_pairs first second ps) a.1 in
    and_from (is_member first q) (is_member second r && pairs_go_on first second ps p) a.0
    (and_from (is_member second r) (pairs_go_on first second ps p) b.0 (goes_pairs first second ps p b.1 m))

pub goes_second : (first second : Class) (ps : List Part) (p q : Part) → MayHave (step.Pairs first second) ps → is_member first p ≡ true → is_member second q ≡ true → goes_on (step.Pairs first second) (ps ++ p ∷ []) q ≡ true
goes_second first second [] p q h m k = and_from (is_member first p) (is_member second q) m k
goes_second first second (r ∷ []) p q h m k = absurd (false≢true h)
goes_second first second (r ∷ s ∷ ps) p q h m k =
    let a = and_parts (is_member first r) (is_member second s && are_pairs first second ps) h in
    let b = and_parts (is_member second s) (are_pairs first second ps) a.1 in
    and_from (is_member first r) (is_member second s && pairs_go_on first second (ps ++ p ∷ []) q) a.0
    (and_from (is_member second s) (pairs_go_on first second (ps ++ p ∷ []) q) b.0 (goes_second first second ps p q b.1 m k))
