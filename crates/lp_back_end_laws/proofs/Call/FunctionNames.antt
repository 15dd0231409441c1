-- The names that the lines of a state's function leave: those before them, with more slots given out.
use Rattle.std.proofs.Common.{◌≡◌, ℕ, zero, suc, ◌+◌, Bool, true, false, ◌||◌, List, [], ◌∷◌, take, codes, Some, slice_get, refl, ◌∙◌, subst, arith}
use Rattle.std.specs.Prelude.{if◌then◌else◌}
use Rattle.std.specs.List.{AllByRecursion}
use Rattle.lp_form.specs.declared.part.Part.TheVariants as part
use Rattle.lp_view.specs.PartLists.{Form, is_a, parts_of, over}
use Rattle.lp_maker.specs.Slots.{Names, after_slots, named}
use Rattle.lp_maker.specs.Making.{Making}
use Rattle.lp_ascent_bodies.specs.declared.ascent.Lines.{Lines as Shared}
use Rattle.lp_ascent_bodies.specs.AscentArms.{Arming, arming_of, done_arm, shift_arm, reduce_arm}
use Rattle.lp_ascent_bodies.specs.AscentErrors.{expected_error, list_names}
use Rattle.lp_ascent_bodies.specs.AscentGotos.{Going, no_gotos, going_row, goto_arm, goto_loop}
use Rattle.lp_ascent_bodies.specs.AscentStates.{is_shift, is_reduce, arm_of}
use Rattle.lp_question_laws.proofs.Gotos.LinkGrows as grows
use Rattle.lp_code_laws.specs.Slots.Shows.{Extends}
use Rattle.lp_code_laws.proofs.Slots.Names.{extends_none, extends_both, extends_after, extends_bound}
use Rattle.lp_back_end_laws.specs.Call.Cases.{IsArmLine}
use Rattle.lp_back_end_laws.proofs.Call.ArmBodies.{IsCut, cut_back, shift_armed, reduce_armed, goto_armed}
use Rattle.lp_back_end_laws.proofs.Call.CaseBodies.{next_arming}
use Rattle.lp_back_end_laws.proofs.Call.FunctionGrows.{arm_grows}

pub cut_none : (names : Names) → IsCut names names
cut_none names = record { known = refl; next = omega arith }

pub cut_both : {a b c : Names} → IsCut a b → IsCut b c → IsCut a c
cut_both h g = record { known = g.known ∙ h.known; next = omega (arith, h.next, g.next) }

-- ---- arms
pub arm_cut : (shared : Shared) (line : Form) (a : Arming) → IsArmLine line → IsCut a.names (arm_of shared line a).names
arm_cut shared line a h = by (is_shift line) (is_reduce line) h.1
  where
    by : (b c : Bool) → (b || c) ≡ true → IsCut a.names (if b then shift_arm shared line a else (if c then reduce_arm shared line a else done_arm a.arms (expected_error a.made a.names line))).names
    by true c is = (shift_armed shared line a).cut
    by false true is = (reduce_armed shared line a).cut
    by false false is = absurd cc

pub arms_cut : (shared : Shared) (a : Arming) (lines : List Form) → AllByRecursion IsArmLine lines → IsCut a.names (over (next_arming shared) a lines).names
arms_cut shared a [] h = cut_none a.names
arms_cut shared a (line ∷ lines) h = cut_both (arm_cut shared line a h.0) (arms_cut shared (arm_of shared line a) lines h.1)

pub arms_grow : (shared : Shared) (a : Arming) (lines : List Form) → grows.Extends a.made (over (next_arming shared) a lines).made
arms_grow shared a lines = grows.over_extends (λ (b : Arming). b.made) (next_arming shared) (λ b line. arm_grows shared line b) a lines

-- what stands before a line's arm and behind it
pub record LineAt (shared : Shared) (first a last : Arming) (line : Form) : Type 0 where
  pub cut : IsCut first.names a.names
  pub grown : grows.Extends first.made a.made
  pub later : IsCut (next_arming shared a line).names last.names
  pub more : grows.Extends (next_arming shared a line).made last.made

pub line_at : (shared : Shared) (a : Arming) (lines : List Form) (i : ℕ) (line : Form) → AllByRecursion IsArmLine lines → slice_get lines i ≡ Some line → LineAt shared a (over (next_arming shared) a (take i lines)) (over (next_arming shared) a lines) line
line_at shared a [] i line h at = absurd cc
line_at shared a (x ∷ lines) zero line h at =
    let same : x ≡ line = cc in
    subst (LineAt shared a a (over (next_arming shared) a (x ∷ lines))) same (record { cut = cut_none a.names; grown = grows.same a.made; later = arms_cut shared (arm_of shared x a) lines h.1; more = arms_grow shared (arm_of shared x a) lines })
line_at shared a (x ∷ lines) (suc i) line h at =
    let b = arm_of shared x a in
    let r = line_at shared b lines i line h.1 at in
    let c = over (next_arming shared) b (take i lines) in
    record { cut = cut_both (arm_cut shared x a h.0) r.cut; grown = grows.both a.made b.made c.made (arm_grows shared x a) r.grown; later = r.later; more = r.more }

-- ---- the error
pub error_cut : (m : Making) (names : Names) (form : Form) → IsCut names (expected_error m names form).names
error_cut m names form = cut_back (extends_both (extends_bound (codes "~expected") names) (extends_after 1 (list_names names)))

pub error_room : (m : Making) (names : Names) (form : Form) → (expected_error m names form).names.next ≡ names.next + 2
error_room m names form = omega arith

-- ---- the loop
-- behind a goto's arm the lookahead has its name still
arm_extends : (shared : Shared) (token made : ℕ) (line : Form) (g : Going) → Extends g.names (goto_arm shared made line (arming_of (named (codes "~lookahead") token g.names) g.arms g.made)).names
arm_extends shared token made line g =
    let r = goto_armed shared made line (arming_of (named (codes "~lookahead") token g.names) g.arms g.made) in
    record { extra = (codes "~lookahead", token) ∷ []; known = r.cut.known; next = r.cut.next }

going_extends : (shared : Shared) (token made : ℕ) (g : Going) (line : Form) → Extends g.names (going_row shared token made g line).names
going_extends shared token made g line =
    grows.either (λ (h : Going). Extends g.names h.names) (is_a part.EmptyCheck line) _ _ (extends_none g.names)
    (grows.either (λ (h : Going). Extends g.names h.names) (is_a part.GotoArm line) _ _ (arm_extends shared token made line g)
    (grows.either (λ (h : Going). Extends g.names h.names) (is_a part.GotoOther line) _ _ (extends_none g.names) (extends_none g.names)))

goings_extend : (shared : Shared) (token made : ℕ) (lines : List Form) (g : Going) → Extends g.names (over (going_row shared token made) g lines).names
goings_extend shared token made [] g = extends_none g.names
goings_extend shared token made (line ∷ lines) g = extends_both (going_extends shared token made g line) (goings_extend shared token made lines (going_row shared token made g line))

pub loop_cut : (shared : Shared) (m : Making) (names : Names) (form : Form) → IsCut names (goto_loop shared m names form).names
loop_cut shared m names form = cut_back (extends_both (extends_after 2 names) (goings_extend shared names.next (names.next + 1) (parts_of form) (no_gotos (after_slots 2 names) m)))
