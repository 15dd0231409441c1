-- The names that can be seen in the arms of the function that reduces, and the slots that they give out.
use Rattle.std.proofs.Common.{◌≡◌, ℕ, ◌≤◌, List, [], ◌∷◌, length, take, Option, Some, None, refl, ap, ◌∙◌, arith}
use Rattle.std.specs.Prelude.{slice_get, codes}
use Rattle.lp_core.specs.Val.{Val}
use Rattle.lp_form.specs.declared.part.Part.TheVariants as part
use Rattle.lp_view.specs.PartLists.{Form, is_a, parts_of, over}
use Rattle.lp_maker.specs.Slots.{Names, after_slots, bound, slot_among}
use Rattle.lp_maker.specs.Making.{Making}
use Rattle.lp_bodies.specs.Lines.{Lines, lines_of, numbered}
use Rattle.lp_bodies.specs.Reductions.{Work, Done, work_of, reduce_line, found_body, reduce_arm, called_names, quiet_line, is_call}
use Rattle.lp_code_laws.proofs.Ends.Lists.{take_first}
use Rattle.lp_code_laws.specs.Slots.Shows.{Shows, Extends}
use Rattle.lp_code_laws.proofs.Slots.Names.{extends_none, extends_both, extends_after, extends_bound}
use Rattle.lp_question_laws.proofs.Gotos.LinkGrows.{either}

-- ---- lines know more

call_extends : (line : Form) (names : Names) → Extends names (called_names line names)
call_extends line names = either (Extends names) (is_a part.CallPlain line) _ _ (extends_none names) (extends_after 1 names)

quiet_extends : (m : Making) (line : Form) (l : Lines) → Extends l.names (quiet_line m line l).names
quiet_extends m line l =
    let P : Lines → Type 0 = λ (k : Lines). Extends l.names k.names in
    either P (is_a part.AssertLine line) _ _ (extends_none l.names) (either P (is_a part.PopLine line) _ _ (extends_bound (numbered (codes "~sym") line) l.names)
    (either P (is_a part.SpanPopped line) _ _ (extends_both (extends_bound (codes "~start") l.names) (extends_bound (codes "~end") (bound (codes "~start") l.names)))
    (either P (is_call line) _ _ (extends_both (call_extends line l.names) (extends_bound (codes "~nt") (called_names line l.names)))
    (either P (is_a part.OutcomeStart line) _ _ (extends_none l.names) (extends_none l.names)))))

line_extends : (w : Work) (line : Form) → Extends w.lines.names (reduce_line w line).lines.names
line_extends w line =
    let P : Work → Type 0 = λ (v : Work). Extends w.lines.names v.lines.names in
    let n = w.lines.names in
    either P (is_a part.SpanEmpty line) _ _
    (extends_both (extends_after 1 n) (extends_both (extends_bound (codes "~start") (after_slots 1 n)) (extends_bound (codes "~end") (bound (codes "~start") (after_slots 1 n)))))
    (either P (is_a part.OutcomePush line) _ _ (extends_none n) (quiet_extends w.made line w.lines))

lines_extend : (w : Work) (forms : List Form) → Extends w.lines.names (over reduce_line w forms).lines.names
lines_extend w [] = extends_none w.lines.names
lines_extend w (f ∷ forms) = extends_both (line_extends w f) (lines_extend (reduce_line w f) forms)

-- ---- arms keep the names, and give out slots

-- the same names, and no fewer slots
pub record Widens (a b : Names) : Type 0 where
  pub known : b.known ≡ a.known
  pub next : a.next ≤ b.next

pub widens_none : (a : Names) → Widens a a
widens_none a = record { known = refl; next = omega arith }

pub widens_both : {a b c : Names} → Widens a b → Widens b c → Widens a c
widens_both h g = record { known = g.known ∙ h.known; next = omega (arith, h.next, g.next) }

-- a name shows the same in such names
pub shows_wide : {a b : Names} {env : List Val} {q : List ℕ} {v : Val} → Widens a b → Shows a env q v → Shows b env q v
shows_wide {q = q} h s = record { slot = s.slot; is = ap (slot_among q None) h.known ∙ s.is; below = omega (arith, s.below, h.next); held = s.held }

body_widens : (m : Making) (names : Names) (o : Option Form) → Widens names (found_body m names o).names
body_widens m names None = widens_none names
body_widens m names (Some form) =
    let e = lines_extend (work_of (lines_of names []) m) (parts_of form) in
    record { known = ap (take (length names.known)) e.known ∙ take_first names.known e.extra; next = e.next }

pub arm_widens : (m : Making) (names : Names) (row : Form) → Widens names (reduce_arm m names row).names
arm_widens m names row = either (λ (d : Done). Widens names d.names) (is_a part.ReduceCallArm row) _ _ (widens_none names) (body_widens m names (slice_get (parts_of row) 0))
