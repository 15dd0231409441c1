-- The body of an action is chosen, where it is told.
use Rattle.std.proofs.Common.{◌≡◌, ℕ, ◌+◌, ◌<◌, zero, suc, true, false, inl, inr, List, [], ◌∷◌, ◌++◌, length, get_or, codes, refl, sym, ◌∙◌, ap, subst, arith, append-nil, append_assoc}
use Rattle.std.proofs.lemmas.Bool.{both_ways}
use Rattle.std.proofs.lemmas.Slice.Eq.{bytes_eq-Decides}
use Rattle.lp_form.specs.Classes.{members_of}
use Rattle.lp_form.specs.Templates.{Piece, steps_of}
use Rattle.lp_form.specs.Templates as template
use Rattle.lp_form.specs.declared.class.Class.{Class}
use Rattle.lp_form.specs.declared.class.Class.TheVariants as class_of
use Rattle.lp_form.specs.declared.part.Part.{Part}
use Rattle.lp_form.specs.declared.part.Part.TheVariants as part
use Rattle.lp_form.specs.declared.template.Slot.TheVariants.{Nothing}
use Rattle.lp_form.specs.declared.template.Step.{Step}
use Rattle.lp_form.specs.declared.template.Step.TheVariants as step
use Rattle.lp_spelling.specs.Counting.{settled, front_line}
use Rattle.lp_spelling.specs.Lines.{line_of}
use Rattle.lp_program.specs.CodeReading.{IsCode}
use Rattle.lp_program.specs.OwnLines.{hole}
use Rattle.lp_program.specs.Printed.{is_member}
use Rattle.lp_program.specs.Begins.{member}
use Rattle.lp_program.specs.Reads.{TakesOwn, Reads, graft}
use Rattle.lp_program.specs.Reads.Task.{trees, steps}
use Rattle.lp_program.specs.Trees.{Content, Forest, tree_count}
use Rattle.lp_program.specs.Trees.Forest.{bare, tree}
use Rattle.lp_program.specs.declared.read.reader.Parameters.{Parameters}
use Rattle.lp_program.specs.declared.read.reader.Parameters.TheVariants as parameters
use Rattle.lp_reading_laws.specs.FirstLines.ApartTests.{is_body}
use Rattle.lp_reading_laws.proofs.Texts.Parts.{member_place}
use Rattle.lp_reading_laws.specs.Choosing.Laws.{told_content, told_trees, IsBodyTold, BodiesTold}
use Rattle.lp_program.specs.Choosing.{Reading, contents, BodyChosen, PartChosen}
use Rattle.lp_reading_laws.proofs.Choosing.Following.{Follows}
use Rattle.lp_reading_laws.proofs.Choosing.Made.{made}
use Rattle.lp_reading_laws.proofs.Choosing.Templates.{is_brace, is_closing, closes_first}

-- user code stands where it is read
user_steps : steps_of part.UserBody ≡ (step.Code, []) ∷ []
unfolding steps_of
user_steps = refl

code_stands : (prefix : List ℕ) (d : Content) (below after : Forest) (text rest : List ℕ) → Reads prefix (trees (tree d below after)) text rest → d.part ≡ part.UserBody → (end : List ℕ) × IsCode text (hole d 0) end
code_stands prefix d below after text rest reads e =
    let t = made prefix (trees (tree d below after)) text rest reads in
    let m = made prefix (steps d 0 ((step.Code, []) ∷ []) below) text t.mid (subst (λ ss. Reads prefix (steps d 0 ss below) text t.mid) (ap steps_of e ∙ user_steps) t.inner) in
    (m.own, m.takes)

-- a `}` stands in the next line
brace_line : (prefix : List ℕ) (holes : List (List ℕ)) (pieces : List Piece) → is_brace pieces ≡ true → line_of prefix holes pieces ≡ codes "}"
unfolding line_of
brace_line prefix holes ((text, Nothing) ∷ []) h = append-nil (text ++ []) ∙ append-nil text ∙ (bytes_eq-Decides text (codes "}")).0 h
brace_line prefix holes _ h = absurd (both_ways false refl h)

step_closes : (prefix : List ℕ) (c : Content) (count : ℕ) (pieces : List Piece) (text own : List ℕ) (s : Step) → is_closing s pieces ≡ true → TakesOwn prefix c count pieces s text own → front_line (settled text) ≡ codes "}"
step_closes prefix c count pieces text own (step.Line blanks) h takes = takes.line_is ∙ brace_line prefix c.holes pieces h
step_closes prefix c count pieces text own _ h takes = absurd (both_ways false refl h)

pub brace_stands : (prefix : List ℕ) (c : Content) (count : ℕ) (ss : List template.Line) (later : Forest) (text rest : List ℕ) → Reads prefix (steps c count ss later) text rest → closes_first ss ≡ true → front_line (settled text) ≡ codes "}"
brace_stands prefix c count [] later text rest reads h = absurd (both_ways false refl h)
brace_stands prefix c count (s ∷ ss) later text rest reads h =
    let m = made prefix (steps c count (s ∷ ss) later) text rest reads in
    step_closes prefix c count s.1 text m.own s.0 h m.takes

-- the body of an action is the one or the other
pub body_class : (class : Class) → is_body class ≡ true → class ≡ class_of.ActionBody
body_class class_of.ActionBody h = refl
body_class _ h = absurd (both_ways false refl h)

body_part : (p : Part) (i : ℕ) → i < length (members_of class_of.ActionBody) → p ≡ member class_of.ActionBody i → (A : Type 0) → (p ≡ part.InlineBody → A) → (p ≡ part.UserBody → A) → A
unfolding members_of
body_part p zero lt e A f g = f e
body_part p (suc zero) lt e A f g = g e
body_part p (suc (suc i)) lt e A f g = absurd (omega arith)

-- inlined actions
inlined_chosen : (Parts : Part → Reading) (prefix all : List ℕ) (whose : Parameters) (holes : List (List ℕ)) (f : Forest) (text rest : List ℕ) → IsBodyTold prefix all whose part.InlineBody holes → Parts part.InlineBody f text rest →
    front_line (settled rest) ≡ codes "}" → BodyChosen Parts whose f text rest
inlined_chosen Parts prefix all parameters.User holes f text rest told reads closes = absurd told
inlined_chosen Parts prefix all parameters.Inlined holes f text rest told reads closes = reads
inlined_chosen Parts prefix all parameters.None holes f text rest told reads closes = inl (reads, closes)

-- user code
user_chosen : (n : ℕ) (prefix all : List ℕ) (whose : Parameters) (holes : List (List ℕ)) (f : Forest) (text rest end : List ℕ) → IsBodyTold prefix all whose part.UserBody holes → Follows all text → IsCode text (get_or holes 0 []) end → PartChosen n prefix part.UserBody f text rest →
    BodyChosen (PartChosen n prefix) whose f text rest
user_chosen n prefix all parameters.User holes f text rest end told follows code reads = reads
user_chosen n prefix all parameters.Inlined holes f text rest end told follows code reads = absurd told
user_chosen n prefix all parameters.None holes f text rest end told follows code reads = inr (told n follows.front text end follows.text_is code, reads)

pub body_chosen : (n : ℕ) (prefix all : List ℕ) (whose : Parameters) (d : Content) (below after : Forest) (text mid rest : List ℕ) → is_member class_of.ActionBody d.part ≡ true → IsBodyTold prefix all whose d.part d.holes → Follows all text →
    Reads prefix (trees (tree d below after)) text rest → PartChosen n prefix d.part (told_trees (tree d below bare)) text mid → front_line (settled mid) ≡ codes "}" → BodyChosen (PartChosen n prefix) whose (told_trees (tree d below bare)) text mid
body_chosen n prefix all whose d below after text mid rest m told follows reads chosen closes =
    let f : Forest = told_trees (tree d below bare) in
    let at = member_place class_of.ActionBody d.part m in
    body_part d.part at.0 at.1 at.2 (BodyChosen (PartChosen n prefix) whose f text mid)
    (λ e. inlined_chosen (PartChosen n prefix) prefix all whose d.holes f text mid (subst (λ p. IsBodyTold prefix all whose p d.holes) e told) (subst (λ p. PartChosen n prefix p f text mid) e chosen) closes)
    (λ e.
    let code = code_stands prefix d below after text rest reads e in
    user_chosen n prefix all whose d.holes f text mid code.0 (subst (λ p. IsBodyTold prefix all whose p d.holes) e told) follows code.1 (subst (λ p. PartChosen n prefix p f text mid) e chosen))

-- trees behind others
pub told_parts : (prefix all : List ℕ) (before : List Content) (f g : Forest) → BodiesTold prefix all before (graft f g) → BodiesTold prefix all before f × BodiesTold prefix all (before ++ contents f) g
told_parts prefix all before bare g h = (tt, subst (λ cs. BodiesTold prefix all cs g) (sym (append-nil before)) h)
told_parts prefix all before (tree c below after) g h =
    let r = told_parts prefix all (before ++ (c ∷ contents below)) after g h.2 in
    ((h.0, h.1, r.0), subst (λ cs. BodiesTold prefix all cs g) (append_assoc before (c ∷ contents below) (contents after)) r.1)

pub told_graft : (f g : Forest) → told_trees (graft f g) ≡ graft (told_trees f) (told_trees g)
told_graft bare g = refl
told_graft (tree c below after) g = ap (λ x. tree (told_content c) (told_trees below) x) (told_graft after g)

pub count_graft : (f g : Forest) → tree_count (graft f g) ≡ tree_count f + tree_count g
count_graft bare g = omega arith
count_graft (tree c below after) g = let e = count_graft after g in omega (arith, e)

pub count_told : (f : Forest) → tree_count (told_trees f) ≡ tree_count f
count_told bare = refl
count_told (tree c below after) = ap (λ n. 1 + n) (count_told after)
