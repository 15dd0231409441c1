-- What a state function does with a symbol that was made doesn't depend on what can't be seen of its forms.
use Rattle.std.proofs.Common.{◌≡◌, ℕ, ◌+◌, List, [], ◌∷◌, ◌++◌, codes, length, if◌then◌else◌, Option, slice_get, refl, ap, ◌∙◌}
use Rattle.lp_core.specs.declared.expr.Op.TheVariants as op
use Rattle.lp_core.specs.Tree.{Apply}
use Rattle.lp_form.specs.declared.part.Part.TheVariants as part
use Rattle.lp_view.specs.PartLists.{Form, is_a, hole_of, parts_of}
use Rattle.lp_maker.specs.Constructs.{read}
use Rattle.lp_maker.specs.Making.{Making}
use Rattle.lp_maker.specs.Slots.{Names, after_slots, named}
use Rattle.lp_bodies.specs.Lines.{Lines, lines_of, with_let}
use Rattle.lp_bodies.specs.Tables.{reading_of}
use Rattle.lp_ascent_bodies.specs.declared.ascent.Lines.{Lines as Shared}
use Rattle.lp_ascent_bodies.specs.AscentArms.{Arming, arming_of, block_arm}
use Rattle.lp_ascent_bodies.specs.AscentGotos.{Going, arm_lines, empty_check, going_arm, going_row, goto_arm, goto_done, goto_loop, goto_other, no_gotos, variant_case, with_arming}
use Rattle.lp_ascent_bodies.specs.AscentMoves.{found_transition}
use Rattle.lp_agreement.proofs.Composed.Seen.{IsBlind, hole_seen, over_seen, part_seen_at}
use Rattle.lp_agreement.proofs.Composed.SeenAscentReductions.{found_transition_seen}
use Rattle.lp_agreement.proofs.Composed.Settled.{seen}

-- ---- arms
lines_seen : (m : Making) (shared : Shared) (made : ℕ) (names : Names) (f : Form) → arm_lines m shared made names (seen f) ≡ arm_lines m shared made names f
lines_seen m shared made names f =
    let front : List ℕ → Lines = λ (text : List ℕ). with_let (codes "~sym" ++ text) (Apply (op.Part 0) (read made)) (lines_of names []) in
    ap (λ (o : Option Form). found_transition m shared o (front (hole_of 1 (seen f)))) (part_seen_at f 0)
    ∙ found_transition_seen m shared (slice_get (parts_of f) 0) (front (hole_of 1 (seen f)))
    ∙ ap (λ (t : List ℕ). found_transition m shared (slice_get (parts_of f) 0) (front t)) (hole_seen 1 f)

goto_arm_seen : (shared : Shared) (made : ℕ) (f : Form) (a : Arming) → goto_arm shared made (seen f) a ≡ goto_arm shared made f a
goto_arm_seen shared made f a =
    let n = length a.names.known in
    let s = reading_of a.arms a.made in
    ap (λ (l : Lines). block_arm n l (variant_case (hole_of 0 (seen f)) s)) (lines_seen a.made shared made a.names f)
    ∙ ap (λ (t : List ℕ). block_arm n (arm_lines a.made shared made a.names f) (variant_case t s)) (hole_seen 0 f)

going_arm_seen : (shared : Shared) (token made : ℕ) (f : Form) (g : Going) → going_arm shared token made (seen f) g ≡ going_arm shared token made f g
going_arm_seen shared token made f g = ap (with_arming g) (goto_arm_seen shared made f (arming_of (named (codes "~lookahead") token g.names) g.arms g.made))

-- ---- the loop
row_blind : (shared : Shared) (token made : ℕ) → IsBlind (going_row shared token made)
row_blind shared token made g [] = refl
row_blind shared token made g (e ∷ es) =
    let line = e ∷ es in
    ap (λ (h : Going). if is_a part.EmptyCheck line then record g { checks = g.checks ++ empty_check shared g.names line ∷ [] } else (if is_a part.GotoArm line then h else (if is_a part.GotoOther line then record g { other = goto_other token made } else g)))
    (going_arm_seen shared token made line g)

pub goto_loop_seen : (shared : Shared) (m : Making) (names : Names) (f : Form) → goto_loop shared m names (seen f) ≡ goto_loop shared m names f
goto_loop_seen shared m names f =
    let token = names.next in
    let made = names.next + 1 in
    ap (goto_done shared (length names.known) token made) (over_seen (going_row shared token made) (row_blind shared token made) (no_gotos (after_slots 2 names) m) f)
