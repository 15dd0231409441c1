-- Reductions of recursive ascent and moves to other states don't depend on what can't be seen of their forms.
use Rattle.std.proofs.Common.{◌≡◌, ℕ, Bool, false, List, [], ◌∷◌, length, Option, Some, None, option_map, refl, ap, ◌∙◌}
use Rattle.lp_view.specs.PartLists.{Form, hole_of}
use Rattle.lp_maker.specs.Making.{Making, variant_tag, with_variant}
use Rattle.lp_maker.specs.Slots.{Names}
use Rattle.lp_bodies.specs.Lines.{Lines, lines_of}
use Rattle.lp_bodies.specs.Reductions.{Work, work_of, block_done}
use Rattle.lp_ascent_bodies.specs.declared.ascent.Lines.{Lines as Shared}
use Rattle.lp_ascent_bodies.specs.AscentMoves.{call_state, found_transition, push_state, slot_line, take_row, take_rows, transition}
use Rattle.lp_ascent_bodies.specs.AscentReductions.{ascent_line, ascent_lines, ascent_reduce, made_line, return_line, return_row, returns, with_made}
use Rattle.lp_agreement.proofs.Composed.Seen.{IsBlind, hole_seen, over_seen}
use Rattle.lp_agreement.proofs.Composed.Settled.{seen}

-- ---- reductions
line_blind : (shared : Shared) → IsBlind (ascent_line shared)
line_blind shared w [] = refl
line_blind shared w (e ∷ es) = refl

lines_seen : (shared : Shared) (m : Making) (names : Names) (f : Form) → ascent_lines shared m names (seen f) ≡ ascent_lines shared m names f
lines_seen shared m names f = over_seen (ascent_line shared) (line_blind shared) (work_of (lines_of names []) m) f

return_blind : IsBlind return_row
return_blind b [] = refl
return_blind b (e ∷ es) = refl

returns_seen : (f : Form) → returns (seen f) ≡ returns f
returns_seen f = over_seen return_row return_blind false f

-- what is made of a symbol of this variant, and the return
abbrev made_by : Shared → List ℕ → Bool → Work → Work
made_by shared variant returning w = work_of (return_line shared returning (made_line shared (variant_tag variant w.made) w.lines)) (with_variant variant w.made)

made_seen : (shared : Shared) (f : Form) (w : Work) → with_made shared (seen f) w ≡ with_made shared f w
made_seen shared f w = ap (λ (v : List ℕ). made_by shared v (returns (seen f)) w) (hole_seen 0 f) ∙ ap (λ (b : Bool). made_by shared (hole_of 0 f) b w) (returns_seen f)

pub ascent_reduce_seen : (shared : Shared) (m : Making) (names : Names) (f : Form) → ascent_reduce shared m names (seen f) ≡ ascent_reduce shared m names f
ascent_reduce_seen shared m names f =
    ap (λ (w : Work). block_done (length names.known) (with_made shared (seen f) w)) (lines_seen shared m names f) ∙ ap (block_done (length names.known)) (made_seen shared f (ascent_lines shared m names f))

-- ---- moves
pub slot_line_seen : (f : Form) (l : Lines) → slot_line (seen f) l ≡ slot_line f l
slot_line_seen [] l = refl
slot_line_seen (e ∷ es) l = refl

take_blind : IsBlind take_row
take_blind l [] = refl
take_blind l (e ∷ es) = refl

takes_seen : (f : Form) (l : Lines) → take_rows (seen f) l ≡ take_rows f l
takes_seen f l = over_seen take_row take_blind l f

-- the move after the slots are taken out
abbrev moved : Making → Shared → Form → Bool → Lines → Lines
moved m shared form returning l = return_line shared returning (call_state m shared form (push_state shared form l))

moved_seen : (m : Making) (shared : Shared) (f : Form) (b : Bool) (l : Lines) → moved m shared (seen f) b l ≡ moved m shared f b l
moved_seen m shared [] b l = refl
moved_seen m shared (e ∷ es) b l = refl

transition_seen : (m : Making) (shared : Shared) (f : Form) (l : Lines) → transition m shared (seen f) l ≡ transition m shared f l
transition_seen m shared f l =
    ap (λ (b : Bool). moved m shared (seen f) b (take_rows (seen f) l)) (returns_seen f) ∙ ap (moved m shared (seen f) (returns f)) (takes_seen f l) ∙ moved_seen m shared f (returns f) (take_rows f l)

pub found_transition_seen : (m : Making) (shared : Shared) (o : Option Form) (l : Lines) → found_transition m shared (option_map seen o) l ≡ found_transition m shared o l
found_transition_seen m shared None l = refl
found_transition_seen m shared (Some f) l = transition_seen m shared f l
