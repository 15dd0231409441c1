-- The function of a state.
use Rattle.std.specs.Prelude.{ℕ, ◌-◌, ◌^◌, ◌||◌, Bool, List, [], ◌∷◌, ◌++◌, codes, Option, Some, None, slice_get, if◌then◌else◌}
use Rattle.std.specs.Option.{unwrap_or}
use Rattle.lp_ascent_bodies.specs.declared.ascent.Lines.{Lines as Shared}
use Rattle.lp_ascent_bodies.specs.declared.ascent_state.StateParts.{StateParts}
use Rattle.lp_core.specs.declared.expr.Function.{Function}
use Rattle.lp_core.specs.Tree.{Tree, Match, trees_of}
use Rattle.lp_form.specs.declared.part.Part.TheVariants as part
use Rattle.lp_view.specs.PartLists.{Form, is_a, parts_of, over}
use Rattle.lp_maker.specs.Slots.{Names, no_names, bound, slot_of}
use Rattle.lp_maker.specs.Constructs.{stuck, take_slot, one_after_another, function_of}
use Rattle.lp_maker.specs.Making.{Making, parameters}
use Rattle.lp_bodies.specs.Arms.{Gathered, gathered, no_arms}
use Rattle.lp_bodies.specs.Lines.{Lines, lines_of}
use Rattle.lp_bodies.specs.Reductions.{Done, done_of, function_done, vec_type}
use Rattle.lp_ascent_bodies.specs.AscentReductions.{give_made}
use Rattle.lp_ascent_bodies.specs.AscentStarts.{token_line, lookahead_slot}
use Rattle.lp_ascent_bodies.specs.AscentMoves.{slot_line}
use Rattle.lp_ascent_bodies.specs.AscentArms.{Arming, arming_of, done_arm, shift_arm, reduce_arm}
use Rattle.lp_ascent_bodies.specs.AscentErrors.{expected_error}
use Rattle.lp_ascent_bodies.specs.AscentGotos.{goto_loop}

-- what was gathered of a state function: the lines before its match, what all its lines share, the arms, what follows
-- the match, and what was made
pub record Stating : Type 0 where
  pub lines : Lines
  pub shared : Shared
  pub arms : Gathered
  pub after : Option Tree
  pub made : Making

abbrev pub stating_of : Names → StateParts → Making → Stating
stating_of names state made = record { lines = lines_of names state.parts.items; shared = state.lines; arms = gathered state.arms; after = state.after; made = made }

abbrev pub shared_of : List ℕ → Form → ℕ → Names → Shared
shared_of prefix header made names = record { lookahead = unwrap_or (slot_of (codes "~lookahead") names) (2 ^ 64 - 1); made = made; kind = vec_type prefix header }

-- before the first line: `let mut ~result;`
abbrev pub no_lines : Form → Names → Making → Stating
no_lines header names made = record { lines = lines_of (bound (codes "~result") names) []; shared = shared_of made.prefix header names.next (bound (codes "~result") names); arms = no_arms; after = None; made = made }

-- the next token is the lookahead
abbrev pub token_row : Stating → Stating
token_row s = record s { lines = token_line s.made s.lines; shared = record s.shared { lookahead = lookahead_slot s.lines.names } }

-- a line before the match
abbrev pub is_line : Form → Bool
is_line line = is_a part.NextToken line || is_a part.SlotLine line

abbrev pub line_row : Form → Stating → Stating
line_row line s = if is_a part.NextToken line then token_row s else record s { lines = slot_line line s.lines }

abbrev pub is_shift : Form → Bool
is_shift line = is_a part.ShiftArm line || is_a part.ShiftWhole line

abbrev pub is_reduce : Form → Bool
is_reduce line = is_a part.ReduceMany line || (is_a part.ReduceToken line || is_a part.ReduceEnd line)

abbrev pub is_arm : Form → Bool
is_arm line = is_shift line || (is_reduce line || is_a part.ErrorArm line)

-- an arm of the match
abbrev pub arm_of : Shared → Form → Arming → Arming
arm_of shared line a =
    if is_shift line then shift_arm shared line a else (if is_reduce line then reduce_arm shared line a else done_arm a.arms (expected_error a.made a.names line))

abbrev pub with_arming : Stating → Arming → Stating
with_arming s a = record s { lines = lines_of a.names s.lines.parts; arms = a.arms; made = a.made }

abbrev pub arm_row : Form → Stating → Stating
arm_row line s = with_arming s (arm_of s.shared line (arming_of s.lines.names s.arms s.made))

-- what follows the match
abbrev pub with_after : Stating → Done → Stating
with_after s d = record s { lines = lines_of d.names s.lines.parts; after = Some d.value; made = d.made }

abbrev pub after_row : Form → Stating → Stating
after_row line s =
    if is_a part.GotoReturn line then record s { after = Some (give_made s.shared) } else (if is_a part.GotoLoop line then with_after s (goto_loop s.shared s.made s.lines.names line) else s)

abbrev pub state_row : Stating → Form → Stating
state_row s line = if is_line line then line_row line s else (if is_arm line then arm_row line s else after_row line s)

abbrev pub state_rows : Form → Stating → Stating
state_rows form s = over state_row s (parts_of form)

abbrev pub after_parts : Option Tree → List Tree
after_parts None = []
after_parts (Some after) = after ∷ []

-- the match on the lookahead
abbrev pub token_match : Shared → Gathered → Tree
token_match shared a = Match (take_slot shared.lookahead) shared.lookahead a.cases (trees_of a.bodies)

abbrev pub state_value : Shared → List Tree → Gathered → Option Tree → Tree
state_value shared parts arms after = one_after_another ((parts ++ token_match shared arms ∷ []) ++ after_parts after)

abbrev pub state_done : Stating → Done
state_done s = done_of (state_value s.shared s.lines.parts s.arms s.after) s.lines.names s.made

-- what a state does, under its header
abbrev pub state_body : Form → Form → Making → Names → Done
state_body header form m names = state_done (state_rows form (no_lines header names m))

abbrev pub state_under : Making → Form → Form → Done
state_under m header form = state_body header form m (parameters m.prefix header)

abbrev pub headed : Making → Form → Option Form → Function
headed m form None = function_of 0 no_names stuck
headed m form (Some header) = function_done (parameters m.prefix header).next (state_under m header form)

abbrev pub with_headed : Form → Option Form → Making → Making
with_headed form None m = m
with_headed form (Some header) m = (state_under m header form).made

-- the function of a state, and what is made then
abbrev pub state_fn : Making → Form → Function
state_fn m form = headed m form (slice_get (parts_of form) 0)

abbrev pub with_state_fn : Form → Making → Making
with_state_fn form m = with_headed form (slice_get (parts_of form) 0) m
