-- The functions of actions don't depend on what can't be seen of their forms.
use Rattle.std.proofs.Common.{◌≡◌, ℕ, ◌++◌, codes, Bool, false, if◌then◌else◌, List, [], ◌∷◌, Option, Some, None, option_map, slice_get, refl, ap, ◌∙◌}
use Rattle.lp_core.specs.declared.expr.Join.TheVariants as join
use Rattle.lp_core.specs.Tree.{Tree, Apply}
use Rattle.lp_form.specs.declared.part.Part.TheVariants as part
use Rattle.lp_view.specs.PartLists.{Form, is_a, hole_of, parts_of}
use Rattle.lp_maker.specs.Constructs.{joined, stuck, tried}
use Rattle.lp_maker.specs.Making.{Making, call_named, parameters, read_name}
use Rattle.lp_maker.specs.Slots.{Names, after_slots}
use Rattle.lp_bodies.specs.Lines.{Lines, lines_of, with_part, numbered, with_let}
use Rattle.lp_bodies.specs.Inlining.{inline_span, argument_row, call_arguments, action_call, ends_so, is_tried, inlined_value, inlined_names, temp_value, temp_triple, inline_call, is_inline_call, outer_line, inline_line, inline_lines, is_outer_call, is_wrapped_call}
use Rattle.lp_bodies.specs.Actions.{fallible_row, is_fallible, counted_row, parameter_count, parse_error, takes, user_call, Body, body_of, body_of_lines, plain_body, action_body, found_body, function_with, headed, action_under, action_function, with_code, with_code_under, with_action}
use Rattle.lp_agreement.proofs.Composed.Seen.{IsBlind, over_seen, parameters_seen, part_seen_at}
use Rattle.lp_core.specs.declared.expr.Op.TheVariants.{Wrap}
use Rattle.lp_core.specs.declared.value.Tag.TheVariants.{Success}
use Rattle.std.specs.Prelude.{length}
use Rattle.lp_agreement.proofs.Composed.Settled.{seen}

-- ---- inlined actions
argument_blind : (prefix : List ℕ) (names : Names) → IsBlind (argument_row prefix names)
argument_blind prefix names args [] = refl
argument_blind prefix names args (e ∷ es) = refl

arguments_seen : (prefix : List ℕ) (names : Names) (line : Form) → call_arguments prefix names (seen line) ≡ call_arguments prefix names line
arguments_seen prefix names line = over_seen (argument_row prefix names) (argument_blind prefix names) [] line

ends_blind : IsBlind ends_so
ends_blind b [] = refl
ends_blind b (e ∷ es) = refl

tried_seen : (line : Form) → is_tried (seen line) ≡ is_tried line
tried_seen line = over_seen ends_so ends_blind false line

call_seen : (k : ℕ) (m : Making) (names : Names) (line : Form) → action_call k m names (seen line) ≡ action_call k m names line
call_seen k m names [] = refl
call_seen k m names (e ∷ es) = ap (λ (args : List Tree). call_named (codes "super::action" ++ hole_of k (e ∷ es)) args m) (arguments_seen m.prefix names (e ∷ es))

value_seen : (m : Making) (names : Names) (line : Form) → inlined_value m names (seen line) ≡ inlined_value m names line
value_seen m names line =
    ap (λ (b : Bool). if b then tried names.next (action_call 1 m names (seen line)) else action_call 1 m names (seen line)) (tried_seen line)
    ∙ ap (λ (c : Tree). if is_tried line then tried names.next c else c) (call_seen 1 m names line)

names_seen : (names : Names) (line : Form) → inlined_names names (seen line) ≡ inlined_names names line
names_seen names line = ap (λ (b : Bool). if b then after_slots 1 names else names) (tried_seen line)

-- a line's name and value
abbrev temp_by : List ℕ → Tree → Names → Lines → Lines
temp_by name value names l = with_let name value (lines_of names l.parts)

temp_seen : (m : Making) (line : Form) (l : Lines) → temp_value m (seen line) l ≡ temp_value m line l
temp_seen m [] l = refl
temp_seen m (e ∷ es) l =
    let name = numbered (codes "~temp") (e ∷ es) in
    ap (λ (v : Tree). temp_by name v (inlined_names l.names (seen (e ∷ es))) l) (value_seen m l.names (e ∷ es)) ∙ ap (λ (n : Names). temp_by name (inlined_value m l.names (e ∷ es)) n l) (names_seen l.names (e ∷ es))

triple_seen : (slot : ℕ) (line : Form) (l : Lines) → temp_triple slot (seen line) l ≡ temp_triple slot line l
triple_seen slot [] l = refl
triple_seen slot (e ∷ es) l = refl

inline_call_seen : (m : Making) (line : Form) (l : Lines) → inline_call m (seen line) l ≡ inline_call m line l
inline_call_seen m line l =
    ap (λ (n : Names). temp_triple n.next (seen line) (temp_value m (seen line) l)) (names_seen l.names line)
    ∙ triple_seen (inlined_names l.names line).next line (temp_value m (seen line) l)
    ∙ ap (temp_triple (inlined_names l.names line).next line) (temp_seen m line l)

outer_seen : (m : Making) (names : Names) (line : Form) → outer_line m names (seen line) ≡ outer_line m names line
outer_seen m names [] = refl
outer_seen m names (e ∷ es) = ap (λ (c : Tree). outer_by (e ∷ es) c) (call_seen 0 m names (e ∷ es))
  where
    outer_by : Form → Tree → Tree
    outer_by line c = if is_outer_call line then c else (if is_wrapped_call line then Apply (Wrap Success) c else stuck)

inline_blind : (m : Making) → IsBlind (inline_line m)
inline_blind m l [] = refl
inline_blind m l (e ∷ es) =
    let line = e ∷ es in
    ap (λ (c : Lines). if is_a part.InlineSpan line then inline_span m.prefix line l else (if is_inline_call line then c else with_part (outer_line m l.names (seen line)) l)) (inline_call_seen m line l)
    ∙ ap (λ (t : Tree). if is_a part.InlineSpan line then inline_span m.prefix line l else (if is_inline_call line then inline_call m line l else with_part t l)) (outer_seen m l.names line)

inlined_seen : (m : Making) (names : Names) (body : Form) → inline_lines m names (seen body) ≡ inline_lines m names body
inlined_seen m names body = over_seen (inline_line m) (inline_blind m) (lines_of names []) body

-- ---- bodies
fallible_blind : (error : List ℕ) → IsBlind (fallible_row error)
fallible_blind error b [] = refl
fallible_blind error b (e ∷ es) = refl

fallible_seen : (error : List ℕ) (header : Form) → is_fallible error (seen header) ≡ is_fallible error header
fallible_seen error header = over_seen (fallible_row error) (fallible_blind error) false header

counted_blind : (prefix : List ℕ) → IsBlind (counted_row prefix)
counted_blind prefix n [] = refl
counted_blind prefix n (e ∷ es) = refl

count_seen : (prefix : List ℕ) (header : Form) → parameter_count prefix (seen header) ≡ parameter_count prefix header
count_seen prefix header = over_seen (counted_row prefix) (counted_blind prefix) 0 header

user_seen : (m : Making) (header : Form) (names : Names) → user_call m (seen header) names ≡ user_call m header names
user_seen m header names =
    ap (λ (b : Bool). joined (join.Event (length m.texts) b (parameter_count m.prefix (seen header))) (takes names.next)) (fallible_seen (parse_error m.prefix) header)
    ∙ ap (λ (n : ℕ). joined (join.Event (length m.texts) (is_fallible (parse_error m.prefix) header) n) (takes names.next)) (count_seen m.prefix header)

plain_seen : (m : Making) (names : Names) (body : Form) → plain_body m names (seen body) ≡ plain_body m names body
plain_seen m names [] = refl
plain_seen m names (e ∷ es) = ap (λ (l : Lines). plain_by (e ∷ es) l) (inlined_seen m names (e ∷ es))
  where
    plain_by : Form → Lines → Body
    plain_by body l = if is_a part.LookaheadBody body then body_of (read_name names (codes "~lookahead")) names else (if is_a part.LookbehindBody body then body_of (read_name names (codes "~lookbehind")) names else (if is_a part.InlineBody body then body_of_lines l else body_of stuck names))

body_seen : (m : Making) (header : Form) (names : Names) (body : Form) → action_body m (seen header) names (seen body) ≡ action_body m header names body
body_seen m header names [] = ap (λ (t : Tree). if is_a part.UserBody [] then body_of t names else plain_body m names []) (user_seen m header names)
body_seen m header names (e ∷ es) =
    ap (λ (t : Tree). if is_a part.UserBody (e ∷ es) then body_of t names else plain_body m names (seen (e ∷ es))) (user_seen m header names)
    ∙ ap (λ (b : Body). if is_a part.UserBody (e ∷ es) then body_of (user_call m header names) names else b) (plain_seen m names (e ∷ es))

found_seen : (m : Making) (header : Form) (names : Names) (body : Option Form) → found_body m (seen header) names (option_map seen body) ≡ found_body m header names body
found_seen m header names None = refl
found_seen m header names (Some body) = body_seen m header names body

headed_seen : (m : Making) (header : Form) (body : Option Form) → headed m (seen header) (option_map seen body) ≡ headed m header body
headed_seen m header body =
    ap (λ (n : Names). function_with n.next (found_body m (seen header) n (option_map seen body))) (parameters_seen m.prefix header)
    ∙ ap (function_with (parameters m.prefix header).next) (found_seen m header (parameters m.prefix header) body)

under_seen : (m : Making) (header body : Option Form) → action_under m (option_map seen header) (option_map seen body) ≡ action_under m header body
under_seen m None body = refl
under_seen m (Some header) body = headed_seen m header body

pub action_seen : (m : Making) (f : Form) → action_function m (seen f) ≡ action_function m f
action_seen m f =
    ap (λ (h : Option Form). action_under m h (slice_get (parts_of (seen f)) 1)) (part_seen_at f 0) ∙ ap (action_under m (option_map seen (slice_get (parts_of f) 0))) (part_seen_at f 1) ∙ under_seen m (slice_get (parts_of f) 0) (slice_get (parts_of f) 1)

-- ---- codes
code_seen : (body : Form) (m : Making) → with_code (seen body) m ≡ with_code body m
code_seen [] m = refl
code_seen (e ∷ es) m = refl

codes_seen : (header body : Option Form) (m : Making) → with_code_under (option_map seen header) (option_map seen body) m ≡ with_code_under header body m
codes_seen None body m = refl
codes_seen (Some header) None m = refl
codes_seen (Some header) (Some body) m = code_seen body m

pub with_action_seen : (f : Form) (m : Making) → with_action (seen f) m ≡ with_action f m
with_action_seen f m =
    ap (λ (h : Option Form). with_code_under h (slice_get (parts_of (seen f)) 1) m) (part_seen_at f 0) ∙ ap (λ (b : Option Form). with_code_under (option_map seen (slice_get (parts_of f) 0)) b m) (part_seen_at f 1)
    ∙ codes_seen (slice_get (parts_of f) 0) (slice_get (parts_of f) 1) m
