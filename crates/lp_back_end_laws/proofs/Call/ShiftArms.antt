-- The match on the lookahead, and the arm of a shift: the token is the new symbol, and the function of its state is called.
use Rattle.std.proofs.Common.{◌≡◌, ℕ, suc, ◌+◌, Bool, true, false, List, [], ◌∷◌, ◌++◌, codes, Some, refl, sym, ap, ◌∙◌, subst, arith}
use Rattle.std.specs.Prelude.{slice_get, slice_set, if◌then◌else◌}
use Rattle.std.specs.Str.{bytes_eq}
use Rattle.std.specs.Option.{option_map}
use Rattle.lp_repr.specs.declared.values.Loc.{Loc}
use Rattle.lp_driver.specs.Values.{Token, Token_value}
use Rattle.lp_core.specs.declared.expr.Test.TheVariants as test
use Rattle.lp_core.specs.declared.value.Tag.TheVariants as tag
use Rattle.lp_core.specs.Datum.{Unset, Parsed}
use Rattle.lp_core.specs.Val.{Val, Plain, vals_of}
use Rattle.lp_core.specs.Reading.{empty, wrapped, triple, location}
use Rattle.lp_core.specs.Store.{Program}
use Rattle.lp_core.specs.Effect.{set_value, write_over}
use Rattle.lp_core.specs.CaseMeaning.{fits, chosen}
use Rattle.lp_core.specs.Eval.{count}
use Rattle.lp_core.specs.Tree.{Tree, trees_of}
use Rattle.lp_form.specs.declared.part.Part.TheVariants as part
use Rattle.lp_view.specs.PartLists.{Form, is_a, hole_of, parts_of}
use Rattle.lp_maker.specs.Slots.{Names, after_slots}
use Rattle.lp_maker.specs.Constructs.{here, read, one_after_another}
use Rattle.lp_maker.specs.Making.{Making}
use Rattle.lp_maker.specs.Texts.{pieces}
use Rattle.lp_bodies.specs.Arms.{Gathered}
use Rattle.lp_bodies.specs.Tables.{captured}
use Rattle.lp_bodies.specs.Lines.{Lines, lines_of}
use Rattle.lp_ascent_bodies.specs.declared.ascent.Lines.{Lines as Shared}
use Rattle.lp_ascent_bodies.specs.AscentStates.{token_match}
use Rattle.lp_ascent_bodies.specs.AscentArms.{token_test, shift_value, token_parts, symbol_line, shift_lines}
use Rattle.lp_ascent_bodies.specs.AscentMoves.{transition, found_transition}
use Rattle.lp_code_laws.specs.Ends.Ends.{Moment, over, Eval, Sequence, Outcome, Giving, EndsIn}
use Rattle.lp_code_laws.specs.Ends.Slots.{HasSlots, put}
use Rattle.lp_code_laws.proofs.Ends.Rules.{apply_found, argument, call}
use Rattle.lp_code_laws.proofs.Ends.Calls.{joined}
use Rattle.lp_code_laws.proofs.Ends.Lists.{get_same, get_other, set_twice, set_there, length_set}
use Rattle.lp_code_laws.proofs.Ends.Tags.{slot_is}
use Rattle.lp_code_laws.proofs.Ends.Values.{take, parts}
use Rattle.lp_code_laws.proofs.Ends.Values as values
use Rattle.lp_code_laws.specs.Slots.Shows.{HasRoom}
use Rattle.lp_code_laws.proofs.Slots.Slots.{get_within}
use Rattle.lp_code_laws.specs.Printed.Ran.{Ran}
use Rattle.lp_code_laws.proofs.Printed.Lines.{no_lines, ran_part, ran_let}
use Rattle.lp_machine.specs.Lookup.{value_with}
use Rattle.lp_question_laws.proofs.Tokens.Members.{value_code}
use Rattle.lp_question_laws.proofs.Tokens.Payloads.{value_ends}
use Rattle.lp_back_end_laws.specs.Call.Stretches.{LeadsTo, Passes}
use Rattle.lp_back_end_laws.proofs.Call.Callers.{leads_both, leads_match, leads_body, leads_block, passes_lead}

-- ---- the match
-- the lookahead stays in its slot, and its arm is run
pub match_leads : {p : Program} (shared : Shared) (arms : Gathered) (m : Moment) (look : Val) (i : ℕ) {body : Tree} → slice_get m.store.env shared.lookahead ≡ Some look → set_value look ≡ Some look → chosen p arms.cases (count (trees_of arms.bodies)) look ≡ Some i → slice_get arms.bodies i ≡ Some body → LeadsTo p (Eval (token_match shared arms)) m 0 (Eval body) m
match_leads {p} shared arms m look i {body} there set is at =
    let x = shared.lookahead in
    let env = m.store.env in
    let bare = slice_set env x (Plain Unset) in
    let gone : slice_get bare x ≡ Some (Plain Unset) = get_same env x there in
    let again : slice_set bare x look ≡ env = set_twice env x (Plain Unset) look ∙ set_there env x look there in
    let runs : LeadsTo p _ _ 0 (Eval body) (slot_is x look (slot_is x (Plain Unset) m)) = leads_body arms.bodies at in
    subst (λ (e : List Val). LeadsTo p (Eval (token_match shared arms)) m 0 (Eval body) (over (record m.store { env = e }) m)) again
    (leads_both (leads_match (take there set) is (ap (write_over x look (slot_is x (Plain Unset) m).store) gone)) runs)

-- which tests a lookahead passes: of a token that of its form, at the end that for the end
module _ (p : Program) where
  pub form_fits : (text k : ℕ) (form : List ℕ) (a b : Loc) (token : Token) → slice_get p.texts text ≡ Some form → fits p (token_test text k) (wrapped tag.Present (triple a (Plain (Parsed (Token_value token))) b)) ≡ Some (bytes_eq form token.form)
  form_fits text k form a b token is = ap (λ o. option_map (λ form. bytes_eq form token.form) o) is

  pub form_at_end : (text k : ℕ) → fits p (token_test text k) (empty tag.Absent) ≡ Some false
  form_at_end text k = refl

  pub end_fits : (k : ℕ) → fits p (here (test.Is tag.Absent) k) (empty tag.Absent) ≡ Some true
  end_fits k = refl

  pub end_on_token : (k : ℕ) (v : Val) → fits p (here (test.Is tag.Absent) k) (wrapped tag.Present v) ≡ Some false
  end_on_token k v = refl

-- ---- the token as a symbol
-- the three slots of its start, itself and its end
abbrev pub token_slots : ℕ → Loc → Token → Loc → List Val → List Val
token_slots x a token b env = put x (location a ∷ Plain (Parsed (Token_value token)) ∷ location b ∷ []) env

abbrev pub with_token : ℕ → Loc → Token → Loc → Moment → Moment
with_token x a token b m = over (record m.store { env = token_slots x a token b m.store.env }) m

-- how many payloads of the token in a slot a shift takes: none, the token itself, or those that its pattern captures
pub data Shifts (prefix : List ℕ) (slot : ℕ) (line : Form) : ℕ → Type 0 where
  Whole : is_a part.ShiftWhole line ≡ true → Shifts prefix slot line 0
  Captures : (n : ℕ) → is_a part.ShiftWhole line ≡ false → captured prefix slot (hole_of 0 line) (pieces (codes ", ") (hole_of 2 line)) ≡ value_code slot (suc n) → Shifts prefix slot line (suc n)

abbrev pub value_val : ℕ → Token → Val
value_val n token = Plain (Parsed (value_with n token))

shift_ends : {p : Program} (prefix : List ℕ) (slot : ℕ) (line : Form) (n : ℕ) (token : Token) (m : Moment) → Shifts prefix slot line n → slice_get m.store.env slot ≡ Some (Plain (Parsed (Token_value token))) → EndsIn p (Eval (shift_value prefix slot line)) m 0 (Giving (value_val n token) m)
shift_ends {p} prefix slot line n token m (Whole is) there =
    subst (λ (b : Bool). EndsIn p (Eval (if b then read slot else captured prefix slot (hole_of 0 line) (pieces (codes ", ") (hole_of 2 line)))) m 0 (Giving (value_val 0 token) m)) (sym is) (values.read there refl)
shift_ends {p} prefix slot line n token m (Captures k is code) there =
    subst (λ (b : Bool). EndsIn p (Eval (if b then read slot else captured prefix slot (hole_of 0 line) (pieces (codes ", ") (hole_of 2 line)))) m 0 (Giving (value_val (suc k) token) m)) (sym is)
    (subst (λ (e : Tree). EndsIn p (Eval e) m 0 (Giving (value_val (suc k) token) m)) (sym code) (value_ends slot token there k))

-- the lines before those of the move
abbrev pub shift_symbol : List ℕ → Shared → Names → Form → Lines
shift_symbol prefix shared names line = symbol_line prefix names.next line (token_parts shared (lines_of names []))

module _ {p : Program} (shared : Shared) (names : Names) (m : Moment) (a b : Loc) (token : Token) (there : slice_get m.store.env shared.lookahead ≡ Some (wrapped tag.Present (triple a (Plain (Parsed (Token_value token))) b))) (room : HasRoom 4 names m.store.env) where
  parts_ran : Ran p (token_parts shared (lines_of names [])) m 0 (with_token names.next a token b m)
  parts_ran =
      let slots : HasSlots names.next 3 m.store.env = record { slot = λ i low high. get_within m.store.env i (omega (arith, high, room.room)) } in
      ran_part (lines_of (after_slots 3 names) []) (no_lines (after_slots 3 names) m) (parts {vs = vals_of (location a ∷ Plain (Parsed (Token_value token)) ∷ location b ∷ [])} (apply_found _ (values.read there refl) refl refl) slots)

  -- `let ~symn = (~loc1, .., ~loc2);`
  pub shift_ran : (prefix : List ℕ) (line : Form) (n : ℕ) → Shifts prefix (names.next + 1) line n → Ran p (shift_symbol prefix shared names line) m 0 (slot_is (names.next + 3) (triple a (value_val n token) b) (with_token names.next a token b m))
  shift_ran prefix line n shifts =
      let x = names.next in
      let env = m.store.env in
      let t = Plain (Parsed (Token_value token)) in
      let e1 = slice_set env x (location a) in
      let e2 = slice_set e1 (x + 1) t in
      let e3 = slice_set e2 ((x + 1) + 1) (location b) in
      let at = with_token x a token b m in
      let o1 = get_within env x (omega (arith, room.room)) in
      let o2 = get_within e1 (x + 1) (omega (arith, room.room, length_set env x (location a))) in
      let o3 = get_within e2 ((x + 1) + 1) (omega (arith, room.room, length_set env x (location a), length_set e1 (x + 1) t)) in
      let two : (x + 1) + 1 ≡ x + 2 = omega arith in
      let first : slice_get e3 x ≡ Some (location a) = get_other e2 ((x + 1) + 1) x (location b) (λ e. omega (arith, e)) ∙ get_other e1 (x + 1) x t (λ e. omega (arith, e)) ∙ get_same env x o1.1 in
      let second : slice_get e3 (x + 1) ≡ Some t = get_other e2 ((x + 1) + 1) (x + 1) (location b) (λ e. omega (arith, e)) ∙ get_same e1 (x + 1) o2.1 in
      let third : slice_get e3 (x + 2) ≡ Some (location b) = ap (slice_get e3) (sym two) ∙ get_same e2 ((x + 1) + 1) o3.1 in
      let fits : HasRoom 1 (after_slots 3 names) e3 = record { room = omega (arith, room.room, length_set env x (location a), length_set e1 (x + 1) t, length_set e2 ((x + 1) + 1) (location b)) } in
      ran_let (token_parts shared (lines_of names [])) (codes "~sym" ++ hole_of 1 line) 0 parts_ran (call (argument (values.read first refl) (argument (shift_ends prefix (x + 1) line n token at shifts second) (argument (values.read third refl) (joined refl refl))))) fits

-- a shift's arm, where the lines of its move pass on
pub shift_passes : {p : Program} (shared : Shared) (arms : Gathered) (made : Making) (names : Names) (line form : Form) (m : Moment) (look : Val) (i : ℕ) {n : Moment} {k f : ℕ} {vs : List Val} {Back : Moment → Type 0} {good bad : Val → Moment → Outcome} → slice_get m.store.env shared.lookahead ≡ Some look → set_value look ≡ Some look
    → chosen p arms.cases (count (trees_of arms.bodies)) look ≡ Some i → slice_get arms.bodies i ≡ Some (one_after_another (shift_lines made shared names line).parts) → slice_get (parts_of line) 0 ≡ Some form
    → Passes p (Sequence (trees_of (transition made shared form (shift_symbol made.prefix shared names line)).parts) (Plain Unset)) m k f vs n Back good bad → Passes p (Eval (token_match shared arms)) m k f vs n Back good bad
shift_passes {p} shared arms made names line form m look i {n} {k} {f} {vs} {Back} {good} {bad} there set is at below h =
    let lines = subst (λ o. Passes p (Sequence (trees_of (found_transition made shared o (shift_symbol made.prefix shared names line)).parts) (Plain Unset)) m k f vs n Back good bad) (sym below) h in
    passes_lead (match_leads shared arms m look i there set is at) (passes_lead leads_block lines)
