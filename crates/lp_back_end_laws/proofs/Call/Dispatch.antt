-- Which arm of a state's match runs, by the lookahead, and so what its match answers.
use Rattle.std.proofs.Common.{◌≡◌, ℕ, ◌<◌, List, Option, Some, None, slice_get, sym, ap, ◌∙◌, subst, inl, inr}
use Rattle.std.proofs.lemmas.Option.{slice_get_within, get_or_from_slice_get}
use Rattle.lp_repr.specs.Numbering.{terminals_of}
use Rattle.lp_repr.specs.declared.lr1.Lr1State.{Lr1State}
use Rattle.lp_repr.specs.declared.lr1.Token.TheVariants.{Terminal, Eof}
use Rattle.lp_repr.specs.declared.numbering.SymbolNumber.TheVariants as symbol
use Rattle.lp_repr.specs.declared.repr.Grammar.{Grammar}
use Rattle.lp_repr.specs.declared.values.Loc.{Loc}
use Rattle.lp_repr.specs.declared.values.RunItem.{RunItem}
use Rattle.lp_repr.specs.declared.values.RunItem.TheVariants as item
use Rattle.lp_driver.specs.declared.answers.Expecting.TheVariants.{Trial}
use Rattle.lp_driver.specs.Values.{Spanned, Text, Token}
use Rattle.lp_core.specs.declared.value.StateType.{StateType}
use Rattle.lp_core.specs.CaseMeaning.{chosen}
use Rattle.lp_core.specs.Eval.{count}
use Rattle.lp_core.specs.Store.{Program}
use Rattle.lp_core.specs.Tree.{trees_of}
use Rattle.lp_core.specs.Val.{Val}
use Rattle.lp_machine.specs.declared.config.Config.{Config}
use Rattle.lp_machine.specs.declared.lookup.Act.{Act}
use Rattle.lp_machine.specs.declared.lookup.Act.TheVariants.{NoAction}
use Rattle.lp_machine.specs.declared.lookup.KnownTerminal.{KnownTerminal}
use Rattle.lp_machine.specs.GrammarTables.{grammar_tables, known_among}
use Rattle.lp_machine.specs.Lookup.{act_at}
use Rattle.lp_machine.specs.Tables.{Tables}
use Rattle.lp_agrees.specs.Machine.{MatchesOne}
use Rattle.lp_ascent.specs.ShiftLines.{pattern_at}
use Rattle.lp_ascent.specs.Slots.{layouts_of}
use Rattle.lp_ascent.specs.StateLines.{error_location}
use Rattle.lp_code_laws.specs.Ends.Ends.{Moment}
use Rattle.lp_turn_laws.proofs.Paths.Acts.{act_shift}
use Rattle.lp_turn_laws.proofs.Paths.Stacks.{one_label}
use Rattle.lp_back_end_laws.specs.Call.Arms.{IsMatchedOnce, arms_of}
use Rattle.lp_back_end_laws.specs.Call.Slots.{layout}
use Rattle.lp_back_end_laws.specs.Call.Standing.{Holds, IsTaken, Sees, at_end, known, unknown, look_val}
use Rattle.lp_back_end_laws.specs.Call.Turns.{Looping}
use Rattle.lp_back_end_laws.proofs.Call.ArmLaws.{BlockAnswers, ErrorLaw, ReductionLaw, ShiftLaw}
use Rattle.lp_back_end_laws.proofs.Call.Arms.{arm_edge}
use Rattle.lp_back_end_laws.proofs.Call.FunctionArms.{arm_there, error_there, shared_at, names_at, arms_at, many_at, after_at}
use Rattle.lp_back_end_laws.proofs.Call.FunctionCode.{arm_lines, arm_forms, at_match, behind_match, match_is}
use Rattle.lp_back_end_laws.proofs.Call.Matching.{After, AtMatch, LawBelow, LoopBelow}
use Rattle.lp_back_end_laws.proofs.Call.Setting.{Setting}
use Rattle.lp_back_end_laws.proofs.Call.StateCases.{of_shift, of_reduction}
use Rattle.lp_back_end_laws.proofs.Call.StateRuns.{BodyRuns, of_line, of_error, body_at_end, body_on_token, body_on_unknown}

-- the item of a token matches once
one_matches : (g : Grammar) (x : RunItem) (a b : Loc) (token : Token) → x ≡ item.Token a token b → MatchesOne g x → IsMatchedOnce (known_among g (terminals_of g)) token
one_matches g x a b token is one =
    let once : MatchesOne g (item.Token a token b) = subst (MatchesOne g) is one in
    λ i j k l at_i f at_j h. once i j (record { terminal = k; there = at_i; form = f }) (record { terminal = l; there = at_j; form = h })

module _ {g : Grammar} {start : ℕ} {states : List Lr1State} {params : List Text} {failing : List ℕ} {items : List RunItem} {p : Program} {keys : List (List ℕ)} {given : List Val} {function action variant : ℕ → ℕ} {kind : StateType} {expected most cost : ℕ}
    (setting : Setting g start states params failing items p keys given function action variant kind expected most cost) (loops : ℕ → Looping) (n : ℕ) (shifts : ShiftLaw setting loops n) (reduces : ReductionLaw setting loops n) (errors : ErrorLaw setting loops)
    (law : LawBelow g states (grammar_tables g states Trial params failing) items variant most n p function given) (loop : LoopBelow g states (grammar_tables g states Trial params failing) items variant most n p keys given loops) (q : ℕ) (s : Lr1State) (there : slice_get states q ≡ Some s)
    (after : After g states q s (shared_at setting q s there) (names_at setting q s there) (many_at setting q s there) (loops q) (after_at setting q s there)) where
  abbrev t : Tables
  t = grammar_tables g states Trial params failing

  abbrev At : Config → ℕ → List Val → Option (Spanned Token) → Moment → Type 0
  At c list own look m = AtMatch g states t items kind keys given (shared_at setting q s there) (names_at setting q s there) (many_at setting q s there) q c list own look m

  abbrev Runs : Act → Option (Spanned Token) → Type 0
  Runs act look = BodyRuns g (layouts_of g states) (layout g states q) (at_match setting q s there) (arm_forms setting q s there) (arms_of g s) (error_location (layout g states q)) (behind_match setting q s there) act (chosen p (arms_at setting q s there).cases (count (trees_of (arms_at setting q s there).bodies)) (look_val look))

  abbrev Answered : Config → List Val → Moment → Val → ℕ → Type 0
  Answered c own m w left = BlockAnswers setting loops q c own (shared_at setting q s there) (arms_at setting q s there) (after_at setting q s there) m w left

  once : (x : Spanned Token) → IsTaken items (Some x) → IsMatchedOnce (known_among g (terminals_of g)) x.1
  once x taken = one_matches g _ taken.1 taken.2 x.1 (get_or_from_slice_get items taken.0 (item.Token taken.1 x.1 taken.2) (item.Token taken.1 x.1 taken.2) taken.3) (setting.known taken.0 (item.Token taken.1 x.1 taken.2) (slice_get_within items taken.0 (item.Token taken.1 x.1 taken.2) taken.3))

  module _ (c : Config) (list : ℕ) (own : List Val) (m : Moment) (w : Val) (left : ℕ) (less : left < n) where
    -- a shift, or no action
    on_end : At c list own None m → Runs (act_at states q Eof) None → Answered c own m w left
    on_end at (of_line i line arm is arm_is (of_shift shift pattern p_is) does body body_is) = (let e = act_shift (slice_get states q) Eof shift.1 (sym does) in let bad : Eof ≡ Terminal e.0 = e.1 in absurd cc)
    on_end at (of_line i line arm is arm_is (of_reduction production r r_is) does body body_is) =
        reduces q s there _ _ _ _ c list own None m at r.1 production (sym does) r_is r.0 _ (arm_there setting q s there i line (look_val None) is body body_is) (after_at setting q s there) after loop w left less
    on_end at (of_error i nothing body body_is) = errors q s there _ _ _ _ c list own None m at (inl nothing) _ (error_there setting q s there i (look_val None) body body_is) (after_at setting q s there) w left

    on_token : (x : Spanned Token) (h : Holds t c x) → At c list own (Some x) m → Runs (act_at states q (Terminal h.index)) (Some x) → Answered c own m w left
    on_token x h at (of_line i line arm is arm_is (of_shift shift pattern p_is) does body body_is) =
        let e = act_shift (slice_get states q) (Terminal h.index) shift.1 (sym does) in
        let index : e.0 ≡ h.index = (let same : Terminal h.index ≡ Terminal e.0 = e.1 in cc) in
        let label : symbol.Terminal e.0 ≡ symbol.Terminal shift.0 = one_label g start states setting.over.tables q q shift.1 (symbol.Terminal e.0) (symbol.Terminal shift.0) e.2 (arm_edge setting.over q i s shift there arm_is) in
        let number : e.0 ≡ shift.0 = cc in
        shifts q s there _ _ _ _ c list own x m at h shift.1 (sym does) pattern (ap (pattern_at g) (sym index ∙ number) ∙ p_is) _ (arm_there setting q s there i line (look_val (Some x)) is body body_is) (after_at setting q s there) after law loop w left less
    on_token x h at (of_line i line arm is arm_is (of_reduction production r r_is) does body body_is) =
        reduces q s there _ _ _ _ c list own (Some x) m at r.1 production (h, sym does) r_is r.0 _ (arm_there setting q s there i line (look_val (Some x)) is body body_is) (after_at setting q s there) after loop w left less
    on_token x h at (of_error i nothing body body_is) = errors q s there _ _ _ _ c list own (Some x) m at (inl (h, nothing)) _ (error_there setting q s there i (look_val (Some x)) body body_is) (after_at setting q s there) w left

    on_unknown : (x : Spanned Token) → t.terminal x.1 ≡ None → At c list own (Some x) m → Runs NoAction (Some x) → Answered c own m w left
    on_unknown x none at (of_line i line arm is arm_is (of_shift shift pattern p_is) does body body_is) = absurd cc
    on_unknown x none at (of_line i line arm is arm_is (of_reduction production r r_is) does body body_is) = absurd cc
    on_unknown x none at (of_error i nothing body body_is) = errors q s there _ _ _ _ c list own (Some x) m at (inr none) _ (error_there setting q s there i (look_val (Some x)) body body_is) (after_at setting q s there) w left

    -- the match answers
    pub match_answers : (look : Option (Spanned Token)) → At c list own look m → Answered c own m w left
    match_answers look at = by look at at.sees
      where
        terminals : List KnownTerminal
        terminals = known_among g (terminals_of g)

        by : (look : Option (Spanned Token)) → At c list own look m → Sees t items c look → Answered c own m w left
        by None at (at_end none ends asked) = on_end at (body_at_end setting.over p terminals setting.read.terminals setting.read.terminals_many (layouts_of g states) (layout g states q) q s there (arm_lines setting q s there) (at_match setting q s there) (behind_match setting q s there) (error_location (layout g states q)) (match_is setting q s there))
        by (Some x) at (known _ h asked) = on_token x h at (body_on_token setting.over p terminals setting.read.terminals setting.read.terminals_many (layouts_of g states) (layout g states q) q s there (arm_lines setting q s there) (at_match setting q s there) (behind_match setting q s there) (error_location (layout g states q)) (match_is setting q s there) x h.index (once x at.look_taken) h.terminal)
        by (Some x) at (unknown _ none token error) = on_unknown x token at (body_on_unknown setting.over p terminals setting.read.terminals setting.read.terminals_many (layouts_of g states) (layout g states q) q s there (arm_lines setting q s there) (at_match setting q s there) (behind_match setting q s there) (error_location (layout g states q)) (match_is setting q s there) x token)
