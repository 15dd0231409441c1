-- The parts of a state's function: its header, the lines before the match, those of the arms, the error's, and the gotos.
use Rattle.std.proofs.Common.{◌≡◌, ℕ, Bool, true, false, List, [], ◌∷◌, ◌++◌, map, refl, sym, ap, ◌∙◌, append_assoc, append-nil}
use Rattle.std.specs.Prelude.{if◌then◌else◌, decimal, not}
use Rattle.lp_form.specs.declared.part.Part.TheVariants as part
use Rattle.lp_tree.specs.ProgramTree.{Item, leaf}
use Rattle.lp_build.specs.Built.{leaf_if, row, text_rows}
use Rattle.lp_build.specs.Built as built
use Rattle.lp_view.specs.PartLists.{Form, parts_of, over}
use Rattle.lp_question_laws.proofs.Gotos.Whole.{IsWhole, AreWhole, flat, flat-append, parts_over, whole-append}
use Rattle.lp_ascent_bodies.specs.AscentStates.{Stating, token_row, state_row}
use Rattle.lp_repr.specs.declared.lr1.Lr1State.{Lr1State}
use Rattle.lp_repr.specs.declared.repr.Grammar.{Grammar}
use Rattle.lp_table.specs.Headers.{header_lines}
use Rattle.lp_ascent.specs.GotoLines.{goes_on, goto_lines, gotos_of, named_gotos}
use Rattle.lp_ascent.specs.AnswerLines.{answer_names, answer_parameters_text, located}
use Rattle.lp_ascent.specs.ReduceLines.{reduction_lines}
use Rattle.lp_ascent.specs.ShiftLines.{shift_lines}
use Rattle.lp_parts.specs.Texts.{token_text}
use Rattle.lp_ascent.specs.Slots.{Layout, has_lookahead}
use Rattle.lp_ascent.specs.StateLines.{error_location, gotos_if, new_cells, state_arms, state_header, state_with}
use Rattle.lp_back_end_laws.proofs.Call.StateMatch.{error_form}

-- the lines before the match
abbrev pub slot_form : List ℕ → Form
slot_form text = row part.SlotLine (text ∷ []) ∷ []

abbrev pub next_forms : Bool → List Form
next_forms pulls = if pulls then leaf part.NextToken [] ∷ [] else []

abbrev pub lines_before : Bool → List (List ℕ) → List Form
lines_before pulls slots = next_forms pulls ++ map slot_form slots

next_flat : (pulls : Bool) → leaf_if pulls part.NextToken ≡ flat (next_forms pulls)
next_flat true = refl
next_flat false = refl

next_whole : (pulls : Bool) → AreWhole (next_forms pulls)
next_whole true = (refl, tt)
next_whole false = tt

slots_flat : (texts : List (List ℕ)) → text_rows part.SlotLine texts ≡ flat (map slot_form texts)
slots_flat [] = refl
slots_flat (t ∷ texts) = ap (λ is. row part.SlotLine (t ∷ []) ∷ is) (slots_flat texts)

slots_whole : (texts : List (List ℕ)) → AreWhole (map slot_form texts)
slots_whole [] = tt
slots_whole (t ∷ texts) = (refl, slots_whole texts)

-- the parts of what is printed over these
pub state_parts : (holes : List (List ℕ)) (header : Form) (pulls : Bool) (slots : List (List ℕ)) (arms : List Form) (below : List Item) (gotos : List Form) → IsWhole header → AreWhole arms → AreWhole gotos
    → parts_of (built.over part.StateFn holes (((header ++ leaf_if pulls part.NextToken) ++ text_rows part.SlotLine slots) ++ ((flat arms ++ error_form below) ++ flat gotos))) ≡ header ∷ (lines_before pulls slots ++ (arms ++ error_form below ∷ gotos))
state_parts holes header pulls slots arms below gotos h a c =
    let all = header ∷ (lines_before pulls slots ++ (arms ++ error_form below ∷ gotos)) in
    ap (λ is. parts_of (built.over part.StateFn holes is)) flattened ∙ parts_over part.StateFn holes all (h, whole-append (lines_before pulls slots) (arms ++ error_form below ∷ gotos) (whole-append (next_forms pulls) (map slot_form slots) (next_whole pulls) (slots_whole slots)) (whole-append arms (error_form below ∷ gotos) a (refl, c)))
  where
    end : (flat arms ++ error_form below) ++ flat gotos ≡ flat (arms ++ error_form below ∷ gotos)
    end = append_assoc (flat arms) (error_form below) (flat gotos) ∙ sym (flat-append arms (error_form below ∷ gotos))

    front : (header ++ leaf_if pulls part.NextToken) ++ text_rows part.SlotLine slots ≡ header ++ flat (lines_before pulls slots)
    front =
        append_assoc header (leaf_if pulls part.NextToken) (text_rows part.SlotLine slots)
        ∙ ap (λ is. header ++ (is ++ text_rows part.SlotLine slots)) (next_flat pulls)
        ∙ ap (λ is. header ++ (flat (next_forms pulls) ++ is)) (slots_flat slots)
        ∙ ap (λ is. header ++ is) (sym (flat-append (next_forms pulls) (map slot_form slots)))

    flattened : ((header ++ leaf_if pulls part.NextToken) ++ text_rows part.SlotLine slots) ++ ((flat arms ++ error_form below) ++ flat gotos) ≡ flat (header ∷ (lines_before pulls slots ++ (arms ++ error_form below ∷ gotos)))
    flattened =
        ap (λ (is : List Item). is ++ ((flat arms ++ error_form below) ++ flat gotos)) front
        ∙ ap (λ (is : List Item). (header ++ flat (lines_before pulls slots)) ++ is) end
        ∙ append_assoc header (flat (lines_before pulls slots)) (flat (arms ++ error_form below ∷ gotos))
        ∙ ap (λ (is : List Item). header ++ is) (sym (flat-append (lines_before pulls slots) (arms ++ error_form below ∷ gotos)))

-- the lines before the match make no arms and no texts
pub record NoArms (s t : Stating) : Type 0 where
  pub arms : t.arms ≡ s.arms
  pub made : t.made ≡ s.made

before_slots : (s : Stating) (slots : List (List ℕ)) → NoArms s (over state_row s (map slot_form slots))
before_slots s [] = record { arms = refl; made = refl }
before_slots s (t ∷ slots) = (let r = before_slots (state_row s (slot_form t)) slots in record { arms = r.arms; made = r.made })

pub before_match : (s : Stating) (pulls : Bool) (slots : List (List ℕ)) → NoArms s (over state_row s (lines_before pulls slots))
before_match s true slots = (let r = before_slots (token_row s) slots in record { arms = r.arms; made = r.made })
before_match s false slots = before_slots s slots

-- ---- of a state
module _ (g : Grammar) (states : List Lr1State) (n : ℕ) (l : Layout) where
  pub state_header_whole : IsWhole (state_header g states n l)
  unfolding state_header header_lines
  state_header_whole = refl

  -- the header is no line, no arm and nothing behind them
  pub header_row : (s : Stating) → state_row s (state_header g states n l) ≡ s
  unfolding state_header header_lines
  header_row s = refl

module _ (g : Grammar) (ls : List Layout) (l : Layout) (state : Lr1State) where
  abbrev pub goto_forms : List Form
  goto_forms = if goes_on g ls state then goto_lines g ls l state.gotos.entries ∷ [] else []

  pub gotos_flat : gotos_if g ls l state ≡ flat goto_forms
  gotos_flat = by (goes_on g ls state)
    where
      by : (b : Bool) → (if b then goto_lines g ls l state.gotos.entries else []) ≡ flat (if b then goto_lines g ls l state.gotos.entries ∷ [] else [])
      by true = sym (append-nil (goto_lines g ls l state.gotos.entries))
      by false = refl

  pub gotos_whole : AreWhole goto_forms
  unfolding goto_lines
  gotos_whole = by (goes_on g ls state) (named_gotos (answer_names g) state.gotos.entries)
    where
      by : (b : Bool) (gs : List (List ℕ × ℕ)) → AreWhole (if b then gotos_of g ls l gs ∷ [] else [])
      by true [] = (refl, tt)
      by true (x ∷ gs) = (refl, tt)
      by false gs = tt

  -- what follows the match makes no arms
  pub after_match : (s : Stating) → (over state_row s goto_forms).arms ≡ s.arms
  unfolding goto_lines
  after_match s = by (goes_on g ls state) (named_gotos (answer_names g) state.gotos.entries)
    where
      by : (b : Bool) (gs : List (List ℕ × ℕ)) → (over state_row s (if b then gotos_of g ls l gs ∷ [] else [])).arms ≡ s.arms
      by true [] = refl
      by true (x ∷ gs) = refl
      by false gs = refl

  -- the parts of the function, where these are the lines of its arms
  pub parts_of_state : (states : List Lr1State) (n : ℕ) (arms : List Form) → AreWhole arms → shift_lines g ls l state.shifts.entries ++ reduction_lines g l state.reductions ≡ flat arms
      → parts_of (state_with g states ls n state l) ≡ state_header g states n l ∷ (lines_before (not (has_lookahead l)) (map decimal (new_cells l)) ++ (arms ++ error_form (error_location l) ∷ goto_forms))
  unfolding state_arms
  parts_of_state states n arms whole is =
      let holes = located g (token_text g) ∷ answer_parameters_text g ∷ [] in
      let front = (state_header g states n l ++ leaf_if (not (has_lookahead l)) part.NextToken) ++ text_rows part.SlotLine (map decimal (new_cells l)) in
      ap (λ (ks : List Item). parts_of (built.over part.StateFn holes (front ++ ((ks ++ error_form (error_location l)) ++ gotos_if g ls l state)))) is
      ∙ ap (λ (ks : List Item). parts_of (built.over part.StateFn holes (front ++ ((flat arms ++ error_form (error_location l)) ++ ks)))) gotos_flat
      ∙ state_parts holes (state_header g states n l) (not (has_lookahead l)) (map decimal (new_cells l)) arms (error_location l) goto_forms (state_header_whole g states n l) whole gotos_whole
