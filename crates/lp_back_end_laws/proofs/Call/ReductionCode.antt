-- What the program has for a reduction's arm: its body, the functions of its place, its variant, and room for its lines.
use Rattle.std.proofs.Common.{◌≡◌, ℕ, ◌+◌, ◌≤◌, Bool, true, false, List, [], ◌∷◌, ◌++◌, map, length, Option, Some, None, refl, sym, ap, ◌∙◌, arith}
use Rattle.std.specs.Prelude.{slice_get, nat_lt}
use Rattle.std.specs.Option.{unwrap_or}
use Rattle.lp_repr.specs.Numbering.{nonterminals_of}
use Rattle.lp_repr.specs.declared.lr1.Token.{Token}
use Rattle.lp_repr.specs.declared.repr.Grammar.{Grammar}
use Rattle.lp_repr.specs.declared.repr.Production.{Production}
use Rattle.lp_core.specs.declared.value.Tag.TheVariants as tag
use Rattle.lp_core.specs.Store.{Program}
use Rattle.lp_core.specs.Val.{Val}
use Rattle.lp_build.specs.declared.ascent_reduce.AscentSpan.{AscentSpan}
use Rattle.lp_build.specs.declared.ascent_reduce.AscentSpan.TheVariants as span
use Rattle.lp_parts.specs.Texts.{generic_names_text}
use Rattle.lp_table.specs.Starts.{is_fallible}
use Rattle.lp_build.specs.Ascent.{ascent_span}
use Rattle.lp_view.specs.PartLists.{Form, hole_of, parts_of}
use Rattle.lp_maker.specs.Slots.{Names}
use Rattle.lp_maker.specs.Making.{Making, number_in, first_numbered, with_variant, variant_tag}
use Rattle.lp_bodies.specs.Arms.{Gathered}
use Rattle.lp_bodies.specs.Lines.{Lines, lines_of}
use Rattle.lp_bodies.specs.Reductions.{Work, work_of}
use Rattle.lp_bodies.specs.Tables.{reading_of}
use Rattle.lp_ascent_bodies.specs.declared.ascent.Lines.{Lines as Shared}
use Rattle.lp_ascent_bodies.specs.AscentArms.{Arming}
use Rattle.lp_ascent_bodies.specs.AscentReductions.{take_line, ascent_call_line, ascent_lines, return_line, returns, made_line, ascent_reduce}
use Rattle.lp_ascent.specs.AnswerLines.{answer_name}
use Rattle.lp_ascent.specs.CallLines.{cells_from}
use Rattle.lp_ascent.specs.ReduceLines.{first_popped, popped_span, popped_arguments, reduction_arm, reduction_of}
use Rattle.lp_ascent.specs.Slots.{Layout, count_of}
use Rattle.lp_question_laws.proofs.Gotos.LinkMaps.{numbered_here, numbered_kept}
use Rattle.lp_back_end_laws.proofs.Call.CaseBodies.{next_arming}
use Rattle.lp_back_end_laws.proofs.Call.Cells.{take_form, take_lines}
use Rattle.lp_back_end_laws.proofs.Call.Matching.{ArmAt}
use Rattle.lp_back_end_laws.proofs.Call.NonePlaces.{AreThere}
use Rattle.lp_back_end_laws.proofs.Call.PrintedMoves.{reduction_parts}
use Rattle.lp_back_end_laws.proofs.Call.ReduceArms.{call_form, span_lines, span_made, called_lines, lines_are}
use Rattle.lp_back_end_laws.proofs.Call.ReductionForms.{cases_keep, made_before, reduction_named, reduction_body, reduction_made, reduction_names}
use Rattle.lp_back_end_laws.proofs.Call.ReductionRuns.{call_slots}
use Rattle.lp_back_end_laws.proofs.Call.Transitions.{return_forms}

-- ---- slots
-- those of the place
abbrev pub span_slots : AscentSpan → ℕ
span_slots (span.Symbols first last) = 2
span_slots (span.Fixed slot) = 3
span_slots (span.Optional slot) = 3
span_slots (span.Bottom place) = 3

span_next : (made : Making) (shared : Shared) (place : AscentSpan) (l : Lines) → (span_lines made shared place l).names.next ≡ l.names.next + span_slots place
span_next made shared (span.Symbols first last) l = omega arith
span_next made shared (span.Fixed slot) l = omega arith
span_next made shared (span.Optional slot) l = omega arith
span_next made shared (span.Bottom place) l = omega arith

call_next : (made : Making) (fallible : Bool) (action : ℕ) (generics args : List ℕ) (l : Lines) → (ascent_call_line made (call_form fallible action generics args) l).names.next ≡ l.names.next + call_slots fallible
call_next made false action generics args l = omega arith
call_next made true action generics args l = omega arith

take_next : (js : List ℕ) (l : Lines) → (take_lines js l).names.next ≡ l.names.next + length js
take_next [] l = omega arith
take_next (j ∷ js) l = (let rest = take_next js (take_line (take_form j) l) in omega (arith, rest))

return_next : (shared : Shared) (b : Bool) (l : Lines) → (return_line shared b l).names.next ≡ l.names.next
return_next shared true l = refl
return_next shared false l = refl

-- ---- what the place makes
span_names : (made : Making) (place : AscentSpan) → (span_made made place).names ≡ made.names
span_names made (span.Symbols first last) = refl
span_names made (span.Fixed slot) = refl
span_names made (span.Optional slot) = refl
span_names made (span.Bottom place) = refl

span_prefix : (made : Making) (place : AscentSpan) → (span_made made place).prefix ≡ made.prefix
span_prefix made (span.Symbols first last) = refl
span_prefix made (span.Fixed slot) = refl
span_prefix made (span.Optional slot) = refl
span_prefix made (span.Bottom place) = refl

-- a variant's tag has the number that its name has afterwards
variant_numbered : (name : List ℕ) (made : Making) → number_in name (with_variant name made).variants ≡ Some (unwrap_or (number_in name made.variants) (length made.variants))
variant_numbered name made = by (number_in name made.variants) refl
  where
    by : (o : Option ℕ) → number_in name made.variants ≡ o → number_in name (first_numbered name (length made.variants) made.variants) ≡ Some (unwrap_or o (length made.variants))
    by None e = numbered_here name (length made.variants) made.variants e
    by (Some k) e = numbered_kept name name (length made.variants) k made.variants e

-- a reduction's lines take these cells, find this place and call the action; what the place makes is the program's
pub record Coded (p : Program) (made before : Making) (names : Names) (many : ℕ) (form : Form) (fallible : Bool) (action : ℕ) (generics args : List ℕ) (variant : ℕ) (js : List ℕ) (place : AscentSpan) (returning : Bool) : Type 0 where
  pub parts : parts_of form ≡ map take_form js ++ (ascent_span place ∷ call_form fallible action generics args ∷ return_forms returning)
  pub tagged : variant_tag (hole_of 0 form) (span_made made place) ≡ tag.Variant variant
  pub functions : AreThere p (span_made made place).functions
  pub names_are : (span_made made place).names ≡ before.names
  pub prefix_is : (span_made made place).prefix ≡ before.prefix
  pub room : names.next + (length js + (span_slots place + call_slots fallible)) ≤ many

module _ {p : Program} {g : Grammar} {variant : ℕ → ℕ} {before : Making} {shared : Shared} {names : Names} {arms : Gathered} {many : ℕ} {look : Val} (l : Layout) (production : Production) (tokens : List Token) {a : Arming}
    (arm : ArmAt p g variant before shared names arms many look (reduction_arm g l production tokens) a) where
  -- what was made before its lines
  abbrev pub made : Making
  made = made_before shared a (reduction_arm g l production tokens)

  abbrev place : AscentSpan
  place = popped_span g l (length production.symbols)

  abbrev form : Form
  form = reduction_of g l production

  pub body_there : slice_get arms.bodies arm.index ≡ Some (ascent_reduce shared made a.names form).value
  body_there = arm.body ∙ ap Some (reduction_body shared a g l production tokens)

  abbrev called : Lines
  called = called_lines made shared place (call_form (is_fallible g production) production.action (generic_names_text g) (popped_arguments g (first_popped l production) (count_of l))) (cells_from l (first_popped l production)) a.names

  its_lines : ascent_lines shared made a.names form ≡ work_of called (span_made made place)
  its_lines =
      lines_are shared made a.names form (cells_from l (first_popped l production)) place (is_fallible g production) production.action (generic_names_text g) (popped_arguments g (first_popped l production) (count_of l)) (nat_lt 0 (length production.symbols)) (reduction_parts g l production)

  made_is : (next_arming shared a (reduction_arm g l production tokens)).made ≡ with_variant (hole_of 0 form) (span_made made place)
  made_is = reduction_made shared a g l production tokens ∙ ap (λ (w : Work). with_variant (hole_of 0 form) w.made) its_lines

  functions_there : AreThere p (span_made made place).functions
  functions_there i f at = arm.made.functions i f (ap (λ (m : Making). slice_get m.functions i) made_is ∙ at)

  -- its nonterminal's variant
  tagged_there : (n : ℕ) → slice_get (nonterminals_of g) n ≡ Some production.nonterminal → variant_tag (hole_of 0 form) (span_made made place) ≡ tag.Variant (variant n)
  tagged_there n at =
      let name : hole_of 0 form ≡ answer_name production.nonterminal = reduction_named shared a g l production tokens in
      let number : number_in (answer_name production.nonterminal) (next_arming shared a (reduction_arm g l production tokens)).made.variants ≡ Some (unwrap_or (number_in (hole_of 0 form) (span_made made place).variants) (length (span_made made place).variants)) =
      ap (λ (q : List ℕ). number_in q (next_arming shared a (reduction_arm g l production tokens)).made.variants) (sym name)
      ∙ ap (λ (m : Making). number_in (hole_of 0 form) m.variants) made_is
      ∙ variant_numbered (hole_of 0 form) (span_made made place) in
      ap tag.Variant (sym (arm.made.variants n _ production.nonterminal at number))

  names_there : (span_made made place).names ≡ before.names
  names_there = span_names made place ∙ (cases_keep (reduction_arm g l production tokens) (reading_of a.arms a.made)).names ∙ arm.knows

  prefix_there : (span_made made place).prefix ≡ before.prefix
  prefix_there = span_prefix made place ∙ (cases_keep (reduction_arm g l production tokens) (reading_of a.arms a.made)).prefix ∙ arm.prefix

  -- there is room for its lines
  room_there : a.names.next + (length (cells_from l (first_popped l production)) + (span_slots place + call_slots (is_fallible g production))) ≤ many
  room_there =
      let js = cells_from l (first_popped l production) in
      let last : (next_arming shared a (reduction_arm g l production tokens)).names.next ≡ called.names.next =
      ap (λ (ns : Names). ns.next) (reduction_names shared a g l production tokens)
      ∙ ap (λ (w : Work). (return_line shared (returns form) (made_line shared (variant_tag (hole_of 0 form) w.made) w.lines)).names.next) its_lines
      ∙ return_next shared (returns form) _ in
      let one = call_next (span_made made place) (is_fallible g production) production.action (generic_names_text g) (popped_arguments g (first_popped l production) (count_of l)) (span_lines made shared place (take_lines js (lines_of a.names []))) in
      let two = span_next made shared place (take_lines js (lines_of a.names [])) in
      let three = take_next js (lines_of a.names []) in
      let room = arm.room in
      omega (arith, last, one, two, three, room)

  pub reduction_coded : (n : ℕ) → slice_get (nonterminals_of g) n ≡ Some production.nonterminal
      → Coded p made before a.names many form (is_fallible g production) production.action (generic_names_text g) (popped_arguments g (first_popped l production) (count_of l)) (variant n) (cells_from l (first_popped l production)) place (nat_lt 0 (length production.symbols))
  reduction_coded n at = record { parts = reduction_parts g l production; tagged = tagged_there n at; functions = functions_there; names_are = names_there; prefix_is = prefix_there; room = room_there }
